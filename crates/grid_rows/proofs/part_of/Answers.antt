-- `grid_rows::part_of` meets its contract.
-- Assumes nothing.
use mathlib.Core.Path.{◌≡◌, ap, ◌∙◌}
use lib.IntN.{ℤ, pos, ◌+ℤ◌}
use Prim.Native.Nat.{ℕ, ◌*◌, ◌/◌, ◌≤◌}
use native.Mathlib.Nat.{div-mul-le_self}
use native.Mathlib.Omega.{arith}
use borrow.Author.Rules.{rules}
use Rattle.arith.proofs.Machine.{Num, cast, lit, sub, fits, is-back}
use Rattle.grid_rows.proofs.Parts.{raised-most, whole-most, cut}
use Rattle.grid_rows.proofs.part_of.Goals as goal

pub overflow_cast-result : goal.overflow_cast-result
overflow_cast-result c =
    let is : pos c.raised-n.result ≡ c.args.sum +ℤ pos (2560 * c.args.area) = c.raised-n.ensures ∙ ap (λ (z : ℤ). z +ℤ pos (2560 * c.args.area)) (is-back c.ranges.sum) in
    let whole : ℕ = c.raised-n.result / c.args.area in
    let most : whole ≤ 5120 = whole-most c.args.area c.args.sum c.raised-n.result c.requires.1 c.requires.0 is in
    (cast whole 5120 most tt).fit

pub overflow_sub-result : goal.overflow_sub-result
overflow_sub-result c =
    let is : pos c.raised-n.result ≡ c.args.sum +ℤ pos (2560 * c.args.area) = c.raised-n.ensures ∙ ap (λ (z : ℤ). z +ℤ pos (2560 * c.args.area)) (is-back c.ranges.sum) in
    let whole : ℕ = c.raised-n.result / c.args.area in
    let most : whole ≤ 5120 = whole-most c.args.area c.args.sum c.raised-n.result c.requires.1 c.requires.0 is in
    let number : Num = sub (cast whole 5120 most tt) (lit 2560 tt) tt in
    fits number

pub overflow_mul-result : goal.overflow_mul-result
overflow_mul-result c =
    let is : pos c.raised-n.result ≡ c.args.sum +ℤ pos (2560 * c.args.area) = c.raised-n.ensures ∙ ap (λ (z : ℤ). z +ℤ pos (2560 * c.args.area)) (is-back c.ranges.sum) in
    let whole : ℕ = c.raised-n.result / c.args.area in
    let low : whole * c.args.area ≤ c.raised-n.result = div-mul-le_self c.raised-n.result c.args.area in
    omega (arith, low, raised-most c.args.area c.args.sum c.raised-n.result c.requires.1 c.requires.0 is, c.requires.2)

pub overflow_sub-result-2 : goal.overflow_sub-result-2
overflow_sub-result-2 c = div-mul-le_self c.raised-n.result c.args.area

pub returns : goal.returns
returns c =
    let is : pos c.raised-n.result ≡ c.args.sum +ℤ pos (2560 * c.args.area) = c.raised-n.ensures ∙ ap (λ (z : ℤ). z +ℤ pos (2560 * c.args.area)) (is-back c.ranges.sum) in
    let whole : ℕ = c.raised-n.result / c.args.area in
    let most : whole ≤ 5120 = whole-most c.args.area c.args.sum c.raised-n.result c.requires.1 c.requires.0 is in
    let number : Num = sub (cast whole 5120 most tt) (lit 2560 tt) tt in
    cut c.args.area c.args.sum c.raised-n.result c.requires.1 c.requires.0 is _ number.held
