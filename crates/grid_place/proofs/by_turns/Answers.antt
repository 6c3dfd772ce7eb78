-- `grid_place::by_turns` meets its contract: what it answers differs by whole turns and lies in the half-open turn, so it is the only such number.
-- Assumes nothing.
use mathlib.Core.Path.{◌∙◌}
use native.Mathlib.Omega.{arith}
use lib.IntN.{ℤ, pos, negsuc, neg_ℤ, ◌+ℤ◌, ◌-ℤ◌}
use Rattle.arith.proofs.Int.{at, nat, minus, ◌⊞◌, ◌⊟◌, ◌⊠◌, ring, order, order_lt, known, known-lt, within-abs}
use Rattle.arith.proofs.Machine.{Num, arg, lit, add, sub, fits, less, not-less}
use Rattle.grid_place.specs.Position.{turn, half_turn}
use Rattle.grid_place.proofs.Antimeridian.{turned-only}
use Rattle.grid_place.proofs.by_turns.Goals as goal

pub returns-then-d-ltminus6480000000 : goal.returns-then-d-ltminus6480000000
returns-then-d-ltminus6480000000 c = let z : ℤ = c.args.d in
    let d : Num = arg z 12960000000 c.requires tt in
    let low : Num = arg (negsuc 6479999999) 6480000000 (omega arith) tt in
    let up : Num = add d (lit 12960000000 tt) tt in
    let x = z in
    let h = known-lt (at x) (at (negsuc 6479999999)) (less d low c.if-d-ltminus6480000000.true) in
    up.held
    ∙ turned-only x (pos 1) (x +ℤ pos turn) (ring (at x ⊞ nat turn) (at x ⊞ nat 1 ⊠ nat turn) (omega arith))
    (order (minus (nat half_turn)) (at x ⊞ nat turn) (omega (arith, within-abs (at x) c.requires)))
    (order_lt (at x ⊞ nat turn) (nat half_turn) (omega (arith, h)))

pub returns-then-d-lt6480000000 : goal.returns-then-d-lt6480000000
returns-then-d-lt6480000000 c = let z : ℤ = c.args.d in
    let d : Num = arg z 12960000000 c.requires tt in
    let low : Num = arg (negsuc 6479999999) 6480000000 (omega arith) tt in
    let x = z in
    let l = known (at (negsuc 6479999999)) (at x) (not-less d low c.if-d-ltminus6480000000.false) in
    let h = less d (lit 6480000000 tt) c.if-d-lt6480000000.true in
    d.held
    ∙ turned-only x (pos 0) x (ring (at x) (at x ⊞ nat 0 ⊠ nat turn) (omega arith)) (order (minus (nat half_turn)) (at x) (omega (arith, l))) h

pub returns : goal.returns
returns c = let z : ℤ = c.args.d in
    let d : Num = arg z 12960000000 c.requires tt in
    let down : Num = sub d (lit 12960000000 tt) tt in
    let x = z in
    let l = known (nat half_turn) (at x) (not-less d (lit 6480000000 tt) c.if-d-lt6480000000.false) in
    down.held
    ∙ turned-only x (neg_ℤ (pos 1)) (x -ℤ pos turn) (ring (at x ⊟ nat turn) (at x ⊞ minus (nat 1) ⊠ nat turn) (omega arith))
    (order (minus (nat half_turn)) (at x ⊟ nat turn) (omega (arith, l)))
    (order_lt (at x ⊟ nat turn) (nat half_turn) (omega (arith, within-abs (at x) c.requires)))

pub overflow_add-result : goal.overflow_add-result
overflow_add-result c =
    let z : ℤ = c.args.d in
    let d : Num = arg z 12960000000 c.requires tt in
    let up : Num = add d (lit 12960000000 tt) tt in
    fits up

pub overflow_sub-result : goal.overflow_sub-result
overflow_sub-result c =
    let z : ℤ = c.args.d in
    let d : Num = arg z 12960000000 c.requires tt in
    let down : Num = sub d (lit 12960000000 tt) tt in
    fits down
