-- `sample_files::point_at` meets its contract.
-- Assumes nothing.
use mathlib.Core.Path.{ap, ◌∙◌}
use mathlib.Core.List.{List}
use Prim.Native.Nat.{ℕ, ◌+◌, ◌*◌, ◌≤◌}
use native.Mathlib.Omega.{arith}
use lib.ListN.{length, drop}
use borrow.Author.Rules.{rules}
use Rattle.sample_files.specs.File.{point_size, point_of}
use Rattle.sample_files.proofs.Fields.{end-within, count-is, point-is, point-none}
use Rattle.sample_files.proofs.point_at.Goals as goal

pub returns-then-point_count-i : goal.returns-then-point_count-i
returns-then-point_count-i c = let a = c.args in
    point-none a.file.now a.i (omega (arith, c.point_count.ensures, c.if-point_count-i.true))

pub overflow_mul-a : goal.overflow_mul-a
overflow_mul-a c = let f : List ℕ = c.args.file.now in
    let stands : c.message_end.result + point_size * c.args.i + point_size ≤ length f = omega (arith, c.message_end.ensures, end-within f, count-is f, c.point_count.ensures, c.if-point_count-i.false) in
    let h = stands in search rules

pub overflow_add-a : goal.overflow_add-a
overflow_add-a c = let f : List ℕ = c.args.file.now in
    let stands : c.message_end.result + point_size * c.args.i + point_size ≤ length f = omega (arith, c.message_end.ensures, end-within f, count-is f, c.point_count.ensures, c.if-point_count-i.false) in
    let h = stands in search rules

pub point_in-requires : goal.point_in-requires
point_in-requires c = let f : List ℕ = c.args.file.now in
    let stands : c.message_end.result + point_size * c.args.i + point_size ≤ length f = omega (arith, c.message_end.ensures, end-within f, count-is f, c.point_count.ensures, c.if-point_count-i.false) in
    stands

pub returns : goal.returns
returns c = let f : List ℕ = c.args.file.now in
    let a = c.args in
    c.point_in.ensures
    ∙ ap (λ (n : ℕ). point_of (drop (n + point_size * a.i) f)) c.message_end.ensures
    ∙ point-is f a.i (omega (arith, c.point_count.ensures, c.if-point_count-i.false))
