-- `sample_files::right_shape` meets its contract: the tests of the code are the shape.
-- Assumes nothing.
use mathlib.Core.Path.{◌≡◌, sym, ap, ◌∙◌}
use mathlib.Core.List.{List}
use Prim.Native.Nat.{ℕ, ◌-◌, ◌≤◌}
use native.Mathlib.Omega.{arith}
use lib.ListN.{length, take, drop}
use borrow.Author.Rules.{rules}
use Rattle.sample_files.specs.File.{rest_of}
use Rattle.sample_files.specs.Private.{only_points, tested}
use Rattle.sample_files.proofs.Fields.{tail, end-within, rest-is}
use Rattle.sample_files.proofs.Shape.{shape_is}
use Rattle.sample_files.proofs.right_shape.Goals as goal

pub returns-else-message_first : goal.returns-else-message_first
unfolding tested
returns-else-message_first c = c.if-message_first.false ∙ rw (sym c.message_first.ensures ∙ c.if-message_first.false) at
    (shape_is c.args.file.now (λ i. (c.type_inv.file i).fits))

pub slice_bounds-only_points-count : goal.slice_bounds-only_points-count
slice_bounds-only_points-count c = omega (arith, c.message_end.ensures, end-within c.args.file.now)

pub slice_bounds-only_points-start : goal.slice_bounds-only_points-start
slice_bounds-only_points-start c =
    let inside : c.message_end.result ≤ length c.args.file.now = omega (arith, c.message_end.ensures, end-within c.args.file.now) in
    search rules

pub returns-then-message_first : goal.returns-then-message_first
unfolding tested
returns-then-message_first c = let f : List ℕ = c.args.file.now in
    let part : take (length f - c.message_end.result) (drop c.message_end.result f) ≡ rest_of f = tail f c.message_end.result ∙ ap (λ (k : ℕ). drop k f) c.message_end.ensures ∙ rest-is f in
    c.only_points.ensures
    ∙ ap only_points part
    ∙ rw (sym c.message_first.ensures ∙ c.if-message_first.true) at
    (shape_is f (λ i. (c.type_inv.file i).fits))
