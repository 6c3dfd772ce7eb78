-- `table_indexed::shown` meets its contract: the part that find names is within the table.
-- Assumes nothing.
use Prim.Native.Nat.{◌+◌, ◌-◌, ◌≤◌}
use native.Mathlib.Omega.{arith}
use mathlib.Core.Path.{◌≡◌, refl, ap, ◌∙◌}
use lib.ListN.{length, take, drop}
use Rattle.table_indexed.specs.Find.{part_length, part}
use Rattle.table_indexed.proofs.Calls.{says, part-fits}
use Rattle.table_indexed.proofs.shown.Goals as goal

pub overflow_add-e : goal.overflow_add-e
overflow_add-e c = let inside : c.find-f.result.at + c.find-f.result.length ≤ length c.args.table.now = let a = c.args in
    let e = says a.table.now a.index.now a.owner a.sin a.group c.find-f.result c.find-f.ensures in
    omega (arith, part-fits a.table.now a.index.now a.owner a.sin a.group) in
    omega (arith, inside)

pub slice_bounds-result-end : goal.slice_bounds-result-end
slice_bounds-result-end c = let inside : c.find-f.result.at + c.find-f.result.length ≤ length c.args.table.now = let a = c.args in
    let e = says a.table.now a.index.now a.owner a.sin a.group c.find-f.result c.find-f.ensures in
    omega (arith, part-fits a.table.now a.index.now a.owner a.sin a.group) in
    inside

pub returns : goal.returns
unfolding part
returns c = let a = c.args in
    let t = a.table.now in
    let f = c.find-f.result in
    let e = says t a.index.now a.owner a.sin a.group f c.find-f.ensures in
    let z : f.at + f.length - f.at ≡ f.length = omega arith in
    record {
      bytes = ap (λ k. take k (drop f.at t)) (z ∙ e.size) ∙ ap (λ k. take (part_length t a.index.now a.owner a.sin a.group) (drop k t)) e.start;
      block = refl;
      offset = ap (λ k. k + a.table.ref_ptr.1) e.start;
    }
