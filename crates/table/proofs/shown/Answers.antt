-- `table::shown` meets its contract: the part that find names is within the table.
-- Assumes nothing.
use Prim.Native.Nat.{◌+◌, ◌-◌, ◌≤◌}
use native.Mathlib.Omega.{arith}
use mathlib.Core.Path.{◌≡◌, refl, ap, ◌∙◌}
use lib.ListN.{length, take, drop}
use Rattle.table.specs.Table.{found_length}
use Rattle.table.specs.Inner.{found}
use Rattle.table.proofs.Calls.{says, found-fits}
use Rattle.table.proofs.shown.Goals as goal

pub overflow_add-e : goal.overflow_add-e
overflow_add-e c = let inside : c.find-f.result.at + c.find-f.result.length ≤ length c.args.table.now = let t = c.args.table.now in
    let o = c.args.owner in
    let s = c.args.sin in
    let g = c.args.group in
    let e = says t o s g _ c.find-f.ensures in
    omega (arith, found-fits t o s g) in
    omega (arith, inside)

pub slice_bounds-result-end : goal.slice_bounds-result-end
slice_bounds-result-end c = let inside : c.find-f.result.at + c.find-f.result.length ≤ length c.args.table.now = let t = c.args.table.now in
    let o = c.args.owner in
    let s = c.args.sin in
    let g = c.args.group in
    let e = says t o s g _ c.find-f.ensures in
    omega (arith, found-fits t o s g) in
    inside

pub returns : goal.returns
unfolding found
returns c = let t = c.args.table.now in
    let o = c.args.owner in
    let s = c.args.sin in
    let g = c.args.group in
    let f = c.find-f.result in
    let e = says t o s g f c.find-f.ensures in
    let z : f.at + f.length - f.at ≡ f.length = omega arith in
    record {
      bytes = ap (λ k. take k (drop f.at t)) (z ∙ e.size) ∙ ap (λ k. take (found_length t o s g) (drop k t)) e.start;
      block = refl;
      offset = ap (λ k. k + c.args.table.ref_ptr.1) e.start;
    }
