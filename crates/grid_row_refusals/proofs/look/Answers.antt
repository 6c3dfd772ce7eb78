-- `grid_row_refusals::look` meets its contract.
-- Assumes nothing.
use mathlib.Core.Path.{◌≡◌, sym, ◌∙◌, subst}
use mathlib.Core.Bool.{not, cond}
use mathlib.Core.List.{List}
use Prim.Native.Nat.{ℕ, ◌*◌, ◌+◌, ◌-◌, ◌≤◌}
use native.Mathlib.Omega.{arith}
use borrow.Author.Rules.{rules}
use Rattle.arith.specs.Lists.{all_below}
use Rattle.arith.proofs.Machine.{is-back}
use Rattle.grid_cell.specs.Private.{Within}
use Rattle.grid_place.specs.Inner.{held_place}
use Rattle.grid_place.specs.declared.Located.{Located}
use Rattle.grid_row_refusals.specs.Private.{lacking_at}
use Rattle.grid_row_refusals.proofs.Reaches.{Reaches, reaches}
use Rattle.grid_row_refusals.proofs.Runs.{refused-there, in_cell_lem, one-refused, run-refused}
use Rattle.grid_row_refusals.proofs.look.Goals as goal

pub returns-then-refusal-ne0 : goal.returns-then-refusal-ne0
returns-then-refusal-ne0 c = let m : List ℕ = c.args.message.now in
    let p : Located = c.locate-p.result in
    let is : p ≡ held_place c.args.f c.args.component c.args.north c.args.east = c.locate-p.ensures ∙ (λ i. held_place c.args.f c.args.component (is-back c.ranges.north i) (is-back c.ranges.east i)) in
    let a = c.args in
    let r = c.requires.0 in
    record {
      some = omega arith;
      most = c.requires.1;
      refusal = one-refused m a.component a.north a.east _ (refused-there m r.kind r.settings a.component a.north a.east is c.if-refusal-ne0.true);
    }

pub run_refusal-requires : goal.run_refusal-requires
run_refusal-requires c = let m : List ℕ = c.args.message.now in
    let p : Located = c.locate-p.result in
    let is : p ≡ held_place c.args.f c.args.component c.args.north c.args.east = c.locate-p.ensures ∙ (λ i. held_place c.args.f c.args.component (is-back c.ranges.north i) (is-back c.ranges.east i)) in
    let found : p.refusal ≡ 0 = c.if-refusal-ne0.false in
    let within : Within p.height p.width p.north p.east = let r = c.requires.0 in in_cell_lem m r.kind r.settings c.args.component c.args.north c.args.east is found in
    let reach : Reaches c.args.left p.width p.east c.args.step c.places_in-places.result = subst (Reaches c.args.left p.width p.east c.args.step) (sym c.places_in-places.ensures.number)
    (reaches c.args.left p.width p.east c.args.step c.requires.1 within.east) in
    (within, reach.some, reach.last)

pub returns : goal.returns
returns c = let m : List ℕ = c.args.message.now in
    let p : Located = c.locate-p.result in
    let is : p ≡ held_place c.args.f c.args.component c.args.north c.args.east = c.locate-p.ensures ∙ (λ i. held_place c.args.f c.args.component (is-back c.ranges.north i) (is-back c.ranges.east i)) in
    let found : p.refusal ≡ 0 = c.if-refusal-ne0.false in
    let within : Within p.height p.width p.north p.east = let r = c.requires.0 in in_cell_lem m r.kind r.settings c.args.component c.args.north c.args.east is found in
    let reach : Reaches c.args.left p.width p.east c.args.step c.places_in-places.result = subst (Reaches c.args.left p.width p.east c.args.step) (sym c.places_in-places.ensures.number)
    (reaches c.args.left p.width p.east c.args.step c.requires.1 within.east) in
    let a = c.args in
    let r = c.requires.0 in
    let n = c.places_in-places.result in
    let w = reach in
    record {
      some = w.some;
      most = w.most;
      refusal =
          run-refused m r.kind r.settings a.component a.north a.east is found a.step n (λ j l. r.near j (omega (arith, l, w.most))) w.last
          (c.run_refusal.ensures
          ∙ (λ i. cond (all_below (λ j. not (lacking_at (c.mean_at-mean.ensures i) (c.nodes_at-n.ensures i) p.height p.width p.north (p.east + j * a.step))) n) 0 15));
    }
