-- `report_prepared::prepare` meets its contract: the code's tests are the definition's, and the position is the origin.
-- Assumes nothing.
use native.Mathlib.Omega.{arith}
use mathlib.Core.Path.{◌≡◌, sym, ◌∙◌}
use mathlib.Core.Bool.{Bool, true, false, ◌&&◌}
use mathlib.Core.List.{List}
use Prim.Native.Nat.{ℕ}
use lib.IntN.{ℤ}
use mir.Syntax.{w64}
use mir.Val.{to_z, of_z}
use lib.Dec.{eqb}
use Rattle.arith.proofs.Back.{held}
use Rattle.layout.specs.Layout.{value_in, available}
use Rattle.record_grids.specs.declared.Settings.{Settings}
use Rattle.grid_fields.specs.Inner.{mean_says}
use Rattle.grid_component.specs.declared.Kept.{Kept}
use Rattle.report_prepared.specs.Inner.{nodes_available, no_edges, middle_of, edges_at, prepared_of}
use Rattle.report_prepared.proofs.prepare.Goals as goal

module _ (s : List ℕ) (kept : Kept) (c : ℕ) where
  abbrev ready : Bool
  ready = eqb kept.refusal 0 && available (mean_says s c) && nodes_available s c

  not_ready : ready ≡ false → no_edges ≡ prepared_of s kept c
  unfolding prepared_of
  not_ready h = rw h

  abbrev middles : ℤ × ℤ
  middles = let f = kept.settings in (middle_of f.number (value_in f.origin.north), middle_of f.number (value_in f.origin.east))

  all_there : ready ≡ true → edges_at s kept.settings c middles.0 middles.1 ≡ prepared_of s kept c
  unfolding prepared_of
  all_there h = rw h

pub returns-then-not-is_ready : goal.returns-then-not-is_ready
returns-then-not-is_ready c = let a = c.args in
    c.no_edges.ensures ∙ not_ready a.message.now a.kept a.component (sym c.is_ready.ensures ∙ c.if-not-is_ready.true)

pub returns : goal.returns
returns c = let a = c.args in
    let m : List ℕ = a.message.now in
    let kept : Kept = a.kept in
    let d : ℕ = a.component in
    let f : Settings = kept.settings in
    let number : to_z w64 (of_z w64 f.number) ≡ f.number = held f.number (omega arith) in
    let north : to_z w64 (of_z w64 c.middle-north.result) ≡ (middles m kept d).0 =
    held c.middle-north.result c.middle-north.type_inv ∙ c.middle-north.ensures ∙ (λ i. middle_of (number i) ((held c.value_in.result c.value_in.type_inv ∙ c.value_in.ensures) i)) in
    let east : to_z w64 (of_z w64 c.middle-east.result) ≡ (middles m kept d).1 =
    held c.middle-east.result c.middle-east.type_inv ∙ c.middle-east.ensures ∙ (λ i. middle_of (number i) ((held c.value_in-2.result c.value_in-2.type_inv ∙ c.value_in-2.ensures) i)) in
    c.prepare_at.ensures
    ∙ (λ i. edges_at m kept.settings d (north i) (east i))
    ∙ all_there m kept d (sym c.is_ready.ensures ∙ c.if-not-is_ready.false)
