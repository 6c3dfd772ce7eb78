-- `report_points::report_lists` meets its contract.
-- Assumes nothing.
use native.Mathlib.Omega.{arith}
use mathlib.Core.Path.{◌≡◌, sym, ap, ◌∙◌}
use mathlib.Core.Logic.{◌⊎◌, inl, inr}
use mathlib.Core.List.{List}
use Prim.Native.Nat.{ℕ}
use lib.IntN.{ℤ}
use lib.ListN.{length}
use Rattle.report_update.specs.declared.Report.{Report}
use Rattle.report_points.specs.Reports.{lists_report, points_of}
use Rattle.report_points.specs.Private.{start_of, report_from}
use Rattle.grid_component.specs.declared.Kept.{Kept}
use Rattle.report_prepared.specs.declared.Prepared.{Prepared}
use Rattle.report_prepared.specs.Inner.{node_values, prepared_of}
use Rattle.report_prepared.specs.Private.{Serves}
use Rattle.report_prepared.proofs.Served.{serves}
use Rattle.report_points.proofs.Lists.{lists-stop, lists-unequal, lists-equal}
use Rattle.report_points.proofs.report_lists.Goals as goal

stopped : (s : List ℕ) (c : ℕ) (ns es : List ℤ) (r : Report) → r ≡ start_of c (length ns) → (r.refusal ≡ 0 → ⊥) → r ≡ lists_report s c ns es
stopped s c ns es r e f = e ∙ go (lists-stop s c ns es)
  where
    go : (start_of c (length ns)).refusal ≡ 0 ⊎ (start_of c (length ns) ≡ lists_report s c ns es) → start_of c (length ns) ≡ lists_report s c ns es
    go (inl z) = absurd (f (ap (λ (x : Report). x.refusal) e ∙ z))
    go (inr g) = g

pub returns-then-r-ne0 : goal.returns-then-r-ne0
returns-then-r-ne0 c = let a = c.args in
    stopped a.message.now a.component a.north.now a.east.now c.start-r.result c.start-r.ensures c.if-r-ne0.true

pub returns-then-north-east : goal.returns-then-north-east
returns-then-north-east c = let a = c.args in
    c.empty.ensures
    ∙ lists-unequal a.message.now a.component a.north.now a.east.now (ap (λ (x : Report). x.refusal) (sym c.start-r.ensures) ∙ c.if-r-ne0.false) (λ e. omega arith)

served : (s : List ℕ) (kept : Kept) (c : ℕ) {p : Prepared} {v : List ℤ} → p ≡ prepared_of s kept c → v ≡ node_values s c → Serves s kept c p v
served s kept c e k = rw (e, k) (serves s kept c)

pub steps-requires : goal.steps-requires
steps-requires c = let a = c.args in (
  omega arith,
  served a.message.now c.keep-kept.result a.component c.prepare-ready.ensures c.nodes_of-nodes.ensures,
)

pub returns : goal.returns
returns c = let a = c.args in
    c.steps.ensures
    ∙ (λ i. report_from a.message.now (c.keep-kept.ensures i) a.component 0 (points_of a.north.now a.east.now) (c.start-r.ensures i))
    ∙ lists-equal a.message.now a.component a.north.now a.east.now (omega arith)
