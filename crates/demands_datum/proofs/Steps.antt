-- The demands of request A12 hold: by the promises of `datum_step` and `transformed`.
-- Assumes nothing.
use Rattle.std.proofs.Common.{Option, Some, None}
use mathlib.Core.Path.{◌≡◌, refl, sym, ap, ◌∙◌, subst}
use mathlib.Core.Bool.{true, false, not, cond, ◌||◌}
use mathlib.Core.List.{List}
use Prim.Native.Nat.{ℕ, ◌-◌, ◌*◌, ◌^◌}
use borrow.Author.Tests.{le-ltb}
use lib.Dec.{eqb}
use lib.IntN.{ℤ, pos, nat_abs}
use Rattle.arith.specs.First.{Test, first}
use Rattle.arith.specs.Whole.{same_z}
use Rattle.arith.proofs.First.{first-append, passed, not-false, or-false, passes}
use Rattle.arith.proofs.Tests.{false-ne-true}
use Rattle.arith.proofs.Whole.{eq_z-true}
use Rattle.layout.specs.Layout.{value_in, is_absent}
use Rattle.record_transformations.specs.declared.Parameters.{Parameters}
use Rattle.message_rows.specs.Message.{kind_tests}
use Rattle.message_records.specs.Kinds.{read_helmert}
use Rattle.message_records.proofs.HelmertLaws.{helmert-refusal}
use Rattle.datum_formula.specs.declared.Values.{Values}
use Rattle.datum_formula.specs.declared.Position.{Position}
use Rattle.datum_formula.specs.Formula.{Near, Answered, beyond_any, formula_tests}
use Rattle.datum_formula.proofs.Refusals.{none-beyond, all-within}
use Rattle.datum.specs.Step.{absent, values_in, step_tests, step_refusal, Stepped}
use Rattle.demands_datum.specs.Steps.{helmert, sayings, in_order, Ready, Bound, Fit, FormulaBound}

-- ---- the order

module _ (s : List ℕ) (x y z : ℤ) where
  abbrev asked : List Test
  asked = step_tests (helmert s).system.computation (helmert s).parameters x y z

  pub in_order_lem : step_refusal s x y z ≡ first (in_order s x y z)
  unfolding step_refusal
  in_order_lem = ap (λ (r : ℕ). cond (eqb r 0) (first asked) r) (helmert-refusal s) ∙ sym (first-append (kind_tests 1021 1021 s) asked tt)

-- ---- an answer of 0

-- a parameter that has a value says it
has : (r : Option ℤ) → is_absent r ≡ false → r ≡ Some (value_in r)
has (Some z) e = refl
has None e = absurd (false-ne-true (sym e))

all_say : (p : Parameters) → absent p ≡ false → p ≡ sayings (values_in p)
all_say p e =
    let g = or-false (is_absent p.dx || is_absent p.dy || is_absent p.dz || is_absent p.rx || is_absent p.ry || is_absent p.rz) (is_absent p.ds) e in
    let f = or-false (is_absent p.dx || is_absent p.dy || is_absent p.dz || is_absent p.rx || is_absent p.ry) (is_absent p.rz) g.0 in
    let d = or-false (is_absent p.dx || is_absent p.dy || is_absent p.dz || is_absent p.rx) (is_absent p.ry) f.0 in
    let c = or-false (is_absent p.dx || is_absent p.dy || is_absent p.dz) (is_absent p.rx) d.0 in
    let b = or-false (is_absent p.dx || is_absent p.dy) (is_absent p.dz) c.0 in
    let a = or-false (is_absent p.dx) (is_absent p.dy) b.0 in
    λ i. record {
      dx = has p.dx a.0 i;
      dy = has p.dy a.1 i;
      dz = has p.dz b.1 i;
      rx = has p.rx c.1 i;
      ry = has p.ry d.1 i;
      rz = has p.rz f.1 i;
      ds = has p.ds g.1 i;
    }

same : (c : ℤ) → same_z c (pos 0) ≡ true → c ≡ pos 0
unfolding same_z
same c e = eq_z-true c (pos 0) e

module _ (s : List ℕ) (x y z : ℤ) where
  none-refused : Ready s x y z → step_refusal s x y z ≡ 0
  unfolding step_refusal same_z
  none-refused r = rw (r.accepted, all-within (10 ^ 11) x y z r.position.0 r.position.1 r.position.2, r.method, r.said)

  ready : step_refusal s x y z ≡ 0 → Ready s x y z
  ready e =
      let h = helmert s in
      let a = passes (kind_tests 1021 1021 s) (asked s x y z) tt (sym (in_order_lem s x y z) ∙ e) in
      let b = passed 8 (beyond_any (10 ^ 11) x y z) _ a.1 in
      let c = passed 10 (not (same_z h.system.computation (pos 0))) _ b.1 in
      record {
        accepted = helmert-refusal s ∙ a.0;
        position = none-beyond (10 ^ 11) x y z b.0;
        method = same h.system.computation (not-false (same_z h.system.computation (pos 0)) c.0);
        values = values_in h.parameters;
        said = all_say h.parameters (passed 14 (absent h.parameters) 0 c.1).0;
      }

pub bound : (s : List ℕ) (x y z : ℤ) (t : Position) → Stepped s x y z t → Bound s x y z t
bound s x y z t h =
    record {
      done = λ r. h.refusal ∙ none-refused s x y z r;
      ready = λ e. ready s x y z (sym h.refusal ∙ e);
      near = λ r. subst (λ (v : Values). Near (10 ^ 35) v x y z t) (ap values_in r.said) (h.near (none-refused s x y z r));
      zero = λ f.
          let w = h.zero (λ q. f (h.refusal ∙ q)) in
          (ap (λ (t : Position). t.x) w, ap (λ (t : Position). t.y) w, ap (λ (t : Position). t.z) w);
    }

-- ---- the formula

pub formula-bound : (v : Values) (x y z : ℤ) (t : Position) → Answered (521 * 10 ^ 32) (first (formula_tests v x y z)) v x y z t → FormulaBound (521 * 10 ^ 32) v x y z t
formula-bound v x y z t h =
    record {
      done = λ f. h.refusal ∙ none f;
      near = λ e. h.near (sym h.refusal ∙ e);
    }
  where
    none : Fit v x y z → first (formula_tests v x y z) ≡ 0
    none f =
        rw (
          all-within (10 ^ 11) x y z f.position.0 f.position.1 f.position.2,
          all-within (2 ^ 22 - 1) v.dx v.dy v.dz f.translation.0 f.translation.1 f.translation.2,
          all-within (2 ^ 31 - 1) v.rx v.ry v.rz f.rotation.0 f.rotation.1 f.rotation.2,
          le-ltb (2 ^ 24 - 1) (nat_abs v.ds) f.scale,
        )
