-- The worked examples hold: the refusal and the exact target of each row by computation from the bytes.
-- Assumes nothing.
use mathlib.Core.Path.{◌≡◌, refl, sym, ap, ◌∙◌, subst}
use mathlib.Core.List.{List, ◌∷◌}
use Prim.Native.Nat.{ℕ, ◌+◌, ◌*◌, ◌^◌, ◌≤◌, ◌<◌}
use native.Mathlib.Omega.{arith}
use lib.Dec.{T, ltb, ltb→lt}
use lib.IntN.{ℤ, pos, neg_ℤ, nat_abs, ◌+ℤ◌, ◌-ℤ◌, ◌*ℤ◌}
use Rattle.arith.specs.Whole.{same_z}
use Rattle.arith.proofs.Int.{ring, at, nat, minus, ◌⊞◌, ◌⊟◌, ◌⊠◌, abs-add, abs-mul, abs_neg}
use Rattle.field.specs.Field.{bit_at, field, twos, signed_of}
use Rattle.layout.specs.Layout.{blank, all_take, total, decode_all, zero_from}
use Rattle.layout_tables.specs.Layouts.{layout_of, layout1021, layout1022, tail1021, tail1022}
use Rattle.record_transformations.specs.Transformations.{helmert_of, system_at, parameters_at}
use Rattle.message_rows.specs.Message.{layout, refusal, row, kind_refusal, kind_row}
use Rattle.message_records.specs.Kinds.{read_helmert}
use Rattle.datum_formula.specs.declared.Values.{Values}
use Rattle.datum_formula.specs.declared.Position.{Position}
use Rattle.datum_formula.specs.Formula.{rotated_x, rotated_y, rotated_z, moved, zeros, About}
use Rattle.datum.specs.Step.{values_in, step_refusal, Stepped}
use Rattle.demands_datum.specs.Worked.{turning, extreme, no_scale, strict, target, Meets, WorkedSteps}

-- a whole number is nearest to an exact coordinate over 10^35
abbrev nearest : (a e : ℤ) → Type 0
nearest a e = T (ltb (2 * nat_abs (pos (10 ^ 35) *ℤ a -ℤ e)) (10 ^ 35))

-- then what is within a unit of the exact one is within a unit of it
unit : (t a e : ℤ) → About (10 ^ 35) t e (10 ^ 35) → nearest a e → nat_abs (t -ℤ a) ≤ 1
unit t a e h n = by (nat_abs (t -ℤ a)) (nat_abs (pos (10 ^ 35) *ℤ a -ℤ e)) (ltb→lt (2 * nat_abs (pos (10 ^ 35) *ℤ a -ℤ e)) (10 ^ 35) n) most
  where
    apart : pos (10 ^ 35) *ℤ (t -ℤ a) ≡ (pos (10 ^ 35) *ℤ t -ℤ e) +ℤ neg_ℤ (pos (10 ^ 35) *ℤ a -ℤ e)
    apart =
        ring (nat (10 ^ 35) ⊠ (at t ⊟ at a)) ((nat (10 ^ 35) ⊠ at t ⊟ at e) ⊞ minus (nat (10 ^ 35) ⊠ at a ⊟ at e)) (omega arith)

    most : 10 ^ 35 * nat_abs (t -ℤ a) ≤ 10 ^ 35 + nat_abs (pos (10 ^ 35) *ℤ a -ℤ e)
    most =
        let u = pos (10 ^ 35) *ℤ t -ℤ e in
        let w = pos (10 ^ 35) *ℤ a -ℤ e in
        let k : 10 ^ 35 * nat_abs (t -ℤ a) ≡ nat_abs (u +ℤ neg_ℤ w) = sym (abs-mul (pos (10 ^ 35)) (t -ℤ a)) ∙ ap nat_abs apart in
        omega (arith, k, abs-add u (neg_ℤ w), abs_neg w, h.within)

    by : (d w : ℕ) → 2 * w < 10 ^ 35 → 10 ^ 35 * d ≤ 10 ^ 35 + w → d ≤ 1
    by d w p q = omega arith

module _ (m : List ℕ) (x y z : ℤ) where
  abbrev v : Values
  v = values_in (read_helmert m).value.parameters

  answers : (a b c : ℤ) → step_refusal m x y z ≡ 0
      → nearest a (moved v.ds (rotated_x v x y z) v.dx) → nearest b (moved v.ds (rotated_y v x y z) v.dy) → nearest c (moved v.ds (rotated_z v x y z) v.dz)
      → (t : Position) → Stepped m x y z t → Meets t (target a b c)
  answers a b c e p q r t h =
      let n = h.near e in
      record { refusal = h.refusal ∙ e; at_x = unit t.x a _ n.at_x p; at_y = unit t.y b _ n.at_y q; at_z = unit t.z c _ n.at_z r }

  refuses : (n : ℕ) → (n ≡ 0 → ⊥) → step_refusal m x y z ≡ n → (t : Position) → Stepped m x y z t → Meets t (zeros n)
  refuses n f e t h =
      subst (λ (u : Position). Meets u (zeros n)) (sym (h.zero (λ g. f (sym e ∙ g)) ∙ ap zeros e))
      (record { refusal = refl; at_x = omega arith; at_y = omega arith; at_z = omega arith })

pub worked-steps : WorkedSteps
unfolding turning extreme no_scale strict step_refusal read_helmert kind_refusal kind_row refusal row layout layout_of layout1021 layout1022 tail1021 tail1022 total zero_from decode_all all_take field bit_at twos signed_of helmert_of system_at parameters_at rotated_x rotated_y rotated_z moved same_z
worked-steps = (
  answers (63 ∷ 208 ∷ blank 50) _ _ _ _ _ _ refl tt tt tt,
  (
    answers turning _ _ _ _ _ _ refl tt tt tt,
    (
      answers extreme _ _ _ _ _ _ refl tt tt tt,
      (
        refuses (63 ∷ 208 ∷ blank 51) _ _ _ 3 (λ e. omega arith) refl,
        (
          refuses (63 ∷ 224 ∷ blank 63) _ _ _ 7 (λ e. omega arith) refl,
          (
            refuses strict _ _ _ 9 (λ e. omega arith) refl,
            (
              refuses strict _ _ _ 11 (λ e. omega arith) refl,
              (refuses no_scale _ _ _ 15 (λ e. omega arith) refl, tt),
            ),
          ),
        ),
      ),
    ),
  ),
)
