-- Rows: how long they are, and the ways out of reading one.
-- Assumes nothing.
use Rattle.std.proofs.Common.{Option}
use Prim.Native.Nat.{ℕ, zero, suc, ◌+◌, ◌≤◌}
use native.Mathlib.Omega.{arith}
use mathlib.Core.Path.{◌≡◌, refl, sym, ap, ◌∙◌}
use mathlib.Core.Bool.{Bool, true, false, cond}
use mathlib.Core.List.{List, []}
use lib.Dec.{eqb, eqb-suc-zero}
use lib.IntN.{ℤ}
use lib.ListN.{length}
use Rattle.arith.specs.First.{first}
use Rattle.arith.proofs.First.{stops, goes_on, passes}
use Rattle.layout.specs.Layout.{decode_all, stored, room_tests}
use Rattle.layout.specs.Inner.{decode_tests, decode_refusal}
use Rattle.layout.proofs.Round.{length-decode_all}
use Rattle.layout.proofs.Answer.{refused-read}
use Rattle.record_rows.specs.Numbers.{says, counter_at, values_of, present_of}
use Rattle.record_rows.proofs.Rows.{counter-most}
use Rattle.layout_tables.proofs.Length.{length-layout}
use Rattle.message_rows.specs.Message.{head_tests, tests, layout, refusal, row, row_refusal, values_read, present_read, row_layout}
use Rattle.message_rows.proofs.Head.{row_of_lem, layout-most}

pub row-layout-most : (v : List (Option ℤ)) → length (row_layout v) ≤ 90
unfolding row_layout
row-layout-most v = length-layout _ _ _ (counter-most (says v) 1) (counter-most (says v) (2 + counter_at (says v) 1))

-- ---- reading

pub length-row : (s : List ℕ) → refusal s ≡ 0 → length (row s) ≡ length (layout s)
length-row s e = ap length (row_of_lem s e) ∙ length-decode_all (layout s) 0 s

pub row-most : (s : List ℕ) → length (row s) ≤ 90
unfolding row
row-most s = by (eqb (refusal s) 0)
  where
    by : (b : Bool) → length (cond b (decode_all (layout s) 0 s) []) ≤ 90
    by true = omega (arith, length-decode_all (layout s) 0 s, layout-most s)
    by false = omega arith

-- what is stored matters only without a refusal
stored_same : {A : Type 0} (r : ℕ) (x y out : List A) → (r ≡ 0 → x ≡ y) → stored r x out ≡ stored r y out
unfolding stored
stored_same zero x y out f = rw (f refl)
stored_same (suc r) x y out f = rw (eqb-suc-zero r)

-- what a layout's reader answers, and both buffers then
abbrev DecodedBy : List ℕ → List ℕ → List ℤ → List ℕ → ℕ → List ℤ → List ℕ → Type 0
DecodedBy es s z b d z' b' =
    let r : ℕ = decode_refusal es s (length z) (length b) in
    (d ≡ r) × ((z' ≡ stored r (values_of (decode_all es 0 s)) z) × (b' ≡ stored r (present_of (decode_all es 0 s)) b))

module _ (s : List ℕ) (z : List ℤ) (b : List ℕ) where
  abbrev r : ℕ
  r = row_refusal s (length z) (length b)

  -- a refusal keeps both
  pub row-refused : (d : ℕ) → d ≡ refusal s → (d ≡ 0 → ⊥) → (d ≡ r) × ((z ≡ values_read r s z) × (b ≡ present_read r s b))
  unfolding row_refusal refusal
  row-refused d e f = refused-read d r (values_of (row s)) z (present_of (row s)) b (sym (stops (tests s) (room_tests (layout s) (length z) (length b)) tt e f)) f

  module _ (h : first (head_tests s) ≡ 0) where
    decoded : decode_refusal (layout s) s (length z) (length b) ≡ r
    unfolding row_refusal decode_refusal
    decoded = goes_on (head_tests s) (decode_tests (layout s) s (length z) (length b)) tt h

    row_is : r ≡ 0 → decode_all (layout s) 0 s ≡ row s
    unfolding row_refusal refusal
    row_is e = sym (row_of_lem s (passes (tests s) (room_tests (layout s) (length z) (length b)) tt e).0)

    -- what was read by the layout
    pub row_read : {es : List ℕ} {d : ℕ} {z' : List ℤ} {b' : List ℕ} → es ≡ layout s → DecodedBy es s z b d z' b' → (d ≡ r) × ((z' ≡ values_read r s z) × (b' ≡ present_read r s b))
    row_read {es} {d} {z'} {b'} e f =
        let g : (d ≡ r) × ((z' ≡ stored r (values_of (decode_all (layout s) 0 s)) z) × (b' ≡ stored r (present_of (decode_all (layout s) 0 s)) b)) = rw (e, decoded) at f in (
          g.0,
          (
            g.1.0 ∙ stored_same r (values_of (decode_all (layout s) 0 s)) (values_of (row s)) z (λ e. ap values_of (row_is e)),
            g.1.1 ∙ stored_same r (present_of (decode_all (layout s) 0 s)) (present_of (row s)) b (λ e. ap present_of (row_is e)),
          ),
        )
