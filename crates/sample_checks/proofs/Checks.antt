-- The answers of `check_samples`, one law for each way out, and the loop over the points.
-- Assumes nothing.
use mathlib.Core.Path.{◌≡◌, refl, sym, ap, ◌∙◌}
use mathlib.Core.Bool.{Bool, true, false, not}
use mathlib.Core.List.{List}
use Prim.Native.Nat.{ℕ, ◌+◌, ◌-◌, ◌^◌, ◌≤◌, ◌<◌}
use native.Mathlib.Numerals.{add-one}
use native.Mathlib.Omega.{arith}
use lib.Dec.{eqb}
use lib.IntN.{ℤ}
use lib.ListN.{length, take, drop}
use lib.Signed.{mag}
use mir.Syntax.{w64}
use mir.Val.{of_z}
use borrow.Author.Tests.{eqb-true, eqb-false, ne_eqb, lt-ltb, le-ltb}
use Rattle.arith.specs.Places.{first_of}
use Rattle.arith.specs.Whole.{same_z}
use Rattle.arith.proofs.Order.{same-yes, same-no}
use Rattle.arith.proofs.Places.{round-hit, round-on, round-end}
use Rattle.sample_numbers.specs.Number.{number}
use Rattle.sample_files.specs.File.{message_end, message_of, points_of, shape}
use Rattle.sample_files.specs.Inner.{end_in, point_at}
use Rattle.field.proofs.Bit.{Bytes}
use Rattle.sample_files.proofs.Fields.{end_whole}
use Rattle.sample_files.proofs.Shape.{message-whole}
use Rattle.sample_checks.specs.declared.Checked.{Checked}
use Rattle.sample_checks.specs.Check.{message_refusal, right, bad_at, place_of, first_bad, refused_with, checked}

-- ---- a claim and a count

module _ (a b : ℤ) (p : mag a < 2 ^ 63) (q : mag b < 2 ^ 63) where
  by : (t : Bool) → eqb (of_z w64 a) (of_z w64 b) ≡ t → t ≡ same_z a b
  by true e = sym (same-yes a b (record { sfits = p }) (record { sfits = q }) (eqb-true (of_z w64 a) (of_z w64 b) e))
  by false e = sym (same-no a b (record { sfits = p }) (record { sfits = q }) (eqb-false (of_z w64 a) (of_z w64 b) e))

  -- the machine compares the bits of two signed numbers
  pub same_test : eqb (of_z w64 a) (of_z w64 b) ≡ same_z a b
  same_test = by (eqb (of_z w64 a) (of_z w64 b)) refl

-- ---- the loop: its rounds and its end

module _ (m f : List ℕ) where
  abbrev pub bad_from : ℕ → ℕ
  bad_from i = first_of (bad_at m (points_of f)) i (length (points_of f) - i)

  test-is : (i : ℕ) (b : Bool) → right m (point_at f i) ≡ b → bad_at m (points_of f) i ≡ not b
  unfolding bad_at point_at
  test-is i b e = rw e

  pub round-bad : (i : ℕ) → i < length (points_of f) → right m (point_at f i) ≡ false → bad_from 0 ≡ bad_from i → i + 1 ≡ first_bad m (points_of f)
  unfolding first_bad place_of
  round-bad i h e v =
      rw (← start, v, round-hit (bad_at m (points_of f)) i (length (points_of f)) h (test-is i false e), lt-ltb i (length (points_of f)) h) (add-one i)
    where
      start : first_of (bad_at m (points_of f)) 0 (length (points_of f) - 0) ≡ first_of (bad_at m (points_of f)) 0 (length (points_of f))
      start = ap (first_of (bad_at m (points_of f)) 0) (omega arith)

  pub round-right : (i : ℕ) → i < length (points_of f) → right m (point_at f i) ≡ true → bad_from i ≡ bad_from (i + 1)
  round-right i h e = round-on (bad_at m (points_of f)) i (length (points_of f)) h (test-is i true e)

  pub none-bad : (i : ℕ) → length (points_of f) ≤ i → bad_from 0 ≡ bad_from i → 0 ≡ first_bad m (points_of f)
  unfolding first_bad place_of
  none-bad i h v =
      let s : first_of (bad_at m (points_of f)) 0 (length (points_of f)) ≡ i =
      ap (first_of (bad_at m (points_of f)) 0) (omega arith) ∙ v ∙ round-end (bad_at m (points_of f)) i (length (points_of f)) h in
      rw (s, le-ltb i (length (points_of f)) h)

-- ---- the message's part of a file

pub record Ends (f : List ℕ) (e : ℕ) : Type 0 where
  pub low : 3 ≤ e
  pub high : e ≤ length f
  pub part : take (e - 3) (drop 3 f) ≡ message_of f

pub ends : (f : List ℕ) → Bytes f → shape f ≡ true → (e : ℕ) → e ≡ end_in f → Ends f e
ends f b t e q =
    let h : message_end f ≤ length f = message-whole f b t in
    let z : e ≡ message_end f = q ∙ end_whole f h in
    record { low = omega (arith, z); high = omega (arith, z); part = of z }
  where
    of : e ≡ message_end f → take (e - 3) (drop 3 f) ≡ message_of f
    of z = unfold message_of in let n : e - 3 ≡ number 2 (drop 1 f) = omega (arith, z) in ap (λ (k : ℕ). take k (drop 3 f)) n

-- ---- the ways out

module _ (f : List ℕ) where
  pub other-shape : shape f ≡ false → refused_with 24 ≡ checked f
  unfolding checked
  other-shape e = rw e

  module _ (t : shape f ≡ true) where
    pub message-refused : (n : ℕ) → n ≡ message_refusal (message_of f) → (n ≡ 0 → ⊥) → refused_with n ≡ checked f
    unfolding checked
    message-refused n q r = rw (t, ← q, ne_eqb n 0 r)

    module _ (q : message_refusal (message_of f) ≡ 0) (k : ℕ) (r : k ≡ first_bad (message_of f) (points_of f)) where
      pub claim-fails : (k ≡ 0 → ⊥) → ◌≡◌ {A = Checked} (record { refusal = 25; place = k }) (checked f)
      unfolding checked
      claim-fails z = rw (t, q, ← r, ne_eqb k 0 z)

      pub claims-hold : k ≡ 0 → refused_with 0 ≡ checked f
      unfolding checked
      claims-hold z = rw (t, q, ← r, z)
