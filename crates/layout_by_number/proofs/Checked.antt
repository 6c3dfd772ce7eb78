-- Reading behind a check: one law for each way out, and what it is where the check is that of the layout.
-- Assumes nothing.
use mathlib.Core.Path.{◌≡◌, refl, sym, ◌∙◌}
use mathlib.Core.List.{List}
use Prim.Native.Nat.{ℕ, ◌≤◌, ◌<◌}
use native.Mathlib.Omega.{arith}
use native.Mathlib.Decide.{dec_lt, ℕ_discrete}
use lib.IntN.{ℤ}
use lib.ListN.{length}
use borrow.Author.Tests.{lt-ltb, le-ltb, ne_eqb}
use Rattle.layout.specs.Inner.{refusal_of}
use Rattle.layout.proofs.Answer.{accepted}
use Rattle.layout_reader.specs.Inner.{values_loaded, present_loaded}
use Rattle.layout.proofs.Loop.{total-most}
use Rattle.layout_reader.proofs.Answer.{loads}
use Rattle.layout_tables.proofs.Decode.{Answered, not-decoded, no_place_lem, no_byte, decoded}
use Rattle.layout_by_number.specs.Inner.{checked_refusal, values_checked, present_checked}

module _ (r : ℕ) (es s : List ℕ) (z : List ℤ) (b : List ℕ) where
  -- the answer a, with z' and b' left in the buffers
  abbrev pub Left : ℕ → List ℤ → List ℕ → Type 0
  Left a z' b' =
      (a ≡ checked_refusal r (length es) (length z) (length b)) × ((z' ≡ values_checked r es s z b) × (b' ≡ present_checked r es s z b))

  pub refused : (r ≡ 0 → ⊥) → Left r z b
  unfolding checked_refusal values_checked present_checked
  refused h = rw (ne_eqb r 0 h, ne_eqb r 0 h) (refl, (refl, refl))

  module _ (e : r ≡ 0) where
    pub few-places : length z < length es → Left 6 z b
    unfolding checked_refusal values_checked present_checked
    few-places h = rw (e, lt-ltb (length z) (length es) h) (refl, (refl, refl))

    module _ (k : length es ≤ length z) where
      pub few_bytes : length b < length es → Left 6 z b
      unfolding checked_refusal values_checked present_checked
      few_bytes h = rw (e, le-ltb (length z) (length es) k, lt-ltb (length b) (length es) h) (refl, (refl, refl))

      pub all_read : length es ≤ length b → Left 0 (values_loaded es 0 s z b) (present_loaded es 0 s z b)
      unfolding checked_refusal values_checked present_checked
      all_read h = rw (e, le-ltb (length z) (length es) k, le-ltb (length b) (length es) h) (refl, (refl, refl))

  -- where two say the same, what is so of one is so of the other
  same : {a c : ℕ} {z' y : List ℤ} {b' d : List ℕ} → Left a z' b' → Left c y d → Answered es s z b c y d → Answered es s z b a z' b'
  same f g h = (f.0 ∙ sym g.0 ∙ h.0, (f.1.0 ∙ sym g.1.0 ∙ h.1.0, f.1.1 ∙ sym g.1.1 ∙ h.1.1))

  -- behind the check of the layout it is what the layout's reader answers and leaves
  pub read_by : r ≡ refusal_of es s → {a : ℕ} {z' : List ℤ} {b' : List ℕ} → Left a z' b' → Answered es s z b a z' b'
  read_by e {a} {z'} {b'} f = by (ℕ_discrete r 0) (dec_lt (length z) (length es)) (dec_lt (length b) (length es))
    where
      by : Dec (r ≡ 0) → Dec (length z < length es) → Dec (length b < length es) → Answered es s z b a z' b'
      by (no h) l m = same f (refused h) (not-decoded es s z b r e h)
      by (yes h) (yes l) m = same f (few-places h l) (no_place_lem es s z b (sym e ∙ h) l)
      by (yes h) (no l) (yes m) = same f (few_bytes h (omega arith) m) (no_byte es s z b (sym e ∙ h) (omega arith) m)
      by (yes h) (no l) (no m) =
          let k = accepted es s (sym e ∙ h) in
          let t = loads es 0 s z b k.few (omega (arith, k.few, total-most es)) (omega (arith, k.sized)) (omega arith) (omega arith) in
          same f (all_read h (omega arith) (omega arith)) (decoded es s z b (sym e ∙ h) _ _ (omega arith) (omega arith) (sym t.0) (sym t.1))
