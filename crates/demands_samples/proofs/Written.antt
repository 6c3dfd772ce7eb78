-- Every written file is accepted: its points are held, and each has the message's answer as its claim.
-- Assumes nothing.
use mathlib.Core.Path.{◌≡◌, refl, sym, ap, ◌∙◌, subst}
use mathlib.Core.Bool.{Bool, true, false, not, cond, ◌&&◌}
use mathlib.Core.List.{List, [], ◌∷◌, map}
use Prim.Native.Nat.{ℕ, zero, suc, ◌^◌, ◌≤◌, ◌<◌}
use native.Mathlib.Nat.{not-suc-le-zero, le_of_suc-le-suc}
use native.Mathlib.Omega.{arith}
use borrow.Author.Tests.{eqb-true, eqb-false}
use lib.Dec.{eqb, leb}
use lib.Ieee.{binary64, of_int}
use lib.Ieee.Casts.{to_signed_in}
use lib.IntN.{ℤ}
use lib.ListN.{length, get_or}
use lib.Signed.{mag}
use Rattle.arith.specs.First.{first}
use Rattle.arith.specs.Whole.{same_z}
use Rattle.arith.proofs.Whole.{eq_z-refl}
use Rattle.message_rows.specs.Message.{refusal, number_of, kind_refusal}
use Rattle.message_rows.proofs.Limits.{accepted-size, first-behind}
use Rattle.grid_shifts.specs.Shift.{outcome, shift_with, shift_refusal, message_shift}
use Rattle.grid_shifts.proofs.Calls.{count-lossless}
use Rattle.sample_files.specs.File.{no_point}
use Rattle.sample_files.specs.Held.{AllHeld, none, more}
use Rattle.sample_checks.specs.Check.{message_refusal, right, claims}
use Rattle.sample_writer.specs.Write.{sample, samples_file, write_refusal}
use Rattle.sample_writer.specs.Refusals.{Asked, answer_at, asked_of, point_test, first_refused, points_refusal}
use Rattle.sample_writer.proofs.Asked.{length-asked_of, given-none, Passed, passed}
use Rattle.sample_writer.proofs.Writes.{length-samples}
use Rattle.demands_samples.specs.Samples.{Bytes, Wholes, WrittenAccepted}
use Rattle.demands_samples.proofs.Checks.{all_right, file-back, back-checked}

kept : (n y : ℕ) (b : Bool) → eqb n 0 ≡ b → cond b y n ≡ 0 → n ≡ 0
kept n y true e h = eqb-true n 0 e
kept n y false e h = absurd (eqb-false n 0 e h)

short : (m : List ℕ) → message_refusal m ≡ 0 → length m ≤ 65535
unfolding kind_refusal
short m h =
    let r : refusal m ≡ 0 = kept (refusal m) _ (eqb (refusal m) 0) refl (sym (first-behind m ((7, not (leb 1023 (number_of m) && leb (number_of m) 1024)) ∷ [])) ∙ h) in
    omega (arith, accepted-size m r)

claim-held : (m : List ℕ) (c : ℕ) (n e : ℤ) → (message_shift m c n e).refusal ≡ 0 → mag (message_shift m c n e).count < 2 ^ 63
claim-held m c n e h = subst (λ (z : ℤ). mag z < 2 ^ 63) (count-lossless m c n e (refusal_is h)).1 (to_signed_in 63 (of_int binary64 (message_shift m c n e).count))
  where
    refusal_is : (message_shift m c n e).refusal ≡ 0 → shift_refusal m c n e ≡ 0
    refusal_is h = unfold message_shift shift_with outcome in h

module _ (m : List ℕ) where
  first-none : (p : Asked) (ps : List Asked) → first_refused m (p ∷ ps) ≡ 0 → ((answer_at m p).refusal ≡ 0) × (first_refused m ps ≡ 0)
  unfolding first_refused point_test
  first-none p ps h = given-none (answer_at m p).refusal (first (map (point_test m) ps)) (eqb (answer_at m p).refusal 0) refl h

  held : (cs : List ℕ) (ns es : List ℤ) → Bytes cs → Wholes ns → Wholes es → first_refused m (asked_of cs ns es) ≡ 0 → AllHeld (map (sample m) (asked_of cs ns es))
  unfolding asked_of sample answer_at
  held [] ns es b u v h = none
  held (c ∷ cs) [] es b u v h = none
  held (c ∷ cs) (n ∷ ns) [] b u v h = none
  held (c ∷ cs) (n ∷ ns) (e ∷ es) b u v h =
      let r = first-none (record { component = c; north = n; east = e }) (asked_of cs ns es) h in
      more (record { component = b 0; north = u 0; east = v 0; claim = claim-held m c n e r.0 })
      (held cs ns es (λ i. b (suc i)) (λ i. u (suc i)) (λ i. v (suc i)) r.1)

  sample-right : (p : Asked) → (answer_at m p).refusal ≡ 0 → right m (sample m p) ≡ true
  unfolding right sample answer_at same_z
  sample-right p h = rw h (eq_z-refl (answer_at m p).count)

  pub samples-right : (ps : List Asked) → first_refused m ps ≡ 0 → (k : ℕ) → k < length (map (sample m) ps) → right m (get_or (map (sample m) ps) k no_point) ≡ true
  samples-right [] h k l = absurd (not-suc-le-zero l)
  samples-right (p ∷ ps) h zero l = sample-right p (first-none p ps h).0
  samples-right (p ∷ ps) h (suc k) l = samples-right ps (first-none p ps h).1 k (le_of_suc-le-suc l)

-- what the writer has found where it writes
pub writes : (m cs : List ℕ) (ns es : List ℤ) (room : ℕ) → write_refusal m cs ns es room ≡ 0 → Passed m cs ns es
unfolding write_refusal
writes m cs ns es room h = passed m cs ns es (given-none (points_refusal m cs ns es) _ (eqb (points_refusal m cs ns es) 0) refl h).0

module _ (m cs : List ℕ) (ns es : List ℤ) (w : Passed m cs ns es) (b : Bytes cs) (u : Wholes ns) (v : Wholes es) where
  pub few-samples : length (map (sample m) (asked_of cs ns es)) ≤ 1000
  few-samples = omega (arith, w.few, length-samples m (asked_of cs ns es), length-asked_of cs ns es w.north w.east)

  pub message-short : length m ≤ 65535
  message-short = short m w.message

  pub samples-held : AllHeld (map (sample m) (asked_of cs ns es))
  samples-held = held m cs ns es b u v w.answered

pub written-accepted : WrittenAccepted
unfolding samples_file
written-accepted m cs ns es room b u v h =
    let w = writes m cs ns es room h in
    let ps : List Asked = asked_of cs ns es in
    back-checked m (map (sample m) ps)
    (file-back m (map (sample m) ps) (message-short m cs ns es w b u v) (few-samples m cs ns es w b u v) (samples-held m cs ns es w b u v))
    w.message
    ∙ ap claims (all_right m (map (sample m) ps) (samples-right m ps w.answered))
