-- A tally in which no point is answered goes on as one with zeros for its smallest, its greatest and their places.
-- Assumes nothing.
use mathlib.Core.Path.{◌≡◌, refl, sym, ap, ◌∙◌}
use mathlib.Core.List.{List}
use Prim.Native.Nat.{ℕ, ◌+◌}
use borrow.Author.Tests.{eq-eqb}
use lib.IntN.{ℤ}
use Rattle.report_update.specs.declared.Tally.{Tally}
use Rattle.report_update.specs.Numbers.{points_in}
use Rattle.report_update.specs.Update.{as_read, with_answered, with_outcome}
use Rattle.report_tally.specs.Next.{outcome_at, next_refusal, next_of}
use Rattle.demands_reports.specs.Points.{with_zeros, ReadAsZero}

refused-alike : (t : Tally) (c : ℕ) → next_refusal t c ≡ next_refusal (with_zeros t) c
unfolding next_refusal
refused-alike t c = refl

module _ (t : Tally) (none : t.answered ≡ 0) where
  read_alike : as_read t ≡ as_read (with_zeros t)
  unfolding as_read
  read_alike = rw (eq-eqb t.answered 0 none)

  answered-alike : (z : ℤ) (k : ℕ) → with_answered t z k ≡ with_answered (with_zeros t) z k
  unfolding with_answered
  answered-alike z k = rw (eq-eqb t.answered 0 none)

  outcome-alike : (refusal : ℕ) (z : ℤ) (k : ℕ) → with_outcome t refusal z k ≡ with_outcome (with_zeros t) refusal z k
  unfolding with_outcome
  outcome-alike refusal z k = rw (answered-alike z k, read_alike)

module _ (s : List ℕ) (c : ℕ) (n e : ℤ) where
  -- an update that is not refused
  goes_on : (t : Tally) → next_refusal t c ≡ 0 → next_of t s c n e ≡ record { refusal = 0; tally = with_outcome t (outcome_at s c n e).refusal (outcome_at s c n e).count (points_in t + 1) }
  unfolding next_of
  goes_on t h = rw h

pub read-as-zero : ReadAsZero
unfolding next_of
read-as-zero t s c n e none = (
  refused-alike t c,
  λ h.
      goes_on s c n e t h
      ∙ ap (λ (u : Tally). record { refusal = 0; tally = u }) (outcome-alike t none (outcome_at s c n e).refusal (outcome_at s c n e).count (points_in t + 1))
      ∙ sym (goes_on s c n e (with_zeros t) (sym (refused-alike t c) ∙ h)),
)
