-- A row from place i on: where that place stands, and the refusals from there.
-- Assumes nothing.
use mathlib.Core.Path.{◌≡◌, sym, ap, ◌∙◌, subst}
use mathlib.Core.Bool.{false}
use mathlib.Core.List.{List}
use Prim.Native.Nat.{ℕ, ◌+◌, ◌*◌, ◌-◌, ◌≤◌, ◌<◌}
use native.Mathlib.Omega.{arith}
use lib.IntN.{ℤ, pos, nat_abs, ◌+ℤ◌, ◌*ℤ◌}
use Rattle.arith.proofs.Int.{at, nat, ◌⊞◌, ◌⊠◌, ring, within-abs}
use Rattle.arith.proofs.Machine.{Num, arg, cast, add}
use Rattle.record_grids.specs.declared.Settings.{Settings}
use Rattle.grid_refusals.specs.Refusals.{beyond}
use Rattle.grid_shifts.specs.Shift.{message_shift}
use Rattle.grid_row_refusals.specs.ShiftRow.{east_at}
use Rattle.grid_row_refusals.specs.Private.{Ready, Looked, first_refused}
use Rattle.grid_row_refusals.specs.declared.Run.{Run}
use Rattle.grid_row_refusals.proofs.Ends.{near-most}
use Rattle.grid_row_refusals.proofs.Refused.{refused-same, goes_on, stops}

pub twice : (e : ℤ) (step i j : ℕ) → east_at (east_at e (pos step) i) (pos step) j ≡ east_at e (pos step) (i + j)
twice e step i j = ring (at e ⊞ nat i ⊠ nat step ⊞ nat j ⊠ nat step) (at e ⊞ nat (i + j) ⊠ nat step) (omega arith)

module _ {s : List ℕ} {f : Settings} {n e : ℤ} {step count : ℕ} (r : Ready s f n e step count) (i : ℕ) (l : i < count) where
  pub first-near : nat_abs e ≤ 1000000000000
  first-near =
      near-most f.number n e
      (subst (λ (z : ℤ). beyond f.number n z ≡ false) (ring (at e ⊞ nat 0 ⊠ nat step) (at e) (omega arith)) (r.near 0 (omega arith)))

  pub way-most : i * step ≤ 2000000000000
  way-most = omega (arith, within-abs (at e) first-near, within-abs (at e ⊞ nat i ⊠ nat step) (near-most f.number n (east_at e (pos step) i) (r.near i l)))

  -- place i as the code works it out
  abbrev pub stands : Num
  stands = add (arg e 1000000000000 first-near tt) (cast (i * step) 2000000000000 way-most tt) tt

  pub ready-rest : Ready s f n (east_at e (pos step) i) step (count - i)
  ready-rest =
      record {
        kind = r.kind;
        settings = r.settings;
        most = omega (arith, r.most);
        near = λ k b. subst (λ (z : ℤ). beyond f.number n z ≡ false) (sym (twice e step i k)) (r.near (i + k) (omega arith));
      }

pub rest-refused : (s : List ℕ) (c : ℕ) (n e : ℤ) (step i places : ℕ) → first_refused s c n (east_at e (pos step) i) (pos step) 0 places ≡ first_refused s c n e (pos step) i places
unfolding first_refused
rest-refused s c n e step i places =
    refused-same _ _ places
    (λ k b. let z : 0 + k ≡ k = omega arith in ap (λ (t : ℤ). (message_shift s c n t).refusal) (ap (east_at (east_at e (pos step) i) (pos step)) z ∙ twice e step i k))

pub looked-rest : {s : List ℕ} {c : ℕ} {n e : ℤ} {step i left : ℕ} {q : Run} → Looked s c n (east_at e (pos step) i) step 0 left q → Looked s c n e step i left q
looked-rest {s} {c} {n} {e} {step} {i} {q = q} h = record { some = h.some; most = h.most; refusal = h.refusal ∙ rest-refused s c n e step i q.places }

-- ---- the places passed, and those behind them

module _ (s : List ℕ) (c : ℕ) (n e step : ℤ) where
  abbrev refusals : ℕ → ℕ
  refusals k = (message_shift s c n (east_at e step (0 + k))).refusal

  pub passes_on : (i m : ℕ) → first_refused s c n e step 0 i ≡ 0 → first_refused s c n e step 0 (i + m) ≡ first_refused s c n e step i m
  unfolding first_refused
  passes_on i m h =
      goes_on refusals i m h
      ∙ refused-same (λ k. refusals (i + k)) (λ k. (message_shift s c n (east_at e step (i + k))).refusal) m
      (λ k l. let z : 0 + (i + k) ≡ i + k = omega arith in ap (λ (j : ℕ). (message_shift s c n (east_at e step j)).refusal) z)

  pub stops-there : (i m count : ℕ) {r : ℕ} → first_refused s c n e step 0 i ≡ 0 → r ≡ first_refused s c n e step i m → (r ≡ 0 → ⊥) → i + m ≤ count → r ≡ first_refused s c n e step 0 count
  unfolding first_refused
  stops-there i m count h e k l =
      let is = e ∙ sym (passes_on i m h) in
      is ∙ stops refusals (i + m) count (λ z. k (is ∙ z)) l
