-- The places in a cell: at least the first, at most those that are left, and the last on or within the cell's edges.
-- Assumes nothing.
use mathlib.Core.Path.{◌≡◌, refl, sym, ap, subst}
use mathlib.Core.Logic.{◌⊎◌, inl, inr}
use Prim.Native.Nat.{ℕ, zero, suc, ◌+◌, ◌*◌, ◌-◌, ◌/◌, ◌≤◌, ◌<◌, min}
use native.Mathlib.Nat.{div-mul-le_self, lt-div-mul-add, mul-le-mul_right, not-suc-le-zero}
use native.Mathlib.Decide.{dec_lt, dec_le}
use native.Mathlib.Omega.{arith}
use borrow.Author.Tests.{lt-ltb, le-ltb, eq-eqb, ne_eqb}
use lib.Dec.{eqb-suc-zero}
use Rattle.grid_row_refusals.specs.Inner.{places_in, Greatest}

pub record Reaches (left w x step n : ℕ) : Type 0 where
  pub some : 0 < n
  pub most : n ≤ left
  pub last : x + (n - 1) * step ≤ w

pub reaches : (left w x step : ℕ) → 0 < left → x ≤ w → Reaches left w x step (places_in left w x step)
unfolding places_in
reaches left w x zero some h =
    rw (le-ltb w x h) record { some = some; most = omega arith; last = omega arith }
reaches left w x (suc d) some h =
    let low : (w - x) / suc d * suc d ≤ w - x = div-mul-le_self (w - x) (suc d) in
    let n : ℕ = min left ((w - x) / suc d + 1) in
    let fewer : (n - 1) * suc d ≤ (w - x) / suc d * suc d = mul-le-mul_right (suc d) (omega arith) in
    rw (le-ltb w x h, eqb-suc-zero d) record { some = omega arith; most = omega arith; last = omega arith }

-- a place of a run is on or within the edges too
pub in-run : (n step j x w : ℕ) → j < n → x + (n - 1) * step ≤ w → x + j * step ≤ w
in-run n step j x w h l = let m : j * step ≤ (n - 1) * step = mul-le-mul_right step (omega arith) in omega arith

-- no greater number of places stands in the cell
module _ (left w x : ℕ) where
  none-fit : w < x → (step : ℕ) → Greatest left w x step 0
  none-fit h step = record { most = omega arith; inside = λ j l. absurd (not-suc-le-zero l); beyond = inr (omega arith) }

  all_fit : x ≤ w → Greatest left w x 0 left
  all_fit h = record { most = omega arith; inside = λ j l. omega arith; beyond = inl refl }

  module _ (d : ℕ) (h : x ≤ w) where
    abbrev q : ℕ
    q = (w - x) / suc d

    next-beyond : Dec (left ≤ q + 1) → (min left (q + 1) ≡ left) ⊎ (w < x + min left (q + 1) * suc d)
    next-beyond (yes k) = inl (omega arith)
    next-beyond (no k) =
        let e : min left (q + 1) ≡ q + 1 = omega arith in
        let more : w - x < q * suc d + suc d = lt-div-mul-add (omega arith) in
        let next : (q + 1) * suc d ≡ q * suc d + suc d = omega arith in
        inr (rw e (omega arith))

    some_fit : Greatest left w x (suc d) (min left (q + 1))
    some_fit =
        let low : q * suc d ≤ w - x = div-mul-le_self (w - x) (suc d) in
        record {
          most = omega arith;
          inside = λ j l. (let m : j * suc d ≤ q * suc d = mul-le-mul_right (suc d) (omega arith) in omega arith);
          beyond = next-beyond (dec_le left (q + 1));
        }

  greatest : Dec (w < x) → (step : ℕ) → Greatest left w x step (places_in left w x step)
  unfolding places_in
  greatest (yes h) step = rw (lt-ltb w x h) (none-fit h step)
  greatest (no h) zero = rw (le-ltb w x (omega arith)) (all_fit (omega arith))
  greatest (no h) (suc d) = rw (le-ltb w x (omega arith), eqb-suc-zero d) (some_fit d (omega arith))

pub counted : (left w x step : ℕ) {r : ℕ} → r ≡ places_in left w x step → (r ≡ places_in left w x step) × Greatest left w x step r
counted left w x step e = (e, subst (Greatest left w x step) (sym e) (greatest left w x (dec_lt w x) step))
