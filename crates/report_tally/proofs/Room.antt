-- A tally with room for one point more takes it.
-- Assumes nothing.
use mathlib.Core.Path.{◌≡◌, refl, ap}
use mathlib.Core.Bool.{Bool, true, false, cond}
use Prim.Native.Nat.{◌+◌, ◌-◌, ◌≤◌, ◌<◌}
use native.Mathlib.Omega.{arith}
use borrow.Author.Tests.{le-leb, lt-ltb}
use lib.Dec.{eqb}
use lib.IntN.{nat_abs}
use lib.ListN.{get_or}
use Rattle.grid_counts.specs.declared.Counted.{Counted}
use Rattle.report_update.specs.declared.Tally.{Tally}
use Rattle.report_update.specs.Numbers.{points_in}
use Rattle.report_update.specs.Update.{as_read, with_refused, with_answered, with_outcome}
use Rattle.report_update.specs.Inner.{refusable, grown_by}
use Rattle.report_update.proofs.Agree.{Sound}
use Rattle.report_tally.proofs.Totals.{total-part}

-- a test within a branch of another
in-branch : {A : Type 0} (b q : Bool) (x y z : A) → (b ≡ false → q ≡ true) → cond b x (cond q y z) ≡ cond b x y
in-branch true q x y z h = refl
in-branch false q x y z h = ap (λ (t : Bool). cond t y z) (h refl)

module _ (t : Tally) (o : Counted) (g : Sound o) (few : points_in t < 10000) (near : nat_abs t.sum ≤ 100000000000) where
  refused-few : eqb o.refusal 0 ≡ false → refusable t o.refusal ≡ true
  refused-few e =
      let n = o.refusal in
      rw (le-leb n 15 g.number, lt-ltb (get_or t.refused (n - 1) 0) 10000 (omega (arith, few, total-part t.refused (n - 1))))

  pub takes_one : grown_by t o.refusal o.count (points_in t) ≡ with_outcome t o.refusal o.count (points_in t + 1)
  unfolding grown_by with_outcome
  takes_one =
      rw (
        lt-ltb (points_in t) 10000 few,
        lt-ltb t.answered 10000 (omega (arith, few)),
        le-leb (nat_abs t.sum) 100000000000 near,
        le-leb (nat_abs o.count) 10000000 g.size,
      )
      (in-branch (eqb o.refusal 0) (refusable t o.refusal) (with_answered t o.count (points_in t + 1)) (with_refused (as_read t) o.refusal) t refused-few)
