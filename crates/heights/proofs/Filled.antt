-- An array of what a closure gives at each place.
-- Assumes nothing.
use Prim.Native.Nat.{ℕ, zero, suc, ◌+◌, ◌<◌}
use mathlib.Core.List.{List}
use mathlib.Core.Path.{◌≡◌, subst, ◌∙◌}
use native.Mathlib.Omega.{arith}
use lib.ListN.{get_or}
use denote.Param.Members.{Mut}
use Rattle.std.specs.Fn.{Called}
use Rattle.std.specs.Array.{IsFromFnResult, IsFromFnResultFrom}
use Rattle.arith.specs.Lists.{up_to}
use Rattle.arith.proofs.Lists.{is-up_to}

-- a closure that stays as it is and gives h
module _ {F B : Type 0} (g : Mut F (ℕ × Unit {0}) B) (h : ℕ → B) (f : F) (gives : (i : ℕ) (y : B) (q : F) → Called g f (i, tt) y q → (q ≡ f) × (y ≡ h i)) where
  each : (ys : List B) (i n k : ℕ) (d : B) → IsFromFnResultFrom g f ys i n → k < n → get_or ys (i + k) d ≡ h (i + k)
  each ys i zero k d r l = absurd (omega arith)
  each ys i (suc n) zero d r l =
      let e : i + 0 ≡ i = omega arith in
      rw e (r.2.1 d ∙ (gives i r.1 r.0 r.3).1)
  each ys i (suc n) (suc k) d r l =
      let e : i + suc k ≡ i + 1 + k = omega arith in
      rw e (each ys (i + 1) n k d (subst (λ (q : F). IsFromFnResultFrom g q ys (i + 1) n) (gives i r.1 r.0 r.3).0 r.4) (omega arith))

  pub filled : (ys : List B) (n : ℕ) (d : B) → IsFromFnResult g f ys n → ys ≡ up_to h n
  filled ys n d r = is-up_to h n d ys r.long (λ i l. let e : 0 + i ≡ i = omega arith in rw e at (each ys 0 n i d r.each l))
