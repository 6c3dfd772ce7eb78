-- Heights against one mean: within 255 mm, above or below; the greatest height; and the smallest mean for one height.
-- Assumes nothing.
use mathlib.Core.Path.{◌≡◌, refl, sym, subst, ◌∙◌}
use mathlib.Core.Bool.{Bool, true, false, cond}
use mathlib.Core.Logic.{◌⊎◌, inl, inr, ⊎_elim}
use Prim.Native.Nat.{ℕ, zero, suc, ◌+◌, ◌-◌, ◌*◌, ◌/◌, ◌≤◌, ◌<◌}
use native.Mathlib.Nat.{le_of_suc-le-suc, not-suc-le-zero, eq-or-lt_of_le, div-mul-le_self, lt-div-mul-add}
use native.Mathlib.Omega.{arith}
use borrow.Author.Tests.{le-leb, lt-leb, leb-true}
use lib.Dec.{T}
use lib.IntN.{ℤ, pos, negsuc, nat_abs, ◌+ℤ◌, ◌-ℤ◌, ◌*ℤ◌}
use lib.Signed.{lt_z, quot_z, ◌<ℤ◌, ◌≤ℤ◌, lt_z_yes}
use Rattle.arith.proofs.Int.{over, under, at, nat, ◌⊞◌, ◌⊟◌, ◌⊠◌, known, known-lt, order, order_lt, abs-parts, abs-within, abs-above, under-zero, not-less}
use Rattle.arith.proofs.Tests.{false-ne-true}
use Rattle.std.proofs.lemmas.Int.{ints, clamps}
use Rattle.heights_mean.specs.Means.{less, near}
use Rattle.heights_mean.specs.Private.{greatest, Least}

-- ---- one height and one mean

module _ (m h : ℤ) where
  pub near-below : h <ℤ (pos 10 *ℤ m -ℤ pos 255) → near m h ≡ false
  unfolding near less
  near-below e =
      lt-leb (nat_abs (h -ℤ pos 10 *ℤ m)) 255 (omega (arith, (at h ⊟ nat 10 ⊠ at m).ok, abs-parts (h -ℤ pos 10 *ℤ m), known-lt (at h) (nat 10 ⊠ at m ⊟ nat 255) e))

  pub near-above : (pos 10 *ℤ m +ℤ pos 255) <ℤ h → near m h ≡ false
  unfolding near less
  near-above e =
      lt-leb (nat_abs (h -ℤ pos 10 *ℤ m)) 255 (omega (arith, (at h ⊟ nat 10 ⊠ at m).ok, abs-parts (h -ℤ pos 10 *ℤ m), known-lt (nat 10 ⊠ at m ⊞ nat 255) (at h) e))

  pub near_of : (pos 10 *ℤ m -ℤ pos 255) ≤ℤ h → h ≤ℤ (pos 10 *ℤ m +ℤ pos 255) → near m h ≡ true
  unfolding near less
  near_of p q =
      le-leb _ 255
      (abs-within (at h ⊟ nat 10 ⊠ at m)
      (omega (arith, known (at h) (nat 10 ⊠ at m ⊞ nat 255) q))
      (omega (arith, known (nat 10 ⊠ at m ⊟ nat 255) (at h) p)))

  pub less-most : near m h ≡ true → nat_abs (h -ℤ pos 10 *ℤ m) ≤ 255
  unfolding near less
  less-most e = leb-true (nat_abs (h -ℤ pos 10 *ℤ m)) 255 e

  -- a height that is not near lies above or below
  pub far : near m h ≡ false → ((pos 10 *ℤ m +ℤ pos 255) <ℤ h) ⊎ (h <ℤ (pos 10 *ℤ m -ℤ pos 255))
  far e = by (lt_z (pos 10 *ℤ m +ℤ pos 255) h) (lt_z h (pos 10 *ℤ m -ℤ pos 255)) refl refl
    where
      yes-less : {a b : ℤ} → true ≡ lt_z a b → a <ℤ b
      yes-less p = lt_z_yes (subst T p tt)

      by : (a b : Bool) → a ≡ lt_z (pos 10 *ℤ m +ℤ pos 255) h → b ≡ lt_z h (pos 10 *ℤ m -ℤ pos 255)
          → ((pos 10 *ℤ m +ℤ pos 255) <ℤ h) ⊎ (h <ℤ (pos 10 *ℤ m -ℤ pos 255))
      by true b p q = inl (yes-less p)
      by false true p q = inr (yes-less q)
      by false false p q = absurd (false-ne-true (sym e ∙ near_of (not-less (sym q)) (not-less (sym p))))

-- ---- the greatest

module _ (f : ℕ → ℤ) where
  pub greatest-most : (k i : ℕ) → i < k → f i ≤ℤ greatest f k
  unfolding greatest
  greatest-most zero i l = absurd (not-suc-le-zero l)
  greatest-most (suc k) i l =
      ⊎_elim
      (λ e. rw e (omega (arith, ints, clamps)))
      (λ l. let m = greatest-most k i l in omega (arith, ints, clamps))
      (eq-or-lt_of_le (le_of_suc-le-suc l))

  -- it is one of them
  pub record One (k : ℕ) (z : ℤ) : Type 0 where
    pub place : ℕ
    pub small : place ≤ k - 1
    pub value : z ≡ f place

  pub greatest-one : (k : ℕ) → One k (greatest f k)
  unfolding greatest
  greatest-one zero = record { place = 0; small = omega arith; value = refl }
  greatest-one (suc k) = by (lt_z (f k) (greatest f k)) (greatest-one k)
    where
      by : (t : Bool) → One k (greatest f k) → One (suc k) (cond t (greatest f k) (f k))
      by false o = record { place = k; small = omega arith; value = refl }
      by true o = record { place = o.place; small = omega (arith, o.small); value = o.value }

-- ---- the smallest mean for one height

pub least-low : (h : ℤ) → h <ℤ negsuc 163573 → Least h (negsuc 16382)
least-low h e =
    record {
      range = omega arith;
      smallest = inl refl;
      enough = inr (order (at h) (nat 10 ⊠ at (negsuc 16382) ⊞ nat 255) (omega (arith, known-lt (at h) (at (negsuc 163573)) e)));
    }

pub least-high : (h : ℤ) → pos 164085 <ℤ h → Least h (pos 16383)
least-high h e =
    record {
      range = omega arith;
      smallest = inr (order_lt (nat 10 ⊠ nat 16383 ⊞ nat 245) (at h) (omega (arith, known-lt (nat 164085) (at h) e)));
      enough = inl refl;
    }

module _ (h : ℤ) (low : negsuc 163573 ≤ℤ h) (high : h ≤ℤ pos 164085) where
  pub height-most : nat_abs h ≤ 164085
  height-most = abs-within (at h) (omega (arith, known (at h) (nat 164085) high)) (omega (arith, known (at (negsuc 163573)) (at h) low))

  -- the height above the smallest that the lowest mean does not reach
  abbrev above : ℤ
  above = h -ℤ negsuc 163573

  abbrev n : ℕ
  n = nat_abs above

  positive : pos 0 ≤ℤ above
  positive = order (nat 0) (at h ⊟ at (negsuc 163573)) (omega (arith, known (at (negsuc 163573)) (at h) low))

  counts : n + under h ≡ over h + 163574
  counts = omega (arith, (at h ⊟ at (negsuc 163573)).ok, under-zero positive, abs-parts above)

  rest : n < n / 10 * 10 + 10
  rest = lt-div-mul-add (omega arith)

  pub least-between : Least h (quot_z above (pos 10) +ℤ negsuc 16381)
  least-between =
      subst (λ (z : ℤ). Least h (quot_z z (pos 10) +ℤ negsuc 16381)) (sym (abs-above positive))
      (record {
        range = abs-within (nat (n / 10) ⊞ at (negsuc 16381)) (omega (arith, counts, div-mul-le_self n 10, known (at h) (nat 164085) high)) (omega arith);
        smallest = inr (order_lt (nat 10 ⊠ (nat (n / 10) ⊞ at (negsuc 16381)) ⊞ nat 245) (at h) (omega (arith, counts, div-mul-le_self n 10)));
        enough = inr (order (at h) (nat 10 ⊠ (nat (n / 10) ⊞ at (negsuc 16381)) ⊞ nat 255) (omega (arith, counts, rest)));
      })
