-- The first mean that fits: found by trying, and found from the greatest height.
-- Assumes nothing.
use mathlib.Core.Path.{◌≡◌, refl, sym, ap, subst, ◌∙◌}
use mathlib.Core.Bool.{Bool, true, false, ◌&&◌}
use mathlib.Core.List.{List}
use mathlib.Core.Logic.{◌⊎◌, inl, inr, ⊎_elim}
use Prim.Native.Nat.{ℕ, zero, suc, ◌≤◌, ◌<◌}
use native.Mathlib.Nat.{not-suc-le-zero}
use native.Mathlib.Omega.{arith}
use lib.IntN.{ℤ, pos, negsuc, nat_abs, ◌+ℤ◌, ◌-ℤ◌, ◌*ℤ◌, +ℤ_idr}
use lib.Signed.{lt_z, ◌<ℤ◌, ◌≤ℤ◌, lt_z_yes, clash_ℤ, <ℤ-≤ℤ_trans}
use lib.Dec.{T}
use Rattle.arith.specs.Lists.{all_below}
use Rattle.arith.specs.Lists as Lists
use Rattle.arith.proofs.Int.{at, nat, ◌⊞◌, ◌⊟◌, ◌⊠◌, ring, known, known-lt, order, order_lt, abs-parts, abs-within, within-abs, under-zero, not-less}
use Rattle.arith.proofs.Tests.{false-ne-true, all-stops}
use Rattle.heights_mean.specs.Means.{near_at, fits, first_from, smallest_mean}
use Rattle.heights_mean.specs.Private.{greatest, Least}
use Rattle.std.specs.Prelude.{Some, None}
use Rattle.std.specs.Bool.{then_some}
use Rattle.heights_mean.proofs.Near.{near-below, near-above, far, greatest-most, greatest-one}

-- ---- trying one mean after the other

-- one step on
step : (m : ℤ) (e : ℕ) → m +ℤ pos 1 +ℤ pos e ≡ m +ℤ pos (suc e)
step m e = ring (at m ⊞ nat 1 ⊞ nat e) (at m ⊞ nat (suc e)) (omega arith)

module _ (test : ℤ → Bool) where
  -- none of the n numbers from m on passes
  abbrev pub NonePass : ℕ → ℤ → Type 0
  NonePass n m = (e : ℕ) → e < n → test (m +ℤ pos e) ≡ false

  none_first : (n : ℕ) (m : ℤ) → NonePass (suc n) m → test m ≡ false
  none_first n m h = subst (λ (z : ℤ). test z ≡ false) (+ℤ_idr m) (h 0 (omega arith))

  none_rest : (n : ℕ) (m : ℤ) → NonePass (suc n) m → NonePass n (m +ℤ pos 1)
  none_rest n m h e l = subst (λ (z : ℤ). test z ≡ false) (sym (step m e)) (h (suc e) (omega arith))

  none-all : (n : ℕ) (m : ℤ) → test m ≡ false → NonePass n (m +ℤ pos 1) → NonePass (suc n) m
  none-all n m h k zero l = subst (λ (z : ℤ). test z ≡ false) (sym (+ℤ_idr m)) h
  none-all n m h k (suc e) l = subst (λ (z : ℤ). test z ≡ false) (step m e) (k e (omega arith))

  pub missing-of : (n : ℕ) (m : ℤ) → NonePass n m → first_from test n m ≡ None
  unfolding first_from
  missing-of zero m h = refl
  missing-of (suc n) m h = rw (none_first n m h) (missing-of n (m +ℤ pos 1) (none_rest n m h))

  pub found_of_lem : (n d : ℕ) (m : ℤ) → d < n → test (m +ℤ pos d) ≡ true → NonePass d m → first_from test n m ≡ Some (m +ℤ pos d)
  unfolding first_from
  found_of_lem zero d m l p h = absurd (not-suc-le-zero l)
  found_of_lem (suc n) zero m l p h =
      let e : test m ≡ true = subst (λ (z : ℤ). test z ≡ true) (+ℤ_idr m) p in
      rw e (ap Some (sym (+ℤ_idr m)))
  found_of_lem (suc n) (suc d) m l p h =
      rw (none_first d m h)
      (found_of_lem n d (m +ℤ pos 1) (omega arith) (subst (λ (z : ℤ). test z ≡ true) (sym (step m d)) p) (none_rest d m h) ∙ ap Some (step m d))

  -- either the first that passes is found, or none passes
  pub record At (n : ℕ) (m : ℤ) : Type 0 where
    pub steps : ℕ
    pub small : steps < n
    pub passes : test (m +ℤ pos steps) ≡ true
    pub before : NonePass steps m

  pub tried : (n : ℕ) (m : ℤ) → At n m ⊎ NonePass n m
  tried zero m = inr (λ e l. absurd (not-suc-le-zero l))
  tried (suc n) m = by (test m) refl (tried n (m +ℤ pos 1))
    where
      by : (b : Bool) → test m ≡ b → At n (m +ℤ pos 1) ⊎ NonePass n (m +ℤ pos 1) → At (suc n) m ⊎ NonePass (suc n) m
      by true p r = inl (record { steps = 0; small = omega arith; passes = subst (λ (z : ℤ). test z ≡ true) (sym (+ℤ_idr m)) p; before = λ e l. absurd (not-suc-le-zero l) })
      by false p (inl a) =
          inl (record {
            steps = suc a.steps;
            small = omega (arith, a.small);
            passes = subst (λ (z : ℤ). test z ≡ true) (step m a.steps) a.passes;
            before = none-all a.steps m p a.before;
          })
      by false p (inr h) = inr (none-all n m p h)

-- ---- steps from the lowest mean

abbrev pub lowest : ℤ
lowest = negsuc 16382

pub record Step (k : ℤ) : Type 0 where
  pub steps : ℕ
  pub small : steps < 32767
  pub value : k ≡ lowest +ℤ pos steps

pub step_of : (k : ℤ) → nat_abs k ≤ 16383 → Step k
step_of k h =
    let b = within-abs (at k) h in
    let up : pos 0 ≤ℤ (k +ℤ pos 16383) = order (nat 0) (at k ⊞ nat 16383) (omega (arith, b.1)) in
    let s = nat_abs (k +ℤ pos 16383) in
    record {
      steps = s;
      small = omega (arith, b.0, (at k ⊞ nat 16383).ok, abs-parts (k +ℤ pos 16383), under-zero up);
      value = ring (at k) (at lowest ⊞ nat s) (omega (arith, (at k ⊞ nat 16383).ok, abs-parts (k +ℤ pos 16383), under-zero up));
    }

in-range : (s : ℕ) → s < 32767 → nat_abs (lowest +ℤ pos s) ≤ 16383
in-range s l = abs-within (at lowest ⊞ nat s) (omega arith) (omega arith)

step_less : (a b : ℕ) → (lowest +ℤ pos a) <ℤ (lowest +ℤ pos b) → a < b
step_less a b h = omega (arith, known-lt (at lowest ⊞ nat a) (at lowest ⊞ nat b) h)

less-step : (a b : ℕ) → a < b → (lowest +ℤ pos a) <ℤ (lowest +ℤ pos b)
less-step a b h = order_lt (at lowest ⊞ nat a) (at lowest ⊞ nat b) (omega arith)

-- ---- of all means

-- no mean from -16,383 to 16,383 fits
abbrev pub NoneFits : List ℤ → Type 0
NoneFits wanted = (k : ℤ) → nat_abs k ≤ 16383 → fits wanted k ≡ false

-- m is of the range and fits, and no smaller one of the range does
pub record Smallest (wanted : List ℤ) (m : ℤ) : Type 0 where
  pub range : nat_abs m ≤ 16383
  pub fitting : fits wanted m ≡ true
  pub least : (k : ℤ) → nat_abs k ≤ 16383 → k <ℤ m → fits wanted k ≡ false

module _ (wanted : List ℤ) where
  pub none-fits : NonePass (fits wanted) 32767 lowest → NoneFits wanted
  none-fits h k r = let s = step_of k r in subst (λ (z : ℤ). fits wanted z ≡ false) (sym s.value) (h s.steps s.small)

  fits-none : NoneFits wanted → NonePass (fits wanted) 32767 lowest
  fits-none h e l = h (lowest +ℤ pos e) (in-range e l)

  pub smallest-missing : NoneFits wanted → smallest_mean wanted ≡ None
  unfolding smallest_mean
  smallest-missing h = missing-of (fits wanted) 32767 lowest (fits-none h)

  pub smallest-found : (m : ℤ) → Smallest wanted m → smallest_mean wanted ≡ Some m
  unfolding smallest_mean
  smallest-found m h =
      let s = step_of m h.range in
      found_of_lem (fits wanted) 32767 s.steps lowest s.small (subst (λ (z : ℤ). fits wanted z ≡ true) s.value h.fitting)
      (λ e l. h.least (lowest +ℤ pos e) (in-range e (omega (arith, s.small))) (subst (λ (z : ℤ). (lowest +ℤ pos e) <ℤ z) (sym s.value) (less-step e s.steps l)))
      ∙ ap Some (sym s.value)

  -- what is found by trying
  pub found_at : (a : At (fits wanted) 32767 lowest) → smallest_mean wanted ≡ Some (lowest +ℤ pos a.steps)
  unfolding smallest_mean
  found_at a = found_of_lem (fits wanted) 32767 a.steps lowest a.small a.passes a.before

  pub smallest-at : At (fits wanted) 32767 lowest → (m : ℤ) → smallest_mean wanted ≡ Some m → Smallest wanted m
  smallest-at a m e =
      let v : m ≡ lowest +ℤ pos a.steps = cc (found_at a) in
      subst (Smallest wanted) (sym v)
      (record {
        range = in-range a.steps a.small;
        fitting = a.passes;
        least = λ k r l.
            let s = step_of k r in
            subst (λ (z : ℤ). fits wanted z ≡ false) (sym s.value)
            (a.before s.steps (step_less s.steps a.steps (subst (λ (z : ℤ). z <ℤ (lowest +ℤ pos a.steps)) s.value l)));
      })

-- ---- from the greatest height

-- a place below n where a test fails
record Fails (f : ℕ → Bool) (n : ℕ) : Type 0 where
  pub place : ℕ
  pub small : place < n
  pub value : f place ≡ false

fails-at : (f : ℕ → Bool) (n : ℕ) → all_below f n ≡ false → Fails f n
fails-at f zero e = absurd (false-ne-true (sym e))
fails-at f (suc n) e = by (all_below f n) refl (fails-at f n) e
  where
    by : (b : Bool) → all_below f n ≡ b → (all_below f n ≡ false → Fails f n) → (b && f n) ≡ false → Fails f (suc n)
    by true p h e = record { place = n; small = omega arith; value = e }
    by false p h e = let r = h p in record { place = r.place; small = omega (arith, r.small); value = r.value }

module _ (wanted : List ℤ) (m : ℤ) (l : Least (greatest (Lists.at wanted) 16) m) where
  abbrev top : ℤ
  top = greatest (Lists.at wanted) 16

  -- a mean that lets the greatest height lie above 255 mm
  above-top : (k : ℤ) → (pos 10 *ℤ k +ℤ pos 255) <ℤ top → fits wanted k ≡ false
  unfolding fits
  above-top k h =
      let o = greatest-one (Lists.at wanted) 16 in
      all-stops (near_at wanted k) o.place 16
      (near-above k (Lists.at wanted o.place) (subst (λ (z : ℤ). (pos 10 *ℤ k +ℤ pos 255) <ℤ z) o.value h)) (omega (arith, o.small))

  smaller : (k : ℤ) → nat_abs k ≤ 16383 → k <ℤ m → fits wanted k ≡ false
  smaller k r h = ⊎_elim low high l.smallest
    where
      low : m ≡ lowest → fits wanted k ≡ false
      low e =
          let z = subst (λ (z : ℤ). k <ℤ z) e h in
          absurd (omega (arith, known-lt (at k) (at lowest) z, within-abs (at k) r))

      high : (pos 10 *ℤ m +ℤ pos 245) <ℤ top → fits wanted k ≡ false
      high g =
          above-top k
          (order_lt (nat 10 ⊠ at k ⊞ nat 255) (at top) (omega (arith, known-lt (nat 10 ⊠ at m ⊞ nat 245) (at top) g, known-lt (at k) (at m) h)))

  pub chosen : fits wanted m ≡ true → Some m ≡ smallest_mean wanted
  chosen f = sym (smallest-found wanted m (record { range = l.range; fitting = f; least = smaller }))

  -- a mean from m on does not fit where m does not: the height above 255 mm is above the greatest mean too, the one below stays below
  larger : (k : ℤ) → nat_abs k ≤ 16383 → m ≤ℤ k → Fails (near_at wanted m) 16 → fits wanted k ≡ false
  larger k r h p = ⊎_elim above below (far m z p.value)
    where
      z : ℤ
      z = Lists.at wanted p.place

      above : (pos 10 *ℤ m +ℤ pos 255) <ℤ z → fits wanted k ≡ false
      above g =
          let over : (pos 10 *ℤ m +ℤ pos 255) <ℤ top = <ℤ-≤ℤ_trans g (greatest-most (Lists.at wanted) 16 p.place p.small) in
          ⊎_elim
          (λ (e : m ≡ pos 16383).
          above-top k
          (order_lt (nat 10 ⊠ at k ⊞ nat 255) (at top)
          (omega (arith, known-lt (nat 10 ⊠ nat 16383 ⊞ nat 255) (at top) (subst (λ (y : ℤ). (pos 10 *ℤ y +ℤ pos 255) <ℤ top) e over), within-abs (at k) r))))
          (λ (e : top ≤ℤ (pos 10 *ℤ m +ℤ pos 255)). clash_ℤ over e)
          l.enough

      below : z <ℤ (pos 10 *ℤ m -ℤ pos 255) → fits wanted k ≡ false
      below g =
          unfold fits in
          all-stops (near_at wanted k) p.place 16
          (near-below k z (order_lt (at z) (nat 10 ⊠ at k ⊟ nat 255) (omega (arith, known-lt (at z) (nat 10 ⊠ at m ⊟ nat 255) g, known (at m) (at k) h))))
          p.small

  -- where the mean does not fit, no mean does
  pub unchosen : fits wanted m ≡ false → None ≡ smallest_mean wanted
  unchosen f = sym (smallest-missing wanted (λ k r. by k r (lt_z k m) refl))
    where
      place : Fails (near_at wanted m) 16
      place = fails-at (near_at wanted m) 16 (unfold fits in f)

      by : (k : ℤ) → nat_abs k ≤ 16383 → (b : Bool) → lt_z k m ≡ b → fits wanted k ≡ false
      by k r true e = smaller k r (lt_z_yes (subst T (sym e) tt))
      by k r false e = larger k r (not-less e) place

  pub best : then_some (fits wanted m) m ≡ smallest_mean wanted
  best = by (fits wanted m) refl
    where
      by : (b : Bool) → fits wanted m ≡ b → then_some b m ≡ smallest_mean wanted
      by true e = chosen e
      by false e = unchosen e

-- ---- what was chosen

module _ (wanted : List ℤ) where
  abbrev Fitting : Type 0
  Fitting = At (fits wanted) 32767 lowest

  pub smallest : (m : ℤ) → smallest_mean wanted ≡ Some m → Smallest wanted m
  smallest m e =
      ⊎_elim
      (λ (a : Fitting). smallest-at wanted a m e)
      (λ (h : NonePass (fits wanted) 32767 lowest). absurd (never (none-fits wanted h)))
      (tried (fits wanted) 32767 lowest)
    where
      never : NoneFits wanted → ⊥
      never h = let z : ◌≡◌ {A = ℕ} 0 1 = cc (smallest-missing wanted h) in omega arith

  -- a mean is found, or none fits
  pub found-or-none : ((m : ℤ) × (smallest_mean wanted ≡ Some m)) ⊎ NoneFits wanted
  found-or-none =
      ⊎_elim
      (λ (a : Fitting). inl (lowest +ℤ pos a.steps, found_at wanted a))
      (λ (h : NonePass (fits wanted) 32767 lowest). inr (none-fits wanted h))
      (tried (fits wanted) 32767 lowest)
