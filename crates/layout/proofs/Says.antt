-- What a field says and what it takes.
-- Assumes nothing.
use Rattle.std.proofs.Common.{Option, Some, None}
use mathlib.Core.Path.{◌≡◌, refl, sym, ap}
use mathlib.Core.Bool.{Bool, true, false, true≢false, cond, ◌&&◌, ◌||◌}
use Prim.Native.Nat.{ℕ, zero, suc, ◌-◌, ◌*◌, ◌/◌, ◌^◌, ◌<◌}
use native.Mathlib.Nat.{pow-suc, not-suc-le-zero}
use native.Mathlib.Omega.{arith}
use native.Mathlib.Decide.{dec_lt, ℕ_discrete}
use lib.Dec.{T, ltb, eqb}
use lib.IntN.{ℤ, pos, negsuc, nat_abs}
use lib.Signed.{lt_z}
use lib.Pow.{pow_pos}
use Rattle.arith.specs.Whole.{same_z}
use Rattle.arith.proofs.Tests.{false-ne-true, both_first, both-second}
use borrow.Author.Tests.{lt-ltb, le-ltb, eq-eqb, ne_eqb, ltb-true}
use Rattle.field.specs.Field.{pattern_of, none_of, twos, signed_of}
use Rattle.layout.specs.Layout.{width, signed, limit, reading_of, of_width, takes, reading_in, place_takes}

pub from-T : (b : Bool) → T b → b ≡ true
from-T true t = refl
from-T false t = absurd t

pub of-true : {b : Bool} → b ≡ true → T b
of-true e = rw e tt

-- a pattern other than the most negative one has a value above it and below its opposite
pub near : (w u : ℕ) → u < 2 ^ w → (u ≡ none_of w → ⊥) → nat_abs (twos w u) < none_of w
unfolding twos
near zero u h d = absurd (d (omega arith))
near (suc w) u h d = by (dec_lt (u * 2) (2 ^ suc w))
  where
    even : 2 ^ suc w ≡ 2 ^ w * 2
    even = pow-suc 2 w

    by : Dec (u * 2 < 2 ^ suc w) → nat_abs (cond (ltb (u * 2) (2 ^ suc w)) (pos u) (negsuc (2 ^ suc w - suc u))) < none_of (suc w)
    by (yes l) = rw (lt-ltb (u * 2) (2 ^ suc w) l) (omega arith)
    by (no l) = rw (le-ltb (u * 2) (2 ^ suc w) (omega arith)) (omega arith)

-- what a field with no declared range says, it takes
module _ (e u : ℕ) (h : u < 2 ^ width e) where
  pub says-width : (b : Bool) → signed e ≡ b → limit e ≡ 0 → takes e (cond b (signed_of (width e) u) (Some (pos u))) ≡ true
  unfolding signed_of
  says-width true s l = by (ℕ_discrete u (none_of (width e)))
    where
      by : Dec (u ≡ none_of (width e)) → takes e (cond (eqb u (none_of (width e))) None (Some (twos (width e) u))) ≡ true
      by (yes d) = rw (eq-eqb u (none_of (width e)) d) s
      by (no d) = rw (ne_eqb u (none_of (width e)) d, s, lt-ltb (nat_abs (twos (width e) u)) (none_of (width e)) (near (width e) u h d), eq-eqb (limit e) 0 l)
  says-width false s l = rw (s, lt-ltb u (2 ^ width e) h, eq-eqb (limit e) 0 l)

  pub plain-takes : limit e ≡ 0 → takes e (reading_of e u) ≡ true
  plain-takes l = says-width (signed e) refl l

-- what the test `z < 0` says of an unsigned field
pub negative : (w : ℕ) (z : ℤ) → lt_z z (pos 0) ≡ true → of_width false w z ≡ false
negative w (pos n) t = absurd (not-suc-le-zero (ltb-true n 0 t))
negative w (negsuc n) t = refl

pub natural : (w : ℕ) (z : ℤ) → lt_z z (pos 0) ≡ false → of_width false w z ≡ ltb (nat_abs z) (2 ^ w)
natural w (pos n) t = refl
natural w (negsuc n) t = absurd (true≢false t)

-- ---- patterns

-- the pattern of what a pattern says
pub pattern-reading : (e u : ℕ) → u < 2 ^ width e → pattern_of (width e) (reading_of e u) ≡ u
unfolding signed_of twos
pattern-reading e u h = by (signed e)
  where
    w : ℕ
    w = width e

    value : Dec (u * 2 < 2 ^ w) → pattern_of w (Some (cond (ltb (u * 2) (2 ^ w)) (pos u) (negsuc (2 ^ w - suc u)))) ≡ u
    value (yes l) = rw (lt-ltb (u * 2) (2 ^ w) l)
    value (no l) = rw (le-ltb (u * 2) (2 ^ w) (omega arith)) (omega arith)

    none : Dec (u ≡ none_of w) → pattern_of w (cond (eqb u (none_of w)) None (Some (cond (ltb (u * 2) (2 ^ w)) (pos u) (negsuc (2 ^ w - suc u))))) ≡ u
    none (yes d) = rw (eq-eqb u (none_of w) d) (sym d)
    none (no d) = rw (ne_eqb u (none_of w) d) (value (dec_lt (u * 2) (2 ^ w)))

    by : (b : Bool) → pattern_of w (cond b (cond (eqb u (none_of w)) None (Some (cond (ltb (u * 2) (2 ^ w)) (pos u) (negsuc (2 ^ w - suc u))))) (Some (pos u))) ≡ u
    by true = none (ℕ_discrete u (none_of w))
    by false = refl

-- what is taken has a pattern of the field's width, which says it
abbrev Patterned : Bool → ℕ → Option ℤ → Type 0
Patterned b w r = (pattern_of w r < 2 ^ w) × (cond b (signed_of w (pattern_of w r)) (Some (pos (pattern_of w r))) ≡ r)

value-patterned : (b : Bool) (w : ℕ) (z : ℤ) → of_width b w z ≡ true → Patterned b w (Some z)
unfolding signed_of twos
value-patterned true w (pos n) t =
    let l : n < 2 ^ w / 2 = ltb-true n (2 ^ w / 2) t in
    let d : n ≡ 2 ^ w / 2 → ⊥ = λ e. omega arith in
    (omega arith, rw (ne_eqb n (2 ^ w / 2) d, lt-ltb (n * 2) (2 ^ w) (omega arith)))
value-patterned true w (negsuc n) t =
    let l : suc n < 2 ^ w / 2 = ltb-true (suc n) (2 ^ w / 2) t in
    let d : 2 ^ w - suc n ≡ 2 ^ w / 2 → ⊥ = λ e. omega arith in
    (omega arith, rw (ne_eqb (2 ^ w - suc n) (2 ^ w / 2) d, le-ltb ((2 ^ w - suc n) * 2) (2 ^ w) (omega arith)) (ap (λ (m : ℕ). Some (negsuc m)) (omega arith)))
value-patterned false w (pos n) t = (ltb-true n (2 ^ w) t, refl)
value-patterned false w (negsuc n) t = absurd (false-ne-true t)

pub reading-pattern : (e : ℕ) (r : Option ℤ) → takes e r ≡ true → (pattern_of (width e) r < 2 ^ width e) × (reading_of e (pattern_of (width e) r) ≡ r)
reading-pattern e (Some z) t = value-patterned (signed e) (width e) z (both_first (of_width (signed e) (width e) z) _ t)
reading-pattern e None t = rw t (omega (arith, pow_pos (width e)), unfold signed_of in rw (eq-eqb (none_of (width e)) (none_of (width e)) refl))

pub place-taken : (e : ℕ) (z : ℤ) (b : ℕ) → place_takes e z b ≡ true → takes e (reading_in z b) ≡ true
unfolding place_takes
place-taken e z b t = both-second (eqb b 1 || (eqb b 0 && same_z z (pos 0))) (takes e (reading_in z b)) t
