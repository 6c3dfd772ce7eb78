-- Laws of integers, proved by `omega`: a sum or a product as a difference of two naturals, magnitudes, and order.
-- Assumes nothing.
use mathlib.Core.Path.{◌≡◌, refl, sym, ap, subst}
use mathlib.Core.Bool.{Bool, true, false, not, cond}
use Prim.Native.Nat.{ℕ, zero, suc, ◌+◌, ◌*◌, ◌-◌, ◌≤◌, ◌<◌}
use native.Mathlib.Omega.{arith}
use lib.Dec.{T, ltb, leb→le, le→leb, ltb→lt, lt→ltb, nltb→le}
use lib.IntN.{ℤ, pos, negsuc, neg_ℤ, nat_abs, sub_ℕ, ◌+ℤ◌, ◌-ℤ◌, ◌*ℤ◌, +ℤ_assoc, +ℤ_comm, *ℤ_comm, neg_ℤ-+ℤ, neg_ℤ-neg_ℤ}
use lib.Signed.{◌≤ℤ◌, ◌<ℤ◌, lt_z, lt_z_no}

-- the part above zero, and the part below
abbrev pub over : ℤ → ℕ
over (pos n) = n
over (negsuc n) = 0

abbrev pub under : ℤ → ℕ
under (pos n) = 0
under (negsuc n) = suc n

cond_ind : (c : Bool) (x y : ℤ) (P : ℤ → Type 0) → (T c → P x) → (T (not c) → P y) → P (cond c x y)
cond_ind true x y P f g = f tt
cond_ind false x y P f g = g tt

-- sub_ℕ a b is a − b
sub_is : (a b : ℕ) → over (sub_ℕ a b) + b ≡ under (sub_ℕ a b) + a
sub_is a b = cond_ind (ltb a b) (negsuc (b - suc a)) (pos (a - b)) (λ z. over z + b ≡ under z + a) (λ t. below (ltb→lt a b t)) (λ t. above (nltb→le a b t))
  where
    below : a < b → 0 + b ≡ suc (b - suc a) + a
    below h = omega arith

    above : b ≤ a → a - b + b ≡ 0 + a
    above h = omega arith

pub over-neg : (z : ℤ) → over (neg_ℤ z) ≡ under z
over-neg (pos zero) = refl
over-neg (pos (suc n)) = refl
over-neg (negsuc n) = refl

pub under-neg : (z : ℤ) → under (neg_ℤ z) ≡ over z
under-neg (pos zero) = refl
under-neg (pos (suc n)) = refl
under-neg (negsuc n) = refl

add_is : (a b : ℤ) → over (a +ℤ b) + (under a + under b) ≡ under (a +ℤ b) + (over a + over b)
add_is (pos a) (pos b) = omega arith
add_is (pos a) (negsuc b) = omega (arith, sub_is a (suc b))
add_is (negsuc a) (pos b) = omega (arith, sub_is b (suc a))
add_is (negsuc a) (negsuc b) = omega arith

mul_is : (a b : ℤ) → over (a *ℤ b) + (over a * under b + under a * over b) ≡ under (a *ℤ b) + (over a * over b + under a * under b)
mul_is (pos a) (pos b) = omega arith
mul_is (pos a) (negsuc b) = omega (arith, over-neg (pos (a * suc b)), under-neg (pos (a * suc b)))
mul_is (negsuc a) (pos b) = omega (arith, over-neg (pos (suc a * b)), under-neg (pos (suc a * b)))
mul_is (negsuc a) (negsuc b) = omega arith

-- ---- equality and order, by the two parts
eq-by : (a b : ℤ) → over a + under b ≡ over b + under a → a ≡ b
eq-by (pos a) (pos b) h = ap pos (omega arith)
eq-by (pos a) (negsuc b) h = absurd (omega arith)
eq-by (negsuc a) (pos b) h = absurd (omega arith)
eq-by (negsuc a) (negsuc b) h = ap negsuc (omega arith)

le-by : (a b : ℤ) → over a + under b ≤ over b + under a → a ≤ℤ b
le-by (pos a) (pos b) h = record { le = le→leb a b (omega arith) }
le-by (pos a) (negsuc b) h = absurd (omega arith)
le-by (negsuc a) (pos b) h = record { le = tt }
le-by (negsuc a) (negsuc b) h = record { le = le→leb b a (omega arith) }

by_le : (a b : ℤ) → a ≤ℤ b → over a + under b ≤ over b + under a
by_le (pos a) (pos b) h = omega (arith, leb→le a b h.le)
by_le (pos a) (negsuc b) h = absurd h.le
by_le (negsuc a) (pos b) h = omega arith
by_le (negsuc a) (negsuc b) h = omega (arith, leb→le b a h.le)

lt_by : (a b : ℤ) → over a + under b < over b + under a → a <ℤ b
lt_by (pos a) (pos b) h = record { lt = lt→ltb a b (omega arith) }
lt_by (pos a) (negsuc b) h = absurd (omega arith)
lt_by (negsuc a) (pos b) h = record { lt = tt }
lt_by (negsuc a) (negsuc b) h = record { lt = lt→ltb b a (omega arith) }

by-lt : (a b : ℤ) → a <ℤ b → over a + under b < over b + under a
by-lt (pos a) (pos b) h = omega (arith, ltb→lt a b h.lt)
by-lt (pos a) (negsuc b) h = absurd h.lt
by-lt (negsuc a) (pos b) h = omega arith
by-lt (negsuc a) (negsuc b) h = omega (arith, ltb→lt b a h.lt)

-- ---- expressions
-- a value, and two naturals whose difference it is
pub record Ex : Type 0 where
  pub val : ℤ
  pub p : ℕ
  pub n : ℕ
  pub ok : over val + n ≡ under val + p

pub swap-ok : (a b : ℕ) → a + b ≡ b + a
swap-ok a b = omega arith

pub sum-ok : (a b : Ex) → over (a.val +ℤ b.val) + (a.n + b.n) ≡ under (a.val +ℤ b.val) + (a.p + b.p)
sum-ok a b = omega (arith, add_is a.val b.val, a.ok, b.ok)

pub neg-ok : (a : Ex) → over (neg_ℤ a.val) + a.p ≡ under (neg_ℤ a.val) + a.n
neg-ok a = omega (arith, over-neg a.val, under-neg a.val, a.ok)

pub product_ok : (a b : Ex) → over (a.val *ℤ b.val) + (a.p * b.n + a.n * b.p) ≡ under (a.val *ℤ b.val) + (a.p * b.p + a.n * b.n)
product_ok a b =
    omega (
      arith,
      mul_is a.val b.val,
      ap (λ (t : ℕ). t * b.p) a.ok,
      ap (λ (t : ℕ). t * b.n) a.ok,
      ap (λ (t : ℕ). over a.val * t) b.ok,
      ap (λ (t : ℕ). under a.val * t) b.ok,
    )

infixl 6 ◌⊞◌ ◌⊟◌
infixl 7 ◌⊠◌
-- an unknown, a natural number, and the operations
abbrev pub at : ℤ → Ex
at z = record { val = z; p = over z; n = under z; ok = swap-ok (over z) (under z) }

abbrev pub nat : ℕ → Ex
nat k = record { val = pos k; p = k; n = 0; ok = swap-ok k 0 }

abbrev pub minus : Ex → Ex
minus a = record { val = neg_ℤ a.val; p = a.n; n = a.p; ok = neg-ok a }

abbrev pub ◌⊞◌ : Ex → Ex → Ex
a ⊞ b = record { val = a.val +ℤ b.val; p = a.p + b.p; n = a.n + b.n; ok = sum-ok a b }

abbrev pub ◌⊟◌ : Ex → Ex → Ex
a ⊟ b = a ⊞ minus b

abbrev pub ◌⊠◌ : Ex → Ex → Ex
a ⊠ b = record { val = a.val *ℤ b.val; p = a.p * b.p + a.n * b.n; n = a.p * b.n + a.n * b.p; ok = product_ok a b }

-- ---- what rounds a statement of two expressions into one of naturals, and back
pub ring : (a b : Ex) → a.p + b.n ≡ b.p + a.n → a.val ≡ b.val
ring a b h = eq-by a.val b.val (omega (arith, a.ok, b.ok, h))

pub order : (a b : Ex) → a.p + b.n ≤ b.p + a.n → a.val ≤ℤ b.val
order a b h = le-by a.val b.val (omega (arith, a.ok, b.ok, h))

pub order_lt : (a b : Ex) → a.p + b.n < b.p + a.n → a.val <ℤ b.val
order_lt a b h = lt_by a.val b.val (omega (arith, a.ok, b.ok, h))

pub known : (a b : Ex) → a.val ≤ℤ b.val → a.p + b.n ≤ b.p + a.n
known a b h = omega (arith, by_le a.val b.val h, a.ok, b.ok)

pub known-lt : (a b : Ex) → a.val <ℤ b.val → a.p + b.n < b.p + a.n
known-lt a b h = omega (arith, by-lt a.val b.val h, a.ok, b.ok)

-- ---- the ring's laws, and `simp ring-laws`, which multiplies both sides out and sorts them: for what is too long for `ring`
pub mul-add : (a b c : ℤ) → a *ℤ (b +ℤ c) ≡ a *ℤ b +ℤ a *ℤ c
mul-add a b c = ring (at a ⊠ (at b ⊞ at c)) (at a ⊠ at b ⊞ at a ⊠ at c) (omega arith)

pub add-mul : (a b c : ℤ) → (a +ℤ b) *ℤ c ≡ a *ℤ c +ℤ b *ℤ c
add-mul a b c = ring ((at a ⊞ at b) ⊠ at c) (at a ⊠ at c ⊞ at b ⊠ at c) (omega arith)

pub mul-neg : (a b : ℤ) → a *ℤ neg_ℤ b ≡ neg_ℤ (a *ℤ b)
mul-neg a b = ring (at a ⊠ minus (at b)) (minus (at a ⊠ at b)) (omega arith)

pub neg-mul : (a b : ℤ) → neg_ℤ a *ℤ b ≡ neg_ℤ (a *ℤ b)
neg-mul a b = ring (minus (at a) ⊠ at b) (minus (at a ⊠ at b)) (omega arith)

pub mul_assoc : (a b c : ℤ) → a *ℤ b *ℤ c ≡ a *ℤ (b *ℤ c)
mul_assoc a b c = ring (at a ⊠ at b ⊠ at c) (at a ⊠ (at b ⊠ at c)) (omega arith)

pub mul_left_comm : (a b c : ℤ) → a *ℤ (b *ℤ c) ≡ b *ℤ (a *ℤ c)
mul_left_comm a b c = ring (at a ⊠ (at b ⊠ at c)) (at b ⊠ (at a ⊠ at c)) (omega arith)

pub add_left_comm : (a b c : ℤ) → a +ℤ (b +ℤ c) ≡ b +ℤ (a +ℤ c)
add_left_comm a b c = ring (at a ⊞ (at b ⊞ at c)) (at b ⊞ (at a ⊞ at c)) (omega arith)

pub ruleset ring-laws = (mul-add, add-mul, mul-neg, neg-mul, neg_ℤ-+ℤ, neg_ℤ-neg_ℤ, mul_assoc, *ℤ_comm, mul_left_comm, +ℤ_assoc, +ℤ_comm, add_left_comm)

-- ---- magnitudes
pub abs-parts : (z : ℤ) → nat_abs z ≡ over z + under z
abs-parts (pos n) = omega arith
abs-parts (negsuc n) = omega arith

-- the triangle inequality, of any expression
pub abs-le : (a : Ex) → nat_abs a.val ≤ a.p + a.n
abs-le a = go a.val a.ok
  where
    go : (z : ℤ) → over z + a.n ≡ under z + a.p → nat_abs z ≤ a.p + a.n
    go (pos k) e = omega arith
    go (negsuc k) e = omega arith

-- a magnitude is at most b exactly if neither part is more than b beyond the other
pub abs-within : (a : Ex) {b : ℕ} → a.p ≤ a.n + b → a.n ≤ a.p + b → nat_abs a.val ≤ b
abs-within a {b} h k = go a.val a.ok
  where
    go : (z : ℤ) → over z + a.n ≡ under z + a.p → nat_abs z ≤ b
    go (pos i) e = omega arith
    go (negsuc i) e = omega arith

pub within-abs : (a : Ex) {b : ℕ} → nat_abs a.val ≤ b → (a.p ≤ a.n + b) × (a.n ≤ a.p + b)
within-abs a h = (omega (arith, a.ok, abs-parts a.val), omega (arith, a.ok, abs-parts a.val))

-- a magnitude of exactly b, of an expression above -b; and one that is b, as the negative part is b beyond
pub abs-exact : (a : Ex) {b : ℕ} → nat_abs a.val ≡ b → a.n < a.p + b → a.p ≡ a.n + b
abs-exact a {b} h k = go a.val a.ok h
  where
    go : (z : ℤ) → over z + a.n ≡ under z + a.p → nat_abs z ≡ b → a.p ≡ a.n + b
    go (pos i) e h = omega arith
    go (negsuc i) e h = absurd (omega arith)

pub exact-abs : (a : Ex) {b : ℕ} → a.n ≡ a.p + b → nat_abs a.val ≡ b
exact-abs a {b} k = go a.val a.ok
  where
    go : (z : ℤ) → over z + a.n ≡ under z + a.p → nat_abs z ≡ b
    go (pos i) e = omega arith
    go (negsuc i) e = omega arith

pub abs_neg : (z : ℤ) → nat_abs (neg_ℤ z) ≡ nat_abs z
abs_neg z = omega (arith, abs-parts z, abs-parts (neg_ℤ z), over-neg z, under-neg z)

pub abs-add : (a b : ℤ) → nat_abs (a +ℤ b) ≤ nat_abs a + nat_abs b
abs-add a b = omega (arith, abs-le (at a ⊞ at b), abs-parts a, abs-parts b)

pub abs-zero : (a b : ℤ) → nat_abs (a -ℤ b) ≡ 0 → a ≡ b
abs-zero a b h = ring (at a) (at b) (omega (arith, h, (at a ⊟ at b).ok, abs-parts (a -ℤ b)))

pub abs-mul : (a b : ℤ) → nat_abs (a *ℤ b) ≡ nat_abs a * nat_abs b
abs-mul (pos a) (pos b) = refl
abs-mul (pos a) (negsuc b) = abs_neg (pos (a * suc b))
abs-mul (negsuc a) (pos b) = abs_neg (pos (suc a * b))
abs-mul (negsuc a) (negsuc b) = refl

pub under-zero : {z : ℤ} → pos 0 ≤ℤ z → under z ≡ 0
under-zero {z = pos n} h = refl
under-zero {z = negsuc n} h = absurd h.le

pub abs-above : {z : ℤ} → pos 0 ≤ℤ z → z ≡ pos (nat_abs z)
abs-above {z = pos n} h = refl
abs-above {z = negsuc n} h = absurd h.le

pub abs-below : {z : ℤ} → z <ℤ pos 0 → z ≡ neg_ℤ (pos (nat_abs z))
abs-below {z = pos n} h = absurd (omega (arith, ltb→lt n 0 h.lt))
abs-below {z = negsuc n} h = refl

pub ≤_trans : {a b c : ℤ} → a ≤ℤ b → b ≤ℤ c → a ≤ℤ c
≤_trans {a} {b} {c} h k = order (at a) (at c) (omega (arith, known (at a) (at b) h, known (at b) (at c) k))

pub <-≤ : {a b : ℤ} → a <ℤ b → a ≤ℤ b
<-≤ {a} {b} h = order (at a) (at b) (omega (arith, known-lt (at a) (at b) h))

pub abs-most : {z : ℤ} {b : ℕ} → pos 0 ≤ℤ z → z ≤ℤ pos b → nat_abs z ≤ b
abs-most {z} {b} h k = omega (arith, abs-parts z, under-zero h, known (at z) (nat b) k)

pub not-less : {a b : ℤ} → lt_z a b ≡ false → b ≤ℤ a
not-less e = lt_z_no (subst (λ (t : Bool). T (not t)) (sym e) tt)
