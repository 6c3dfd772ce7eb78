-- Signed 64-bit code. A signed local holds bits, and an operation reads its operands back from them.
-- A `Num` follows one expression of the code: m is what the code computes, bits what the local holds, z the integer that it is, b a bound of its magnitude.
-- One function for each operator builds it up as the code is written. `fits` is what an operation asks, and `held` what its result is read as.
-- Where the bounds are numerals each function's last argument is `tt`. Assumes nothing.
use mathlib.Core.Path.{◌≡◌, refl, sym, ap, ◌∙◌, subst}
use mathlib.Core.Bool.{Bool, true, false, not}
use Prim.Native.Nat.{ℕ, suc, ◌+◌, ◌*◌, ◌/◌, ◌≤◌, ◌<◌, ◌^◌}
use native.Mathlib.Omega.{arith}
use native.Mathlib.Nat.{le_refl, le_trans, mul-le-mul, div-le_self}
use lib.Dec.{T, ltb, ltb→lt}
use lib.IntN.{ℤ, pos, negsuc, neg_ℤ, nat_abs, ◌+ℤ◌, ◌-ℤ◌, ◌*ℤ◌}
use lib.Signed.{quot_z, lt_z, ◌<ℤ◌, ◌≤ℤ◌, lt_z_yes, lt_z_no, nat_abs-le}
use mir.Syntax.{w64}
use mir.Val.{SFits, to_z, of_z}
use mir.ValLaws.{to_z-of_z, to_z_pos}
use Rattle.arith.proofs.Int.{abs-add, abs-mul, abs_neg}

pub record Num : Type 0 where
  pub m : ℤ
  pub bits : ℕ
  pub z : ℤ
  pub b : ℕ
  pub eq : m ≡ z
  pub held : to_z w64 bits ≡ z
  pub le : nat_abs z ≤ b
  pub fit : SFits w64 z

pub small : (z : ℤ) {b : ℕ} → nat_abs z ≤ b → T (ltb b (2 ^ 63)) → SFits w64 z
small (pos n) {b} h t = record { sfits = omega (arith, ltb→lt b (2 ^ 63) t) }
small (negsuc n) {b} h t = record { sfits = omega (arith, ltb→lt b (2 ^ 63) t) }

pub fits : (v : Num) → SFits w64 v.m
fits v = subst (SFits w64) (sym v.eq) v.fit

pub is-back : {z : ℤ} → SFits w64 z → to_z w64 (of_z w64 z) ≡ z
is-back {z} f = to_z-of_z w64 z f

-- what an operation has computed and a local holds
abbrev pub computed : (m : ℤ) {z : ℤ} (b : ℕ) → m ≡ z → nat_abs z ≤ b → SFits w64 z → Num
computed m {z} b e h f =
    record { m = m; bits = of_z w64 m; z = z; b = b; eq = e; held = ap (λ x. to_z w64 (of_z w64 x)) e ∙ to_z-of_z w64 z f; le = h; fit = f }

-- a parameter, a call's result, or a literal, with a bound
abbrev pub arg : (z : ℤ) (b : ℕ) → nat_abs z ≤ b → T (ltb b (2 ^ 63)) → Num
arg z b h t = computed z b refl h (small z h t)

-- a parameter of which only the type is known
abbrev pub any : (z : ℤ) → SFits w64 z → Num
any z f = computed z (2 ^ 63) refl (nat_abs-le z f.sfits) f

abbrev pub lit : (k : ℕ) → T (ltb k (2 ^ 63)) → Num
lit k t = arg (pos k) k (le_refl k) t

-- a call's result, with what its contract says that it is
abbrev pub result : (r : ℤ) {z : ℤ} (b : ℕ) → r ≡ z → nat_abs z ≤ b → T (ltb b (2 ^ 63)) → Num
result r {z} b e h t = computed r b e h (small z h t)

-- an unsigned number, cast
abbrev pub cast : (n : ℕ) (b : ℕ) → n ≤ b → T (ltb b (2 ^ 63)) → Num
cast n b h t =
    record {
      m = pos n;
      bits = n;
      z = pos n;
      b = b;
      eq = refl;
      held = to_z_pos w64 n (omega (arith, ltb→lt b (2 ^ 63) t));
      le = h;
      fit = small (pos n) h t;
    }

-- what a call asks of a number that it is passed
pub passed : (v : Num) (P : ℤ → Type 0) → P v.z → P (to_z w64 v.bits)
passed v P h = subst P (sym v.held) h

-- ---- the operators; each `..-within` has a bound of its own, and the other the bound of any such operands
abbrev pub add-within : (v w : Num) (b : ℕ) → nat_abs (v.z +ℤ w.z) ≤ b → T (ltb b (2 ^ 63)) → Num
add-within v w b h t = result (to_z w64 v.bits +ℤ to_z w64 w.bits) b (λ i. v.held i +ℤ w.held i) h t

abbrev pub sub_within : (v w : Num) (b : ℕ) → nat_abs (v.z -ℤ w.z) ≤ b → T (ltb b (2 ^ 63)) → Num
sub_within v w b h t = result (to_z w64 v.bits -ℤ to_z w64 w.bits) b (λ i. v.held i -ℤ w.held i) h t

abbrev pub mul-within : (v w : Num) (b : ℕ) → nat_abs (v.z *ℤ w.z) ≤ b → T (ltb b (2 ^ 63)) → Num
mul-within v w b h t = result (to_z w64 v.bits *ℤ to_z w64 w.bits) b (λ i. v.held i *ℤ w.held i) h t

pub add-le : (v w : Num) → nat_abs (v.z +ℤ w.z) ≤ v.b + w.b
add-le v w = omega (arith, abs-add v.z w.z, v.le, w.le)

pub sub-le : (v w : Num) → nat_abs (v.z -ℤ w.z) ≤ v.b + w.b
sub-le v w = omega (arith, abs-add v.z (neg_ℤ w.z), abs_neg w.z, v.le, w.le)

pub mul-le : (v w : Num) → nat_abs (v.z *ℤ w.z) ≤ v.b * w.b
mul-le v w = subst (λ (n : ℕ). n ≤ v.b * w.b) (sym (abs-mul v.z w.z)) (mul-le-mul v.le w.le)

abbrev pub add : (v w : Num) → T (ltb (v.b + w.b) (2 ^ 63)) → Num
add v w t = add-within v w (v.b + w.b) (add-le v w) t

abbrev pub sub : (v w : Num) → T (ltb (v.b + w.b) (2 ^ 63)) → Num
sub v w t = sub_within v w (v.b + w.b) (sub-le v w) t

abbrev pub mul : (v w : Num) → T (ltb (v.b * w.b) (2 ^ 63)) → Num
mul v w t = mul-within v w (v.b * w.b) (mul-le v w) t

-- a quotient is no larger than its dividend
pub quot_le : (x y : ℤ) → nat_abs (quot_z x y) ≤ nat_abs x
quot_le (pos a) (pos b) = div-le_self a b
quot_le (pos a) (negsuc b) = subst (λ (n : ℕ). n ≤ a) (sym (abs_neg (pos (a / suc b)))) (div-le_self a (suc b))
quot_le (negsuc a) (pos b) = subst (λ (n : ℕ). n ≤ suc a) (sym (abs_neg (pos (suc a / b)))) (div-le_self (suc a) b)
quot_le (negsuc a) (negsuc b) = div-le_self (suc a) (suc b)

abbrev pub div : (v w : Num) → T (ltb v.b (2 ^ 63)) → Num
div v w t =
    result (quot_z (to_z w64 v.bits) (to_z w64 w.bits)) v.b (λ i. quot_z (v.held i) (w.held i))
    (le_trans (quot_le v.z w.z) v.le) t

-- what a division asks of its divisor
pub above_zero : (v : Num) → pos 0 <ℤ v.z → 0 < of_z w64 v.m
above_zero v h = subst (λ (y : ℤ). 0 < of_z w64 y) (sym v.eq) (go v.z h)
  where
    go : (y : ℤ) → pos 0 <ℤ y → 0 < of_z w64 y
    go (pos n) h = ltb→lt 0 n h.lt
    go (negsuc n) h = absurd h.lt

-- ---- what a test has shown
holds : {t : Bool} → t ≡ true → T t
holds e = subst T (sym e) tt

fails : {t : Bool} → t ≡ false → T (not t)
fails e = subst (λ (t : Bool). T (not t)) (sym e) tt

pub test : (v w : Num) {t : Bool} → lt_z (to_z w64 v.bits) (to_z w64 w.bits) ≡ t → lt_z v.z w.z ≡ t
test v w e = sym (λ i. lt_z (v.held i) (w.held i)) ∙ e

pub less : (v w : Num) → lt_z (to_z w64 v.bits) (to_z w64 w.bits) ≡ true → v.z <ℤ w.z
less v w e = lt_z_yes (holds (test v w e))

pub not-less : (v w : Num) → lt_z (to_z w64 v.bits) (to_z w64 w.bits) ≡ false → w.z ≤ℤ v.z
not-less v w e = lt_z_no (fails (test v w e))
