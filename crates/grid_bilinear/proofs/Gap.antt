-- Laws of the difference of two numbers taken without sign.
-- Assumes nothing.
use mathlib.Core.Path.{◌≡◌, ap, sym, ◌∙◌, subst}
use Prim.Native.Nat.{ℕ, ◌+◌, ◌≤◌}
use native.Mathlib.Omega.{arith}
use lib.IntN.{ℤ, pos, nat_abs, ◌+ℤ◌, ◌-ℤ◌}
use Rattle.arith.proofs.Int.{ring, at, nat, minus, ◌⊞◌, ◌⊟◌, abs-add, abs_neg}
use Rattle.grid_bilinear.specs.Bilinear.{gap}

pub gap-triangle : (a b c : ℤ) → gap a c ≤ gap a b + gap b c
unfolding gap
gap-triangle a b c =
    subst (λ z. nat_abs z ≤ nat_abs (a -ℤ b) + nat_abs (b -ℤ c)) (ring (at a ⊟ at b ⊞ (at b ⊟ at c)) (at a ⊟ at c) (omega arith))
    (abs-add (a -ℤ b) (b -ℤ c))

pub gap-sym : (a b : ℤ) → gap a b ≡ gap b a
unfolding gap
gap-sym a b = sym (abs_neg (a -ℤ b)) ∙ ap nat_abs (ring (minus (at a ⊟ at b)) (at b ⊟ at a) (omega arith))

pub gap-self : (a : ℤ) → gap a a ≡ 0
unfolding gap
gap-self a = ap nat_abs (ring (at a ⊟ at a) (nat 0) (omega arith))

pub gap_more : (s n : ℕ) → gap (pos s) (pos (s + n)) ≡ n
unfolding gap
gap_more s n = ap nat_abs (ring (nat s ⊟ nat (s + n)) (minus (nat n)) (omega arith)) ∙ abs_neg (pos n)

pub gap-add : (a b c : ℤ) → gap (a +ℤ c) (b +ℤ c) ≡ gap a b
unfolding gap
gap-add a b c = ap nat_abs (ring (at a ⊞ at c ⊟ (at b ⊞ at c)) (at a ⊟ at b) (omega arith))
