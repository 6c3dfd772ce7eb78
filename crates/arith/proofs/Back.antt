-- A signed number that a local holds as bits is read back as itself: of each element of an array of i64 by value, once.
-- Assumes nothing.
use Prim.Native.Nat.{ℕ, zero, suc, ◌<◌, ◌^◌}
use mathlib.Core.Path.{◌≡◌, refl}
use mathlib.Core.List.{List, [], ◌∷◌}
use lib.ListN.{get_or}
use lib.IntN.{ℤ, pos}
use lib.Signed.{mag}
use lib.Dec.{lit<}
use mir.Syntax.{w64}
use mir.Val.{Val, vint, SFits, of_z, to_z}
use mir.Facts.{to_z-of_z}
use denote.Array.{each}
use denote.Shadow.{shadow}
use denote.Signed.{SInt}

pub each-sfits : (xs : List ℤ) (us : List Val) (i : ℕ) → shadow (each ℤ (SInt w64).own_val xs us) → SFits w64 (get_or xs i (pos 0))
each-sfits [] us i p = record { sfits = lit< tt }
each-sfits (x ∷ xs) [] i p = absurd p
each-sfits (x ∷ xs) (u ∷ us) zero p = record { sfits = p.0.1 }
each-sfits (x ∷ xs) (u ∷ us) (suc i) p = each-sfits xs us i p.1

pub back : (xs : List ℤ) (us : List Val) → shadow (each ℤ (SInt w64).own_val xs us) → (i : ℕ) → to_z w64 (of_z w64 (get_or xs i (pos 0))) ≡ get_or xs i (pos 0)
back xs us p i = to_z-of_z (each-sfits xs us i p)

-- a result of a call: what its `.ok` says
pub held : (z : ℤ) → mag z < 2 ^ 63 → to_z w64 (of_z w64 z) ≡ z
held z p = to_z-of_z {w = w64} {z = z} (record { sfits = p })

-- what a struct tells of its fields that are i64, field by field, R being what it tells of those behind them
abbrev pub Told : List ℤ → Type 0 → Type 0
Told [] R = R
Told (z ∷ zs) R = (◌≡◌ {A = List Val} (vint w64 (of_z w64 z) ∷ []) (vint w64 (of_z w64 z) ∷ []) × mag z < 2 ^ 63) × Told zs R

abbrev pub bits : List ℤ → List ℤ
bits [] = []
bits (z ∷ zs) = to_z w64 (of_z w64 z) ∷ bits zs

pub backs : (zs : List ℤ) (R : Type 0) → Told zs R → bits zs ≡ zs
backs [] R p = refl
backs (z ∷ zs) R p = λ i. held z p.0.1 i ∷ backs zs R p.1 i

pub rest : (zs : List ℤ) (R : Type 0) → Told zs R → R
rest [] R p = p
rest (z ∷ zs) R p = rest zs R p.1
