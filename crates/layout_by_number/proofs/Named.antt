-- The fields with a declared range of a message with names.
-- Assumes nothing.
use Prim.Native.Nat.{ℕ, ◌+◌, ◌*◌, ◌≤◌}
use native.Mathlib.Omega.{arith}
use mathlib.Core.Path.{◌≡◌, refl, ap, ap₂, ◌∙◌}
use mathlib.Core.List.{List, [], ◌∷◌, ◌++◌, map, append_assoc}
use lib.ListN.{replicate}
use Rattle.layout.specs.Layout.{uint, int_to, total}
use Rattle.layout.specs.Inner.{refusal_of, size_refusal}
use Rattle.layout.specs.Private.{places_refusal}
use Rattle.layout.proofs.Places.{ranged_at, ranged, ranged-moved, ranged-behind, ranged-check}
use Rattle.layout_tables.specs.Layouts.{names, tail1021, tail1022, layout1021, layout1022}
use Rattle.layout_tables.proofs.Length.{length-1021, length-1022, total-1021, total-1022}
use Rattle.layout_by_number.specs.Private.{named_refusal}

module _ (n m : ℕ) (tail : List ℕ) where
  behind : names n m ++ tail ≡ uint 12 ∷ uint 5 ∷ (replicate n (uint 8) ++ (uint 5 ∷ (replicate m (uint 8) ++ tail)))
  behind =
      append_assoc ((uint 12 ∷ uint 5 ∷ []) ++ replicate n (uint 8) ++ (uint 5 ∷ [])) (replicate m (uint 8)) tail
      ∙ append_assoc ((uint 12 ∷ uint 5 ∷ []) ++ replicate n (uint 8)) (uint 5 ∷ []) (replicate m (uint 8) ++ tail)

  named-starts : (ranged_at 0 (names n m ++ tail) ≡ ranged_at (22 + 8 * (n + m)) tail) × (ranged (names n m ++ tail) ≡ ranged tail)
  unfolding ranged_at ranged
  named-starts =
      let a = ranged-behind n (uint 8) 17 (uint 5 ∷ (replicate m (uint 8) ++ tail)) refl in
      let b = ranged-behind m (uint 8) (17 + n * 8 + 5) tail refl in
      (ap (ranged_at 0) behind ∙ a.0 ∙ b.0 ∙ ap (λ (k : ℕ). ranged_at k tail) (omega arith), ap ranged behind ∙ a.1 ∙ b.1)

-- where a tail has two such fields, as those of 1021 and 1022 have
abbrev Two : List ℕ → Type 0
Two tail = (ranged_at 0 tail ≡ 29 ∷ 48 ∷ []) × (ranged tail ≡ int_to 19 162000 ∷ int_to 20 324000 ∷ [])

two-1021 : Two tail1021
unfolding tail1021 ranged_at ranged
two-1021 = (refl, refl)

two-1022 : Two tail1022
unfolding tail1022 ranged_at ranged
two-1022 = (refl, refl)

places : (n m bits : ℕ) (tail s : List ℕ) → Two tail
    → places_refusal (size_refusal (bits + 8 * (n + m)) s) (ranged_at 0 (names n m ++ tail)) (ranged (names n m ++ tail)) s ≡ named_refusal bits n m s
unfolding places_refusal
places n m bits tail s t =
    let p : ℕ = 22 + 8 * (n + m) in
    let e : p ≡ p + 0 = omega arith in
    let a : p + 29 ≡ 51 + 8 * (n + m) = omega arith in
    let b : p + 48 ≡ 70 + 8 * (n + m) = omega arith in
    let starts : ranged_at p tail ≡ (51 + 8 * (n + m)) ∷ (70 + 8 * (n + m)) ∷ [] = ap (λ (k : ℕ). ranged_at k tail) e ∙ ranged-moved tail p 0 ∙ ap (map (◌+◌ p)) t.0 ∙ ap₂ (λ (x y : ℕ). x ∷ y ∷ []) a b in
    rw ((named-starts n m tail).0, (named-starts n m tail).1, starts, t.1)

module _ (n m : ℕ) (s : List ℕ) (few : n ≤ 31) (less : m ≤ 31) where
  pub check-1021 : refusal_of (layout1021 n m) s ≡ named_refusal 412 n m s
  unfolding layout1021
  check-1021 = rw (ranged-check (layout1021 n m) s (omega (arith, length-1021 n m)), total-1021 n m) (places n m 412 tail1021 s two-1021)

  pub check-1022 : refusal_of (layout1022 n m) s ≡ named_refusal 517 n m s
  unfolding layout1022
  check-1022 = rw (ranged-check (layout1022 n m) s (omega (arith, length-1022 n m)), total-1022 n m) (places n m 517 tail1022 s two-1022)

-- a message of no field
pub check-none : (s : List ℕ) → refusal_of [] s ≡ size_refusal 0 s
unfolding places_refusal ranged_at ranged total
check-none s = ranged-check [] s (omega arith)
