-- Bounds of weights, of the weighted sum and of its parts, and the nearest whole number by quotient and rest.
-- Assumes nothing.
use mathlib.Core.Path.{◌≡◌, refl, sym, ap, ◌∙◌, subst}
use Prim.Native.Nat.{ℕ, ◌+◌, ◌*◌, ◌-◌, ◌/◌, ◌%◌, ◌≤◌, ◌<◌}
use native.Mathlib.Nat.{mul-le-mul, mul-le-mul_left, le_trans, mul-pos, mod-lt, div-add-mod', div-eq_of_lt-le}
use native.Mathlib.Omega.{arith}
use borrow.Author.Tests.{le-ltb}
use lib.IntN.{ℤ, pos, negsuc, neg_ℤ, nat_abs, ◌+ℤ◌, ◌*ℤ◌}
use Rattle.arith.proofs.Int.{abs-add, abs-mul}
use Rattle.arith.proofs.Machine.{Num, arg, cast, mul, add, add-within}
use mir.Syntax.{w64}
use mir.Val.{Fits, to_z, of_z}
use Rattle.grid_bilinear.specs.Bilinear.{nearest_whole}
use Rattle.grid_bilinear.proofs.Bounds.{weighted-bound, nearest-bound}
use Rattle.grid_cell.specs.Inner.{weights_of, area_of, sum_by, sum_of}
use Rattle.grid_cell.specs.Private.{Within, Weighed, Most, with_sign}
use Rattle.grid_cell.specs.declared.Corners.{Corners}
use Rattle.grid_cell.specs.declared.Weights.{Weights}

pub product : (a b : ℕ) → a ≤ 40950000 → b ≤ 40950000 → a * b ≤ 1676902500000000
product a b h k = mul-le-mul h k

pub scaled : (f : ℕ) (z : ℤ) → f ≤ 10 → nat_abs z ≤ 256 → nat_abs (pos f *ℤ z) ≤ 2560
scaled f z h k = subst (λ (m : ℕ). m ≤ 2560) (sym (abs-mul (pos f) z)) (mul-le-mul h k)

-- a raw node times its counts, as the code reads it
pub counts : (f : ℕ) (z : ℤ) → f ≤ 10 → nat_abs z ≤ 256 → to_z w64 (of_z w64 (to_z w64 f *ℤ to_z w64 (of_z w64 z))) ≡ pos f *ℤ z
counts f z h k = (mul (cast f 10 h tt) (arg z 256 k tt) tt).held

pub fits-weight : {n : ℕ} → n ≤ 1676902500000000 → Fits w64 n
fits-weight h = record { fits = omega arith }

-- ---- four weights, and nodes of at most 2,560

abbrev pub size : Weights → (sw se nw ne : ℤ) → ℕ
size k sw se nw ne = nat_abs (pos k.sw *ℤ sw) + nat_abs (pos k.se *ℤ se) + nat_abs (pos k.nw *ℤ nw) + nat_abs (pos k.ne *ℤ ne)

pub in_area : (k : Weights) (sw se nw ne : ℤ) → nat_abs sw ≤ 2560 → nat_abs se ≤ 2560 → nat_abs nw ≤ 2560 → nat_abs ne ≤ 2560
    → size k sw se nw ne ≤ 2560 * area_of k
in_area k sw se nw ne a b c d =
    omega (
      arith,
      abs-mul (pos k.sw) sw,
      abs-mul (pos k.se) se,
      abs-mul (pos k.nw) nw,
      abs-mul (pos k.ne) ne,
      mul-le-mul_left k.sw a,
      mul-le-mul_left k.se b,
      mul-le-mul_left k.nw c,
      mul-le-mul_left k.ne d,
    )

pub three-of : (p q r s : ℤ) {b : ℕ} → nat_abs p + nat_abs q + nat_abs r + nat_abs s ≤ b → nat_abs (p +ℤ q +ℤ r) ≤ b
three-of p q r s h = omega (arith, h, abs-add p q, abs-add (p +ℤ q) r)

pub four-of : (p q r s : ℤ) {b : ℕ} → nat_abs p + nat_abs q + nat_abs r + nat_abs s ≤ b → nat_abs (p +ℤ q +ℤ r +ℤ s) ≤ b
four-of p q r s h = omega (arith, h, abs-add p q, abs-add (p +ℤ q) r, abs-add (p +ℤ q +ℤ r) s)

-- the products and the partial sums of the code
module _ (k : Weights) (n : Corners) (light : area_of k ≤ 1676902500000000) (small : Most 2560 n) where
  abbrev pub p₁ : Num
  p₁ = mul (cast k.sw 1676902500000000 (omega (arith, light)) tt) (arg n.sw 2560 small.sw tt) tt

  abbrev pub p₂ : Num
  p₂ = mul (cast k.se 1676902500000000 (omega (arith, light)) tt) (arg n.se 2560 small.se tt) tt

  abbrev pub p₃ : Num
  p₃ = mul (cast k.nw 1676902500000000 (omega (arith, light)) tt) (arg n.nw 2560 small.nw tt) tt

  abbrev pub p₄ : Num
  p₄ = mul (cast k.ne 1676902500000000 (omega (arith, light)) tt) (arg n.ne 2560 small.ne tt) tt

  pub bound : size k n.sw n.se n.nw n.ne ≤ 2560 * 1676902500000000
  bound = le_trans (in_area k n.sw n.se n.nw n.ne small.sw small.se small.nw small.ne) (mul-le-mul_left 2560 light)

  abbrev pub s₂ : Num
  s₂ = add p₁ p₂ tt

  abbrev pub s₃ : Num
  s₃ = add-within s₂ p₃ (2560 * 1676902500000000) (three-of p₁.z p₂.z p₃.z p₄.z bound) tt

  abbrev pub s₄ : Num
  s₄ = add-within s₃ p₄ (2560 * 1676902500000000) (four-of p₁.z p₂.z p₃.z p₄.z bound) tt

-- raw nodes of at most 256, each at most 10 counts
module _ (k : Weights) (f : ℕ) (n : Corners) (h : f ≤ 10) (m : Most 256 n) where
  pub sum-by-most : nat_abs (sum_by f k n) ≤ 2560 * area_of k
  sum-by-most =
      four-of (pos k.sw *ℤ (pos f *ℤ n.sw)) (pos k.se *ℤ (pos f *ℤ n.se)) (pos k.nw *ℤ (pos f *ℤ n.nw)) (pos k.ne *ℤ (pos f *ℤ n.ne))
      (in_area k (pos f *ℤ n.sw) (pos f *ℤ n.se) (pos f *ℤ n.nw) (pos f *ℤ n.ne)
      (scaled f n.sw h m.sw) (scaled f n.se h m.se) (scaled f n.nw h m.nw) (scaled f n.ne h m.ne))

  pub near-by-most : 0 < area_of k → nat_abs (nearest_whole (sum_by f k n) (area_of k)) ≤ 2560
  near-by-most s = nearest-bound _ (area_of k) 2560 s sum-by-most

-- ---- the weights of a place in a cell

module _ {h w y x : ℕ} (p : Within h w y x) where
  pub columns : w - x + x ≤ 40950000
  columns = omega (arith, p.east, p.wide)

  pub rows : h - y + y ≤ 40950000
  rows = omega (arith, p.north, p.high)

  pub southwest : (w - x) * (h - y) ≤ 1676902500000000
  southwest = product (w - x) (h - y) (omega (arith, columns)) (omega (arith, rows))

  pub southeast : x * (h - y) ≤ 1676902500000000
  southeast = product x (h - y) (omega (arith, columns)) (omega (arith, rows))

  pub northwest : (w - x) * y ≤ 1676902500000000
  northwest = product (w - x) y (omega (arith, columns)) (omega (arith, rows))

  pub northeast : x * y ≤ 1676902500000000
  northeast = product x y (omega (arith, columns)) (omega (arith, rows))

  pub area-most : h * w ≤ 1676902500000000
  area-most = product h w p.high.1 p.wide.1

  -- ---- nodes of at most 256 raw numbers, each at most 10 counts
  module _ (f : ℕ) (n : Corners) (k : f ≤ 10) (m : Most 256 n) where
    pub sum-most : nat_abs (sum_of f h w y x n) ≤ 2560 * (h * w)
    sum-most =
        weighted-bound h w y x _ _ _ _ 2560 p.north p.east
        (scaled f n.sw k m.sw) (scaled f n.se k m.se) (scaled f n.nw k m.nw) (scaled f n.ne k m.ne)

    pub near-most : nat_abs (nearest_whole (sum_of f h w y x n) (h * w)) ≤ 2560
    near-most = nearest-bound _ (h * w) 2560 (mul-pos p.high.0 p.wide.0) sum-most

  -- ---- the weights of the place

  abbrev k : Weights
  k = weights_of h w y x

  pub whole : area_of k ≡ h * w
  whole = quarters (w - x) x (h - y) y ∙ (λ i. back p.north i * back p.east i)
    where
      quarters : (u x v y : ℕ) → u * v + x * v + u * y + x * y ≡ (v + y) * (u + x)
      quarters u x v y = omega arith

      back : {a b : ℕ} → a ≤ b → b - a + a ≡ b
      back l = omega arith

  pub weighed : Weighed k
  weighed =
      record {
        some = subst (λ (a : ℕ). 0 < a) (sym whole) (mul-pos p.high.0 p.wide.0);
        most = subst (λ (a : ℕ). a ≤ 1676902500000000) (sym whole) area-most;
      }

-- ---- the nearest whole number, by its sign and its size

pub nearest-size : (s : ℤ) (d : ℕ) → nearest_whole s d ≡ with_sign s ((2 * nat_abs s + d) / (2 * d))
unfolding nearest_whole
nearest-size (pos n) d = rw (le-ltb n 0 (omega arith))
nearest-size (negsuc n) d = refl

module _ (s d : ℕ) (h : 0 < d) where
  parts : s / d * d + s % d ≡ s
  parts = div-add-mod' s d

  -- a rest of half an area or more
  pub half_up_lem : d ≤ 2 * (s % d) → (2 * s + d) / (2 * d) ≡ s / d + 1
  half_up_lem l = div-eq_of_lt-le (2 * d) (omega (arith, parts)) (omega (arith, parts, mod-lt s h))

  -- a smaller one
  pub half_down : 2 * (s % d) < d → (2 * s + d) / (2 * d) ≡ s / d
  half_down l = div-eq_of_lt-le (2 * d) (omega (arith, parts)) (omega (arith, parts))
