-- Places of one cell that lack a value: between the edges the same nodes have weight, and those of an edge too, so the first place and the second tell.
-- Assumes nothing.
use Rattle.std.proofs.Common.{ℤ, Option}
use mathlib.Core.Path.{◌≡◌, refl, sym, ap, ◌∙◌, subst}
use mathlib.Core.Bool.{Bool, true, false, not, cond, ◌&&◌, ◌||◌, true≢false}
use Prim.Native.Nat.{ℕ, zero, suc, ◌+◌, ◌*◌, ◌-◌, ◌≤◌, ◌<◌}
use native.Mathlib.Nat.{mul-pos, mul-zero, suc-mul, mul-le-mul_right, zero-lt-suc}
use native.Mathlib.Omega.{arith}
use borrow.Author.Tests.{eqb-false, eq-eqb, ne_eqb}
use lib.Dec.{eqb, eqb-suc-zero}
use Rattle.arith.specs.Lists.{all_below}
use Rattle.arith.proofs.First.{or-false}
use Rattle.arith.proofs.Lists.{all_true}
use Rattle.arith.proofs.Tests.{all-stops}
use Rattle.grid_bilinear.specs.Bilinear.{lacks}
use Rattle.layout.specs.Layout.{available}
use Rattle.grid_fields.specs.declared.Nodes.{Nodes}
use Rattle.grid_row_refusals.specs.Private.{lacking_at}

-- a node that is not lacked where it has weight, is not lacked at all
no-weight : (a b : ℕ) (p : Bool) → (a ≡ 0 → b ≡ 0) → lacks a p ≡ false → lacks b p ≡ false
unfolding lacks
no-weight zero b p h e = rw (h refl)
no-weight (suc a) b true h e = by (eqb b 0)
  where
    by : (t : Bool) → (not t && false) ≡ false
    by true = refl
    by false = refl
no-weight (suc a) b false h e = let z : ◌≡◌ {A = Bool} true false = rw (eqb-suc-zero a) at e in absurd (true≢false z)

-- a product that is 0, by its other factor
product-zero : (u v t : ℕ) → 0 < u → u * v ≡ 0 → t * v ≡ 0
product-zero u zero t h e = mul-zero t
product-zero u (suc v) t h e = absurd (omega (arith, mul-pos h (zero-lt-suc v)))

or_parts : (m a b c d : Bool) → (m || a || b || c || d) ≡ false → (m ≡ false) × (a ≡ false) × (b ≡ false) × (c ≡ false) × (d ≡ false)
or_parts m a b c d h =
    let p = or-false (m || a || b || c) d h in
    let q = or-false (m || a || b) c p.0 in
    let r = or-false (m || a) b q.0 in
    let t = or-false m a r.0 in
    (t.0, t.1, r.1, q.1, p.1)

module _ (mean : Option ℤ) (n : Nodes) (h w y : ℕ) where
  -- what a place between the edges has, every place has
  pub between : (x t : ℕ) → 0 < x → x < w → lacking_at mean n h w y x ≡ false → lacking_at mean n h w y t ≡ false
  between x t a b e =
      let p =
      or_parts (not (available mean)) (lacks ((w - x) * (h - y)) (available n.sw)) (lacks (x * (h - y)) (available n.se)) (lacks ((w - x) * y) (available n.nw))
      (lacks (x * y) (available n.ne)) e in
      let c : 0 < w - x = omega arith in
      rw (
        p.0,
        no-weight _ ((w - t) * (h - y)) (available n.sw) (product-zero (w - x) (h - y) (w - t) c) p.1,
        no-weight _ (t * (h - y)) (available n.se) (product-zero x (h - y) t a) p.2,
        no-weight _ ((w - t) * y) (available n.nw) (product-zero (w - x) y (w - t) c) p.3,
      )
      (no-weight _ (t * y) (available n.ne) (product-zero x y t a) p.4)

  -- what the first place and the second have, every place has
  on : (x step k : ℕ) → x + k * step ≤ w → lacking_at mean n h w y x ≡ false → lacking_at mean n h w y (x + step) ≡ false → lacking_at mean n h w y (x + k * step) ≡ false
  on x step zero l e f = let z : x + 0 * step ≡ x = omega arith in rw z e
  on x step (suc zero) l e f = let z : x + 1 * step ≡ x + step = omega arith in rw z f
  on x zero (suc (suc k)) l e f = let z : x + suc (suc k) * 0 ≡ x = omega arith in rw z e
  on x (suc d) (suc (suc k)) l e f = between (x + suc d) (x + suc (suc k) * suc d) (omega arith) (omega (arith, l, suc-mul (suc k) (suc d), suc-mul k (suc d))) f

  -- places from x on
  module _ (x step : ℕ) where
    abbrev has : ℕ → Bool
    has j = not (lacking_at mean n h w y (x + j * step))

    at_first : {b : Bool} → lacking_at mean n h w y x ≡ b → has 0 ≡ not b
    at_first e = let z : x + 0 * step ≡ x = omega arith in rw z (ap not e)

    pub first-lacks : (places : ℕ) → 0 < places → lacking_at mean n h w y x ≡ true → all_below has places ≡ false
    first-lacks places l e = all-stops has 0 places (at_first e) l

    pub second-lacks : (places : ℕ) → 2 ≤ places → lacking_at mean n h w y (x + step) ≡ true → all_below has places ≡ false
    second-lacks places l e =
        let z : x + 1 * step ≡ x + step = omega arith in
        all-stops has 1 places (rw z (ap not e)) l

    pub one_has : (places : ℕ) → places < 2 → lacking_at mean n h w y x ≡ false → all_below has places ≡ true
    one_has places l e = all_true has places (λ j b. let z : 0 ≡ j = omega arith in subst (λ (m : ℕ). has m ≡ true) z (at_first e))

    pub two-have : (places : ℕ) → x + (places - 1) * step ≤ w → lacking_at mean n h w y x ≡ false → lacking_at mean n h w y (x + step) ≡ false → all_below has places ≡ true
    two-have places last e f =
        all_true has places (λ k b. let m : k * step ≤ (places - 1) * step = mul-le-mul_right step (omega arith) in ap not (on x step k (omega arith) e f))
