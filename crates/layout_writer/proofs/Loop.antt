-- The invariants of the loops over a layout and a row.
-- Assumes nothing.
use mathlib.Core.Path.{◌≡◌, refl, sym, ap, ◌∙◌}
use mathlib.Core.List.{List, []}
use mathlib.Core.Bool.{Bool, true, false, ◌&&◌}
use Prim.Native.Nat.{ℕ, ◌+◌, ◌<◌}
use lib.IntN.{ℤ, pos}
use lib.ListN.{length, get_or, drop}
use lib.Seq.{drop-length}
use Rattle.arith.proofs.Tests.{both_first, both-second}
use Rattle.field.specs.Field.{set_field, pattern_of}
use Rattle.field.proofs.Bit.{length-set_field}
use Rattle.layout.specs.Layout.{width, encode_into, reading_in, row_of, place_takes, row_takes}
use Rattle.layout.proofs.Loop.{split, row-lengths, At, at-starts, at-goes-on}

-- ---- checking

pub uneven : (es : List ℕ) (zs : List ℤ) (bs : List ℕ) → ((length es ≡ length zs) × (length es ≡ length bs) → ⊥) → row_takes es zs bs ≡ false
uneven es zs bs f = by (row_takes es zs bs) (λ t. f (row-lengths es zs bs t))
  where
    by : (b : Bool) → (b ≡ true → ⊥) → b ≡ false
    by true g = absurd (g refl)
    by false g = refl

module _ (es : List ℕ) (zs : List ℤ) (bs : List ℕ) (i : ℕ) where
  pub head-row : i < length es → i < length zs → i < length bs → row_takes (drop i es) (drop i zs) (drop i bs)
      ≡ (place_takes (get_or es i 0) (get_or zs i (pos 0)) (get_or bs i 0) && row_takes (drop (i + 1) es) (drop (i + 1) zs) (drop (i + 1) bs))
  unfolding row_takes
  head-row h k l = rw (split 0 es i h, split (pos 0) zs i k, split 0 bs i l)

  pub row-left : i ≡ length es → i ≡ length zs → i ≡ length bs → row_takes (drop i es) (drop i zs) (drop i bs) ≡ true
  unfolding row_takes
  row-left h k l =
      let e : drop i es ≡ [] = ap (λ (n : ℕ). drop n es) h ∙ drop-length es in
      let z : drop i zs ≡ [] = ap (λ (n : ℕ). drop n zs) k ∙ drop-length zs in
      let b : drop i bs ≡ [] = ap (λ (n : ℕ). drop n bs) l ∙ drop-length bs in
      rw (e, z, b)

-- ---- writing
pub record Writing (s₀ es : List ℕ) (zs : List ℤ) (bs s : List ℕ) (at i : ℕ) : Type 0 where
  pub place : At es 0 at i
  pub sized : length s ≡ length s₀
  pub taken : row_takes (drop i es) (drop i zs) (drop i bs) ≡ true
  pub done : encode_into (drop i es) (row_of (drop i zs) (drop i bs)) at s ≡ encode_into es (row_of zs bs) 0 s₀

module _ (s₀ es : List ℕ) (zs : List ℤ) (bs : List ℕ) where
  pub writing-starts : row_takes es zs bs ≡ true → Writing s₀ es zs bs s₀ 0 0
  writing-starts t = record { place = at-starts es 0; sized = refl; taken = t; done = refl }

  module _ (s : List ℕ) (at i : ℕ) (r : Writing s₀ es zs bs s at i) where
    pub writing-goes-on : (t : List ℕ) → i < length es → i < length zs → i < length bs
        → t ≡ set_field s at (width (get_or es i 0)) (pattern_of (width (get_or es i 0)) (reading_in (get_or zs i (pos 0)) (get_or bs i 0)))
        → Writing s₀ es zs bs t (at + width (get_or es i 0)) (i + 1)
    writing-goes-on t h k l e =
        record {
          place = at-goes-on es 0 at i r.place h;
          sized = ap length e ∙ length-set_field s at (width (get_or es i 0)) _ ∙ r.sized;
          taken = both-second (place_takes (get_or es i 0) (get_or zs i (pos 0)) (get_or bs i 0)) _ (sym (head-row es zs bs i h k l) ∙ r.taken);
          done = rw e (sym head ∙ r.done);
        }
      where
        head : encode_into (drop i es) (row_of (drop i zs) (drop i bs)) at s
            ≡ encode_into (drop (i + 1) es) (row_of (drop (i + 1) zs) (drop (i + 1) bs)) (at + width (get_or es i 0)) (set_field s at (width (get_or es i 0)) (pattern_of (width (get_or es i 0)) (reading_in (get_or zs i (pos 0)) (get_or bs i 0))))
        head = unfold encode_into row_of in rw (split 0 es i h, split (pos 0) zs i k, split 0 bs i l)

    pub entry-taken : i < length es → i < length zs → i < length bs → place_takes (get_or es i 0) (get_or zs i (pos 0)) (get_or bs i 0) ≡ true
    entry-taken h k l = both_first (place_takes (get_or es i 0) (get_or zs i (pos 0)) (get_or bs i 0)) _ (sym (head-row es zs bs i h k l) ∙ r.taken)

    pub writing-ends : i ≡ length es → s ≡ encode_into es (row_of zs bs) 0 s₀
    unfolding encode_into
    writing-ends e = rw (e, drop-length es) at r.done
