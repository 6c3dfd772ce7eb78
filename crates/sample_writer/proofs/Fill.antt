-- A list that is filled from the front, part by part, and the bytes of a point and of a file as they are put one behind the other.
-- Assumes nothing.
use mathlib.Core.Path.{◌≡◌, refl, sym, ap, ◌∙◌, subst}
use mathlib.Core.List.{List, [], ◌∷◌, ◌++◌, append_assoc, append-nil}
use Prim.Native.Nat.{ℕ, ◌+◌, ◌-◌, ◌%◌, ◌≤◌, ◌<◌}
use native.Mathlib.Omega.{arith}
use borrow.Rule.Slice.PartMut.{put_mid, Post-is}
use lib.IntN.{ℤ}
use lib.ListN.{length, take, drop, length-append, length-drop, drop_of_length-le}
use lib.Seq.{take_at, drop_at, drop-drop, length-take-le}
use Rattle.sample_numbers.specs.Number.{bytes_of, whole_bytes, put_bytes}
use Rattle.sample_numbers.proofs.Number.{length-bytes_of, length_whole, put-within}
use Rattle.sample_files.specs.declared.SamplePoint.{SamplePoint}
use Rattle.sample_files.specs.File.{field, point_field, point_fields, file_of}
use Rattle.sample_files.proofs.Bytes.{length-contents}

-- t begins with the a bytes p, and from there on is t₀
pub record Begins (t₀ t p : List ℕ) (a : ℕ) : Type 0 where
  pub size : length p ≡ a
  pub is : t ≡ p ++ drop a t₀

pub begins : (t : List ℕ) → Begins t t [] 0
begins t = record { size = refl; is = refl }

module _ {t₀ t p : List ℕ} {a : ℕ} (b : Begins t₀ t p a) where
  pub same_size : a ≤ length t₀ → length t ≡ length t₀
  same_size h = ap length b.is ∙ length-append p (drop a t₀) ∙ omega (arith, b.size, length-drop a t₀)

  joined : (k : ℕ) (z t' : List ℕ) → length z ≡ k → t' ≡ take a t ++ (z ++ drop (a + k) t) → Begins t₀ t' (p ++ z) (a + k)
  joined k z t' l e =
      record {
        size = length-append p z ∙ omega (arith, b.size);
        is =
            e
            ∙ rw (b.is, take_at p (drop a t₀) a b.size, ← drop-drop k a (p ++ drop a t₀), drop_at p (drop a t₀) a b.size, drop-drop k a t₀)
            (sym (append_assoc p z (drop (a + k) t₀)));
      }

  pub and_bytes : (k : ℕ) (z t' : List ℕ) → length z ≡ k → a + k ≤ length t₀ → t' ≡ put_bytes t a z → Begins t₀ t' (p ++ z) (a + k)
  and_bytes k z t' l h e =
      joined k z t' l
      (e ∙ put-within t a z (omega (arith, same_size (omega arith))) ∙ ap (λ (n : ℕ). take a t ++ (z ++ drop (a + n) t)) l)

  pub and-number : (k v : ℕ) (t' : List ℕ) → a + k ≤ length t₀ → t' ≡ put_bytes t a (bytes_of k v) → Begins t₀ t' (p ++ bytes_of k v) (a + k)
  and-number k v t' h e = and_bytes k (bytes_of k v) t' (length-bytes_of k v) h e

  pub and-whole : (z : ℤ) (t' : List ℕ) → a + 8 ≤ length t₀ → t' ≡ put_bytes t a (whole_bytes z) → Begins t₀ t' (p ++ whole_bytes z) (a + 8)
  and-whole z t' h e = and_bytes 8 (whole_bytes z) t' (length_whole z) h e

  -- the same of a part that was lent and has kept its length
  pub and-part : (e : ℕ) (z : List ℕ) → a ≤ e → e ≤ length t → length z ≡ length (take (e - a) (drop a t)) → Begins t₀ (put_mid a (e - a) t z) (p ++ z) e
  and-part e z h g l =
      let k : e ≡ a + (e - a) = omega arith in
      let n : length z ≡ e - a = l ∙ length-take-le (e - a) (drop a t) (omega (arith, length-drop a t)) in
      subst (λ (j : ℕ). Begins t₀ (put_mid a (e - a) t z) (p ++ z) j) (sym k)
      (joined (e - a) z (put_mid a (e - a) t z) n (ap (λ (r : List ℕ). take a t ++ (z ++ r)) (Post-is a e t h ∙ ap (λ (j : ℕ). drop j t) k)))

  pub filled : length t₀ ≤ a → t ≡ p
  filled h = rw (b.is, drop_of_length-le t₀ h) (append-nil p)

-- ---- the bytes of a point and of a file

one_byte : (c : ℕ) → c < 256 → bytes_of 1 c ≡ c ∷ []
unfolding bytes_of
one_byte c h = let e : c % 256 ≡ c = omega arith in ap (λ (n : ℕ). n ∷ []) e

regroup : (x a c n e z : List ℕ) → ((((([] ++ x) ++ a) ++ c) ++ n) ++ e) ++ z ≡ x ++ (a ++ (c ++ (n ++ (e ++ z))))
regroup x a c n e z = simp append_assoc

pub put-point-is : (p : SamplePoint) (n e z : ℤ) → p.component < 256 → n ≡ p.north → e ≡ p.east → z ≡ p.claim
    → ((((([] ++ bytes_of 1 2) ++ bytes_of 2 25) ++ bytes_of 1 p.component) ++ whole_bytes n) ++ whole_bytes e) ++ whole_bytes z ≡ point_field p
unfolding point_field field
put-point-is p n e z h a b d =
    regroup (bytes_of 1 2) (bytes_of 2 25) (bytes_of 1 p.component) (whole_bytes n) (whole_bytes e) (whole_bytes z)
    ∙ λ i. one_byte 2 (omega arith) i
    ++ (bytes_of 2 (sym (length-contents p) i)
    ++ (one_byte p.component h i ++ (whole_bytes (a i) ++ (whole_bytes (b i) ++ whole_bytes (d i)))))

pub put-file-is : (m : List ℕ) (ps : List SamplePoint) → ((([] ++ bytes_of 1 1) ++ bytes_of 2 (length m)) ++ m) ++ point_fields ps ≡ file_of m ps
unfolding file_of field
put-file-is m ps = rw (one_byte 1 (omega arith)) (simp append_assoc)
