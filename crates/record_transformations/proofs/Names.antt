-- A name and the places that it is read from are each other's inverse.
-- Assumes nothing.
use Rattle.std.proofs.Common.{ℤ, Option, Some}
use Prim.Native.Nat.{ℕ, ◌+◌, ◌-◌, ◌%◌, ◌≤◌, ◌<◌}
use native.Mathlib.Nat.{add-zero}
use native.Mathlib.Numerals.{one-add}
use native.Mathlib.Omega.{arith}
use mathlib.Core.Path.{◌≡◌, refl, sym, ap, ◌∙◌}
use mathlib.Core.Bool.{Bool, true, false, ◌||◌}
use mathlib.Core.List.{List, ◌∷◌, ◌++◌}
use borrow.Author.Tests.{le-ltb, ltb-false, le-leb, eq-eqb, eqb-true}
use lib.Dec.{leb, ltb}
use lib.IntN.{pos}
use lib.ListN.{length, get_or, take, drop, replicate, length-drop, length-replicate, get_or-replicate, take-append-drop, get_or-append, get_or-eq_default}
use lib.Seq.{get_or-take, get_or-drop, ext_get_or, length-take-le, get_or-append-add}
use Rattle.arith.specs.Lists.{up_to, all_below}
use Rattle.arith.specs.Whole.{natural}
use Rattle.arith.proofs.Tests.{all-at, both-second}
use Rattle.arith.proofs.Lists.{up_to-add, up_to-same, is-up_to, length-up_to, get_d-up_to, get_d-filled, all_true}
use Rattle.layout.specs.Layout.{value_in}
use Rattle.record_transformations.specs.declared.Name.{Name}
use Rattle.record_rows.specs.Numbers.{says, number_at, counter_at}
use Rattle.record_transformations.specs.Transformations.{name_at, name_row, char_at, char_good, good_name}
use Rattle.record_rows.proofs.Rows.{counter-most}
use Rattle.record_transformations.proofs.Parts.{good_length}

-- each used character is a byte
abbrev pub Bytes : Name → Type 0
Bytes n = (j : ℕ) → j < n.length → get_or n.chars j 0 < 256

-- the places from place k on
abbrev pub part : (ℕ → Option ℤ) → ℕ → ℕ → List (Option ℤ)
part v k n = up_to (λ j. v (k + j)) n

-- ---- any name that is read is good

unused : (xs : List ℕ) (n j : ℕ) → length xs ≤ j → get_or (xs ++ replicate n 0) j 0 ≡ 0
unused xs n j h = get_d-filled xs n j 0 ∙ get_or-eq_default xs 0 h

either : (a b : Bool) → (a ≡ false → b ≡ true) → (a || b) ≡ true
either true b h = refl
either false b h = h refl

pub name_at-good : (v : ℕ → Option ℤ) (k : ℕ) → good_name (name_at v k) ≡ true
unfolding good_name name_at
name_at-good v k =
    let l = counter_at v k in
    let f : ℕ → ℕ = λ j. natural (number_at v (k + 1 + j)) % 256 in
    let e = length-up_to f l in
    rw (le-leb l 31 (counter-most v k))
    (all_true (char_good (name_at v k)) 31
    (λ j h.
    either (ltb j l) _
    (λ u. let m = ltb-false j l u in eq-eqb _ 0 (unused (up_to f l) (31 - l) j (omega arith)))))

-- ---- from a name to its places and back

-- a counter of 0 to 31
pub counter-is : (v : ℕ → Option ℤ) (k n : ℕ) → v k ≡ Some (pos n) → n ≤ 31 → counter_at v k ≡ n
counter-is v k n e h = rw (e, le-leb n 31 h)

good-zero : (n : Name) → good_name n ≡ true → (j : ℕ) → n.length ≤ j → j < 31 → get_or n.chars j 0 ≡ 0
unfolding good_name
good-zero n g j h l =
    eqb-true _ 0 (rw (le-ltb j n.length h) at (all-at (char_good n) 31 (both-second (leb n.length 31) (all_below (char_good n) 31) g) j l))

module _ (n : Name) (e : length n.chars ≡ 31) (b : Bytes n) (g : good_name n ≡ true) where
  zeros : replicate (31 - n.length) 0 ≡ drop n.length n.chars
  zeros =
      let s = good_length n g in
      let d = length-drop n.length n.chars in
      let r = length-replicate {A = ℕ} (31 - n.length) 0 in
      ext_get_or 0 (replicate (31 - n.length) 0) (drop n.length n.chars) (omega arith)
      (λ j h.
      let l : j < 31 - n.length = omega arith in
      get_or-replicate (31 - n.length) j 0 0 l ∙ sym (good-zero n g (n.length + j) (omega arith) (omega arith)) ∙ sym (get_or-drop n.length n.chars j 0))

  pub name_at-is : (v : ℕ → Option ℤ) (k : ℕ) → v k ≡ Some (pos n.length) → ((j : ℕ) → j < n.length → v (k + 1 + j) ≡ char_at n.chars j) → name_at v k ≡ n
  unfolding name_at
  name_at-is v k p h =
      let s = good_length n g in
      let c = counter-is v k n.length p s in
      let f : ℕ → ℕ = λ j. natural (number_at v (k + 1 + j)) % 256 in
      let used : take n.length n.chars ≡ up_to f n.length =
      is-up_to f n.length 0 (take n.length n.chars) (length-take-le n.length n.chars (omega arith))
      (λ j l.
      let m = b j l in
      let t : get_or n.chars j 0 ≡ get_or n.chars j 0 % 256 = omega arith in
      get_or-take n.length n.chars j 0 l ∙ t ∙ ap (λ (r : Option ℤ). natural (value_in r) % 256) (sym (h j l))) in
      λ i. record {
        length = c i;
        chars =
            (ap (λ (l : ℕ). up_to f l ++ replicate (31 - l) 0) c
            ∙ ap (λ (l : List ℕ). l ++ replicate (31 - n.length) 0) (sym used)
            ∙ ap (λ (l : List ℕ). take n.length n.chars ++ l) zeros
            ∙ take-append-drop n.length n.chars) i;
      }

  -- the name that stands in a row behind p
  pub name_in : (p q v : List (Option ℤ)) (k : ℕ) → v ≡ p ++ (name_row n ++ q) → length p ≡ k → name_at (says v) k ≡ n
  unfolding name_row
  name_in p q v k d l =
      let r = up_to (char_at n.chars) n.length in
      let row = Some (pos n.length) ∷ r ++ q in
      let there : (j : ℕ) → says v (k + j) ≡ says row j =
      λ j. ap (λ (x : List (Option ℤ)). says x (k + j)) d ∙ ap (λ (m : ℕ). says (p ++ row) (m + j)) (sym l) ∙ get_or-append-add p row j (Some (pos 0)) in
      name_at-is (says v) k (ap (says v) (sym (add-zero k)) ∙ there 0)
      (λ j h.
      let a : k + 1 + j ≡ k + (1 + j) = omega arith in
      let o = length-up_to (char_at n.chars) n.length in
      let c : says row (1 + j) ≡ says (r ++ q) j = ap (says row) (one-add j) in
      ap (says v) a ∙ there (1 + j) ∙ c
      ∙ get_or-append r q (Some (pos 0)) j (omega arith) ∙ get_d-up_to (char_at n.chars) n.length j (Some (pos 0)) h)

-- ---- from places to a name and back

module _ (v : ℕ → Option ℤ) (k n : ℕ) (h : n ≤ 31) (e : v k ≡ Some (pos n)) (b : (j : ℕ) → j < n → Some (pos (natural (number_at v (k + 1 + j)) % 256)) ≡ v (k + 1 + j)) where
  pub name_row-is : name_row (name_at v k) ≡ part v k (1 + n)
  unfolding name_row name_at
  name_row-is =
      let c = counter-is v k n e h in
      let f : ℕ → ℕ = λ j. natural (number_at v (k + 1 + j)) % 256 in
      let chars : ℕ → List ℕ = λ l. up_to f l ++ replicate (31 - l) 0 in
      let o = length-up_to f n in
      ap (λ (l : ℕ). Some (pos l) ∷ up_to (char_at (chars l)) l) c
      ∙ (λ i. (sym e ∙ ap v (sym (add-zero k))) i ∷
      up_to-same (char_at (chars n)) (λ j. v (k + (1 + j))) n
      (λ j l.
      let a : k + 1 + j ≡ k + (1 + j) = omega arith in
      ap (λ (x : ℕ). Some (pos x)) (get_or-append (up_to f n) (replicate (31 - n) 0) 0 j (omega arith) ∙ get_d-up_to f n j 0 l) ∙ b j l ∙ ap v a) i)
      ∙ sym (up_to-add (λ j. v (k + j)) 1 n)

-- t behind s, as places of a row
pub grow : (v : ℕ → Option ℤ) (s t : List (Option ℤ)) (a c k l : ℕ) → s ≡ up_to v a → t ≡ part v k c → k ≡ a → a + c ≡ l → s ++ t ≡ up_to v l
grow v s t a c k l p q f g =
    (λ i. p i ++ q i) ∙ ap (λ (m : ℕ). up_to v a ++ part v m c) f ∙ sym (up_to-add v a c) ∙ ap (up_to v) g
