-- The buffers of a 1021 or 1022: its parts one behind another, the ones of both names, and the answer.
-- Assumes nothing.
use mathlib.Core.Path.{◌≡◌, refl, sym, ap, subst, ◌∙◌}
use mathlib.Core.Bool.{Bool, true, false, ◌&&◌}
use mathlib.Core.List.{List, [], ◌∷◌, ◌++◌, map, map-append}
use Prim.Native.Nat.{ℕ, zero, suc, ◌+◌, ◌-◌, ◌≤◌}
use native.Mathlib.Nat.{not-suc-le-zero, le_of_suc-le-suc, sub-zero, suc-sub-suc}
use native.Mathlib.Omega.{arith}
use lib.IntN.{ℤ, pos}
use lib.ListN.{length, length-map, length-replicate, replicate}
use Rattle.std.specs.Prelude.{Option, Some}
use Rattle.arith.specs.Lists.{up_to}
use Rattle.arith.specs.Inner.{padded}
use Rattle.arith.proofs.Lists.{length-up_to}
use Rattle.arith.proofs.Tests.{both_first, both-second}
use Rattle.layout.specs.Layout.{value_in, present_in}
use Rattle.record_rows.specs.declared.Row.{Row}
use Rattle.record_rows.specs.Private.{Appended}
use Rattle.record_rows.specs.Numbers.{values_of, present_of}
use Rattle.record_rows.specs.Inner.{numbers, buffers, present_padded}
use Rattle.record_rows.proofs.Appends.{behind, all-good, paste-filled}
use Rattle.record_transformations.specs.declared.Name.{Name}
use Rattle.record_transformations.specs.Private.{names}
use Rattle.record_transformations.specs.Transformations.{name_row, char_at, good_name}
use Rattle.record_transformations.proofs.Parts.{good_length, length-names}
use Rattle.record_transformation_rows.specs.Private.{char_value}

-- ---- a row's buffers: of one part behind another, and of a name

map-up_to : {A B : Type 0} (f : A → B) (g : ℕ → A) (k : ℕ) → map f (up_to g k) ≡ up_to (λ j. f (g j)) k
map-up_to f g zero = refl
map-up_to f g (suc k) = map-append f (up_to g k) (g k ∷ []) ∙ ap (λ l. l ++ (f (g k) ∷ [])) (map-up_to f g k)

pub name-values : (n : Name) → values_of (name_row n) ≡ pos n.length ∷ up_to (char_value n.chars) n.length
unfolding name_row
name-values n = ap (λ l. pos n.length ∷ l) (map-up_to value_in (char_at n.chars) n.length)

-- a list of one part's places behind that of another's
pub maps-behind : {A B : Type 0} (h : A → B) {d e f : List B} {at k r : ℕ} (s t : List A) → Appended d at (map h s) k e → Appended e k (map h t) r f → Appended d at (map h (s ++ t)) r f
maps-behind h s t a b = rw (map-append h s t) (behind (map h s) (map h t) a b)

-- a name: its counter z, and its characters behind it
pub name-behind : {d e f : List ℤ} {at k r : ℕ} (n : Name) (z : ℤ) → z ≡ pos n.length → Appended d at (z ∷ []) k e → Appended e k (up_to (char_value n.chars) n.length) r f → Appended d at (values_of (name_row n)) r f
name-behind n z q a b = rw (name-values n, ← q) (behind (z ∷ []) (up_to (char_value n.chars) n.length) a b)

pub length-name : (n : Name) → length (values_of (name_row n)) ≡ 1 + n.length
length-name n = ap length (name-values n) ∙ omega (arith, length-up_to (char_value n.chars) n.length)

-- ---- the presence bytes of both names are ones

abbrev Ones : List ℕ → Type 0
Ones [] = Unit {0}
Ones (x ∷ l) = (x ≡ 1) × Ones l

ones-append : (s t : List ℕ) → Ones s → Ones t → Ones (s ++ t)
ones-append [] t p q = q
ones-append (x ∷ s) t p q = (p.0, ones-append s t p.1 q)

ones-filled : (m : ℕ) (b : List ℕ) → Ones b → length b ≤ m → replicate m 1 ≡ b ++ replicate (m - length b) 1
ones-filled m [] p h = ap (λ (n : ℕ). replicate n 1) (sym (sub-zero m))
ones-filled zero (x ∷ b) p h = absurd (not-suc-le-zero h)
ones-filled (suc m) (x ∷ b) p h =
    (λ i. sym p.0 i ∷ ones-filled m b p.1 (le_of_suc-le-suc h) i) ∙ ap (λ (n : ℕ). x ∷ b ++ replicate n 1) (sym (suc-sub-suc m (length b)))

ones-chars : (l : List ℕ) (k : ℕ) → Ones (present_of (up_to (char_at l) k))
ones-chars l zero = tt
ones-chars l (suc k) = rw (map-append present_in (up_to (char_at l) k) (char_at l k ∷ [])) (ones-append (present_of (up_to (char_at l) k)) (1 ∷ []) (ones-chars l k) (refl, tt))

ones-name : (n : Name) → Ones (present_of (name_row n))
unfolding name_row
ones-name n = (refl, ones-chars n.chars n.length)

ones-names : (z : ℤ) (s t : Name) → Ones (present_of (names z s t))
ones-names z s t = (refl, rw (map-append present_in (name_row s) (name_row t)) (ones-append (present_of (name_row s)) (present_of (name_row t)) (ones-name s) (ones-name t)))

pub names-most : {z : ℤ} (s t : Name) {d e : List ℤ} {k : ℕ} → s.length ≤ 31 → t.length ≤ 31 → Appended d 0 (values_of (names z s t)) k e → k ≤ 65
names-most {z} s t a b p = omega (arith, p.place, length-map (names z s t) value_in, length-names z s t)

-- they stand at the front of 96 ones
ones-there : (b : List ℕ) → Ones b → length b ≤ 96 → Appended (present_padded []) 0 b (length b) (present_padded [])
unfolding present_padded
ones-there b p h = record { room = rw (length-replicate {A = ℕ} 96 1) (omega arith); place = omega arith; stored = ones-filled 96 b p h ∙ sym (paste-filled 96 1 b) }

pub names-there : {z : ℤ} (s t : Name) {d e : List ℤ} {k : ℕ} → s.length ≤ 31 → t.length ≤ 31 → Appended d 0 (values_of (names z s t)) k e → Appended (present_padded []) 0 (present_of (names z s t)) k (present_padded [])
names-there {z} s t {k = k} a b p =
    let n = length-map (names z s t) present_in in
    let l : length (present_of (names z s t)) ≡ k = omega (arith, p.place, length-map (names z s t) value_in) in
    subst (λ (m : ℕ). Appended (present_padded []) 0 (present_of (names z s t)) m (present_padded [])) l
    (ones-there (present_of (names z s t)) (ones-names z s t) (omega (arith, length-names z s t)))

-- ---- the answer

joined : {A B : Type 0} (f : A → B) (a b c : List A) → map f a ++ map f b ++ map f c ≡ map f (a ++ b ++ c)
joined f a b c = sym (map-append f (a ++ b) c ∙ ap (λ l. l ++ map f c) (map-append f a b))

pub first_good : (a b x : Bool) → a ≡ true → x ≡ b → x ≡ (a && b)
first_good a b x p q = rw p q

pub first-bad : (a b : Bool) → a ≡ false → (a && b) ≡ false
first-bad a b p = rw p

pub good-lengths : (s t : Name) → (good_name s && good_name t) ≡ true → (s.length ≤ 31) × (t.length ≤ 31)
good-lengths s t g = (good_length s (both_first (good_name s) (good_name t) g), good_length t (both-second (good_name s) (good_name t) g))

-- a row from place 0 of fresh buffers on
pub answer : (g : Bool) {z : List ℤ} {b : List ℕ} {k l : ℕ} {e : List ℤ} {f : List ℕ} → g ≡ true → Appended (padded []) 0 z k e → Appended (present_padded []) 0 b l f
    → ◌≡◌ {A = Option Row} (Some (record { count = k; values = e; present = f })) (buffers g z b)
answer g {z} {b} p v w = all-good z b v w ∙ ap (λ (x : Bool). buffers x z b) (sym p)

-- the buffers of a row in three parts
pub three-parts : (g : Bool) (y z : ℤ) (s t : Name) (a b : List (Option ℤ)) {v w : List ℤ} {p q : List ℕ} {n : Option Row} → y ≡ z → v ≡ values_of a → w ≡ values_of b → p ≡ present_of a → q ≡ present_of b
    → n ≡ buffers g (values_of (names y s t) ++ v ++ w) (present_of (names y s t) ++ p ++ q) → n ≡ numbers g (names z s t ++ a ++ b)
three-parts g y z s t a b h k l m o e =
    e
    ∙ (λ i. buffers g (values_of (names (h i) s t) ++ k i ++ l i) (present_of (names (h i) s t) ++ m i ++ o i))
    ∙ (λ i. buffers g (joined value_in (names z s t) a b i) (joined present_in (names z s t) a b i))
