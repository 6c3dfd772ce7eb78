-- What the row of a height grid says at each place: the mean, the heights less the mean, and the other fields as they were given.
-- Assumes nothing.
use Rattle.std.proofs.Common.{Option, Some}
use mathlib.Core.Path.{◌≡◌, refl, sym, ◌∙◌}
use mathlib.Core.Bool.{Bool, true, false, not, cond, ◌&&◌, ◌||◌}
use mathlib.Core.List.{List, [], ◌∷◌}
use Prim.Native.Nat.{ℕ, zero, suc, ◌+◌, ◌-◌, ◌*◌, ◌/◌, ◌%◌, ◌≤◌, ◌<◌}
use native.Mathlib.Nat.{not-suc-le-zero, le_of_suc-le-suc}
use native.Mathlib.Omega.{arith}
use borrow.Author.Tests.{le-leb, leb-true, lt-ltb, eq-eqb, ne_eqb, eqb-true, eqb-false}
use lib.Dec.{leb, eqb}
use lib.IntN.{ℤ, pos, nat_abs}
use lib.ListN.{length, get_or}
use Rattle.arith.specs.Lists.{at, all_below}
use Rattle.arith.specs.Whole.{same_z}
use Rattle.arith.proofs.Lists.{length-up_to, get_d-up_to}
use Rattle.arith.proofs.Tests.{false-ne-true, both_first, both-second, all-at}
use Rattle.layout.specs.Layout.{int, signed, takes, row_of, reading_in, place_takes, row_takes}
use Rattle.layout.proofs.Says.{place-taken}
use Rattle.layout_tables.specs.Layouts.{layout1023}
use Rattle.record_rows.specs.Numbers.{says}
use Rattle.record_rows.proofs.Rows.{says_both}
use Rattle.heights_mean.specs.Means.{less, near_at, fits}
use Rattle.heights_mean.proofs.Near.{less-most}
use Rattle.heights_mean.proofs.Choice.{Smallest}
use Rattle.heights.specs.Heights.{of_height, value_with, present_with, height_values, height_present}

-- ---- the places of a row, and its fields

pub place_at_lem : (es : List ℕ) (zs : List ℤ) (bs : List ℕ) → row_takes es zs bs ≡ true → (k : ℕ) → k < length es
    → place_takes (get_or es k 0) (at zs k) (get_or bs k 0) ≡ true
unfolding row_takes
place_at_lem [] zs bs t k l = absurd (not-suc-le-zero l)
place_at_lem (e ∷ es) [] bs t k l = absurd (false-ne-true t)
place_at_lem (e ∷ es) (z ∷ zs) [] t k l = absurd (false-ne-true t)
place_at_lem (e ∷ es) (z ∷ zs) (b ∷ bs) t zero l = both_first (place_takes e z b) (row_takes es zs bs) t
place_at_lem (e ∷ es) (z ∷ zs) (b ∷ bs) t (suc k) l = place_at_lem es zs bs (both-second (place_takes e z b) (row_takes es zs bs) t) k (le_of_suc-le-suc l)

pub all-places : (es : List ℕ) (zs : List ℤ) (bs : List ℕ) → length zs ≡ length es → length bs ≡ length es
    → ((k : ℕ) → k < length es → place_takes (get_or es k 0) (at zs k) (get_or bs k 0) ≡ true) → row_takes es zs bs ≡ true
unfolding row_takes
all-places [] [] [] p q h = refl
all-places [] [] (b ∷ bs) p q h = absurd (omega arith)
all-places [] (z ∷ zs) bs p q h = absurd (omega arith)
all-places (e ∷ es) [] bs p q h = absurd (omega arith)
all-places (e ∷ es) (z ∷ zs) [] p q h = absurd (omega arith)
all-places (e ∷ es) (z ∷ zs) (b ∷ bs) p q h =
    let f : place_takes e z b ≡ true = h 0 (omega arith) in
    rw f (all-places es zs bs (omega arith) (omega arith) (λ k l. h (suc k) (omega arith)))

-- a field without a sign says a value
pub said : (e : ℕ) (x : ℤ) (y : ℕ) → signed e ≡ false → place_takes e x y ≡ true → eqb y 1 ≡ true
said e x y u t = by (eqb y 1) refl
  where
    by : (s : Bool) → eqb y 1 ≡ s → eqb y 1 ≡ true
    by true p = p
    by false p = absurd (false-ne-true (sym u ∙ (rw p at (place-taken e x y t))))

-- so does one with a sign that does not say none
pub said-unless : (e : ℕ) (x : ℤ) (y : ℕ) → (eqb y 0 && same_z x (pos 0)) ≡ false → place_takes e x y ≡ true → eqb y 1 ≡ true
unfolding place_takes
said-unless e x y n t =
    by (eqb y 1) (rw n at (both_first (eqb y 1 || (eqb y 0 && same_z x (pos 0))) (takes e (reading_in x y)) t))
  where
    by : (s : Bool) → (s || false) ≡ true → s ≡ true
    by true p = refl
    by false p = p

-- ---- the row that is written

module _ (z : List ℤ) (b : List ℕ) (wanted : List ℤ) (m : ℤ) where
  pub length-values : length (height_values z wanted m) ≡ 64
  unfolding height_values
  length-values = length-up_to (value_with z wanted m) 64

  pub length-present : length (height_present b) ≡ 64
  unfolding height_present
  length-present = length-up_to (present_with b) 64

  abbrev v : List (Option ℤ)
  v = row_of (height_values z wanted m) (height_present b)

  module _ (k : ℕ) (l : k < 64) where
    pub value-at : at (height_values z wanted m) k ≡ value_with z wanted m k
    unfolding height_values
    value-at = get_d-up_to (value_with z wanted m) 64 k (pos 0) l

    pub byte_at : get_or (height_present b) k 0 ≡ present_with b k
    unfolding height_present
    byte_at = get_d-up_to (present_with b) 64 k 0 l

    says-place : says v k ≡ reading_in (value_with z wanted m k) (present_with b k)
    says-place =
        says_both (height_values z wanted m) (height_present b) k (omega (arith, length-values)) (omega (arith, length-present))
        ∙ (λ i. reading_in (value-at i) (byte_at i))

    -- another field stays
    module _ (o : of_height k ≡ false) where
      pub other-value : at (height_values z wanted m) k ≡ at z k
      unfolding value_with
      other-value = value-at ∙ rw o

      pub other_byte : get_or (height_present b) k 0 ≡ get_or b k 0
      unfolding present_with
      other_byte = byte_at ∙ rw o

      pub says_other_lem : says v k ≡ reading_in (at z k) (get_or b k 0)
      unfolding value_with present_with
      says_other_lem = says-place ∙ rw o

  pub says-mean : says v 10 ≡ Some m
  unfolding value_with present_with
  says-mean = says-place 10 (omega arith)

  -- node i, numbered from 0
  module _ (i : ℕ) (l : i < 16) where
    of-height : of_height (13 + 3 * i) ≡ true
    of-height =
        let r : (13 + 3 * i) % 3 ≡ 1 = omega arith in
        rw (le-leb 10 (13 + 3 * i) (omega arith), le-leb (13 + 3 * i) 58 (omega arith), eq-eqb ((13 + 3 * i) % 3) 1 r)

    pub says-node : says v (13 + 3 * i) ≡ Some (less (at wanted i) m)
    unfolding value_with present_with
    says-node =
        let e : (13 + 3 * i - 13) / 3 ≡ i = omega arith in
        says-place (13 + 3 * i) (omega arith) ∙ rw (of-height, ne_eqb (13 + 3 * i) 10 (λ e. absurd (omega arith)), e)

-- ---- the height fields take what is set

-- the entry of a height field
abbrev entry : ℕ → Bool
entry k = not (of_height k) || eqb (get_or layout1023 k 0) (cond (eqb k 10) (int 15) (int 9))

entries : all_below entry 64 ≡ true
unfolding layout1023
entries = refl

entry-is : (k : ℕ) → k < 64 → of_height k ≡ true → get_or layout1023 k 0 ≡ cond (eqb k 10) (int 15) (int 9)
entry-is k l o =
    let e : (not (of_height k) || eqb (get_or layout1023 k 0) (cond (eqb k 10) (int 15) (int 9))) ≡ true = all-at entry 64 entries k l in
    eqb-true _ _ (rw o at e)

pub record Place (k : ℕ) : Type 0 where
  pub low : 10 ≤ k
  pub high : k ≤ 58
  pub third : k % 3 ≡ 1

pub place_of : (k : ℕ) → of_height k ≡ true → Place k
place_of k o =
    let a = both_first (leb 10 k && leb k 58) (eqb (k % 3) 1) o in
    record {
      low = leb-true 10 k (both_first (leb 10 k) (leb k 58) a);
      high = leb-true k 58 (both-second (leb 10 k) (leb k 58) a);
      third = eqb-true (k % 3) 1 (both-second (leb 10 k && leb k 58) (eqb (k % 3) 1) o);
    }

mean-taken : (m : ℤ) → nat_abs m ≤ 16383 → place_takes (int 15) m 1 ≡ true
unfolding place_takes
mean-taken m h = rw (lt-ltb (nat_abs m) 16384 (omega arith))

node-taken : (d : ℤ) → nat_abs d ≤ 255 → place_takes (int 9) d 1 ≡ true
unfolding place_takes
node-taken d h = rw (lt-ltb (nat_abs d) 256 (omega arith))

pub height-taken : (z : List ℤ) (b : List ℕ) (wanted : List ℤ) (m : ℤ) → Smallest wanted m → (k : ℕ) → k < 64 → of_height k ≡ true
    → place_takes (get_or layout1023 k 0) (at (height_values z wanted m) k) (get_or (height_present b) k 0) ≡ true
unfolding value_with present_with
height-taken z b wanted m s k l o =
    rw (entry-is k l o, value-at z b wanted m k l, byte_at z b wanted m k l, o) (by (eqb k 10) refl)
  where
    by : (t : Bool) → eqb k 10 ≡ t → place_takes (cond t (int 15) (int 9)) (cond t m (less (at wanted ((k - 13) / 3)) m)) 1 ≡ true
    by true e = mean-taken m s.range
    by false e =
        let p = place_of k o in
        let n = eqb-false k 10 e in
        unfold less fits in
        node-taken _ (less-most m (at wanted ((k - 13) / 3)) (all-at (near_at wanted m) 16 s.fitting ((k - 13) / 3) (omega (arith, p.low, p.high, p.third, n))))
