-- Laws of layouts: the round trips, over any layout.
-- Assumes nothing.
use Rattle.std.proofs.Common.{Option, Some, None}
use mathlib.Core.Path.{◌≡◌, refl, sym, ap, ap₂, ◌∙◌}
use mathlib.Core.Logic.{◌⊎◌, inl, inr, ⊎_map}
use mathlib.Core.List.{List, [], ◌∷◌, ◌++◌, map}
use mathlib.Core.Bool.{Bool, true, false, ◌&&◌, ◌||◌}
use Prim.Native.Nat.{ℕ, zero, suc, ◌+◌, ◌-◌, ◌*◌, ◌/◌, ◌≤◌, ◌<◌}
use native.Mathlib.Nat.{add-zero, add_assoc, zero-div, not-suc-le-zero, lt_irrefl, suc-mul}
use native.Mathlib.Omega.{arith}
use native.Mathlib.Decide.{dec_lt, ℕ_discrete}
use lib.Dec.{T, eqb}
use lib.IntN.{ℤ, pos}
use lib.ListN.{length, get_or, replicate, length-replicate}
use borrow.Author.Tests.{le-ltb, eq-eqb, ne_eqb, eqb-true}
use Rattle.arith.specs.Whole.{same_z}
use Rattle.arith.proofs.Whole.{eq_z-true}
use Rattle.arith.proofs.Tests.{both_first, both-second, false-ne-true}
use Rattle.field.specs.Field.{bit_at, field, set_field, pattern_of}
use Rattle.field.proofs.Bit.{field_lt, field-same, length-set_field, set_field-outside, field-set_field, Bytes, bits-decide}
use Rattle.field.proofs.Bytes.{Agree, agree-field, bytes-set_field, zero_bits}
use Rattle.layout.specs.Layout.{width, signed, reading_of, takes, all_take, total, size, decode_all, encode_into, blank, encode_all, zero_from, value_in, present_in, reading_in, row_of, place_takes, row_takes}
use Rattle.layout.specs.Inner.{refusal_of, encode_refusal}
use Rattle.layout.proofs.Says.{from-T, pattern-reading, reading-pattern}
use Rattle.layout.proofs.Loop.{row-lengths}
pub use Rattle.layout.proofs.Says.{of-true}
pub use Rattle.layout.proofs.Loop.{total-most, take-length}
pub use Rattle.layout.proofs.Answer.{length-decode_all, Accepted, accepted, refused_none, Writable, writable}

-- ---- the bytes that are written

pub length-encode_into : (es : List ℕ) (rs : List (Option ℤ)) (p : ℕ) (s : List ℕ) → length (encode_into es rs p s) ≡ length s
unfolding encode_into
length-encode_into [] rs p s = refl
length-encode_into (e ∷ es) [] p s = refl
length-encode_into (e ∷ es) (r ∷ rs) p s = length-encode_into es rs (p + width e) _ ∙ length-set_field s p (width e) (pattern_of (width e) r)

pub length-blank : (n : ℕ) → length (blank n) ≡ n
length-blank n = length-replicate {A = ℕ} n 0

-- THE SIZE of a message is the layout's
pub length-encode_all : (es : List ℕ) (rs : List (Option ℤ)) → length (encode_all es rs) ≡ size es
unfolding encode_all
length-encode_all es rs = length-encode_into es rs 0 (blank (size es)) ∙ length-blank (size es)

-- only the bits of the fields change
encode_into-outside : (es : List ℕ) (rs : List (Option ℤ)) (p : ℕ) (s : List ℕ) (i : ℕ) → p + total es ≤ 8 * length s → (i < p) ⊎ (p + total es ≤ i)
    → bit_at (encode_into es rs p s) i ≡ bit_at s i
unfolding encode_into total
encode_into-outside [] rs p s i n o = refl
encode_into-outside (e ∷ es) [] p s i n o = refl
encode_into-outside (e ∷ es) (r ∷ rs) p s i n o =
    let k : length (set_field s p (width e) (pattern_of (width e) r)) ≡ length s = length-set_field s p (width e) (pattern_of (width e) r) in
    encode_into-outside es rs (p + width e) (set_field s p (width e) (pattern_of (width e) r)) i (omega arith)
    (⊎_map (λ (a : i < p). omega arith) (λ (a : p + (width e + total es) ≤ i). omega arith) o)
    ∙ set_field-outside s p (width e) (pattern_of (width e) r) i (omega arith) (⊎_map (λ a. a) (λ (a : p + (width e + total es) ≤ i). omega arith) o)

zeros : (n i : ℕ) → get_or (blank n) i 0 ≡ 0
zeros zero i = refl
zeros (suc n) zero = refl
zeros (suc n) (suc i) = zeros n i

bit-zeros : (n i : ℕ) → bit_at (blank n) i ≡ 0
unfolding bit_at
bit-zeros n i = rw (zeros n (i / 8), zero-div)

bytes-encode_into : (es : List ℕ) (rs : List (Option ℤ)) (p : ℕ) (s : List ℕ) → Bytes s → Bytes (encode_into es rs p s)
unfolding encode_into
bytes-encode_into [] rs p s a = a
bytes-encode_into (e ∷ es) [] p s a = a
bytes-encode_into (e ∷ es) (r ∷ rs) p s a = bytes-encode_into es rs (p + width e) _ (bytes-set_field s p (width e) (pattern_of (width e) r) a)

-- ---- layouts one after the other

pub total-append : (a b : List ℕ) → total (a ++ b) ≡ total a + total b
unfolding total
total-append [] b = omega arith
total-append (e ∷ es) b = omega (arith, total-append es b)

pub total-times : (n e : ℕ) → total (replicate n e) ≡ n * width e
unfolding total
total-times zero e = omega arith
total-times (suc n) e = rw (suc-mul n (width e)) (omega (arith, total-times n e))

pub decode-append : (a b : List ℕ) (p : ℕ) (s : List ℕ) → decode_all (a ++ b) p s ≡ decode_all a p s ++ decode_all b (p + total a) s
unfolding decode_all total
decode-append [] b p s = rw add-zero
decode-append (e ∷ es) b p s = rw (← add_assoc p (width e) (total es), decode-append es b (p + width e) s)

-- what the field behind the first ones says
pub value-at : (a : List ℕ) (e : ℕ) (b : List ℕ) (p : ℕ) (s : List ℕ) → get_or (decode_all (a ++ (e ∷ b)) p s) (length a) (Some (pos 0)) ≡ reading_of e (field s (p + total a) (width e))
unfolding decode_all total
value-at [] e b p s = ap (λ (q : ℕ). reading_of e (field s q (width e))) (sym (add-zero p))
value-at (x ∷ a) e b p s = value-at a e b (p + width x) s ∙ ap (λ (q : ℕ). reading_of e (field s q (width e))) (add_assoc p (width x) (total a))

pub encode-append : (a b : List ℕ) (ra rb : List (Option ℤ)) (p : ℕ) (s : List ℕ) → length a ≡ length ra
    → encode_into (a ++ b) (ra ++ rb) p s ≡ encode_into b rb (p + total a) (encode_into a ra p s)
unfolding encode_into total
encode-append [] b [] rb p s h = rw add-zero
encode-append [] b (r ∷ ra) rb p s h = absurd (lt_irrefl 0 (omega arith))
encode-append (e ∷ es) b [] rb p s h = absurd (lt_irrefl 0 (omega arith))
encode-append (e ∷ es) b (r ∷ ra) rb p s h = rw (← add_assoc p (width e) (total es)) (encode-append es b ra rb (p + width e) _ (omega arith))

-- ---- what is written is read

decode-encode : (es : List ℕ) (rs : List (Option ℤ)) (p : ℕ) (s : List ℕ) → all_take es rs ≡ true → p + total es ≤ 8 * length s → decode_all es p (encode_into es rs p s) ≡ rs
unfolding encode_into total decode_all all_take
decode-encode [] [] p s t n = refl
decode-encode [] (r ∷ rs) p s t n = absurd (false-ne-true t)
decode-encode (e ∷ es) [] p s t n = absurd (false-ne-true t)
decode-encode (e ∷ es) (r ∷ rs) p s t n =
    let w : ℕ = width e in
    let u : ℕ = pattern_of w r in
    let S : List ℕ = set_field s p w u in
    let k : length S ≡ length s = length-set_field s p w u in
    let q = reading-pattern e r (both_first (takes e r) (all_take es rs) t) in
    let f : field (encode_into es rs (p + w) S) p w ≡ u =
    field-same (encode_into es rs (p + w) S) S p w (λ i x y. encode_into-outside es rs (p + w) S i (omega arith) (inl y))
    ∙ field-set_field s p w u (omega arith) q.0 in
    ap₂ (λ (x : Option ℤ) (y : List (Option ℤ)). x ∷ y)
    (ap (reading_of e) f ∙ q.1)
    (decode-encode es rs (p + w) S (both-second (takes e r) (all_take es rs) t) (omega arith))

pub read-written : (es : List ℕ) (rs : List (Option ℤ)) → T (all_take es rs) → decode_all es 0 (encode_all es rs) ≡ rs
unfolding encode_all
read-written es rs t = decode-encode es rs 0 (blank (size es)) (from-T (all_take es rs) t) (omega (arith, length-blank (size es)))

field-blank : (n p w : ℕ) → field (blank n) p w ≡ 0
unfolding field
field-blank n p zero = refl
field-blank n p (suc w) = omega (arith, field-blank n p w, bit-zeros n (p + w))

fill-written : (es : List ℕ) (rs : List (Option ℤ)) (w : ℕ) → field (encode_all es rs) (total es) w ≡ 0
unfolding encode_all
fill-written es rs w =
    field-same (encode_into es rs 0 (blank (size es))) (blank (size es)) (total es) w
    (λ i a b. encode_into-outside es rs 0 (blank (size es)) i (omega (arith, length-blank (size es))) (inr (omega arith)))
    ∙ field-blank (size es) (total es) w

pub written-accepted : (es : List ℕ) (rs : List (Option ℤ)) → length es ≤ 96 → all_take es rs ≡ true → refusal_of es (encode_all es rs) ≡ 0
unfolding zero_from
written-accepted es rs few t =
    refused_none es (encode_all es rs)
    (record {
      few = few;
      sized = length-encode_all es rs;
      filled = eq-eqb _ 0 (fill-written es rs (8 * length (encode_all es rs) - total es));
      ranged = rw (read-written es rs (of-true t)) t;
    })

-- ---- what is read is written

agree-all : (es : List ℕ) (t s : List ℕ) (p : ℕ) → p + total es ≤ 8 * length t → Agree t s p → Agree (encode_into es (decode_all es p s) p t) s (p + total es)
unfolding encode_into decode_all total
agree-all [] t s p n a i h = a i (omega arith)
agree-all (e ∷ es) t s p n a i h =
    let w : ℕ = width e in
    let k : length (set_field t p w (field s p w)) ≡ length t = length-set_field t p w (field s p w) in
    rw (pattern-reading e (field s p w) (field_lt s p w))
    (agree-all es (set_field t p w (field s p w)) s (p + w) (omega arith) (agree-field t s p w (omega arith) a) i (omega arith))

pub accepted-kept : (es s : List ℕ) → Bytes s → refusal_of es s ≡ 0 → encode_all es (decode_all es 0 s) ≡ s
unfolding encode_all zero_from
accepted-kept es s b h =
    let c : Accepted es s = accepted es s h in
    let Z : List ℕ = blank (size es) in
    let z : length Z ≡ size es = length-blank (size es) in
    let k : length (encode_into es (decode_all es 0 s) 0 Z) ≡ length Z = length-encode_into es (decode_all es 0 s) 0 Z in
    let n : length s ≡ size es = c.sized in
    bits-decide (encode_into es (decode_all es 0 s) 0 Z) s (omega arith)
    (bytes-encode_into es (decode_all es 0 s) 0 Z (λ i. rw (zeros (size es) i) (omega arith))) b
    (λ i l. by n (eqb-true (field s (total es) (8 * length s - total es)) 0 c.filled) i (dec_lt i (total es)) (omega arith))
  where
    by : length s ≡ size es → field s (total es) (8 * length s - total es) ≡ 0 → (i : ℕ) → Dec (i < total es) → i < 8 * size es
        → bit_at (encode_into es (decode_all es 0 s) 0 (blank (size es))) i ≡ bit_at s i
    by n f i (yes l) m =
        agree-all es (blank (size es)) s 0 (omega (arith, length-blank (size es))) (λ j x. absurd (not-suc-le-zero x)) i (omega arith)
    by n f i (no l) m =
        encode_into-outside es (decode_all es 0 s) 0 (blank (size es)) i (omega (arith, length-blank (size es))) (inr (omega arith))
        ∙ bit-zeros (size es) i
        ∙ sym (zero_bits s (total es) (8 * length s - total es) f i (omega arith) (omega arith))

-- ---- rows

-- a place that is taken is what its reading says
place-said : (z : ℤ) (b : ℕ) → (eqb b 1 || (eqb b 0 && same_z z (pos 0))) ≡ true → (value_in (reading_in z b) ≡ z) × (present_in (reading_in z b) ≡ b)
unfolding same_z
place-said z b t = by (ℕ_discrete b 1) (ℕ_discrete b 0)
  where
    by : Dec (b ≡ 1) → Dec (b ≡ 0) → (value_in (reading_in z b) ≡ z) × (present_in (reading_in z b) ≡ b)
    by (yes e) d = rw e (refl, refl)
    by (no d) (yes e) = rw e (sym (eq_z-true z (pos 0) (rw e at t)), refl)
    by (no d) (no f) = absurd (false-ne-true (rw (ne_eqb b 1 d, ne_eqb b 0 f) at t))

-- each field takes what a taken row says, and the row is what its readings say
taken-both : (es : List ℕ) (zs : List ℤ) (bs : List ℕ) → row_takes es zs bs ≡ true
    → (all_take es (row_of zs bs) ≡ true) × ((map value_in (row_of zs bs) ≡ zs) × (map present_in (row_of zs bs) ≡ bs))
unfolding row_takes row_of all_take place_takes
taken-both [] [] [] t = (refl, (refl, refl))
taken-both [] [] (b ∷ bs) t = absurd (false-ne-true t)
taken-both [] (z ∷ zs) bs t = absurd (false-ne-true t)
taken-both (e ∷ es) [] bs t = absurd (false-ne-true t)
taken-both (e ∷ es) (z ∷ zs) [] t = absurd (false-ne-true t)
taken-both (e ∷ es) (z ∷ zs) (b ∷ bs) t =
    let sound : Bool = eqb b 1 || (eqb b 0 && same_z z (pos 0)) in
    let one = both_first (sound && takes e (reading_in z b)) (row_takes es zs bs) t in
    let p = place-said z b (both_first sound (takes e (reading_in z b)) one) in
    let k = taken-both es zs bs (both-second (sound && takes e (reading_in z b)) (row_takes es zs bs) t) in
    (rw (both-second sound (takes e (reading_in z b)) one) k.0, (ap₂ (λ (x : ℤ) (y : List ℤ). x ∷ y) p.0 k.1.0, ap₂ (λ (x : ℕ) (y : List ℕ). x ∷ y) p.1 k.1.1))

module _ (es : List ℕ) (zs : List ℤ) (bs : List ℕ) (t : row_takes es zs bs ≡ true) where
  pub taken-all : all_take es (row_of zs bs) ≡ true
  taken-all = (taken-both es zs bs t).0

  pub taken_back : (map value_in (row_of zs bs) ≡ zs) × (map present_in (row_of zs bs) ≡ bs)
  taken_back = (taken-both es zs bs t).1

  pub length_taken : (length zs ≡ length es) × (length bs ≡ length es)
  length_taken = let k = row-lengths es zs bs t in (sym k.0, sym k.1)

-- the row of readings says them, and is taken where they are
pub row_in : (rs : List (Option ℤ)) → row_of (map value_in rs) (map present_in rs) ≡ rs
unfolding row_of
row_in [] = refl
row_in (r ∷ rs) = ap₂ (λ (x : Option ℤ) (y : List (Option ℤ)). x ∷ y) (by r) (row_in rs)
  where
    by : (r : Option ℤ) → reading_in (value_in r) (present_in r) ≡ r
    by (Some z) = refl
    by None = refl

place_in : (e : ℕ) (r : Option ℤ) → takes e r ≡ true → place_takes e (value_in r) (present_in r) ≡ true
unfolding place_takes same_z
place_in e (Some z) t = t
place_in e None t = t

pub all-taken : (es : List ℕ) (rs : List (Option ℤ)) → all_take es rs ≡ true → row_takes es (map value_in rs) (map present_in rs) ≡ true
unfolding row_takes all_take
all-taken [] [] t = refl
all-taken [] (r ∷ rs) t = absurd (false-ne-true t)
all-taken (e ∷ es) [] t = absurd (false-ne-true t)
all-taken (e ∷ es) (r ∷ rs) t =
    rw (place_in e r (both_first (takes e r) (all_take es rs) t)) (all-taken es rs (both-second (takes e r) (all_take es rs) t))

-- what an unsigned field takes is a value; behind the end stands the value 0
unsigned-said : (e : ℕ) (r : Option ℤ) → takes e r ≡ true → signed e ≡ false → r ≡ Some (value_in r)
unsigned-said e (Some z) t s = refl
unsigned-said e None t s = absurd (false-ne-true (sym s ∙ t))

pub unsigned-value : (es : List ℕ) (rs : List (Option ℤ)) → all_take es rs ≡ true → (k : ℕ) → signed (get_or es k 0) ≡ false
    → get_or rs k (Some (pos 0)) ≡ Some (value_in (get_or rs k (Some (pos 0))))
unfolding all_take
unsigned-value [] [] t k s = refl
unsigned-value [] (r ∷ rs) t k s = absurd (false-ne-true t)
unsigned-value (e ∷ es) [] t k s = absurd (false-ne-true t)
unsigned-value (e ∷ es) (r ∷ rs) t zero s = unsigned-said e r (both_first (takes e r) (all_take es rs) t) s
unsigned-value (e ∷ es) (r ∷ rs) t (suc k) s = unsigned-value es rs (both-second (takes e r) (all_take es rs) t) k s

-- ---- THE ROUND TRIPS, over any layout

-- accepted bytes, decoded and encoded again, are the same bytes
pub bytes-again : (es s : List ℕ) (n : ℕ) → Bytes s → refusal_of es s ≡ 0 → size es ≤ n
    → let rs : List (Option ℤ) = decode_all es 0 s in
    (encode_refusal es (map value_in rs) (map present_in rs) n ≡ 0) × (encode_all es (row_of (map value_in rs) (map present_in rs)) ≡ s)
unfolding encode_refusal
bytes-again es s n b h m =
    let c : Accepted es s = accepted es s h in
    (rw (le-ltb 96 (length es) c.few, all-taken es (decode_all es 0 s) c.ranged, le-ltb n (size es) m), ap (encode_all es) (row_in (decode_all es 0 s)) ∙ accepted-kept es s b h)

-- an accepted row, encoded and decoded, is accepted and is the same row
pub row-again : (es : List ℕ) (zs : List ℤ) (bs : List ℕ) → length es ≤ 96 → row_takes es zs bs ≡ true
    → let s : List ℕ = encode_all es (row_of zs bs) in
    (refusal_of es s ≡ 0) × ((map value_in (decode_all es 0 s) ≡ zs) × (map present_in (decode_all es 0 s) ≡ bs))
row-again es zs bs few t =
    let a = taken-all es zs bs t in
    (written-accepted es (row_of zs bs) few a, rw (read-written es (row_of zs bs) (of-true a)) (taken_back es zs bs t))
