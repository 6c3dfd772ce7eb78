-- A claim that is changed in a written file is refused with its place: the bytes are those of the points with that claim.
-- Assumes nothing.
use mathlib.Core.Path.{◌≡◌, refl, sym, ap, ap₂, ◌∙◌}
use mathlib.Core.Bool.{Bool, true, false, ◌&&◌}
use mathlib.Core.List.{List, [], ◌∷◌, ◌++◌, map, append_assoc}
use Prim.Native.Nat.{ℕ, zero, suc, ◌+◌, ◌<◌}
use native.Mathlib.Nat.{not-suc-le-zero, le_of_suc-le-suc}
use native.Mathlib.Omega.{arith}
use borrow.Author.Tests.{ne_eqb}
use lib.Dec.{eqb}
use lib.IntN.{ℤ, pos}
use lib.ListN.{length, get_or, set, take, drop, length-append, length-set}
use lib.Seq.{take_at, drop_at, drop-drop, length-take-le, split_at, set_split, get_or-set_same, get_or-set_other}
use Rattle.arith.specs.Whole.{same_z}
use Rattle.arith.proofs.Whole.{eq_z-false}
use Rattle.sample_numbers.specs.Number.{bytes_of, whole_bytes, put_bytes}
use Rattle.sample_numbers.proofs.Number.{length-bytes_of, length_whole, put-within}
use Rattle.sample_files.specs.declared.SamplePoint.{SamplePoint}
use Rattle.sample_files.specs.File.{field, point_field, point_fields, file_of, no_point}
use Rattle.sample_files.specs.Held.{Held, AllHeld, more}
use Rattle.sample_files.proofs.Bytes.{length-contents, length-field, length-points}
use Rattle.sample_checks.specs.Check.{right, claims, checked}
use Rattle.sample_writer.specs.Refusals.{Asked, answer_at, asked_of}
use Rattle.sample_writer.proofs.Asked.{length-asked_of}
use Rattle.sample_writer.specs.Write.{sample, samples_file}
use Rattle.sample_writer.proofs.Writes.{length-samples}
use Rattle.demands_samples.specs.Samples.{claim_place, ClaimChanged}
use Rattle.demands_samples.proofs.Checks.{file-back, back-checked, is-first}
use Rattle.demands_samples.proofs.Written.{writes, few-samples, message-short, samples-held, samples-right}

-- a point with another claim
abbrev with_claim : SamplePoint → ℤ → SamplePoint
with_claim p z = record { component = p.component; north = p.north; east = p.east; claim = z }

-- ---- the bytes

-- those of a point before its claim
abbrev front : SamplePoint → List ℕ
front p = 2 ∷ (bytes_of 2 25 ++ (p.component ∷ (whole_bytes p.north ++ whole_bytes p.east)))

front-is : (p : SamplePoint) → point_field p ≡ front p ++ whole_bytes p.claim
unfolding point_field field
front-is p =
    rw (length-contents p)
    (ap (λ (l : List ℕ). 2 ∷ l)
    (ap (λ (l : List ℕ). bytes_of 2 25 ++ (p.component ∷ l)) (sym (append_assoc (whole_bytes p.north) (whole_bytes p.east) (whole_bytes p.claim)))
    ∙ sym (append_assoc (bytes_of 2 25) (p.component ∷ (whole_bytes p.north ++ whole_bytes p.east)) (whole_bytes p.claim))))

length_front : (p : SamplePoint) → length (front p) ≡ 20
length_front p =
    ap suc (length-append (bytes_of 2 25) (p.component ∷ (whole_bytes p.north ++ whole_bytes p.east)))
    ∙ omega (arith, length-bytes_of 2 25, length-append (whole_bytes p.north) (whole_bytes p.east), length_whole p.north, length_whole p.east)

split-points : (xs : List SamplePoint) (p : SamplePoint) (ys : List SamplePoint) → point_fields (xs ++ p ∷ ys) ≡ point_fields xs ++ (point_field p ++ point_fields ys)
unfolding point_fields
split-points [] p ys = refl
split-points (x ∷ xs) p ys =
    ap (λ (l : List ℕ). point_field x ++ l) (split-points xs p ys) ∙ sym (append_assoc (point_field x) (point_fields xs) (point_field p ++ point_fields ys))

module _ (m : List ℕ) (xs : List SamplePoint) (p : SamplePoint) (ys : List SamplePoint) where
  -- the bytes of a file before the claim of a point
  abbrev head : List ℕ
  head = field 1 m ++ (point_fields xs ++ front p)

  file-split : file_of m (xs ++ p ∷ ys) ≡ head ++ (whole_bytes p.claim ++ point_fields ys)
  unfolding file_of
  file-split =
      ap (λ (l : List ℕ). field 1 m ++ l)
      (split-points xs p ys
      ∙ ap (λ (l : List ℕ). point_fields xs ++ l) (ap (λ (l : List ℕ). l ++ point_fields ys) (front-is p) ∙ append_assoc (front p) (whole_bytes p.claim) (point_fields ys))
      ∙ sym (append_assoc (point_fields xs) (front p) (whole_bytes p.claim ++ point_fields ys)))
      ∙ sym (append_assoc (field 1 m) (point_fields xs ++ front p) (whole_bytes p.claim ++ point_fields ys))

  length-head : length head ≡ claim_place m (length xs)
  length-head =
      length-append (field 1 m) (point_fields xs ++ front p)
      ∙ omega (arith, length-field 1 m, length-append (point_fields xs) (front p), length-points xs, length_front p)

put-split : (x y w z : List ℕ) (a : ℕ) → length x ≡ a → length y ≡ 8 → length z ≡ 8 → put_bytes (x ++ (y ++ w)) a z ≡ x ++ (z ++ w)
put-split x y w z a p q r =
    put-within (x ++ (y ++ w)) a z (omega (arith, length-append x (y ++ w), length-append y w))
    ∙ ap₂ (λ (u v : List ℕ). u ++ (z ++ v)) (take_at x (y ++ w) a p)
    (sym (drop-drop (length z) a (x ++ (y ++ w))) ∙ ap (drop (length z)) (drop_at x (y ++ w) a p) ∙ drop_at y w (length z) (q ∙ sym r))

claim-put : (m : List ℕ) (qs : List SamplePoint) (k : ℕ) (z : ℤ) → k < length qs
    → put_bytes (file_of m qs) (claim_place m k) (whole_bytes z) ≡ file_of m (set qs k (with_claim (get_or qs k no_point) z))
claim-put m qs k z h =
    let p : SamplePoint = get_or qs k no_point in
    let xs : List SamplePoint = take k qs in
    let ys : List SamplePoint = drop (suc k) qs in
    let n : length xs ≡ k = length-take-le k qs (omega arith) in
    ap (λ (l : List ℕ). put_bytes l (claim_place m k) (whole_bytes z)) (ap (file_of m) (split_at qs k no_point h) ∙ file-split m xs p ys)
    ∙ put-split (head m xs p ys) (whole_bytes p.claim) (point_fields ys) (whole_bytes z) (claim_place m k) (length-head m xs p ys ∙ ap (claim_place m) n) (length_whole p.claim) (length_whole z)
    ∙ sym (ap (file_of m) (set_split qs k (with_claim p z) h) ∙ file-split m xs (with_claim p z) ys)

-- ---- the points

held_at : (ps : List SamplePoint) (k : ℕ) → AllHeld ps → k < length ps → Held (get_or ps k no_point)
held_at [] k hs h = absurd (not-suc-le-zero h)
held_at (p ∷ ps) zero (more x hs) h = x
held_at (p ∷ ps) (suc k) (more x hs) h = held_at ps k hs (le_of_suc-le-suc h)

held-set : (ps : List SamplePoint) (k : ℕ) (p : SamplePoint) → Held p → AllHeld ps → AllHeld (set ps k p)
held-set [] k p x hs = hs
held-set (q ∷ ps) zero p x (more y hs) = more x hs
held-set (q ∷ ps) (suc k) p x (more y hs) = more y (held-set ps k p x hs)

module _ (m : List ℕ) where
  sample-at : (cs : List ℕ) (ns es : List ℤ) (k : ℕ) → length cs ≡ length ns → length cs ≡ length es → k < length cs
      → get_or (map (sample m) (asked_of cs ns es)) k no_point ≡ sample m (record { component = get_or cs k 0; north = get_or ns k (pos 0); east = get_or es k (pos 0) })
  unfolding asked_of
  sample-at [] ns es k p q h = absurd (not-suc-le-zero h)
  sample-at (c ∷ cs) [] es k p q h = absurd (omega arith)
  sample-at (c ∷ cs) (n ∷ ns) [] k p q h = absurd (omega arith)
  sample-at (c ∷ cs) (n ∷ ns) (e ∷ es) zero p q h = refl
  sample-at (c ∷ cs) (n ∷ ns) (e ∷ es) (suc k) p q h = sample-at cs ns es k (omega arith) (omega arith) (le_of_suc-le-suc h)

  other-claim : (p : Asked) (z : ℤ) → (z ≡ (answer_at m p).count → ⊥) → right m (with_claim (sample m p) z) ≡ false
  unfolding right sample answer_at same_z
  other-claim p z d = rw (eq_z-false (answer_at m p).count z (λ e. d (sym e))) (either (eqb (answer_at m p).refusal 0))
    where
      either : (b : Bool) → (b && false) ≡ false
      either true = refl
      either false = refl

pub claim-changed : ClaimChanged
unfolding samples_file
claim-changed m cs ns es room b u v h k z l f d =
    let w = writes m cs ns es room h in
    let a : Asked = record { component = get_or cs k 0; north = get_or ns k (pos 0); east = get_or es k (pos 0) } in
    let qs : List SamplePoint = map (sample m) (asked_of cs ns es) in
    let p : SamplePoint = get_or qs k no_point in
    let n : length qs ≡ length cs = length-samples m (asked_of cs ns es) ∙ length-asked_of cs ns es w.north w.east in
    let i : k < length qs = omega arith in
    let hs : AllHeld qs = samples-held m cs ns es w b u v in
    let x : Held p = held_at qs k hs i in
    let rs : List SamplePoint = set qs k (with_claim p z) in
    let g : length rs ≡ length qs = length-set qs k (with_claim p z) in
    let bad : right m (get_or rs k no_point) ≡ false =
    ap (right m) (get_or-set_same qs k (with_claim p z) no_point i ∙ ap (λ (q : SamplePoint). with_claim q z) (sample-at m cs ns es k w.north w.east l))
    ∙ other-claim m a z (unfold answer_at in d) in
    ap checked (claim-put m qs k z i)
    ∙ back-checked m rs
    (file-back m rs (message-short m cs ns es w b u v) (omega (arith, g, few-samples m cs ns es w b u v))
    (held-set qs k (with_claim p z) (record { component = x.component; north = x.north; east = x.east; claim = f }) hs))
    w.message
    ∙ ap claims
    (is-first m rs k (omega arith) bad
    (λ j t. ap (right m) (get_or-set_other qs k j (with_claim p z) no_point (λ e. omega arith)) ∙ samples-right m (asked_of cs ns es) w.answered j (omega arith)))
    ∙ rw (ne_eqb (suc k) 0 (λ e. omega arith))
