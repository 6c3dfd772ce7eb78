-- A slot written part by part is the slot of its owner and message. Rests on what a write to a part leaves.
-- Assumes nothing.
use Prim.Native.Nat.{ℕ, ◌+◌, ◌-◌, ◌≤◌}
use native.Mathlib.Omega.{arith}
use mathlib.Core.Path.{◌≡◌, refl, ap, ◌∙◌}
use mathlib.Core.List.{List, [], ◌∷◌, ◌++◌}
use lib.ListN.{length, set, take, drop, replicate, length-append, length-take, length-drop}
use borrow.Rule.Slice.PartMut.{put_mid}
use Rattle.std.proofs.lemmas.List.{append-nil, drop_all}
use Rattle.std.proofs.lemmas.Slice.{put_mid-paste, take-put_mid}
use Rattle.table_slots.specs.Slots.{message_size, body_size, slot_size, slot_of}

-- the slot with its message, the rest not yet zero
abbrev pub with_message : List ℕ → ℕ → List ℕ → List ℕ → List ℕ
with_message s o m y = put_mid 2 (2 + length m - 2) (set (set s 0 o) 1 (length m)) y

with-message : (s : List ℕ) (o : ℕ) (m y : List ℕ) → length s ≡ slot_size → length m ≤ message_size → y ≡ m
    → (take (2 + length m) (with_message s o m y) ≡ o ∷ length m ∷ m) × (length (with_message s o m y) ≡ slot_size)
with-message [] o m y size top e = absurd (omega arith)
with-message (x ∷ []) o m y size top e = absurd (omega arith)
with-message (x ∷ x' ∷ r) o m y size top e = (
  take-put_mid 2 (2 + length m - 2) (o ∷ length m ∷ r) y (2 + length m) (omega (arith, ap length e)) (omega arith) ∙ rw e,
  ap length (put_mid-paste 2 (2 + length m - 2) (o ∷ length m ∷ r) y m (length m) e (omega arith) refl) ∙ simp (length-append, length-take, length-drop) (omega arith),
)

pub filled : (s : List ℕ) (o : ℕ) (m y z : List ℕ) → length s ≡ slot_size → length m ≤ message_size → y ≡ m
    → z ≡ replicate (length (take (length (with_message s o m y) - (2 + length m)) (drop (2 + length m) (with_message s o m y)))) 0
    → put_mid (2 + length m) (length (with_message s o m y) - (2 + length m)) (with_message s o m y) z ≡ slot_of o m
unfolding slot_of
filled s o m y z size top e f =
    let w : List ℕ = with_message s o m y in
    let p = with-message s o m y size top e in
    let n : length (take (length w - (2 + length m)) (drop (2 + length m) w)) ≡ body_size - length m = simp (length-take, length-drop) (omega (arith, p.1)) in
    let g : z ≡ replicate (body_size - length m) 0 = f ∙ ap (λ (k : ℕ). replicate k 0) n in
    let end : drop (length w - (2 + length m)) (drop (2 + length m) w) ≡ [] = drop_all (length w - (2 + length m)) (drop (2 + length m) w) (omega (arith, length-drop (2 + length m) w)) in
    (λ i. p.0 i ++ (g i ++ end i)) ∙ ap (λ (q : List ℕ). (o ∷ length m ∷ m) ++ q) (append-nil (replicate (body_size - length m) 0))
