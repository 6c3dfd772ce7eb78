-- What is left of a text as bytes leave a window and more are read.
-- Assumes nothing.
use Prim.Native.Nat.{ℕ, ◌+◌, ◌-◌, ◌≤◌, ◌<◌}
use native.Mathlib.Omega.{arith}
use mathlib.Core.Path.{◌≡◌, refl, sym, ap, ◌∙◌}
use mathlib.Core.Bool.{Bool, true, false, true≢false}
use mathlib.Core.Logic.{◌⊎◌, inl, inr}
use lib.Dec.{ltb}
use borrow.Author.Tests.{ltb-true, ltb-false}
use Rattle.std.specs.Option.{is_some}
use mathlib.Core.List.{List, [], ◌∷◌, ◌++◌}
use lib.ListN.{length, take, drop, length-drop, length-append}
use lib.Seq.{length-take-le}
use Rattle.std.proofs.Common.{append_assoc}
use Rattle.std.proofs.Math.Seq.{take-append-add, take-append_seam}
use Rattle.std.proofs.lemmas.List.{take-append-le, drop-take}
use Rattle.std.specs.Prelude.{Option, Some, None}
use Rattle.std.specs.Io.KnownBytes.{Consumes, IsAtEnd, prepend_known}
use borrow.Rule.Slice.PartMut.{put_mid, post_of}
use Rattle.text_lines.specs.Inner.{slid}
use Rattle.text_lines.proofs.Moved.{keeps}

pub left_less : (known : Option (List ℕ)) (h e r : List ℕ) → h ≡ e ++ r → Consumes (prepend_known h known) (prepend_known r known) e
left_less None h e r q = tt
left_less (Some xs) h e r q = ap (λ l. l ++ xs) q ∙ append_assoc e r xs

pub left_more : (old new : Option (List ℕ)) (h t r : List ℕ) → Consumes old new t → r ≡ h ++ t → Consumes (prepend_known h old) (prepend_known r new) []
left_more None new h t r q e = tt
left_more (Some xs) None h t r q e = absurd q
left_more (Some xs) (Some ys) h t r q e = ap (λ l. h ++ l) q ∙ sym (append_assoc h t ys) ∙ ap (λ l. l ++ ys) (sym e)

pub at_end : (known : Option (List ℕ)) (r : List ℕ) → r ≡ [] → IsAtEnd known → IsAtEnd (prepend_known r known)
at_end None r e h = tt
at_end (Some xs) r e h = ap (λ l. l ++ xs) e ∙ h

pub was_at_end : (old new : Option (List ℕ)) → Consumes old new [] → IsAtEnd new → IsAtEnd old
was_at_end None new q h = tt
was_at_end (Some xs) None q h = absurd q
was_at_end (Some xs) (Some ys) q h = q ∙ h

-- bytes read behind the first k of a window
pub filled : (k m n : ℕ) (w bytes : List ℕ) → k ≤ length w → n ≤ length bytes → take (k + n) (put_mid k m w bytes) ≡ take k w ++ take n bytes
filled k m n w bytes h g =
    let rest = bytes ++ post_of k m w in
    ap (λ j. take (j + n) (take k w ++ rest)) (sym (length-take-le k w h))
    ∙ take-append-add (take k w) rest n
    ∙ ap (λ r. take k w ++ r) (take-append-le n bytes (post_of k m w) g)

-- the bytes of a window that were moved to its front
pub moved : (w : List ℕ) (f h : ℕ) → f ≤ h → h ≤ length w → take (h - f) (slid w f h) ≡ drop f (take h w)
unfolding slid
moved w f h a b =
    let xs = take (h - f) (drop f w) in
    let l : length xs ≡ h - f = length-take-le (h - f) (drop f w) (omega (arith, length-drop f w)) in
    let k : f + (h - f) ≡ h = omega arith in
    rw (keeps w f h b)
    (ap (λ j. take j (xs ++ drop (h - f) w)) (sym l) ∙ take-append_seam xs (drop (h - f) w) ∙ sym (drop-take f (h - f) w) ∙ ap (λ j. drop f (take j w)) k)

full_by : (h n : ℕ) (new : Option (List ℕ)) → h ≤ n → (h < 4096 → IsAtEnd new) → (e : Bool) → ltb h 4096 ≡ e → (4096 ≤ n) ⊎ IsAtEnd new
full_by h n new l f true q = inr (f (ltb-true h 4096 q))
full_by h n new l f false q = let g = ltb-false h 4096 q in inl (omega (arith, l))

-- a window that is not full holds all that was left
pub full_or_end : (h n : ℕ) (new : Option (List ℕ)) → h ≤ n → (h < 4096 → IsAtEnd new) → (4096 ≤ n) ⊎ IsAtEnd new
full_or_end h n new l f = full_by h n new l f (ltb h 4096) refl

pub no_bytes : (xs ys zs : List ℕ) → xs ≡ ys ++ zs → length xs ≤ length ys → zs ≡ []
no_bytes xs ys [] e h = refl
no_bytes xs ys (z ∷ zs) e h =
    let n = ap length e ∙ length-append ys (z ∷ zs) in absurd (omega (arith, n))

pub some_not_none : (o : Option ℕ) → is_some o ≡ true → o ≡ None → ⊥
some_not_none o e z = true≢false (sym (rw z at e))
