-- What an array's `map` gives, where each call gives what a definition says.
-- Assumes nothing.
use Rattle.std.proofs.Common.{arith, ◌≡◌, ◌∙◌, refl, sym, ap, ℕ, ℤ, ◌≤◌, List, map, length, ext_get_or, Option, true, ◌&&◌, leb, eqb}
use lib.ListN.{length-map, get_or-map}
use borrow.Author.Tests.{eq-eqb, le-leb}
use Rattle.std.specs.Array.{IsMapOf}
use Rattle.layout.specs.Layout.{value_in, present_in}
use Rattle.record_rows.specs.declared.Row.{Row}
use Rattle.record_rows.specs.Numbers.{values_of, present_of}
use Rattle.record_rows.specs.Inner.{buffers, numbers}
use Rattle.std.specs.Fn.{Called}
use denote.Param.Members.{Mut}

pub mapped : {F A B : Type 0} {g : Mut F (A × Unit {0}) B} {f : F} {ys : List B} {n : ℕ} (h : A → B) (d : A) (xs : List A) → length xs ≡ n → IsMapOf g f xs ys n
    → ((x : A) (y : B) (p q : F) → Called g p (x, tt) y q → y ≡ h x) → ys ≡ map h xs
mapped {ys = ys} {n} h d xs l m k =
    ext_get_or (h d) ys (map h xs) (m.long ∙ sym l ∙ sym (length-map xs h))
    (λ i b. let a = m.at i d (h d) (omega (arith, m.long)) in k _ _ _ _ a.2 ∙ sym (get_or-map h xs i d))

-- the row of an array of places, by the array's two maps
pub numbered : {z : List ℤ} {b : List ℕ} {o : Option Row} {w : List (Option ℤ)} (v : List (Option ℤ)) → o ≡ buffers (eqb (length z) (length b) && leb (length z) 96) z b
    → z ≡ values_of w → b ≡ present_of w → w ≡ v → length v ≤ 96 → o ≡ numbers true v
numbered v e p q r h =
    let n : length (values_of v) ≡ length v = length-map v value_in in
    let p' = p ∙ ap values_of r in
    let q' = q ∙ ap present_of r in
    e ∙ (λ i. buffers (eqb (length (p' i)) (length (q' i)) && leb (length (p' i)) 96) (p' i) (q' i))
    ∙ rw (eq-eqb (length (values_of v)) (length (present_of v)) (n ∙ sym (length-map v present_in)), le-leb (length (values_of v)) 96 (omega arith)) refl
