-- `table::find` meets its contract: each return is a case of what find answers.
-- Assumes nothing.
use Prim.Native.Nat.{ℕ, suc, ◌+◌, ◌*◌, ◌<◌}
use native.Mathlib.Omega.{arith}
use mathlib.Core.Path.{◌≡◌, refl, sym, ap, ◌∙◌}
use mathlib.Core.List.{List}
use lib.ListN.{get_or}
use Rattle.table_slots.specs.Slots.{slots, slot_size, key, joined}
use Rattle.table.specs.Inner.{Marked}
use Rattle.table.specs.Table.{key_place}
use Rattle.table_slots.specs.Inner.{mark_place}
use Rattle.table_slots.proofs.Places.{place-some, place-none}
use Rattle.table.proofs.Whole.{formed}
use Rattle.table.proofs.Marks.{row-place, marked, unmarked}
use Rattle.table.proofs.Calls.{find-table, find-owner, find_none, find-done, found-is, key_place-in, key_place-out, slot_read}
use Rattle.table.proofs.find.Goals as goal

-- the slot looked for, where there is such a group
place-is : {t row : List ℕ} (o s g : ℕ) {tag : ℕ} → Marked row t → g < 3 → tag ≡ suc (joined o (key s g)) → mark_place row tag slots ≡ key_place t o s g
place-is {t} {row} o s g k low e =
    ap (λ x. mark_place row x slots) e ∙ row-place t row k.row_is k.whole (suc (joined o (key s g))) ∙ sym (key_place-in t o s g low)

pub returns-in_default : goal.returns-in_default
returns-in_default c = let a = c.args in
    let t = a.table.now in
    let r = c.not_found.ensures in
    let w = unmarked t (λ row e. c.in_default.not-Some row (c.checked_marks.ensures ∙ e)) in
    found-is t a.owner a.sin a.group (find-table t a.owner a.sin a.group w) r.0 r.1.0 r.1.1

pub returns-then-not-is_owner : goal.returns-then-not-is_owner
returns-then-not-is_owner c = let a = c.args in
    let t = a.table.now in
    let r = c.not_found-then-not-is_owner.ensures in
    let k = marked c.in-Some.ensures in
    found-is t a.owner a.sin a.group (find-owner t a.owner a.sin a.group k.whole (sym c.is_owner.ensures ∙ c.if-not-is_owner.true)) r.0 r.1.0 r.1.1

pub returns-then-group-gt2 : goal.returns-then-group-gt2
returns-then-group-gt2 c = let a = c.args in
    let t = a.table.now in
    let r = c.not_found-then-group-gt2.ensures in
    let k = marked c.in-Some.ensures in
    let v = sym c.is_owner.ensures ∙ c.if-not-is_owner.false in
    let e : key_place t a.owner a.sin a.group ≡ slots = key_place-out t a.owner a.sin a.group c.if-group-gt2.true in
    found-is t a.owner a.sin a.group (find_none t a.owner a.sin a.group k.whole v (omega arith)) r.0 r.1.0 r.1.1

pub returns-in_default-mark_place : goal.returns-in_default-mark_place
returns-in_default-mark_place c = let a = c.args in
    let t = a.table.now in
    let r = c.not_found-in_default-mark_place.ensures in
    let k = marked c.in-Some.ensures in
    let v = sym c.is_owner.ensures ∙ c.if-not-is_owner.false in
    let p = place-none (λ j e. c.in_default-mark_place.not-Some j (c.mark_place.ensures ∙ e)) in
    let e = place-is a.owner a.sin a.group k (omega arith) c.tag_of.ensures in
    found-is t a.owner a.sin a.group (find_none t a.owner a.sin a.group k.whole v (omega (arith, e, p))) r.0 r.1.0 r.1.1

pub bounds-table-a : goal.bounds-table-a
bounds-table-a c = let k = marked c.in-Some.ensures in
    let p = place-some c.in-Some-mark_place.ensures in
    omega (arith, (formed _ k.whole).size, p.0, p.1)

pub overflow_mul-a : goal.overflow_mul-a
overflow_mul-a c = let p = place-some c.in-Some-mark_place.ensures in omega (arith, p.0, p.1)

pub overflow_add-a : goal.overflow_add-a
overflow_add-a c = let p = place-some c.in-Some-mark_place.ensures in omega (arith, p.0, p.1)

pub overflow_add-result : goal.overflow_add-result
overflow_add-result c = let p = place-some c.in-Some-mark_place.ensures in omega (arith, p.0, p.1)

pub returns : goal.returns
returns c = let a = c.args in
    let t = a.table.now in
    let k = marked c.in-Some.ensures in
    let v = sym c.is_owner.ensures ∙ c.if-not-is_owner.false in
    let p = place-some c.in-Some-mark_place.ensures in
    let i : ℕ = key_place t a.owner a.sin a.group in
    let e = p.0 ∙ place-is a.owner a.sin a.group k (omega arith) c.tag_of.ensures in
    found-is t a.owner a.sin a.group (find-done t a.owner a.sin a.group k.whole v (omega (arith, e, p.0, p.1))) refl (omega (arith, e))
    (ap (λ j. get_or t (j * slot_size + 1) 0) e ∙ sym (slot_read t i 1 (omega arith)))
