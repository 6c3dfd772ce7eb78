-- `table::store_marked` meets its contract: each return is a case of what store answers.
-- Assumes nothing.
use Prim.Native.Nat.{ℕ, suc, ◌≤◌, ◌<◌}
use mathlib.Core.Path.{◌≡◌, sym, ap, subst, ◌∙◌}
use mathlib.Core.List.{List}
use Rattle.message_rows.specs.Message.{refusal}
use Rattle.message_rows.specs.declared.Header.{Header}
use Rattle.message_rows.specs.Message.{header}
use Rattle.message_rows.proofs.Limits.{accepted-size}
use Rattle.table_slots.specs.Slots.{slots, group_of, key, joined}
use Rattle.table.specs.Table.{put, holding, store_place}
use Rattle.table.specs.Inner.{Marked}
use Rattle.table_slots.specs.Inner.{mark_or_free}
use Rattle.table.proofs.Whole.{formed}
use Rattle.table_slots.proofs.Marks.{header-refusal, header-tag}
use Rattle.table_slots.proofs.Places.{place-some, place-none}
use Rattle.table.proofs.Marks.{row-store}
use Rattle.table.proofs.Calls.{store-owner, store-refused, store-full, store-done}
use Rattle.table.proofs.store_marked.Goals as goal

-- the slot looked for, by the message's header
place-is : {t row : List ℕ} (o : ℕ) (m : List ℕ) {h : Header} {group tag n : ℕ} → h ≡ header m → refusal m ≡ 0 → group ≡ group_of h.number → tag ≡ suc (joined o (key h.sin group))
    → n ≡ holding t o → Marked row t → mark_or_free row tag n ≡ store_place t o m
place-is {t} {row} o m {h} e z g p q k =
    let s = p ∙ ap (λ (x : ℕ). suc (joined o (key h.sin x))) g ∙ header-tag o m h e z in
    (λ i. mark_or_free row (s i) (q i)) ∙ row-store t row k.row_is k.whole o m

pub returns-then-table-ne-TABLE_SIZE : goal.returns-then-table-ne-TABLE_SIZE
returns-then-table-ne-TABLE_SIZE c = record { answer = λ k. absurd (c.if-table-ne-TABLE_SIZE.true (formed _ k.whole).size); output = λ k. absurd (c.if-table-ne-TABLE_SIZE.true (formed _ k.whole).size) }

pub returns-then-not-is_owner : goal.returns-then-not-is_owner
returns-then-not-is_owner c = let a = c.args in
    let f = sym c.is_owner.ensures ∙ c.if-not-is_owner.true in record { answer = λ k. sym (store-owner a.table.now a.owner a.message.now k.whole f).number; output = λ k. sym (store-owner a.table.now a.owner a.message.now k.whole f).table }

pub returns-then-refusal-ne0 : goal.returns-then-refusal-ne0
returns-then-refusal-ne0 c = let a = c.args in
    let v = sym c.is_owner.ensures ∙ c.if-not-is_owner.false in
    let e = header-refusal a.message.now _ c.read_header-h.ensures in record { answer = λ k. e ∙ sym (store-refused a.table.now a.owner a.message.now k.whole v (λ q. c.if-refusal-ne0.true (e ∙ q))).number; output = λ k. sym (store-refused a.table.now a.owner a.message.now k.whole v (λ q. c.if-refusal-ne0.true (e ∙ q))).table }

pub returns-in_default : goal.returns-in_default
returns-in_default c = let a = c.args in
    let v = sym c.is_owner.ensures ∙ c.if-not-is_owner.false in
    let z : refusal a.message.now ≡ 0 = sym (header-refusal a.message.now _ c.read_header-h.ensures) ∙ c.if-refusal-ne0.false in
    let p = place-none (λ j e. c.in_default.not-Some j (c.mark_or_free-place.ensures ∙ e)) in
    let s = λ (k : Marked a.row.now a.table.now). store-full a.table.now a.owner a.message.now k.whole v z (subst (λ i. slots ≤ i) (place-is a.owner a.message.now c.read_header-h.ensures z c.group_of.ensures c.tag_of.ensures c.held_by.ensures k) p) in
    record { answer = λ k. sym (s k).number; output = λ k. sym (s k).table }

pub replace-requires : goal.replace-requires
replace-requires c = let z : refusal c.args.message.now ≡ 0 = sym (header-refusal c.args.message.now _ c.read_header-h.ensures) ∙ c.if-refusal-ne0.false in
    let p = place-some c.in-Some.ensures in
    (c.if-table-ne-TABLE_SIZE.false, (subst (λ i. i < slots) (sym p.0) p.1, (accepted-size _ z).1))

pub returns : goal.returns
returns c = let a = c.args in
    let v = sym c.is_owner.ensures ∙ c.if-not-is_owner.false in
    let z : refusal a.message.now ≡ 0 = sym (header-refusal a.message.now _ c.read_header-h.ensures) ∙ c.if-refusal-ne0.false in
    let p = place-some c.in-Some.ensures in
    let q = λ (k : Marked a.row.now a.table.now). place-is a.owner a.message.now c.read_header-h.ensures z c.group_of.ensures c.tag_of.ensures c.held_by.ensures k in
    let s = λ (k : Marked a.row.now a.table.now). store-done a.table.now a.owner a.message.now k.whole v z (subst (λ i. i < slots) (q k) p.1) in
    record { answer = λ k. sym (s k).number; output = λ k. c.replace.ensures ∙ ap (λ i. put a.table.now i a.owner a.message.now) (p.0 ∙ q k) ∙ sym (s k).table }
