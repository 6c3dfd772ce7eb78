-- `table_indexed::store` meets its contract: each return is a case of what store answers.
-- Assumes nothing.
use Prim.Native.Nat.{ℕ}
use native.Mathlib.Omega.{arith}
use mathlib.Core.List.{List}
use mathlib.Core.Path.{◌≡◌, sym, ap, ◌∙◌}
use Rattle.table.specs.Table.{store_refusal}
use Rattle.table.proofs.Calls.{store_kept}
use Rattle.table.proofs.Marks.{marked, unmarked}
use Rattle.table_index_search.specs.Agree.{agree}
use Rattle.table_indexed.proofs.Slots.{row-keys}
use Rattle.table_indexed.proofs.Calls.{agrees-table, agrees-index, agrees-done, store-passed, entry-added, store-disagrees, store-refused, store-done}
use Rattle.table_indexed.proofs.store.Goals as goal

pub returns-in_default : goal.returns-in_default
returns-in_default c = let a = c.args in
    let e = agrees-table a.table.now a.index.now (unmarked a.table.now (λ row e. c.in_default.not-Some row (c.checked_marks.ensures ∙ e))) in
    let s = store-disagrees a.table.now a.index.now a.owner a.message.now (λ z. omega (arith, e, z)) in record { answer = sym (s.number ∙ e); output = sym s.table; kept = sym s.index }

pub returns-then-not-agrees : goal.returns-then-not-agrees
returns-then-not-agrees c = let a = c.args in
    let k = marked c.in-Some.ensures in
    let keys = c.mark_keys.ensures ∙ row-keys a.table.now _ k.whole k.row_is in
    let e = agrees-index a.table.now a.index.now k.whole (ap (λ (l : List ℕ). agree l a.index.now) (sym keys) ∙ sym c.agrees.ensures ∙ c.if-not-agrees.true) in
    let s = store-disagrees a.table.now a.index.now a.owner a.message.now (λ z. omega (arith, e, z)) in record { answer = sym (s.number ∙ e); output = sym s.table; kept = sym s.index }

pub returns-then-r-ne0 : goal.returns-then-r-ne0
returns-then-r-ne0 c = let a = c.args in
    let t = a.table.now in
    let x = a.index.now in
    let k = marked c.in-Some.ensures in
    let keys = c.mark_keys.ensures ∙ row-keys t _ k.whole k.row_is in
    let e = agrees-done t x k.whole (ap (λ (l : List ℕ). agree l x) (sym keys) ∙ sym c.agrees.ensures ∙ c.if-not-agrees.false) in
    let f = c.store_marked-r.ensures.answer k in
    let n : store_refusal t a.owner a.message.now ≡ 0 → ⊥ = λ z. c.if-r-ne0.true (f ∙ z) in
    let s = store-refused t x a.owner a.message.now e n in record { answer = f ∙ sym s.number; output = c.store_marked-r.ensures.output k ∙ store_kept t a.owner a.message.now n ∙ sym s.table; kept = sym s.index }

pub returns : goal.returns
returns c = let a = c.args in
    let t = a.table.now in
    let x = a.index.now in
    let k = marked c.in-Some.ensures in
    let keys = c.mark_keys.ensures ∙ row-keys t _ k.whole k.row_is in
    let e = agrees-done t x k.whole (ap (λ (l : List ℕ). agree l x) (sym keys) ∙ sym c.agrees.ensures ∙ c.if-not-agrees.false) in
    let n = sym (c.store_marked-r.ensures.answer k) ∙ c.if-r-ne0.false in
    let s = store-done t x a.owner a.message.now e n in record { answer = sym s.number; output = c.store_marked-r.ensures.output k ∙ sym s.table; kept = c.add_entry.ensures ∙ entry-added t _ x a.owner a.message.now k.row_is (store-passed t a.owner a.message.now n) ∙ sym s.index }
