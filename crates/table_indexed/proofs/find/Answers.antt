-- `table_indexed::find` meets its contract: each return is a case of what find answers.
-- Assumes nothing.
use Prim.Native.Nat.{ℕ, suc, ◌<◌}
use native.Mathlib.Omega.{arith}
use Rattle.std.specs.Prelude.{Option, is_some, unwrap_or}
use mathlib.Core.Path.{◌≡◌, sym, ap, ◌∙◌}
use Rattle.table_slots.specs.Slots.{key, joined}
use Rattle.table_index_search.specs.Search.{is_found, slot_found, searched}
use Rattle.table_index_search.specs.declared.Probe.{Probe}
use Rattle.table_indexed.specs.Find.{probed}
use Rattle.table_indexed.specs.Private.{in_slot}
use Rattle.table_indexed.proofs.Calls.{find-table, find-index, find-owner, find-group, find_none, find-slot}
use Rattle.table_indexed.proofs.find.Goals as goal

pub returns-then-table-ne-TABLE_SIZE : goal.returns-then-table-ne-TABLE_SIZE
returns-then-table-ne-TABLE_SIZE c = let a = c.args in
    c.not_found.ensures ∙ sym (find-table a.table.now a.index.now a.owner a.sin a.group c.if-table-ne-TABLE_SIZE.true)

pub returns-then-index-ne-INDEX_SIZE : goal.returns-then-index-ne-INDEX_SIZE
returns-then-index-ne-INDEX_SIZE c = let a = c.args in
    c.not_found-then-index-ne-INDEX_SIZE.ensures ∙ sym (find-index a.table.now a.index.now a.owner a.sin a.group c.if-table-ne-TABLE_SIZE.false c.if-index-ne-INDEX_SIZE.true)

pub returns-then-not-is_owner : goal.returns-then-not-is_owner
returns-then-not-is_owner c = let a = c.args in
    let v = sym c.is_owner.ensures ∙ c.if-not-is_owner.true in
    c.not_found-then-not-is_owner.ensures ∙ sym (find-owner a.table.now a.index.now a.owner a.sin a.group c.if-table-ne-TABLE_SIZE.false c.if-index-ne-INDEX_SIZE.false v)

pub returns-then-group-gt2 : goal.returns-then-group-gt2
returns-then-group-gt2 c = let a = c.args in
    let v = sym c.is_owner.ensures ∙ c.if-not-is_owner.false in
    c.not_found-then-group-gt2.ensures ∙ sym (find-group a.table.now a.index.now a.owner a.sin a.group c.if-table-ne-TABLE_SIZE.false c.if-index-ne-INDEX_SIZE.false v c.if-group-gt2.true)

pub returns-in_default : goal.returns-in_default
unfolding probed
returns-in_default c = let a = c.args in
    let v = sym c.is_owner.ensures ∙ c.if-not-is_owner.false in
    let e = c.search-p.ensures ∙ ap (searched a.index.now) c.entry_key.ensures in
    let n = ap is_found (sym e) ∙ ap is_some c.in_default.is in
    c.not_found-in_default.ensures ∙ sym (find_none a.table.now a.index.now a.owner a.sin a.group c.if-table-ne-TABLE_SIZE.false c.if-index-ne-INDEX_SIZE.false v c.if-group-gt2.false n)

pub returns : goal.returns
unfolding probed
returns c = let a = c.args in
    let t = a.table.now in
    let p = c.search-p.result in
    let v = sym c.is_owner.ensures ∙ c.if-not-is_owner.false in
    let e = c.search-p.ensures ∙ ap (searched a.index.now) c.entry_key.ensures in
    let n = ap is_found (sym e) ∙ ap is_some c.in-Some.is in
    let i : c.in-Some.slot ≡ slot_found p = sym (ap (λ (r : Option ℕ). unwrap_or r 0) c.in-Some.is) in
    let small : a.sin < 256 = omega arith in
    c.in_slot.ensures
    ∙ ap (λ (g : ℕ). in_slot t c.in-Some.slot g p.probes) c.tag_of.ensures
    ∙ ap (λ (j : ℕ). in_slot t j (suc (joined a.owner (key a.sin a.group))) p.probes) i
    ∙ ap (λ (r : Probe). in_slot t (slot_found r) (suc (joined a.owner (key a.sin a.group))) r.probes) e
    ∙ sym (find-slot t a.index.now a.owner a.sin a.group c.if-table-ne-TABLE_SIZE.false c.if-index-ne-INDEX_SIZE.false v c.if-group-gt2.false small n)
