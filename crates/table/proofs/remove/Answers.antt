-- `table::remove` meets its contract: the slot of the part that find names is zeroed.
-- Assumes nothing.
use Prim.Native.Nat.{ℕ, ◌+◌, ◌*◌, ◌/◌, ◌<◌}
use native.Mathlib.Omega.{arith}
use mathlib.Core.Path.{◌≡◌, sym, ap, subst⁻¹, ◌∙◌}
use mathlib.Core.List.{List, []}
use Rattle.table_slots.specs.Slots.{slots, slot_size}
use Rattle.table.specs.Table.{put, key_place}
use Rattle.table.proofs.Whole.{formed}
use Rattle.table.proofs.Calls.{Passed, says, find-passed, find-done, remove-kept}
use Rattle.table.proofs.remove.Goals as goal

-- what is known where find answered 0
record Held (t : List ℕ) (o s g i : ℕ) : Type 0 where
  passed : Passed t o s g
  place : i ≡ key_place t o s g

pub returns-then-refusal-ne0 : goal.returns-then-refusal-ne0
returns-then-refusal-ne0 c = let t = c.args.table.now in
    let o = c.args.owner in
    let s = c.args.sin in
    let g = c.args.group in
    let e = says t o s g _ c.find-f.ensures in record { answer = e.number; output = sym (remove-kept t o s g (λ z. c.if-refusal-ne0.true (e.number ∙ z))) }

pub replace-requires : goal.replace-requires
replace-requires c = let found : Held c.args.table.now c.args.owner c.args.sin c.args.group (c.find-f.result.at / slot_size) = let t = c.args.table.now in
    let o = c.args.owner in
    let s = c.args.sin in
    let g = c.args.group in
    let e = says t o s g _ c.find-f.ensures in
    let p = find-passed t o s g (sym e.number ∙ c.if-refusal-ne0.false) in
    let f = find-done t o s g p.whole p.owner p.low in
    let a : c.find-f.result.at ≡ key_place t o s g * slot_size + 2 = e.start ∙ f.start in
    record { passed = p; place = omega arith } in
    let h = found in
    ((formed _ h.passed.whole).size, (subst⁻¹ (λ i. i < slots) h.place h.passed.low, omega arith))

pub returns : goal.returns
returns c = let found : Held c.args.table.now c.args.owner c.args.sin c.args.group (c.find-f.result.at / slot_size) = let t = c.args.table.now in
    let o = c.args.owner in
    let s = c.args.sin in
    let g = c.args.group in
    let e = says t o s g _ c.find-f.ensures in
    let p = find-passed t o s g (sym e.number ∙ c.if-refusal-ne0.false) in
    let f = find-done t o s g p.whole p.owner p.low in
    let a : c.find-f.result.at ≡ key_place t o s g * slot_size + 2 = e.start ∙ f.start in
    record { passed = p; place = omega arith } in
    let t = c.args.table.now in
    let o = c.args.owner in
    let s = c.args.sin in
    let g = c.args.group in
    let h = found in
    let f = find-done t o s g h.passed.whole h.passed.owner h.passed.low in record { answer = sym f.number; output = c.replace.ensures ∙ ap (λ i. put t i 0 []) h.place ∙ sym f.table }
