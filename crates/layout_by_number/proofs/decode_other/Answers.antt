-- `layout_by_number::decode_other` meets its contract.
-- Assumes nothing.
use Rattle.std.proofs.Common.{◌∙◌, ap, sym, List, ℕ}
use Rattle.layout.specs.Inner.{refusal_of}
use Rattle.layout_by_number.proofs.Checked.{read_by}
use Rattle.layout_by_number.proofs.decode_other.Goals as goal

pub returns : goal.returns
returns c = let a = c.args in
    let e = c.layout.ensures ∙ c.other_plan-plan.ensures in
    let d = c.decode_after.ensures in
    let p = read_by _ _ a.s.now a.values.now a.present.now (c.check_other.ensures ∙ ap (λ (es : List ℕ). refusal_of es a.s.now) (sym e)) (d.answer, (d.values, d.present)) in
    record { answer = rw (← e) p.0; values = rw (← e) p.1.0; present = rw (← e) p.1.1 }
