-- `layout_by_number::decode_by` meets its contract.
-- Assumes nothing.
use Rattle.layout_tables.specs.Layouts.{layout1025, layout1026, layout1027}
use Rattle.layout_by_number.proofs.Checked.{read_by}
use Rattle.layout_by_number.proofs.Tables.{table-1025, table-1026, table-1027}
use Rattle.layout_by_number.proofs.decode_by.Goals as goal

pub returns-in-1025 : goal.returns-in-1025
unfolding layout1025
returns-in-1025 c = let a = c.args in
    let d = c.decode_after.ensures in
    let p = read_by _ layout1025 a.s.now a.values.now a.present.now c.check_1025.ensures (d.answer, (d.values, d.present)) in
    record { answer = rw (table-1025 _ _ _ c.in-1025.is) p.0; values = rw (table-1025 _ _ _ c.in-1025.is) p.1.0; present = rw (table-1025 _ _ _ c.in-1025.is) p.1.1 }

pub returns-in-1026 : goal.returns-in-1026
unfolding layout1026
returns-in-1026 c = let a = c.args in
    let d = c.decode_after-in-1026.ensures in
    let p = read_by _ layout1026 a.s.now a.values.now a.present.now c.check_1026.ensures (d.answer, (d.values, d.present)) in
    record { answer = rw (table-1026 _ _ _ c.in-1026.is) p.0; values = rw (table-1026 _ _ _ c.in-1026.is) p.1.0; present = rw (table-1026 _ _ _ c.in-1026.is) p.1.1 }

pub returns-in-1027 : goal.returns-in-1027
unfolding layout1027
returns-in-1027 c = let a = c.args in
    let d = c.decode_after-in-1027.ensures in
    let p = read_by _ layout1027 a.s.now a.values.now a.present.now c.check_1027.ensures (d.answer, (d.values, d.present)) in
    record { answer = rw (table-1027 _ _ _ c.in-1027.is) p.0; values = rw (table-1027 _ _ _ c.in-1027.is) p.1.0; present = rw (table-1027 _ _ _ c.in-1027.is) p.1.1 }
