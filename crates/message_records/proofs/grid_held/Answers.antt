-- `message_records::grid_held` meets its contract.
-- Assumes nothing.
use Rattle.std.proofs.Common.{arith, ◌∙◌, sym, true}
use Rattle.record_grids.specs.Grids.{grid_row}
use Rattle.message_rows.specs.Message.{row_held}
use Rattle.message_records.proofs.RecordNumbers.{held_row, no_row}
use Rattle.message_records.proofs.grid_held.Goals as goal

pub returns-in-Some : goal.returns-in-Some
returns-in-Some c = let h = held_row c.in-Some.row true (grid_row c.args.r) (sym c.in-Some.is ∙ c.grid_row.ensures) in
    c.row_held.ensures ∙ (λ i. row_held 1023 1024 ((c.values.ensures ∙ h.values) i) ((c.present.ensures ∙ h.present) i))

pub returns-in-None : goal.returns-in-None
returns-in-None c = let h = no_row true (grid_row c.args.r) (sym c.in-None.is ∙ c.grid_row.ensures) in absurd (grind arith)
