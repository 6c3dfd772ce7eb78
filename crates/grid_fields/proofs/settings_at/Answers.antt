-- `grid_fields::settings_at` meets its contract.
-- Assumes nothing.
use Rattle.std.proofs.Common.{Some, sym, ◌∙◌}
use Rattle.arith.proofs.Back.{held}
use Rattle.grid_fields.specs.Private.{settings_from}
use Rattle.grid_fields.proofs.Table.{settings-1023, settings-1024}
use Rattle.grid_fields.proofs.settings_at.Goals as goal

pub returns-then-is_1023 : goal.returns-then-is_1023
returns-then-is_1023 c = let s = c.args.s.now in
    c.settings_from.ensures
    ∙ (λ i. settings_from s 22 21 (c.signed_at.ensures i) 65 552)
    ∙ settings-1023 s (sym c.is_1023.ensures ∙ c.if-is_1023.true)

pub returns : goal.returns
returns c = let s = c.args.s.now in
    c.settings_from-2.ensures
    ∙ (λ i. settings_from s 22 25 (Some ((held _ c.number_at.type_inv ∙ c.number_at.ensures) i)) 73 564)
    ∙ settings-1024 s (sym c.is_1023.ensures ∙ c.if-is_1023.false)
