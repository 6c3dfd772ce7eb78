-- `layout_tables::decode_1023` meets its contract: the first entries of its layout and the points are the layout by computation.
-- Assumes nothing.
use mathlib.Core.Path.{refl}
use native.Mathlib.Omega.{arith}
use Rattle.layout.specs.Layout.{total}
use Rattle.layout_tables.specs.Layouts.{layout1023}
use Rattle.layout_tables.proofs.decode_1023.Goals as goal

pub decode_grid-requires : goal.decode_grid-requires
unfolding layout1023 total
decode_grid-requires c = (c.check_1023.ensures, (refl, (refl, omega arith)))

pub returns : goal.returns
unfolding layout1023
returns c = let p = c.decode_grid.ensures in record { answer = p.answer; values = p.values; present = p.present }
