-- `layout_tables::decode_1024` meets its contract: the first entries of its layout and the points are the layout by computation.
-- Assumes nothing.
use mathlib.Core.Path.{refl}
use native.Mathlib.Omega.{arith}
use Rattle.layout.specs.Layout.{total}
use Rattle.layout_tables.specs.Layouts.{layout1024}
use Rattle.layout_tables.proofs.decode_1024.Goals as goal

pub decode_grid-requires : goal.decode_grid-requires
unfolding layout1024 total
decode_grid-requires c = (c.check_1024.ensures, (refl, (refl, omega arith)))

pub returns : goal.returns
unfolding layout1024
returns c = let p = c.decode_grid.ensures in record { answer = p.answer; values = p.values; present = p.present }
