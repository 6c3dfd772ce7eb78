-- `layout_by_number::check_1026` meets its contract: its fields with a declared range, and their bits, by computation.
-- Assumes nothing.
use mathlib.Core.Path.{sym}
use native.Mathlib.Omega.{arith}
use Rattle.layout.specs.Layout.{total}
use Rattle.layout.specs.Private.{places_refusal}
use Rattle.layout.proofs.Places.{ranged_at, ranged, ranged-check}
use Rattle.layout_tables.specs.Layouts.{layout1026}
use Rattle.layout_tables.proofs.Length.{length-1026}
use Rattle.layout_by_number.proofs.check_1026.Goals as goal

pub returns : goal.returns
unfolding layout1026 total ranged_at ranged places_refusal
returns c = rw (c.check_place_after.ensures, c.check_place_after-r-3.ensures, c.check_place_after-r-2.ensures, c.check_place_after-r.ensures, c.check_size-r.ensures) (sym (ranged-check layout1026 c.args.s.now (omega (arith, length-1026))))
