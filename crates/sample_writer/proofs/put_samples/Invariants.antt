-- `sample_writer::put_samples` meets its contract: the fields of the points passed are stored.
-- Assumes nothing.
use Prim.Native.Nat.{◌*◌, ◌≤◌}
use mathlib.Core.Path.{◌≡◌}
use mathlib.Core.List.{◌++◌, map}
use lib.ListN.{length, take}
use Rattle.sample_files.specs.File.{point_size, point_fields}
use Rattle.sample_writer.specs.Write.{sample}
use Rattle.sample_writer.specs.Refusals.{asked_of}
use Rattle.sample_writer.proofs.Asked.{from}
use Rattle.sample_writer.proofs.put_samples.Given as goal

abbrev pub invariant-loop-i : goal.invariant-loop-i
invariant-loop-i l =
    (l.i ≤ length l.components)
    × ((length l.components ≡ length l.north)
    × ((length l.components ≡ length l.east)
    × ((length l.out ≡ point_size * length l.components)
    × ((length l.initial.out ≡ point_size * length l.components)
    × (take (point_size * l.i) l.out ++ point_fields (map (sample l.message) (from l.components l.north l.east l.i)) ≡ point_fields (map (sample l.message) (asked_of l.components l.north l.east)))))))
