-- `demands_tables::reading` carries its theorems: those of table_index_history on what find reads.
-- Assumes nothing.
use Prim.Native.Nat.{ℕ}
use mathlib.Core.List.{List}
use Rattle.table_indexed.specs.Find.{found_by}
use Rattle.table_index_history.proofs.Histories.{probes-few, probes-count, find-local}
use Rattle.demands_tables.specs.Indexes.{ProbesCounted}
use Rattle.demands_tables.proofs.reading.Goals as goal

counted : (t x : List ℕ) (o s g : ℕ) → ProbesCounted t x o s g
unfolding found_by
counted t x o s g = record { few = probes-few t x o s g; count = probes-count t x o s g }

pub returns : goal.returns
returns c = record { probes = counted; reads = find-local }
