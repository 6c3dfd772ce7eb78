-- The count in a cell from what its mean and its nodes say: document 01, "The grid" and "Refusal numbers".
-- Assumes nothing.
use Rattle.std.specs.Prelude.{cond, ◌&&◌, ℕ, ltb, ℤ, pos}
use Rattle.grid_refusals.specs.Refusals.{ellipsoidal}
use Rattle.grid_counts.specs.declared.Counted.{Counted}

-- counts in a raw step of a node: 0.00003" over 0.00001" (DF199, DF200), 0.001 m over 0.1 mm (DF201, DF209 to DF211)
abbrev pub node_factor : ℤ → ℕ → ℕ
node_factor number c = cond (ellipsoidal number && ltb c 2) 3 10

-- counts in a raw step of the mean: 0.001" over 0.00001" (DF196, DF197), 0.01 m over 0.1 mm (DF198, DF206 to DF208): 100 in all.
-- Document 01 prints 10 for DF206 and DF207 and lets the resolution column of 000 decide: D6 of docs/DECISIONS.md
abbrev pub mean_factor : ℕ
mean_factor = 100

-- refusal r, and a count of 0
abbrev pub refused_with : ℕ → Counted
refused_with r = record { refusal = r; count = pos 0 }
