-- What only promises between crates name.
-- Assumes nothing.
use Rattle.std.specs.Prelude.{ℕ, cond, List, eqb, ℤ}
use Rattle.record_grids.specs.Inner.{settings_at}
use Rattle.message_rows.specs.Message.{kind_refusal}
use Rattle.grid_place.specs.Inner.{held_place}
use Rattle.grid_cell.specs.Inner.{weights_in}
use Rattle.grid_fields.specs.Inner.{grid_says, mean_says, cell_says}
use Rattle.grid_counts.specs.Counts.{refused_with}
use Rattle.grid_counts.specs.Inner.{cell_count}
use Rattle.grid_counts.specs.declared.Counted.{Counted}
use Rattle.grid_component.specs.declared.Kept.{Kept}

-- what is kept of a message: 1 to 5 and 7 KIND, or 0 with its fields besides the shifts
unfoldable pub kept_of : List ℕ → Kept
kept_of s = record { refusal = kind_refusal 1023 1024 s; settings = settings_at (grid_says s) }

-- the kept refusal, else that of the position's place, else 15 ABSENT or the count in the place's cell
unfoldable pub counted_by : List ℕ → Kept → ℕ → ℤ → ℤ → Counted
counted_by s kept c n e =
    let p = held_place kept.settings c n e in
    cond (eqb kept.refusal 0)
    (cond (eqb p.refusal 0)
    (cell_count kept.settings.number c (mean_says s c) (cell_says s c p.row p.column) (weights_in p.height p.width p.north p.east))
    (refused_with p.refusal))
    (refused_with kept.refusal)
