-- What the private functions answer.
-- Assumes nothing.
use Rattle.std.specs.Prelude.{ℕ, ◌+◌, cond, List, [], ◌∷◌, eqb}
use Rattle.grid_component.specs.Inner.{counted_by}
use Rattle.grid_component.specs.declared.Kept.{Kept}
use Rattle.report_update.specs.declared.Report.{Report}
use Rattle.report_update.specs.Numbers.{report_with}
use Rattle.report_update.specs.Inner.{grown_by}
use Rattle.report_points.specs.declared.Point.{Point}
use Rattle.report_points.specs.Reports.{report_refusal}

-- the report before the first of so many points
unfoldable pub start_of : ℕ → ℕ → Report
start_of c points = report_with (report_refusal c points) []

-- a report of so many points, and one point more
unfoldable pub step_of : Report → List ℕ → Kept → ℕ → Point → ℕ → Report
step_of r s kept c p before =
    let o = counted_by s kept c p.north p.east in
    cond (eqb r.refusal 0) (record { refusal = 0; tally = grown_by r.tally o.refusal o.count before }) r

-- a report of so many points, and more points
abbrev pub report_from : List ℕ → Kept → ℕ → ℕ → List Point → Report → Report
report_from s kept c before [] r = r
report_from s kept c before (p ∷ ps) r = report_from s kept c (before + 1) ps (step_of r s kept c p before)
