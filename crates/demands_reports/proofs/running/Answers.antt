-- `demands_reports::running` meets its contract, in which the theorems on the running tally stand.
-- Assumes nothing.
use Rattle.demands_reports.proofs.Agreement.{running-is-report, after-every-point, refused-component, refused-keeps}
use Rattle.demands_reports.proofs.Unread.{read-as-zero}
use Rattle.demands_reports.proofs.running.Goals as goal

pub returns : goal.returns
returns c = record { report = running-is-report; next = after-every-point; component = refused-component; kept = refused-keeps; read = read-as-zero }
