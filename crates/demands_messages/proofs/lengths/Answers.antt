-- `demands_messages::lengths` carries its theorems: lengths and the system identification number.
-- Assumes nothing.
use Rattle.demands_messages.proofs.Messages.{accepted-lengths, sin-found}
use Rattle.demands_messages.proofs.lengths.Goals as goal

pub returns : goal.returns
returns c = record { accepted = accepted-lengths; sin = sin-found }
