-- `demands_messages::refusals` carries its theorems: the order of refusals.
-- Assumes nothing.
use Rattle.demands_messages.proofs.Messages.{first-that-applies, counter-cut}
use Rattle.demands_messages.proofs.refusals.Goals as goal

pub returns : goal.returns
returns c = record { order = first-that-applies; counters = counter-cut }
