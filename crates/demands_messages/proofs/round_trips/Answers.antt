-- `demands_messages::round_trips` carries its theorem.
-- Assumes nothing.
use Rattle.demands_messages.proofs.Trips.{both-trips}
use Rattle.demands_messages.proofs.round_trips.Goals as goal

pub returns : goal.returns
returns c = record { trips = both-trips }
