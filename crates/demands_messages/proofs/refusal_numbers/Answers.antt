-- `demands_messages::refusal_numbers` meets its contract: each number is computed.
-- Assumes nothing.
use mathlib.Core.Path.{refl}
use Rattle.demands_messages.proofs.refusal_numbers.Goals as goal

pub returns : goal.returns
returns c = record { numbers = refl; passed = λ n. refl; refused = λ r. refl; written = λ n. refl; unwritten = λ r. refl }
