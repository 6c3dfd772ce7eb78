-- `demands_samples::samples` carries its theorems.
-- Assumes nothing.
use Rattle.sample_numbers.proofs.Number.{number-bytes_of, bytes_of-number, whole_back, bytes_back}
use Rattle.demands_samples.proofs.Checks.{file-back, shape-exactly, accepted-exactly, place-is-first}
use Rattle.demands_samples.proofs.Written.{written-accepted}
use Rattle.demands_samples.proofs.Changed.{claim-changed}
use Rattle.demands_samples.proofs.samples.Goals as goal

pub returns : goal.returns
returns c = record { number = number-bytes_of; bytes = bytes_of-number; whole = whole_back; eight = bytes_back; file = file-back; shape = shape-exactly; exactly = accepted-exactly; place = place-is-first; written = written-accepted; changed = claim-changed }
