-- `sample_files::message_end` meets its contract.
-- Assumes nothing.
use mathlib.Core.Path.{◌∙◌}
use native.Mathlib.Omega.{arith}
use Rattle.sample_files.proofs.Fields.{end-is, size-low}
use Rattle.sample_files.proofs.message_end.Goals as goal

pub overflow_add-n : goal.overflow_add-n
overflow_add-n c = record { fits = omega (arith, c.number_at-n.ensures, size-low c.args.file.now (λ i. (c.type_inv.file i).fits)) }

pub returns : goal.returns
returns c = rw c.number_at-n.ensures at c.min.ensures ∙ end-is c.args.file.now
