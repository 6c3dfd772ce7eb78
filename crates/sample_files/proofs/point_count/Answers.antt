-- `sample_files::point_count` meets its contract.
-- Assumes nothing.
use mathlib.Core.Path.{ap, ◌∙◌}
use Prim.Native.Nat.{ℕ, ◌-◌, ◌/◌}
use native.Mathlib.Omega.{arith}
use lib.ListN.{length}
use Rattle.sample_files.proofs.Fields.{end-within, count-is}
use Rattle.sample_files.proofs.point_count.Goals as goal

pub overflow_sub-result : goal.overflow_sub-result
overflow_sub-result c = omega (arith, c.message_end-e.ensures, end-within c.args.file.now)

pub returns : goal.returns
returns c = let f = c.args.file.now in
    ap (λ (e : ℕ). (length f - e) / 28) c.message_end-e.ensures ∙ count-is f
