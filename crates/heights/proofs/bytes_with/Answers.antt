-- `heights::bytes_with` meets its contract: each place is filled by its byte.
-- Assumes nothing.
use borrow.Author.Rules.{rules}
use Rattle.heights.specs.Heights.{present_with, height_present}
use Rattle.heights.proofs.Filled.{filled}
use Rattle.heights.proofs.bytes_with.Goals as goal

pub returns : goal.returns
unfolding height_present
returns c = filled _ (present_with c.args.present.now) _ (λ i y q k. search rules) c.from_fn.result 64 0 c.from_fn.ensures.items
