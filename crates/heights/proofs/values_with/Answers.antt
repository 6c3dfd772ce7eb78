-- `heights::values_with` meets its contract: each place is filled by its value.
-- Assumes nothing.
use borrow.Author.Rules.{rules}
use lib.IntN.{pos}
use Rattle.std.proofs.lemmas.Int.{to_z-of_z}
use Rattle.heights.specs.Heights.{value_with, height_values}
use Rattle.heights.proofs.Filled.{filled}
use Rattle.heights.proofs.values_with.Goals as goal

pub returns : goal.returns
unfolding height_values
returns c = let a = c.args in
    filled _ (value_with a.values.now a.wanted.now a.mean) _ (λ i y q k. search (rules, to_z-of_z)) c.from_fn.result 64 (pos 0) c.from_fn.ensures.items
