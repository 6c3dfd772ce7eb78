-- `heights::value_with` meets its contract: the height that is read lies near the mean, as all sixteen do.
-- Assumes nothing.
use Prim.Native.Nat.{◌-◌, ◌/◌, ◌<◌}
use mathlib.Core.Bool.{true}
use mathlib.Core.Path.{◌≡◌, sym, ◌∙◌}
use native.Mathlib.Omega.{arith}
use Rattle.arith.proofs.Back.{held}
use Rattle.arith.proofs.Machine.{is-back}
use Rattle.arith.proofs.Tests.{all-at}
use Rattle.heights_mean.specs.Means.{near_at, fits}
use Rattle.std.proofs.lemmas.Bool.Decides.{nat_tests}
use Rattle.heights.specs.Heights.{of_height}
use Rattle.heights.proofs.value_with.Goals as goal

pub height_less-requires : goal.height_less-requires
unfolding fits
height_less-requires c = let i = (c.args.k - 13) / 3 in
    let inside : of_height c.args.k ≡ true = sym c.of_height.ensures ∙ c.if-not-of_height.false in
    let small : i < 16 = grind (arith, nat_tests) in
    rw (is-back c.ranges.mean, held c.height_at.result c.height_at.type_inv ∙ c.height_at.ensures)
    (c.requires.1.0, all-at (near_at c.args.wanted.now c.args.mean) 16 c.requires.1.1 i small)
