-- `grid_refusals::field_refusal` meets its contract.
-- Assumes nothing.
use Rattle.std.proofs.Common.{arith, tests}
use Rattle.arith.proofs.Order.{signed-tests, same-yes, same-no, fits-literal}
use Rattle.grid_refusals.proofs.field_refusal.Goals as goal

pub returns-then-indicator-eq0 : goal.returns-then-indicator-eq0
returns-then-indicator-eq0 c = search signed-tests

pub returns-then-method-ne0 : goal.returns-then-method-ne0
returns-then-method-ne0 c = search signed-tests

pub returns-in_default : goal.returns-in_default
returns-in_default c = rw c.in_default.is (search signed-tests)

pub returns-in_default-east : goal.returns-in_default-east
returns-in_default-east c = rw (c.in-Some.is, c.in_default-east.is) (search signed-tests)

pub returns-then-rows-eq0 : goal.returns-then-rows-eq0
returns-then-rows-eq0 c = rw (c.in-Some.is, c.in-Some-east.is) (grind (arith, tests, same-yes, same-no, fits-literal))

pub returns : goal.returns
returns c = rw (c.in-Some.is, c.in-Some-east.is) (search signed-tests)
