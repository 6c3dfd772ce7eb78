-- What is left behind the line, or nothing.
use Rattle.std.proofs.Common.{arith, take}
use lib.ListN.{length-take}
use Rattle.line_reads.proofs.Passing.{stays, passes}
use Rattle.line_reads.proofs.window.Lines.pass.Goals as goal

pub invariant_of-self-clause-in_order : goal.invariant_of-self-clause-in_order
invariant_of-self-clause-in_order c =
    let l = c.args.self.now in
    let s = take l.held l.window in
    rw (c.unwrap_or-self.ensures, c.requires) (stays s l.from l.held (omega (arith, length-take l.held l.window)))

pub returns-clause-passed : goal.returns-clause-passed
returns-clause-passed c =
    let l = c.args.self.now in
    let s = take l.held l.window in
    rw (c.unwrap_or-self.ensures, c.requires) (passes s l.from l.held (omega (arith, length-take l.held l.window)))
