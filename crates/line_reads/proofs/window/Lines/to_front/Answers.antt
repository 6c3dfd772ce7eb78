use Rattle.std.proofs.Common.{rules, arith, ◌≡◌, ◌≤◌, length}
use Rattle.text_lines.proofs.Moved.{keeps}
use Rattle.line_reads.proofs.Known.{moved}
use Rattle.line_reads.proofs.window.Lines.to_front.Goals as goal

pub returns-clause-bytes : goal.returns-clause-bytes
returns-clause-bytes c =
    let l = c.args.self.now in
    let room : length l.window ≡ 4096 = search rules in
    let at : l.held ≤ length l.window = omega (arith, l.in_window) in
    rw (c.slide-self.ensures.output, c.slide-self.ensures.answer, keeps l.window l.from l.held at) (moved l.window l.from l.held l.in_order at)

pub invariant_of-self-clause-in_window : goal.invariant_of-self-clause-in_window
invariant_of-self-clause-in_window c =
    let l = c.args.self.now in
    let room : length l.window ≡ 4096 = search rules in
    let at : l.held ≤ length l.window = omega (arith, l.in_window) in
    omega (arith, l.in_window, c.slide-self.ensures.answer, keeps l.window l.from l.held at)
