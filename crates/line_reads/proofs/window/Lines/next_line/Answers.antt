-- The line is what the bytes that are held begin with, at once or after more are read.
use Rattle.std.proofs.Common.{arith, ◌≡◌, ◌≤◌, ◌<◌, ◌++◌, length, take, drop, sym, ap, ◌∙◌}
use lib.ListN.{length-take}
use Rattle.std.proofs.KnownBytes.{Consumes-trans}
use Rattle.line_reads.specs.Inner.{held, text_of, ended_by}
use Rattle.line_reads.proofs.Passing.{one_line}
use Rattle.line_reads.proofs.Known.{left_less, some_not_none}
use Rattle.line_reads.proofs.Last.{last_line}
use Rattle.line_reads.proofs.window.Lines.next_line.Goals as goal

pub returns-then-is_some : goal.returns-then-is_some
returns-then-is_some g c =
    let a = c.args.self.now in
    let b = c.pass.new.self in
    let line = c.line-line.result in
    let same : text_of b line ≡ text_of a line =
    ap (λ w. take line.length (drop line.from (take b.held w))) c.pass.ensures.window ∙ ap (λ h. take line.length (drop line.from (take h a.window))) c.pass.ensures.held in
    record {
      taken = left_less _ _ _ _ (c.pass.ensures.passed ∙ ap (λ t. ended_by t line.next ++ held b) (sym same));
      one = rw (same, c.line-line.ensures) (one_line (take a.held a.window) a.from a.held (omega (arith, length-take a.held a.window)));
      last = λ z. absurd (some_not_none line.next (sym c.is_some.ensures ∙ c.if-is_some.true) z);
    }

pub returns : goal.returns
returns g c =
    let a = c.read_on.new.self in
    let b = c.pass-2.new.self in
    let line = c.line-line-2.result in
    let s = take a.held a.window in
    let inside : length s ≤ a.held = omega (arith, length-take a.held a.window) in
    let same : text_of b line ≡ text_of a line =
    ap (λ w. take line.length (drop line.from (take b.held w))) c.pass-2.ensures.window ∙ ap (λ h. take line.length (drop line.from (take h a.window))) c.pass-2.ensures.held in
    let passed = c.pass-2.ensures.passed ∙ ap (λ t. ended_by t line.next ++ held b) (sym same) in
    let full = λ (l : length s < 4096). c.in_ok-read_on.ensures.full (omega (arith, l, length-take a.held a.window, a.in_window)) in
    record {
      taken = Consumes-trans _ _ _ _ _ c.in_ok-read_on.ensures.kept (left_less _ _ _ _ passed);
      one = rw (same, c.line-line-2.ensures) (one_line s a.from a.held inside);
      last = λ z. rw (same, c.line-line-2.ensures) (last_line s a.from (held b) _ c.in_ok-read_on.ensures.front full (rw c.line-line-2.ensures at z) (rw c.line-line-2.ensures at c.pass-2.ensures.passed));
    }
