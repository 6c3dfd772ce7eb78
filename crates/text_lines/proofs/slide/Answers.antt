-- Where the bytes lie in the window they are moved, else none are.
use Rattle.std.proofs.Common.{◌≡◌, ◌-◌, ◌++◌, take, drop, arith, sym, ap, ◌∙◌}
use native.Mathlib.Nat.{zero-add}
use Rattle.text_lines.specs.Inner.{slid}
use Rattle.text_lines.proofs.Moved.{keeps, keeps-none, past-window}
use Rattle.text_lines.proofs.slide.Goals as goal
use Rattle.text_lines.proofs.slide.Goals.{then-window-end-via-then-window-end, then-window-end-via-else-window-end+then-end-from}

none : goal.returns-then-window-end-clause-answer
none c = let a = c.args in
    elim c.then-window-end.branch [
      | then-window-end-via-then-window-end w ↦ sym (past-window a.window.now a.from a.end w.if-window-end.true)
      | then-window-end-via-else-window-end+then-end-from w ↦ (let z : a.end - a.from ≡ 0 = omega arith in sym (keeps a.window.now a.from a.end w.if-window-end.false ∙ z))
    ]

pub returns-then-window-end-clause-answer : goal.returns-then-window-end-clause-answer
returns-then-window-end-clause-answer c = none c

pub returns-then-window-end-clause-output : goal.returns-then-window-end-clause-output
returns-then-window-end-clause-output c = keeps-none _ _ _ (sym (none c))

pub returns-clause-answer : goal.returns-clause-answer
returns-clause-answer c = sym (keeps c.args.window.now c.args.from c.args.end c.if-window-end.false)

pub returns-clause-output : goal.returns-clause-output
unfolding slid
returns-clause-output c = let a = c.args in
    rw (keeps a.window.now a.from a.end c.if-window-end.false) (c.copy_within.ensures.after ∙ ap (λ n. take (a.end - a.from) (drop a.from a.window.now) ++ drop n a.window.now) (zero-add (a.end - a.from)))
