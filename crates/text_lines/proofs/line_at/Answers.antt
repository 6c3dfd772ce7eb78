-- By whether a newline stands behind the line.
use Rattle.std.proofs.Common.{◌+◌, ◌≤◌, length, arith, sym, ap, ◌∙◌}
use Rattle.text_words.specs.Inner.{find}
use Rattle.text_lines.specs.Inner.{line_of, line_at}
use Rattle.text_lines.proofs.Laws.{line-ended, line-open}
use Rattle.text_lines.proofs.line_at.Goals as goal
use Rattle.text_lines.proofs.line_at.Goals.{then-s-from-via-then-s-from, then-s-from-via-else-s-from+then-s-from-2}

pub returns-then-s-from : goal.returns-then-s-from
unfolding line_at
returns-then-s-from c = let a = c.args in
    let n = c.find-length.result in
    let e : length a.s.now ≤ a.from + n = elim c.then-s-from.branch [
      | then-s-from-via-then-s-from w ↦ omega arith
      | then-s-from-via-else-s-from+then-s-from-2 w ↦ omega arith
    ] in
    sym (line-open a.s.now a.from n e) ∙ ap (line_of a.s.now a.from) (c.find-length.ensures ∙ ap (find 10) c.behind.ensures)

pub returns : goal.returns
unfolding line_at
returns c = let a = c.args in
    sym (line-ended a.s.now a.from c.find-length.result (omega arith)) ∙ ap (line_of a.s.now a.from) (c.find-length.ensures ∙ ap (find 10) c.behind.ensures)
