-- `text_words::next` meets its contract: by whether the word ends before the string does.
-- Assumes nothing.
use native.Mathlib.Omega.{arith}
use mathlib.Core.Path.{◌≡◌, ap, ◌∙◌}
use lib.ListN.{drop}
use Rattle.text_words.specs.Inner.{find}
use Rattle.text_words.proofs.Laws.{next-end, next-on}
use Rattle.text_words.proofs.next.Goals as goal

pub returns-then-length-from : goal.returns-then-length-from
returns-then-length-from c = let a = c.args in
    next-end a.s.now a.from (omega arith)

pub returns-then-length-from-2 : goal.returns-then-length-from-2
returns-then-length-from-2 c = let a = c.args in
    let e : c.find-n.result ≡ find 32 (drop a.from a.s.now) = c.find-n.ensures ∙ ap (find 32) c.behind.ensures in
    next-end a.s.now a.from (omega arith)

pub returns : goal.returns
returns c = let a = c.args in
    let e : c.find-n.result ≡ find 32 (drop a.from a.s.now) = c.find-n.ensures ∙ ap (find 32) c.behind.ensures in
    rw e (next-on a.s.now a.from (omega arith))
