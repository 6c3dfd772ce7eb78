-- `record_transformation_rows::append_chars` meets its contract: a loop that stores one character a round.
-- Assumes nothing.
use Rattle.std.proofs.Common.{rules, arith, ◌≡◌, ◌∙◌, sym, ap, length, get_or-take}
use lib.IntN.{pos}
use lib.Seq.{paste}
use Rattle.arith.specs.Lists.{up_to}
use Rattle.arith.proofs.Back.{held}
use Rattle.arith.proofs.Lists.{length-up_to, get_d-up_to}
use Rattle.arith.proofs.Store.{paste_more}
use Rattle.record_transformation_rows.specs.Private.{char_value}
use Rattle.record_transformation_rows.proofs.append_chars.Goals as goal

pub loop-j-preserved : goal.loop-j-preserved
loop-j-preserved c = let a = c.args in
    let l = c.loop-j in
    let n = length-up_to (char_value a.chars.now) a.count in
    let read = held c.from.result (search rules) ∙ c.from.ensures ∙ ap pos (get_or-take a.count a.chars.now l.j 0 (omega arith)) in
    paste_more a.dst.now a.at (up_to (char_value a.chars.now) a.count) l.dst l.j _ (pos 0) l.invariant
    (read ∙ sym (get_d-up_to (char_value a.chars.now) a.count l.j (pos 0) (omega arith)))
    (omega arith) (omega arith)

pub returns : goal.returns
returns c = let a = c.args in
    let row = up_to (char_value a.chars.now) a.count in
    let n = length-up_to (char_value a.chars.now) a.count in
    let e : c.loop-j.j ≡ length row = omega arith in
    record { room = omega arith; place = omega arith; stored = c.loop-j.invariant ∙ ap (paste a.dst.now a.at row) e }
