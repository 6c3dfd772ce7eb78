use Rattle.std.proofs.Common.{arith, append_assoc, sym, ap, ◌∙◌, ◌++◌, length, take, ◌+◌, ◌-◌}
use borrow.Rule.Slice.PartMut.{Post-is, post_of}
use Rattle.text_words.proofs.Laws.{put-in, put-not, behind-in, behind-not}
use Rattle.text_words.proofs.put.Goals as goal

pub returns-then-out-at-clause-output : goal.returns-then-out-at-clause-output
returns-then-out-at-clause-output c = sym (put-not _ _ _ (omega arith))

pub returns-then-out-at-clause-answer : goal.returns-then-out-at-clause-answer
returns-then-out-at-clause-answer c = sym (behind-not _ _ _ (omega arith))

pub returns-then-out-at-2-clause-output : goal.returns-then-out-at-2-clause-output
returns-then-out-at-2-clause-output c = sym (put-not _ _ _ (omega arith))

pub returns-then-out-at-2-clause-answer : goal.returns-then-out-at-2-clause-answer
returns-then-out-at-2-clause-answer c = sym (behind-not _ _ _ (omega arith))

pub returns-clause-output : goal.returns-clause-output
returns-clause-output c =
    let out = c.args.out.now in
    let at = c.args.at in
    let s = c.args.s.now in
    let end = at + length s in
    ap (λ t. take at out ++ (t ++ post_of at (end - at) out)) c.copy_from_slice.ensures.after
    ∙ sym (append_assoc (take at out) s _)
    ∙ ap (λ t. take at out ++ s ++ t) (Post-is at end out (omega arith))
    ∙ sym (put-in out at s (omega arith))

pub returns-clause-answer : goal.returns-clause-answer
returns-clause-answer c = sym (behind-in _ _ _ (omega arith))
