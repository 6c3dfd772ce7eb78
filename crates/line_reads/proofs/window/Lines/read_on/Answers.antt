-- What was read stands behind the bytes that are held.
use Rattle.std.proofs.Common.{rules, arith, ◌≡◌, ◌+◌, ◌-◌, ◌++◌, length, take, drop, sym, ap, ◌∙◌}
use borrow.Rule.Slice.PartMut.{put_mid}
use Rattle.line_reads.proofs.Known.{left_more, filled}
use Rattle.line_reads.proofs.window.Lines.read_on.Goals as goal

pub returns-clause-kept : goal.returns-clause-kept
returns-clause-kept g c =
    let w = c.to_front.new.self in
    let n = c.in_ok-self.field-0 in
    let bytes = c.read_full.new.bytes in
    let zero = c.to_front.ensures.front in
    let room : length w.window ≡ 4096 = search rules in
    let more = filled w.held (4096 - w.held) n w.window bytes (omega (arith, w.in_window)) c.in_ok-self.ensures.in_bounds.0 in
    left_more _ _ _ _ _ c.in_ok-self.ensures.taken
    (
    ap (λ f. drop f (take (w.held + n) (put_mid w.held (4096 - w.held) w.window bytes))) zero
    ∙ more
    ∙ ap (λ x. x ++ take n bytes) (sym (ap (λ f. drop f (take w.held w.window)) zero) ∙ c.to_front.ensures.bytes)
    )
