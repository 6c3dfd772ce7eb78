-- `text_numerals::put_hex` meets its contract: by whether there are bytes, and room.
-- Assumes nothing.
use Prim.Native.Nat.{◌+◌, ◌*◌, ◌<◌}
use native.Mathlib.Omega.{arith}
use mathlib.Core.Path.{◌≡◌, sym, ap, ◌∙◌}
use lib.ListN.{length}
use Rattle.text_words.specs.Inner.{put, place_behind}
use Rattle.text_words.proofs.Laws.{put-not, behind-in, behind-not}
use Rattle.text_numerals.specs.Inner.{pairs_of, hexadecimal}
use Rattle.text_numerals.proofs.DigitPairs.{pairs-length}
use Rattle.text_numerals.proofs.Answers.{no_bytes, some_bytes, paste-put}
use Rattle.text_numerals.proofs.put_hex.Goals as goal

pub returns-then-s-eq0 : goal.returns-then-s-eq0
returns-then-s-eq0 c = let a = c.args in
    let e = sym (no_bytes a.s.now c.if-s-eq0.true) in record { output = c.put.ensures.output ∙ ap (put a.out.now a.at) e; answer = c.put.ensures.answer ∙ ap (place_behind a.out.now a.at) e }

pub returns-then-out-at : goal.returns-then-out-at
returns-then-out-at c = let a = c.args in
    let e = some_bytes a.s.now c.if-s-eq0.false in
    let n = pairs-length a.s.now in
    let h : length a.out.now < a.at + length (hexadecimal a.s.now) = rw e (omega arith) in record { output = sym (put-not a.out.now a.at (hexadecimal a.s.now) h); answer = sym (behind-not a.out.now a.at (hexadecimal a.s.now) h) }

pub returns-then-out-at-2 : goal.returns-then-out-at-2
returns-then-out-at-2 c = let a = c.args in
    let e = some_bytes a.s.now c.if-s-eq0.false in
    let n = pairs-length a.s.now in
    let h : length a.out.now < a.at + length (hexadecimal a.s.now) = rw e (omega arith) in record { output = sym (put-not a.out.now a.at (hexadecimal a.s.now) h); answer = sym (behind-not a.out.now a.at (hexadecimal a.s.now) h) }

pub returns : goal.returns
returns c = let a = c.args in
    let e = sym (some_bytes a.s.now c.if-s-eq0.false) in
    let n = pairs-length a.s.now in
    let end : a.at + length (pairs_of a.s.now) ≡ a.at + 2 * length a.s.now = omega arith in record { output = c.spell.ensures ∙ paste-put a.out.now a.at (pairs_of a.s.now) (2 * length a.s.now) (sym n) (omega arith) ∙ ap (put a.out.now a.at) e; answer = sym (behind-in a.out.now a.at (pairs_of a.s.now) (omega arith) ∙ end) ∙ ap (place_behind a.out.now a.at) e }
