-- By the tests of the code.
use Rattle.std.proofs.Common.{rules, ◌≡◌, length, false, sym, ◌∙◌, None}
use borrow.Author.Tests.{tests}
use Rattle.text_numerals.specs.Inner.{none, hex_count, hex_filled}
use Rattle.text_numerals.proofs.Answers.{hex-none, hex-empty, hex-large, hex-odd, hex-is}
use Rattle.text_numerals.proofs.hex.Goals as goal
use Rattle.text_numerals.proofs.hex.Goals.{then-is_empty-via-then-is_empty, then-is_empty-via-else-is_empty+then-bytes-s, then-is_empty-via-else-is_empty+else-bytes-s+then-not-pairs}

pub returns-then-same : goal.returns-then-same
unfolding none
returns-then-same c =
    let p = hex-none c.args.s.now c.args.bytes.now (sym c.same.ensures ∙ c.if-same.true) in
    record { answer = p.0; output = p.1 }

pub returns-then-is_empty : goal.returns-then-is_empty
unfolding none
returns-then-is_empty c =
    let s = c.args.s.now in
    let bytes = c.args.bytes.now in
    let not_none : none s ≡ false = sym c.same.ensures ∙ c.if-same.false in
    let p : (None ≡ hex_count s bytes) × (bytes ≡ hex_filled s bytes) = elim c.then-is_empty.branch [
      | then-is_empty-via-then-is_empty w ↦ (let z : length s ≡ 0 = search (rules, tests) in hex-empty s bytes not_none z)
      | then-is_empty-via-else-is_empty+then-bytes-s w ↦ hex-large s bytes not_none w.if-bytes-s.true
      | then-is_empty-via-else-is_empty+else-bytes-s+then-not-pairs w ↦ hex-odd s bytes not_none (sym w.pairs.ensures ∙ w.if-not-pairs.true)
    ] in
    record { answer = p.0; output = p.1 }

pub fill-requires : goal.fill-requires
fill-requires c = record { s_value = sym c.pairs.ensures ∙ c.if-not-pairs.false; s_in_bounds = c.if-bytes-s.false }

pub returns : goal.returns
unfolding none
returns c =
    let s = c.args.s.now in
    let not_none : none s ≡ false = sym c.same.ensures ∙ c.if-same.false in
    let some : (length s ≡ 0 → ⊥) = λ z. search (rules, tests) in
    let e = hex-is s c.args.bytes.now not_none some c.if-bytes-s.false (sym c.pairs.ensures ∙ c.if-not-pairs.false) in
    record { answer = e.0; output = c.fill.ensures ∙ e.1 }
