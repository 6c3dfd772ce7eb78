-- `message_rows::head_refusal` meets its contract: each return is a case of the tests in their order.
-- Assumes nothing.
use mathlib.Core.Path.{◌∙◌}
use borrow.Author.Tests.{lt-ltb, le-ltb, lt-leb, le-leb}
use native.Mathlib.Omega.{arith}
use Rattle.message_rows.proofs.Head.{number_read, source-read, counted-low}
use Rattle.message_rows.specs.Message.{number_of, source_count}
use Prim.Native.Nat.{◌+◌}
use lib.ListN.{length}
use borrow.Author.Rules.{rules}
use Rattle.message_rows.proofs.head_refusal.Goals as goal

pub returns-then-len-lt2 : goal.returns-then-len-lt2
returns-then-len-lt2 c = let s = c.args.s.now in
    rw (lt-ltb (length s) (2) c.if-len-lt2.true)

pub returns-then-number-lt1021 : goal.returns-then-number-lt1021
returns-then-number-lt1021 c = let s = c.args.s.now in
    let e = c.requires.0 ∙ number_read s c.if-len-lt2.false in
    rw (le-ltb (length s) (2) c.if-len-lt2.false, lt-leb (1021) (number_of s) (rw e at c.if-number-lt1021.true))

pub returns-then-number-gt1027 : goal.returns-then-number-gt1027
returns-then-number-gt1027 c = let s = c.args.s.now in
    let e = c.requires.0 ∙ number_read s c.if-len-lt2.false in
    rw (le-ltb (length s) (2) c.if-len-lt2.false, le-leb (1021) (number_of s) (rw e at c.if-number-lt1021.false), lt-leb (number_of s) (1027) (rw e at c.if-number-gt1027.true))

pub returns-then-number-gt1022 : goal.returns-then-number-gt1022
returns-then-number-gt1022 c = let s = c.args.s.now in
    let e = c.requires.0 ∙ number_read s c.if-len-lt2.false in
    rw (le-ltb (length s) (2) c.if-len-lt2.false, le-leb (1021) (number_of s) (rw e at c.if-number-lt1021.false), le-leb (number_of s) (1027) (rw e at c.if-number-gt1027.false), lt-leb (number_of s) (1022) (rw e at c.if-number-gt1022.true))

pub returns-then-len-lt3 : goal.returns-then-len-lt3
returns-then-len-lt3 c = let s = c.args.s.now in
    let e = c.requires.0 ∙ number_read s c.if-len-lt2.false in
    rw (le-ltb (length s) (2) c.if-len-lt2.false, le-leb (1021) (number_of s) (rw e at c.if-number-lt1021.false), le-leb (number_of s) (1027) (rw e at c.if-number-gt1027.false), le-leb (number_of s) (1022) (rw e at c.if-number-gt1022.false), lt-ltb (length s) (3) c.if-len-lt3.true)

pub returns-then-len-n : goal.returns-then-len-n
returns-then-len-n c = let s = c.args.s.now in
    let e = c.requires.0 ∙ number_read s c.if-len-lt2.false in
    let f = rw (le-leb c.args.number 1022 c.if-number-gt1022.false) at c.requires.1 ∙ source-read s c.if-len-lt3.false in
    rw (le-ltb (length s) (2) c.if-len-lt2.false, le-leb (1021) (number_of s) (rw e at c.if-number-lt1021.false), le-leb (number_of s) (1027) (rw e at c.if-number-gt1027.false), le-leb (number_of s) (1022) (rw e at c.if-number-gt1022.false), le-ltb (length s) (3) c.if-len-lt3.false, lt-ltb (length s) (source_count s + 3) (rw f at c.if-len-n.true))

pub returns : goal.returns
returns c = let s = c.args.s.now in
    let e = c.requires.0 ∙ number_read s c.if-len-lt2.false in
    let f = rw (le-leb c.args.number 1022 c.if-number-gt1022.false) at c.requires.1 ∙ source-read s c.if-len-lt3.false in
    rw (le-ltb (length s) (2) c.if-len-lt2.false, le-leb (1021) (number_of s) (rw e at c.if-number-lt1021.false), le-leb (number_of s) (1027) (rw e at c.if-number-gt1027.false), le-leb (number_of s) (1022) (rw e at c.if-number-gt1022.false), le-ltb (length s) (3) c.if-len-lt3.false, le-ltb (length s) (source_count s + 3) (rw f at c.if-len-n.false))

pub overflow_add-n : goal.overflow_add-n
overflow_add-n c = let a = c.args in omega (arith, counted-low a.s.now a.number 12, c.requires.1)
