-- `heights::write_heights` meets its contract: the row with the mean is written.
-- Assumes nothing.
use Rattle.arith.proofs.Numbers.{passed}
use mathlib.Core.Path.{◌≡◌, sym, ap, ◌∙◌}
use mathlib.Core.Bool.{true}
use mathlib.Core.List.{List}
use Prim.Native.Nat.{ℕ}
use borrow.Author.Rules.{rules}
use lib.IntN.{ℤ}
use lib.ListN.{length}
use mir.Syntax.{w64}
use mir.ValLaws.{to_z-of_z}
use Rattle.std.proofs.Common.{FitsSigned, Some}
use Rattle.arith.specs.First.{first}
use Rattle.message_rows.specs.Message.{kind_write_refusal}
use Rattle.heights_mean.specs.Means.{smallest_mean}
use Rattle.heights_mean.proofs.Choice.{smallest}
use Rattle.heights.specs.Heights.{height_values, height_present, record_tests, heights_refusal}
use Rattle.heights.proofs.Calls.{written_out, message-is}
use Rattle.heights.proofs.write_heights.Goals as goal

pub values_with-v-requires : goal.values_with-v-requires
values_with-v-requires c = let w : List ℤ = c.args.wanted.now in
    let mean : ℤ = c.in-Some.mean in
    let found : smallest_mean w ≡ Some mean = sym c.smallest_mean.ensures ∙ c.in-Some.is in
    let m = smallest w mean found in
    let f : FitsSigned w64 mean = search rules in
    rw (to_z-of_z w64 mean f) (c.if-values-ne64.false, (m.range, m.fitting))

pub returns : goal.returns
returns c = let z : List ℤ = c.args.values.now in
    let b : List ℕ = c.args.present.now in
    let w : List ℤ = c.args.wanted.now in
    let out : List ℕ = c.args.out.now in
    let record-passed : first (record_tests z b) ≡ 0 = sym c.record_refusal.ensures ∙ passed c.in_ok-record_refusal.was in
    let mean : ℤ = c.in-Some.mean in
    let found : smallest_mean w ≡ Some mean = sym c.smallest_mean.ensures ∙ c.in-Some.is in
    let n : kind_write_refusal 1023 1023 true (height_values z w mean) (height_present b) (length out) ≡ heights_refusal z b w (length out) = written_out z b w (length out) c.if-values-ne64.false c.if-present-ne64.false c.if-wanted-ne16.false record-passed mean found in
    let f : FitsSigned w64 mean = search rules in
    let v : c.values_with-v.result ≡ height_values z w mean = c.values_with-v.ensures ∙ ap (height_values z w) (to_z-of_z w64 mean f) in
    let p : c.bytes_with-p.result ≡ height_present b = c.bytes_with-p.ensures in
    let m = message-is z b w mean found in
    let d = c.write_kind.ensures in
    record { answer = rw (← n, ← m, ← v, ← p) d.answer; output = rw (← n, ← m, ← v, ← p) d.output }
