-- `sample_writer::write_samples` meets its contract: each return is a case of what the writer answers.
-- Assumes nothing.
use mathlib.Core.Path.{◌≡◌, sym, ap, ◌∙◌}
use mathlib.Core.List.{List, ◌++◌}
use Prim.Native.Nat.{ℕ, ◌+◌, ◌*◌}
use native.Mathlib.Omega.{arith}
use borrow.Author.Rules.{rules}
use lib.ListN.{length, take, drop}
use lib.Seq.{length-take-le}
use Rattle.layout.proofs.Answer.{done-write}
use Rattle.sample_files.specs.File.{point_size}
use Rattle.sample_writer.specs.Refusals.{points_refusal}
use Rattle.sample_writer.proofs.Asked.{Passed, passed}
use Rattle.sample_writer.proofs.Writes.{refused-is, by-points, by-room, by-none, length-written}
use Rattle.sample_writer.proofs.write_samples.Goals as goal

pub returns-then-refusal-ne0 : goal.returns-then-refusal-ne0
returns-then-refusal-ne0 c = let p = refused-is _ _ _ _ _ c.refused.ensures c.if-refusal-ne0.true (by-points _ _ _ _ _ _ c.points_refusal-refusal.ensures c.if-refusal-ne0.true) in record { answer = p.0; output = p.1 }

pub overflow_mul-length : goal.overflow_mul-length
overflow_mul-length c = let none : points_refusal c.args.message.now c.args.components.now c.args.north.now c.args.east.now ≡ 0 = sym c.points_refusal-refusal.ensures ∙ c.if-refusal-ne0.false in
    let known : Passed c.args.message.now c.args.components.now c.args.north.now c.args.east.now = passed _ _ _ _ none in
    let h = known.few in search rules

pub overflow_add-length-2 : goal.overflow_add-length-2
overflow_add-length-2 c = let none : points_refusal c.args.message.now c.args.components.now c.args.north.now c.args.east.now ≡ 0 = sym c.points_refusal-refusal.ensures ∙ c.if-refusal-ne0.false in
    let known : Passed c.args.message.now c.args.components.now c.args.north.now c.args.east.now = passed _ _ _ _ none in
    let h = known.few in search rules

pub returns-then-out-length : goal.returns-then-out-length
returns-then-out-length c = let none : points_refusal c.args.message.now c.args.components.now c.args.north.now c.args.east.now ≡ 0 = sym c.points_refusal-refusal.ensures ∙ c.if-refusal-ne0.false in let p = refused-is _ _ _ _ _ c.refused-then-out-length.ensures (λ e. omega arith) (by-room _ _ _ _ _ none c.if-out-length.true) in record { answer = p.0; output = p.1 }

pub put_file-requires : goal.put_file-requires
put_file-requires c = let none : points_refusal c.args.message.now c.args.components.now c.args.north.now c.args.east.now ≡ 0 = sym c.points_refusal-refusal.ensures ∙ c.if-refusal-ne0.false in
    let known : Passed c.args.message.now c.args.components.now c.args.north.now c.args.east.now = passed _ _ _ _ none in
    let m : List ℕ = c.args.message.now in
    let out : List ℕ = c.args.out.now in
    let size : ℕ = 3 + length m + point_size * length c.args.components.now in
    let part : length (take size out) ≡ size = length-take-le size out c.if-out-length.false in
    (c.keep.ensures, (known.north, (known.east, part)))

pub returns : goal.returns
returns c = let none : points_refusal c.args.message.now c.args.components.now c.args.north.now c.args.east.now ≡ 0 = sym c.points_refusal-refusal.ensures ∙ c.if-refusal-ne0.false in
    let m : List ℕ = c.args.message.now in
    let out : List ℕ = c.args.out.now in
    let size : ℕ = 3 + length m + point_size * length c.args.components.now in
    let d = done-write _ size _ out (by-none _ _ _ _ _ none c.if-out-length.false) (sym (length-written m _ _ _ (length out) none)) in record { answer = d.0; output = ap (λ (l : List ℕ). l ++ drop size out) c.put_file.ensures ∙ d.1 }

pub slice_bounds-put_file-end-2 : goal.slice_bounds-put_file-end-2
slice_bounds-put_file-end-2 c =
    let m : List ℕ = c.args.message.now in
    let out : List ℕ = c.args.out.now in
    let size : ℕ = 3 + length m + point_size * length c.args.components.now in
    let part : length (take size out) ≡ size = length-take-le size out c.if-out-length.false in
    sym part
