-- `sample_numbers::read_number` meets its contract: the bytes passed are the number so far.
-- Assumes nothing.
use Prim.Native.Nat.{◌+◌, ◌*◌}
use mathlib.Core.Path.{refl}
use native.Mathlib.Numerals.{add-one}
use native.Mathlib.Omega.{arith}
use Rattle.sample_numbers.specs.Number.{number}
use Rattle.sample_numbers.proofs.Word.{fits_word, round_room}
use Rattle.sample_numbers.proofs.read_number.Goals as goal

pub loop-b-init : goal.loop-b-init
unfolding number
loop-b-init c = (omega arith, refl)

pub overflow_mul-r : goal.overflow_mul-r
overflow_mul-r c = let l = c.loop-b in
    let h = fits_word (l.r * 256 + 0) (l.b-index + 1) (omega arith) (round_room l.r 0 l.b-index l.invariant.0 (omega arith)) in
    record { fits = omega arith }

pub overflow_add-r : goal.overflow_add-r
overflow_add-r c = let l = c.loop-b in
    record { fits = fits_word _ (l.b-index + 1) (omega arith) (round_room l.r c.from.result l.b-index l.invariant.0 (omega arith)) }

pub loop-b-preserved : goal.loop-b-preserved
unfolding number
loop-b-preserved c = let l = c.loop-b in
    (round_room l.r c.from.result l.b-index l.invariant.0 (omega arith), rw (add-one l.b-index, c.from.ensures, l.invariant.1))
