-- `record_transformation_rows::append_name` meets its contract: the characters behind their counter.
-- Assumes nothing.
use native.Mathlib.Omega.{arith}
use mir.Syntax.{w64}
use mir.ValLaws.{to_z_pos}
use Rattle.record_rows.proofs.Appends.{appends, same_size}
use Rattle.record_transformation_rows.proofs.Appends.{name-behind}
use Rattle.record_transformation_rows.proofs.append_name.Goals as goal

pub append_chars-requires : goal.append_chars-requires
append_chars-requires c = let k = appends (omega arith) c.append-k.ensures.answer c.append-k.ensures.output in
    (omega arith, omega (arith, k.place, same_size k))

pub returns : goal.returns
returns c = let n = c.args.n in
    let k = appends (omega arith) c.append-k.ensures.answer c.append-k.ensures.output in
    name-behind n _ (to_z_pos w64 n.length (omega arith)) k c.append_chars.ensures
