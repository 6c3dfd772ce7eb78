-- `sample_writer::put_file` meets its contract.
-- Assumes nothing.
use mathlib.Core.Path.{refl, ◌∙◌}
use native.Mathlib.Omega.{arith}
use mathlib.Core.List.{[], ◌++◌}
use lib.ListN.{length}
use Rattle.sample_numbers.specs.Number.{bytes_of}
use Rattle.sample_writer.specs.Write.{samples_file}
use Rattle.sample_writer.proofs.Fill.{begins, and-number, and_bytes, and-part, same_size, filled, put-file-is}
use borrow.Author.Rules.{rules}
use Rattle.sample_writer.proofs.put_file.Goals as goal

pub put_samples-requires : goal.put_samples-requires
put_samples-requires c = (c.requires.0, (c.requires.1.0, (c.requires.1.1.0, search rules)))

pub returns : goal.returns
unfolding samples_file
returns c = let m = c.args.message.now in
    let b1 = and-number (begins c.args.out.now) 1 1 c.put_at.new.out (omega (arith, c.requires)) c.put_at.ensures in
    let b2 = and-number b1 2 (length m) c.put_at-2.new.out (omega (arith, c.requires)) c.put_at-2.ensures in
    let b3 = and_bytes b2 (length m) m c.put_bytes.new.out refl (omega (arith, c.requires)) c.put_bytes.ensures in
    let n3 = same_size b3 (omega (arith, c.requires)) in
    let b4 = and-part b3 (length c.put_bytes.new.out) c.put_samples.new.out (omega (arith, c.requires)) (omega arith) c.put_samples.auto.out in
    filled b4 (omega (arith, c.requires))
    ∙ (λ i. ((([] ++ bytes_of 1 1) ++ bytes_of 2 (length m)) ++ m) ++ c.put_samples.ensures i)
    ∙ put-file-is m _
