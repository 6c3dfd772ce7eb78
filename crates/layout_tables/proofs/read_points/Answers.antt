-- `layout_tables::read_points` meets its contract.
-- Assumes nothing.
use mathlib.Core.Path.{◌≡◌, ap, ◌∙◌}
use mathlib.Core.List.{List}
use Prim.Native.Nat.{ℕ}
use native.Mathlib.Omega.{arith}
use lib.ListN.{length, replicate}
use borrow.Rule.Slice.PartMut.{mid_of, put_mid}
use Rattle.layout_reader.specs.Inner.{values_loaded, present_loaded}
use Rattle.layout_tables.specs.Private.{nodes}
use Rattle.layout_tables.proofs.Parts.{mid-length, length-nodes, total-nodes, part-loaded}
use Rattle.layout_tables.proofs.read_points.Goals as goal

-- as many fields as there are values
same : (n : ℕ) → n ≡ 48 → replicate n 73 ≡ nodes
unfolding nodes
same n e = ap (λ (k : ℕ). replicate k 73) e

pub returns : goal.returns
returns c = let a = c.args in
    let e = same (length (mid_of 11 48 a.values.now)) (mid-length 11 48 a.values.now (omega arith)) in
    let t = part-loaded nodes 11 48 a.p a.s.now a.values.now a.present.now length-nodes (omega arith) (omega arith) (omega (arith, total-nodes)) (omega arith) (omega arith) in record { values = ap (put_mid 11 48 a.values.now) (c.read_times.ensures.values ∙ ap (λ (es : List ℕ). values_loaded es a.p a.s.now (mid_of 11 48 a.values.now) (mid_of 11 48 a.present.now)) e) ∙ t.0; present = ap (put_mid 11 48 a.present.now) (c.read_times.ensures.present ∙ ap (λ (es : List ℕ). present_loaded es a.p a.s.now (mid_of 11 48 a.values.now) (mid_of 11 48 a.present.now)) e) ∙ t.1 }
