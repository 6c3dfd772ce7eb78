-- `sample_files::point_in` meets its contract: each member is read at its place.
-- Assumes nothing.
use mathlib.Core.Path.{◌≡◌, sym, ap, ◌∙◌}
use mathlib.Core.List.{List}
use Prim.Native.Nat.{ℕ, ◌+◌, ◌^◌, ◌≤◌, ◌<◌}
use native.Mathlib.Omega.{arith}
use lib.IntN.{ℤ}
use lib.ListN.{length, drop}
use lib.Seq.{get_or-drop, drop-drop}
use lib.Signed.{mag}
use mir.Syntax.{w64}
use mir.Val.{to_z, of_z}
use Rattle.arith.proofs.Back.{held}
use Rattle.sample_numbers.specs.Number.{whole}
use Rattle.sample_numbers.specs.Inner.{whole_at}
use Rattle.sample_numbers.proofs.Number.{whole-within}
use Rattle.sample_files.specs.File.{point_of}
use Rattle.sample_files.proofs.point_in.Goals as goal

read : (s : List ℕ) (a k : ℕ) (z : ℤ) → mag z < 2 ^ 63 → z ≡ whole_at s (a + k) → a + k + 8 ≤ length s → to_z w64 (of_z w64 z) ≡ whole (drop k (drop a s))
read s a k z h e l = held z h ∙ e ∙ whole-within s (a + k) l ∙ ap whole (sym (drop-drop k a s))

pub returns : goal.returns
unfolding point_of
returns c = let s = c.args.s.now in
    let a = c.args.a in
    λ i. record {
      component = sym (get_or-drop a s 3 0) i;
      north = read s a 4 c.whole_at.result c.whole_at.type_inv c.whole_at.ensures (omega (arith, c.requires)) i;
      east = read s a 12 c.whole_at-2.result c.whole_at-2.type_inv c.whole_at-2.ensures (omega (arith, c.requires)) i;
      claim = read s a 20 c.whole_at-3.result c.whole_at-3.type_inv c.whole_at-3.ensures (omega (arith, c.requires)) i;
    }
