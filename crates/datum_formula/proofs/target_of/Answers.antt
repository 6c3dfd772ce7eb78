-- `datum_formula::target_of` meets its contract: each coordinate is called with its row of the matrix.
-- Assumes nothing.
use mathlib.Core.Path.{◌≡◌, refl, sym, subst}
use Prim.Native.Nat.{◌*◌, ◌<◌, ◌^◌}
use native.Mathlib.Omega.{arith}
use borrow.Author.Rules.{rules}
use lib.IntN.{ℤ, pos, ◌*ℤ◌, ◌+ℤ◌, ◌-ℤ◌}
use lib.Signed.{mag}
use mir.Syntax.{w64}
use mir.Val.{to_z, of_z}
use Rattle.arith.proofs.Back.{held}
use Rattle.arith.proofs.Int.{ring, at, ◌⊞◌, ◌⊟◌}
use Rattle.datum_formula.specs.declared.Values.{Values}
use Rattle.datum_formula.specs.Formula.{rotation, rotated_x, rotated_y, rotated_z, moved, About}
use Rattle.datum_formula.specs.Private.{rotated}
use Rattle.arith.proofs.Machine.{Num, arg}
use Rattle.datum_formula.proofs.target_of.Goals as goal

-- the bound of each coordinate
abbrev Bound : (answer target : ℤ) → Type 0
Bound answer target = About (10 ^ 35) answer target (521 * 10 ^ 32)

-- what a call of `coordinate` answers, its arguments and its result read back from their bits
answered : (own a b ra rb ds d : Num) (r : ℤ) {m : ℤ} → mag r < 2 ^ 63
    → Bound r (moved (to_z w64 ds.bits) (rotated (to_z w64 own.bits) (to_z w64 a.bits) (to_z w64 b.bits) (to_z w64 ra.bits) (to_z w64 rb.bits)) (to_z w64 d.bits))
    → rotated own.z a.z b.z ra.z rb.z ≡ m → Bound (to_z w64 (of_z w64 r)) (moved ds.z m d.z)
answered own a b ra rb ds d r f h e =
    subst (λ (m : ℤ). Bound (to_z w64 (of_z w64 r)) (moved ds.z m d.z)) e
    (subst (λ (z : ℤ). Bound z (moved ds.z (rotated own.z a.z b.z ra.z rb.z) d.z)) (sym (held r f))
    (subst (Bound r) (λ i. moved (ds.held i) (rotated (own.held i) (a.held i) (b.held i) (ra.held i) (rb.held i)) (d.held i)) h))

module _ (p : Values) (x y z : ℤ) where
  row-x : rotated x y z p.rz p.ry ≡ rotated_x p x y z
  unfolding rotated_x
  row-x = refl

  row-y : rotated y z x p.rx p.rz ≡ rotated_y p x y z
  unfolding rotated_y
  row-y = exchange (pos (10 ^ 24) *ℤ y) (rotation p.rx *ℤ z) (rotation p.rz *ℤ x)
    where
      exchange : (a b c : ℤ) → a +ℤ b -ℤ c ≡ a -ℤ c +ℤ b
      exchange a b c = ring (at a ⊞ at b ⊟ at c) (at a ⊟ at c ⊞ at b) (omega arith)

  row-z : rotated z x y p.ry p.rx ≡ rotated_z p x y z
  unfolding rotated_z
  row-z = refl

pub coordinate-requires : goal.coordinate-requires
coordinate-requires c = search rules

pub coordinate-requires-2 : goal.coordinate-requires-2
coordinate-requires-2 c = search rules

pub coordinate-requires-3 : goal.coordinate-requires-3
coordinate-requires-3 c = search rules

pub returns : goal.returns
returns c = let x : Num = arg c.args.x (10 ^ 11) c.requires.1 tt in
    let y : Num = arg c.args.y (10 ^ 11) c.requires.2 tt in
    let z : Num = arg c.args.z (10 ^ 11) c.requires.3 tt in
    let rx : Num = arg c.args.v.rx (2 ^ 31) c.requires.0.rx tt in
    let ry : Num = arg c.args.v.ry (2 ^ 31) c.requires.0.ry tt in
    let rz : Num = arg c.args.v.rz (2 ^ 31) c.requires.0.rz tt in
    let ds : Num = arg c.args.v.ds (2 ^ 24) c.requires.0.ds tt in
    let dx : Num = arg c.args.v.dx (2 ^ 22) c.requires.0.dx tt in
    let dy : Num = arg c.args.v.dy (2 ^ 22) c.requires.0.dy tt in
    let dz : Num = arg c.args.v.dz (2 ^ 22) c.requires.0.dz tt in (
      refl,
      record {
        at_x = answered x y z rz ry ds dx c.coordinate.result c.coordinate.type_inv c.coordinate.ensures (row-x c.args.v c.args.x c.args.y c.args.z);
        at_y = answered y z x rx rz ds dy c.coordinate-2.result c.coordinate-2.type_inv c.coordinate-2.ensures (row-y c.args.v c.args.x c.args.y c.args.z);
        at_z = answered z x y ry rx ds dz c.coordinate-3.result c.coordinate-3.type_inv c.coordinate-3.ensures (row-z c.args.v c.args.x c.args.y c.args.z);
      },
    )
