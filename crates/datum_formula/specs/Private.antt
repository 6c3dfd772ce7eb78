-- What the private functions ask for and answer.
-- Assumes nothing.
use Rattle.std.specs.Prelude.{◌^◌, ◌≤◌, ℤ, pos, nat_abs, ◌+ℤ◌, ◌-ℤ◌, ◌*ℤ◌}
use Rattle.datum_formula.specs.declared.Values.{Values}
use Rattle.datum_formula.specs.Formula.{rotation}

-- what the widths of DF156 to DF162 say of the values
pub record Held (v : Values) : Type 0 where
  pub dx : nat_abs v.dx ≤ 2 ^ 22
  pub dy : nat_abs v.dy ≤ 2 ^ 22
  pub dz : nat_abs v.dz ≤ 2 ^ 22
  pub rx : nat_abs v.rx ≤ 2 ^ 31
  pub ry : nat_abs v.ry ≤ 2 ^ 31
  pub rz : nat_abs v.rz ≤ 2 ^ 31
  pub ds : nat_abs v.ds ≤ 2 ^ 24

-- a coordinate, the two others with their rotations, the scale and the translation
pub record Inputs (own a b ra rb ds d : ℤ) : Type 0 where
  pub place : nat_abs own ≤ 10 ^ 11
  pub others : (nat_abs a ≤ 10 ^ 11) × (nat_abs b ≤ 10 ^ 11)
  pub rotations : (nat_abs ra ≤ 2 ^ 31) × (nat_abs rb ≤ 2 ^ 31)
  pub scale : nat_abs ds ≤ 2 ^ 24
  pub translation : nat_abs d ≤ 2 ^ 22

-- a row of R times the position, over 10^24
abbrev pub rotated : (own a b ra rb : ℤ) → ℤ
rotated own a b ra rb = pos (10 ^ 24) *ℤ own +ℤ rotation ra *ℤ a -ℤ rotation rb *ℤ b
