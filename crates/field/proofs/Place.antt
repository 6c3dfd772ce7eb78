-- Fields that stand in the bytes or do not, and what is said of them.
-- Assumes nothing.
use Rattle.std.proofs.Common.{Some}
use mathlib.Core.Path.{◌≡◌}
use mathlib.Core.Bool.{Bool, true, false, cond, ◌&&◌}
use mathlib.Core.List.{List}
use Prim.Native.Nat.{ℕ, ◌+◌, ◌*◌, ◌/◌, ◌^◌, ◌≤◌, ◌<◌}
use native.Mathlib.Nat.{mod-eq_of_lt}
use native.Mathlib.Omega.{arith}
use native.Mathlib.Decide.{dec_lt}
use lib.Dec.{leb}
use lib.ListN.{length}
use lib.IntN.{pos}
use lib.Pow.{pow_mono, pow_pos}
use borrow.Author.Tests.{le-leb, lt-leb, leb-true, lt-ltb, ne_eqb}
use Rattle.arith.proofs.Tests.{both_first, both-second}
use Rattle.field.specs.Field.{field, signed_of, twos}
use Rattle.field.specs.Inner.{contains, field_at, low_bits}
use Rattle.field.proofs.Bit.{field_lt}

module _ (s : List ℕ) (p w : ℕ) where
  pub wide : 63 < w → contains s p w ≡ false
  wide h = rw (lt-leb w 63 h)

  pub stands : w ≤ 63 → p ≤ 65535 → p + w ≤ 8 * length s → contains s p w ≡ true
  stands a b h = rw (le-leb w 63 a, le-leb p 65535 b, le-leb (p + w) (8 * length s) h)

  pub contained : contains s p w ≡ true → (w ≤ 63) × ((p + w ≤ 8 * length s) × (p ≤ 65535))
  contained t =
      let u = both-second (leb w 63) (leb p 65535 && leb (p + w) (8 * length s)) t in
      (leb-true w 63 (both_first (leb w 63) (leb p 65535 && leb (p + w) (8 * length s)) t), (leb-true (p + w) (8 * length s) (both-second (leb p 65535) (leb (p + w) (8 * length s)) u), leb-true p 65535 (both_first (leb p 65535) (leb (p + w) (8 * length s)) u)))

  pub field-inside : w ≤ 63 → p ≤ 65535 → p + w ≤ 8 * length s → field_at s p w ≡ field s p w
  unfolding field_at
  field-inside a b h = rw (stands a b h)

  pub field_at-lt : field_at s p w < 2 ^ w
  unfolding field_at
  field_at-lt = by (contains s p w)
    where
      by : (b : Bool) → cond b (field s p w) 0 < 2 ^ w
      by true = field_lt s p w
      by false = pow_pos w

  -- the low bits of a field's number are all of it
  pub low-field_at : low_bits w (field_at s p w) ≡ field_at s p w
  low-field_at = by (dec_lt 63 w)
    where
      by : Dec (63 < w) → low_bits w (field_at s p w) ≡ field_at s p w
      by (yes h) = unfold field_at in rw (wide h, lt-leb w 63 h)
      by (no h) = rw (le-leb w 63 (omega arith)) (mod-eq_of_lt field_at-lt)

-- a signed field of more bits than it may have says 0
pub wide-says : (w u : ℕ) → 63 < w → signed_of w (low_bits w u) ≡ Some (pos 0)
unfolding signed_of twos
wide-says w u h =
    let two : 2 ^ 1 ≤ 2 ^ w = pow_mono {i = 1} {j = w} (omega arith) in
    let other : 0 ≡ 2 ^ w / 2 → ⊥ = λ e. omega arith in
    rw (lt-leb w 63 h, ne_eqb 0 (2 ^ w / 2) other, lt-ltb 0 (2 ^ w) (omega arith))
