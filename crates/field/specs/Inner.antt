-- What only promises between crates name.
-- Assumes nothing.
use Rattle.std.specs.Prelude.{ℕ, ◌+◌, ◌*◌, ◌%◌, ◌^◌, List, Bool, true, cond, ◌&&◌, ltb, leb, length, nat_abs, ℤ, Option, Some, None}
use Rattle.field.specs.Field.{field, set_field, none_of, signed_of, pattern_of}

-- the values of w bits are those between the most negative one and its opposite
abbrev pub fits : ℕ → Option ℤ → Bool
fits w (Some z) = ltb (nat_abs z) (none_of w)
fits w None = true

-- ---- fields of lent bytes

-- the field has at most 63 bits, begins at a bit of at most 65,535 and ends within s
abbrev pub contains : List ℕ → ℕ → ℕ → Bool
contains s p w = leb w 63 && (leb p 65535 && leb (p + w) (8 * length s))

-- the number in a field, 0 where s does not contain it; and what a signed field says, which is the value 0 there (none, where w is 0)
unfoldable pub field_at : List ℕ → ℕ → ℕ → ℕ
field_at s p w = cond (contains s p w) (field s p w) 0

-- the number in the w low bits of u; 0 where w is more than 63
abbrev pub low_bits : ℕ → ℕ → ℕ
low_bits w u = cond (leb w 63) (u % 2 ^ w) 0

unfoldable pub signed_at : List ℕ → ℕ → ℕ → Option ℤ
signed_at s p w = signed_of w (field_at s p w)

-- s with a number in a field, or with what a signed field is to say; s where s does not contain the field or the number does not fit
unfoldable pub put_field : List ℕ → ℕ → ℕ → ℕ → List ℕ
put_field s p w v = cond (contains s p w && ltb v (2 ^ w)) (set_field s p w v) s

unfoldable pub put_signed : List ℕ → ℕ → ℕ → Option ℤ → List ℕ
put_signed s p w r = cond (fits w r) (put_field s p w (pattern_of w r)) s
