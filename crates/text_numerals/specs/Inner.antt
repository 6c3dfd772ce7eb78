-- What only promises between crates name.
-- Assumes nothing.
use Rattle.std.specs.Prelude.{ℕ, zero, suc, ◌+◌, ◌*◌, ◌/◌, ◌%◌, ◌^◌, ◌-◌, Bool, true, false, cond, ◌&&◌, List, [], ◌∷◌, ◌++◌, eqb, ltb, leb, drop, get_or, length, Option, Some, None, ℤ, pos, negsuc, neg_ℤ}
use Rattle.text_words.specs.Words.{same}

-- the value of a digit, `0` to `9` and `a` to `f`; 16 for any other byte
unfoldable pub digit : ℕ → ℕ
digit b = cond (leb 48 b && leb b 57) (b - 48) (cond (leb 97 b && leb b 102) (b - 87) 16)

-- the digit of a number below 16
unfoldable pub glyph : ℕ → ℕ
glyph n = cond (ltb n 10) (48 + n) (87 + n)

-- ---- reading

-- whether bytes are pairs of digits
unfoldable pub pairs : List ℕ → Bool
pairs [] = true
pairs (a ∷ []) = false
pairs (a ∷ (b ∷ s)) = ltb (digit a) 16 && ltb (digit b) 16 && pairs s

-- the bytes that pairs of digits spell
unfoldable pub bytes_of : List ℕ → List ℕ
bytes_of [] = []
bytes_of (a ∷ []) = []
bytes_of (a ∷ (b ∷ s)) = (digit a * 16 + digit b) ∷ bytes_of s

-- a minus sign, 45, spells no bytes
unfoldable pub none : List ℕ → Bool
none s = same s (45 ∷ [])

unfoldable pub hex_bytes : List ℕ → List ℕ
hex_bytes s = cond (none s) [] (bytes_of s)

-- whether s spells bytes, and at most n of them
unfoldable pub spells_bytes : List ℕ → ℕ → Bool
spells_bytes s n = cond (none s) true (ltb 0 (length s) && leb (length (bytes_of s)) n && pairs s)

-- how many bytes s spells, where a buffer has room for them
unfoldable pub hex_count : List ℕ → List ℕ → Option ℕ
hex_count s buffer = cond (spells_bytes s (length buffer)) (Some (length (hex_bytes s))) None

-- the buffer with these bytes at its front, else as it was
unfoldable pub hex_filled : List ℕ → List ℕ → List ℕ
hex_filled s buffer = cond (spells_bytes s (length buffer)) (hex_bytes s ++ drop (length (hex_bytes s)) buffer) buffer

-- ---- writing

unfoldable pub pairs_of : List ℕ → List ℕ
pairs_of [] = []
pairs_of (b ∷ s) = glyph (b / 16) ∷ (glyph (b % 16) ∷ pairs_of s)

-- two digits a byte, a minus sign for no bytes
unfoldable pub hexadecimal : List ℕ → List ℕ
hexadecimal [] = 45 ∷ []
hexadecimal (b ∷ s) = pairs_of (b ∷ s)

-- ---- reading

-- whether each byte is a decimal digit
unfoldable pub digits_only : List ℕ → Bool
digits_only [] = true
digits_only (b ∷ s) = ltb (digit b) 10 && digits_only s

-- a decimal numeral: one digit or more, zeros in front allowed
unfoldable pub numeral : List ℕ → Bool
numeral [] = false
numeral (b ∷ s) = digits_only (b ∷ s)

-- the number that digits spell behind n
unfoldable pub spelled : ℕ → List ℕ → ℕ
spelled n [] = n
spelled n (b ∷ s) = spelled (n * 10 + digit b) s

-- a natural number of 64 bits
unfoldable pub natural : List ℕ → Option ℕ
natural s = cond (numeral s && ltb (spelled 0 s) (2 ^ 64)) (Some (spelled 0 s)) None

-- a number of 8 bits
unfoldable pub byte_of : Option ℕ → Option ℕ
byte_of (Some n) = cond (ltb n 256) (Some n) None
byte_of None = None

-- a number of 64 bits with a sign: from -2^63 to 2^63 - 1
unfoldable pub positive : Option ℕ → Option ℤ
positive (Some n) = cond (ltb n (2 ^ 63)) (Some (pos n)) None
positive None = None

unfoldable pub negative : Option ℕ → Option ℤ
negative (Some n) = cond (leb n (2 ^ 63)) (Some (neg_ℤ (pos n))) None
negative None = None

-- a numeral, or one behind a minus sign, 45
unfoldable pub whole : List ℕ → Option ℤ
whole s = cond (eqb (get_or s 0 0) 45) (negative (natural (drop 1 s))) (positive (natural s))

-- ---- writing

-- the last digits of n, at most k; all of them where it has no more
unfoldable pub digits_of : ℕ → ℕ → List ℕ
digits_of zero n = []
digits_of (suc k) n = cond (ltb n 10) (glyph n ∷ []) (digits_of k (n / 10) ++ (glyph (n % 10) ∷ []))

-- the numeral of a number of 64 bits, which has at most 20 digits
unfoldable pub decimal : ℕ → List ℕ
decimal n = digits_of 20 n

-- the numeral of a number with a sign
unfoldable pub whole_decimal : ℤ → List ℕ
whole_decimal (pos n) = decimal n
whole_decimal (negsuc n) = 45 ∷ decimal (suc n)
