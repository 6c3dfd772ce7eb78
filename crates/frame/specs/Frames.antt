-- Frames of RTCM 10403.1, section 4, in a stream of bytes.
-- Assumes nothing.
use Rattle.std.specs.Prelude.{ℕ, ◌+◌, ◌-◌, ◌*◌, ◌/◌, ◌%◌, Bool, cond, ◌&&◌, List, [], ◌∷◌, ◌++◌, length, get_or, take, drop, ltb, leb, eqb}
use Rattle.arith.specs.Places.{first_of}
use Rattle.frame_crc.specs.Crc.{crc}
use Rattle.frame.specs.declared.Frame.{Frame}

-- ---- the frame of a message

-- byte D3, six zero bits and ten bits of length
unfoldable pub head : ℕ → List ℕ
head n = 211 ∷ n / 256 ∷ n % 256 ∷ []

-- a number of 24 bits
unfoldable pub three : ℕ → List ℕ
three c = c / 65536 ∷ c / 256 % 256 ∷ c % 256 ∷ []

unfoldable pub headed : List ℕ → List ℕ
headed m = head (length m) ++ m

-- head and message, then the CRC of these
unfoldable pub frame : List ℕ → List ℕ
frame m = headed m ++ three (crc (headed m))

-- ---- what stands at the start of t, where a byte that has not arrived reads as 0

unfoldable pub candidate : List ℕ → Bool
candidate t = eqb (get_or t 0 0) 211 && ltb (get_or t 1 0) 4

unfoldable pub length_of : List ℕ → ℕ
length_of t = get_or t 1 0 % 4 * 256 + get_or t 2 0

-- the number of 24 bits from byte k on
unfoldable pub three_at : List ℕ → ℕ → ℕ
three_at t k = get_or t k 0 * 65536 + get_or t (k + 1) 0 * 256 + get_or t (k + 2) 0

-- the CRC behind head and message is that of these
unfoldable pub right_crc : List ℕ → Bool
right_crc t = eqb (crc (take (length_of t + 3) t)) (three_at t (length_of t + 3))

-- a candidate whose length byte, message or CRC reaches past the end
unfoldable pub unfinished : List ℕ → Bool
unfinished t = candidate t && ltb (length t) (length_of t + 6)

-- a whole frame with a right CRC
unfoldable pub whole : List ℕ → Bool
whole t = candidate t && (leb (length_of t + 6) (length t) && right_crc t)

-- ---- the answers, by first places

unfoldable pub stands_at : (List ℕ → Bool) → List ℕ → ℕ → Bool
stands_at p s i = p (drop i s)

-- the first place at or after from where p stands; the end of s, or from past it, where it stands nowhere
unfoldable pub first_place : (List ℕ → Bool) → List ℕ → ℕ → ℕ
first_place p s from = first_of (stands_at p s) from (length s - from)

abbrev pub found : ℕ → ℕ → Frame
found at n = record { refusal = 0; at = at; length = n }

-- 19 NEED
abbrev pub need : ℕ → Frame
need at = record { refusal = 19; at = at; length = 0 }

-- 20 NOFRAME
abbrev pub no_frame : Frame
no_frame = record { refusal = 20; at = 0; length = 0 }

-- the answer where u is the place of the first unfinished candidate and f that of the first whole frame
unfoldable pub answer_of : List ℕ → ℕ → ℕ → Frame
answer_of s u f = cond (ltb u f) (need u) (cond (ltb f (length s)) (found f (length_of (drop f s))) no_frame)

unfoldable pub find_frame : List ℕ → ℕ → Frame
find_frame s from = answer_of s (first_place unfinished s from) (first_place whole s from)
