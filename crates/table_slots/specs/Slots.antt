-- The slots of the table that two owners share: document 01, "The table", with request A7.
-- Assumes nothing.
use Rattle.std.specs.Prelude.{ℕ, suc, ◌+◌, ◌-◌, ◌*◌, List, [], ◌∷◌, ◌++◌, Bool, true, cond, ◌&&◌, ◌||◌, length, get_or, take, drop, replicate, leb, eqb}
use Rattle.message_rows.specs.Message.{refusal, number_of, sin_of}

-- ---- sizes, named once: 32 slots of an owner byte, a length byte, 127 message bytes and three zeros

abbrev pub slots : ℕ
slots = 32

abbrev pub message_size : ℕ
message_size = 127

-- the message and three zeros
abbrev pub body_size : ℕ
body_size = message_size + 3

abbrev pub slot_size : ℕ
slot_size = 2 + body_size

abbrev pub table_size : ℕ
table_size = slots * slot_size

-- "Each owner may hold at most 20 slots"
abbrev pub most : ℕ
most = 20

-- ---- owners: "owner 1 or 2"

unfoldable pub is_owner : ℕ → Bool
is_owner o = eqb o 1 || eqb o 2

-- ---- keys, whose group is document 01's term: "A key is SIN and group: 0 for 1021 and 1022, 1 for 1023 and 1024, 2 for the rest"

abbrev pub group_of : ℕ → ℕ
group_of number = cond (leb number 1022) 0 (cond (leb number 1024) 1 2)

-- SIN and group as one number: different pairs have different numbers where the groups are 0 to 2
abbrev pub key : ℕ → ℕ → ℕ
key sin group = sin * 3 + group

unfoldable pub key_of : List ℕ → ℕ
key_of m = key (sin_of m) (group_of (number_of m))

-- "The owner joins the key": both as one number, different for different pairs where the owners are 1 and 2
abbrev pub joined : ℕ → ℕ → ℕ
joined owner k = k * 3 + owner

-- ---- slots

unfoldable pub all_zero : List ℕ → Bool
all_zero [] = true
all_zero (x ∷ xs) = eqb x 0 && all_zero xs

unfoldable pub slot : List ℕ → ℕ → List ℕ
slot t i = take slot_size (drop (i * slot_size) t)

-- the owner of a slot, 0 where it is free
abbrev pub owner_at : List ℕ → ℕ → ℕ
owner_at t i = get_or (slot t i) 0 0

-- what a slot holds, [] where it is free
unfoldable pub held : List ℕ → List ℕ
held s = take (get_or s 1 0) (drop 2 s)

-- a used slot is an owner, a length byte, an accepted message of that length, zeros
unfoldable pub used : List ℕ → Bool
used s =
    is_owner (get_or s 0 0) && (eqb (length (held s)) (get_or s 1 0) && (eqb (refusal (held s)) 0 && all_zero (drop (2 + get_or s 1 0) s)))

-- "A free slot is all zero"
unfoldable pub well_slot : List ℕ → Bool
well_slot s = all_zero s || used s

-- what a slot is looked for by: 0 where it is free, one more than its owner and key where it is used
unfoldable pub tag : List ℕ → ℕ
tag s = cond (eqb (get_or s 0 0) 0) 0 (suc (joined (get_or s 0 0) (key_of (held s))))

-- a slot of an owner that holds m; the free slot is that of owner 0 and []
unfoldable pub slot_of : ℕ → List ℕ → List ℕ
slot_of o m = o ∷ length m ∷ (m ++ replicate (body_size - length m) 0)
