-- When a message has no frame, or its frame no room: request A1, 3 LENGTH above 1,023 bytes, then 6 ROOM.
-- Assumes nothing.
use Rattle.std.specs.Prelude.{ℕ, ◌+◌, List, [], ◌∷◌, length, ltb}
use Rattle.arith.specs.First.{first}

-- 3 LENGTH, 6 ROOM
unfoldable pub frame_refusal : List ℕ → ℕ → ℕ
frame_refusal m room = first ((3, ltb 1023 (length m)) ∷ (6, ltb room (length m + 6)) ∷ [])
