-- What only promises between crates name.
-- Assumes nothing.
use Rattle.std.specs.Prelude.{ℕ, List, ◌++◌}
use Rattle.arith.specs.First.{first}
use Rattle.layout.specs.Layout.{room_tests}
use Rattle.message_rows.specs.Message.{layout, kind_tests}

-- a reader of one kind into buffers of m values and n presence bytes
unfoldable pub kind_room_refusal : ℕ → ℕ → List ℕ → ℕ → ℕ → ℕ
kind_room_refusal lo hi s m n = first (kind_tests lo hi s ++ room_tests (layout s) m n)
