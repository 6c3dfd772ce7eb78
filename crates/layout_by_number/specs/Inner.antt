-- What only promises between crates name.
-- Assumes nothing.
use Rattle.std.specs.Prelude.{ℕ, cond, not, List, [], ◌∷◌, eqb, ltb, ℤ, length}
use Rattle.arith.specs.First.{first}
use Rattle.layout_reader.specs.Inner.{values_loaded, present_loaded}

-- r, then 6 ROOM, where buffers of m values and n presence bytes are shorter than k fields
unfoldable pub checked_refusal : ℕ → ℕ → ℕ → ℕ → ℕ
checked_refusal r k m n = first ((r, not (eqb r 0)) ∷ (6, ltb m k) ∷ (6, ltb n k) ∷ [])

-- the values z and the presence bytes b afterwards: as they were with a refusal
unfoldable pub values_checked : ℕ → List ℕ → List ℕ → List ℤ → List ℕ → List ℤ
values_checked r es s z b = cond (eqb (checked_refusal r (length es) (length z) (length b)) 0) (values_loaded es 0 s z b) z

unfoldable pub present_checked : ℕ → List ℕ → List ℕ → List ℤ → List ℕ → List ℕ
present_checked r es s z b = cond (eqb (checked_refusal r (length es) (length z) (length b)) 0) (present_loaded es 0 s z b) b
