-- What only promises between crates name.
-- Assumes nothing.
use Rattle.std.specs.Prelude.{ℕ, ◌+◌, ◌*◌, ◌-◌, ◌/◌, ◌≤◌, ◌<◌, min, ◌≡◌, cond, ◌⊎◌, eqb, ltb}

-- how many of `left` places stand in a cell of width w, the first x steps from its western edge, and each a step further
unfoldable pub places_in : (left w x step : ℕ) → ℕ
places_in left w x step = cond (ltb w x) 0 (cond (eqb step 0) left (min left ((w - x) / step + 1)))

-- n is the greatest number of them: all that are left, or the next one stands beyond the cell
pub record Greatest (left w x step n : ℕ) : Type 0 where
  pub most : n ≤ left
  pub inside : (j : ℕ) → j < n → x + j * step ≤ w
  pub beyond : (n ≡ left) ⊎ (w < x + n * step)
