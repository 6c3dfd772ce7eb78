-- Lists by what stands at each place.
-- Assumes nothing.
use Rattle.std.specs.Prelude.{ℕ, zero, suc, ◌<◌, Bool, true, ◌&&◌, List, [], ◌∷◌, ◌++◌, get_or, ℤ, pos}

-- f 0, f 1, .. up to f (k - 1)
abbrev pub up_to {ℓ} : {A : Type ℓ} → (ℕ → A) → ℕ → List A
up_to f zero = []
up_to f (suc k) = up_to f k ++ (f k ∷ [])

-- the test f holds of each number below k
abbrev pub all_below : (ℕ → Bool) → ℕ → Bool
all_below f zero = true
all_below f (suc k) = all_below f k && f k

-- number k of a row, 0 behind its end
abbrev pub at : List ℤ → ℕ → ℤ
at v k = get_or v k (pos 0)

-- each number of a list is a byte
abbrev pub Bytes : List ℕ → Type 0
Bytes s = (i : ℕ) → get_or s i 0 < 256
