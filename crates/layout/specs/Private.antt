-- What private functions and proofs need.
-- Assumes nothing.
use Rattle.std.specs.Prelude.{ℕ, List, [], ◌∷◌}
use Rattle.layout.specs.Inner.{place_refusal}

-- the same of a list of bits and a list of entries, of which lists of different length end with the shorter
unfoldable pub places_refusal : ℕ → List ℕ → List ℕ → List ℕ → ℕ
places_refusal r [] es s = r
places_refusal r (p ∷ ps) [] s = r
places_refusal r (p ∷ ps) (e ∷ es) s = places_refusal (place_refusal r p e s) ps es s
