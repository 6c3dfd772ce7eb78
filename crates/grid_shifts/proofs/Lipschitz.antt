-- Demand 3 of the answers given: an answer with refusal 0 is the interpolated one, inside the grid, so the bound of grid_bilinear holds of it.
-- Assumes nothing.
use mathlib.Core.Path.{◌≡◌, ◌∙◌}
use mathlib.Core.List.{List}
use mathlib.Core.Bool.{Bool, false, cond}
use Rattle.grid_refusals.specs.Refusals.{ellipsoidal}
use Prim.Native.Nat.{ℕ, ◌<◌}
use lib.IntN.{ℤ, pos, neg_ℤ, ◌*ℤ◌}
use Rattle.record_grids.specs.declared.Grid.{Grid}
use Rattle.record_grids.specs.Grids.{grid_of, settings_of}
use Rattle.layout.specs.Layout.{value_in}
use Rattle.record_rows.specs.Numbers.{says}
use Rattle.message_rows.specs.Message.{row}
use Rattle.grid_bilinear.specs.Bilinear.{gap, interpolated, LipschitzBound}
use Rattle.grid_bilinear.proofs.Gap.{gap-add}
use Rattle.grid_bilinear.proofs.Lipschitz.{lipschitz}
use Rattle.grid_place.specs.Position.{steps_of, by_turns}
use Rattle.grid_shifts.specs.Shift.{surface, north_of, east_of, shift_refusal, outcome, shift_with, message_shift}
use Rattle.grid_shifts.specs.Private.{Held}
use Rattle.grid_place.proofs.Places.{spacings}
use Rattle.grid_shifts.proofs.Parts.{Answered, answered}
use Rattle.grid_shifts.proofs.Accepted.{message-none, message-fields}

-- ---- an answer with refusal 0

module _ (s : List ℕ) (c : ℕ) (n e : ℤ) (h : shift_refusal s c n e ≡ 0) where
  abbrev g : Grid
  g = grid_of (says (row s))

  pub placed : Answered g c n e
  placed = answered g c n e (message-none s c n e h).1

  fields : Held g
  fields = message-fields s c n e (message-none s c n e h).0

  pub spaced : (0 < (surface g c).H) × (0 < (surface g c).W)
  unfolding surface
  spaced = let p = spacings (settings_of g) n e fields.settings placed.early in (p.0.0, p.1.0)

  pub counted : (message_shift s c n e).count ≡ interpolated (surface g c) (north_of g n) (east_of g e)
  unfolding message_shift shift_with outcome
  counted = rw h

-- ---- the bound

-- the difference north changes as the position does
pub north-steps : (g : Grid) (a b : ℤ) → gap (north_of g a) (north_of g b) ≡ gap a b
unfolding north_of
north-steps g a b = gap-add a b (neg_ℤ (pos (steps_of g.number) *ℤ value_in g.origin.north))

-- and so does that of plain eastings
plain : (b : Bool) (x y : ℤ) → b ≡ false → gap (cond b (by_turns x) x) (cond b (by_turns y) y) ≡ gap x y
plain b x y e = rw e

pub east-steps : (g : Grid) (a b : ℤ) → ellipsoidal g.number ≡ false → gap (east_of g a) (east_of g b) ≡ gap a b
unfolding east_of
east-steps g a b p = plain (ellipsoidal g.number) _ _ p ∙ gap-add a b (neg_ℤ (pos (steps_of g.number) *ℤ value_in g.origin.east))

-- of the answers to any two positions of one component of one message
pub lipschitz-message : (s : List ℕ) (c : ℕ) (n₁ e₁ n₂ e₂ : ℤ) → shift_refusal s c n₁ e₁ ≡ 0 → shift_refusal s c n₂ e₂ ≡ 0
    → LipschitzBound (surface (grid_of (says (row s))) c) (message_shift s c n₁ e₁).count (message_shift s c n₂ e₂).count (gap n₁ n₂)
    (gap (east_of (grid_of (says (row s))) e₁) (east_of (grid_of (says (row s))) e₂))
lipschitz-message s c n₁ e₁ n₂ e₂ p q =
    let g = grid_of (says (row s)) in
    let a = placed s c n₁ e₁ p in
    let b = placed s c n₂ e₂ q in
    let d = spaced s c n₁ e₁ p in
    rw (counted s c n₁ e₁ p, counted s c n₂ e₂ q, ← north-steps g n₁ n₂)
    (lipschitz (surface g c) d.0 d.1 (north_of g n₁) (east_of g e₁) (north_of g n₂) (east_of g e₂) a.north a.east b.north b.east)
