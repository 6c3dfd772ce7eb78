-- The three components of a call: what the sides of a position say of each, and a refusal that all three have.
-- Assumes nothing.
use mathlib.Core.Path.{◌≡◌, refl, sym, ap, ◌∙◌, subst}
use mathlib.Core.List.{List}
use mathlib.Core.Bool.{false}
use Prim.Native.Nat.{ℕ, ◌≤◌}
use lib.IntN.{ℤ, pos}
use Rattle.record_grids.specs.declared.Settings.{Settings}
use Rattle.record_grids.specs.declared.Grid.{Grid}
use Rattle.record_grids.specs.Grids.{grid_of, settings_of}
use Rattle.record_rows.specs.Numbers.{says}
use Rattle.message_rows.specs.Message.{row, kind_refusal}
use Rattle.message_records.specs.Kinds.{grid_held}
use Rattle.grid_bilinear.specs.Bilinear.{interpolated}
use Rattle.grid_place.specs.Inner.{located, held_two_places}
use Rattle.grid_place.specs.declared.Located.{Located}
use Rattle.grid_place.specs.declared.TwoPlaces.{TwoPlaces}
use Rattle.grid_place.proofs.Held.{horizontal-refusal, vertical-refusal, horizontal-place, vertical-place, sides-cell}
use Rattle.grid_shifts.specs.Shift.{surface, north_of, east_of, outcome, shift_with, record_shift, message_shift}
use Rattle.grid_shifts.specs.Private.{Held}
use Rattle.grid_shifts.proofs.Parts.{refuses, refusal_is}
use Rattle.grid_shifts.proofs.Accepted.{record-refused, message-refused}

-- r is the refusal of a component's place, and t a place that is this one where r is 0
pub record Side (g : Grid) (c : ℕ) (n e : ℤ) (r : ℕ) (t : Located) : Type 0 where
  pub refusal : r ≡ (located (settings_of g) c n e).refusal
  pub place : r ≡ 0 → t ≡ located (settings_of g) c n e

-- components 0 and 1 have the same place
same-side : (f : Settings) (n e : ℤ) → located f 0 n e ≡ located f 1 n e
unfolding located
same-side f n e = refl

module _ (g : Grid) (n e : ℤ) (f : Held g) {p : TwoPlaces} (h : p ≡ held_two_places (settings_of g) n e) where
  pub north-side : Side g 0 n e p.horizontal p.place
  north-side =
      subst (λ (q : TwoPlaces). Side g 0 n e q.horizontal q.place) (sym h)
      (record { refusal = horizontal-refusal (settings_of g) f.settings n e; place = horizontal-place (settings_of g) f.settings n e })

  pub east-side : Side g 1 n e p.horizontal p.place
  east-side =
      let s = same-side (settings_of g) n e in
      record { refusal = north-side.refusal ∙ ap (λ (q : Located). q.refusal) s; place = λ z. north-side.place z ∙ s }

  pub height-side : Side g 2 n e p.vertical p.place
  height-side =
      subst (λ (q : TwoPlaces). Side g 2 n e q.vertical q.place) (sym h)
      (record { refusal = vertical-refusal (settings_of g) f.settings n e; place = vertical-place (settings_of g) f.settings n e })

  pub some-cell : (p.place.row ≤ 2) × (p.place.column ≤ 2)
  some-cell = subst (λ (q : TwoPlaces). (q.place.row ≤ 2) × (q.place.column ≤ 2)) (sym h) (sides-cell (settings_of g) f.settings n e)

-- a refusal before the place is looked for
module _ (c : ℕ) (n e : ℤ) where
  abbrev count : Grid → ℤ
  count g = interpolated (surface g c) (north_of g n) (east_of g e)

  refused-by : (g : Grid) {r x : ℕ} → (r ≡ 0 → ⊥) → r ≡ x → outcome g.number c r (pos 0) ≡ shift_with g c n e x
  unfolding shift_with
  refused-by g {r} o h =
      refuses g.number c r (count g) (outcome g.number c r (pos 0)) (refusal_is g.number c r o) o
      ∙ ap (λ (x : ℕ). outcome g.number c x (count g)) h

  pub message-none-given : (s : List ℕ) {r : ℕ} → r ≡ kind_refusal 1023 1024 s → (r ≡ 0 → ⊥) → outcome (grid_of (says (row s))).number c r (pos 0) ≡ message_shift s c n e
  unfolding message_shift
  message-none-given s h o = refused-by (grid_of (says (row s))) o (message-refused s c n e h o)

  pub record-none-given : (g : Grid) {r : ℕ} → r ≡ 5 → (r ≡ 0 → ⊥) → grid_held g ≡ false → outcome g.number c r (pos 0) ≡ record_shift g c n e
  unfolding record_shift
  record-none-given g h o k = refused-by g o (h ∙ record-refused g c n e k)
