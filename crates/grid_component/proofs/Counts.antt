-- What is counted by a kept message is one part of the call for the three shifts.
-- Assumes nothing.
use Rattle.std.proofs.Common.{Option}
use mathlib.Core.Path.{◌≡◌, refl, ap, ◌∙◌}
use mathlib.Core.Bool.{Bool, true, false, cond}
use mathlib.Core.List.{List}
use Prim.Native.Nat.{ℕ}
use native.Mathlib.Decide.{ℕ_discrete}
use borrow.Author.Tests.{eq-eqb, ne_eqb}
use lib.Dec.{eqb}
use lib.IntN.{ℤ, pos}
use Rattle.layout.specs.Layout.{value_in}
use Rattle.record_rows.specs.Numbers.{says}
use Rattle.record_grids.specs.declared.Settings.{Settings}
use Rattle.record_grids.specs.declared.Grid.{Grid}
use Rattle.record_grids.specs.Grids.{grid_of, settings_of}
use Rattle.record_grids.specs.Inner.{settings_at}
use Rattle.message_rows.specs.Message.{row, kind_refusal}
use Rattle.grid_cell.specs.Inner.{weights_in}
use Rattle.grid_cell.specs.declared.Weights.{Weights}
use Rattle.grid_fields.specs.Inner.{grid_says, mean_says, cell_says}
use Rattle.grid_fields.specs.declared.Nodes.{Nodes}
use Rattle.grid_place.specs.Inner.{located, held_place}
use Rattle.grid_place.specs.declared.Located.{Located}
use Rattle.grid_place.proofs.Held.{held_place_lem}
use Rattle.grid_counts.specs.Inner.{values_in, lacking, count_at, cell_count}
use Rattle.grid_counts.specs.Counts.{refused_with}
use Rattle.grid_counts.specs.declared.Counted.{Counted}
use Rattle.grid_shifts.specs.Shift.{outcome, shift_with, message_shift}
use Rattle.grid_shifts.specs.Private.{Held, cell_shift, part_shift}
use Rattle.grid_shifts.proofs.Accepted.{message-passed, message-fields}
use Rattle.grid_shifts.proofs.Parts.{call-cell, call-part}
use Rattle.grid_shifts.proofs.Said.{settings-said, mean-said, nodes-said}
use Rattle.grid_shifts.proofs.TwoPlaces.{message-none-given}
use Rattle.grid_component.specs.Component.{counted}
use Rattle.grid_component.specs.Inner.{kept_of, counted_by}

-- a refusal
counted-refused : (number : ℤ) (c r : ℕ) → (r ≡ 0 → ⊥) → refused_with r ≡ counted (outcome number c r (pos 0))
unfolding outcome
counted-refused number c r o = rw (ne_eqb r 0 o)

-- the refusal of a place, or what is in its cell
module _ (number : ℤ) (c r : ℕ) (m : Option ℤ) (w : Nodes) (k : Weights) where
  of-cell : (b : Bool) (z : ℤ) → let o : Counted = cond b (refused_with 15) (record { refusal = 0; count = z }) in o ≡ counted (outcome number c o.refusal o.count)
  unfolding outcome
  of-cell true z = refl
  of-cell false z = refl

  counted-cell : cell_count number c m w k ≡ counted (cell_shift number c m w k)
  unfolding cell_shift cell_count
  counted-cell = of-cell (lacking m w k) (count_at number c (value_in m) (values_in w) k)

  abbrev given : Counted
  given = cond (eqb r 0) (cell_count number c m w k) (refused_with r)

  some-part : (r ≡ 0 → ⊥) → given ≡ counted (part_shift number c r m w k)
  unfolding part_shift
  some-part o = rw (ne_eqb r 0 o) (counted-refused number c r o)

  none-part : r ≡ 0 → given ≡ counted (part_shift number c r m w k)
  unfolding part_shift
  none-part h = rw (eq-eqb r 0 h) counted-cell

  counted-part : given ≡ counted (part_shift number c r m w k)
  counted-part = by (ℕ_discrete r 0)
    where
      by : Dec (r ≡ 0) → given ≡ counted (part_shift number c r m w k)
      by (yes h) = none-part h
      by (no o) = some-part o

module _ (s : List ℕ) (c : ℕ) (n e : ℤ) where
  abbrev g : Grid
  g = grid_of (says (row s))

  abbrev settings : Settings
  settings = settings_at (grid_says s)

  abbrev p : Located
  p = held_place settings c n e

  -- no grid message
  refused-is : (kind_refusal 1023 1024 s ≡ 0 → ⊥) → refused_with (kind_refusal 1023 1024 s) ≡ counted (message_shift s c n e)
  refused-is o = counted-refused g.number c (kind_refusal 1023 1024 s) o ∙ ap counted (message-none-given c n e s refl o)

  module _ (h : kind_refusal 1023 1024 s ≡ 0) where
    fields : Held g
    fields = message-fields s c n e h

    place : p ≡ located (settings_of g) c n e
    place = ap (λ (f : Settings). held_place f c n e) (settings-said s h) ∙ held_place_lem (settings_of g) fields.settings c n e

    number : settings.number ≡ g.number
    number = ap (λ (f : Settings). f.number) (settings-said s h)

    part-is : part_shift settings.number c p.refusal (mean_says s c) (cell_says s c p.row p.column) (weights_in p.height p.width p.north p.east) ≡ message_shift s c n e
    unfolding message_shift
    part-is =
        let r : p.refusal ≡ (located (settings_of g) c n e).refusal = ap (λ (q : Located). q.refusal) place in
        call-part g c n e fields r (λ _. place) (mean-said s h c)
        (λ z. let b = call-cell g c n e fields r (λ _. place) z in nodes-said s h c p.row p.column b.0 b.1 refl)
        refl refl number
        ∙ ap (shift_with g c n e) (message-passed s c n e h)

  abbrev kind : ℕ
  kind = kind_refusal 1023 1024 s

  kept-refused : (kind ≡ 0 → ⊥) → counted_by s (kept_of s) c n e ≡ counted (message_shift s c n e)
  unfolding counted_by kept_of
  kept-refused o = rw (ne_eqb kind 0 o) (refused-is o)

  kept-part : kind ≡ 0 → counted_by s (kept_of s) c n e ≡ counted (message_shift s c n e)
  unfolding counted_by kept_of
  kept-part h =
      rw (eq-eqb kind 0 h)
      (counted-part settings.number c p.refusal (mean_says s c) (cell_says s c p.row p.column) (weights_in p.height p.width p.north p.east)
      ∙ ap counted (part-is h))

  -- one part of the call, by a message that is read once
  pub counted_is : counted_by s (kept_of s) c n e ≡ counted (message_shift s c n e)
  counted_is = by (ℕ_discrete kind 0)
    where
      by : Dec (kind ≡ 0) → counted_by s (kept_of s) c n e ≡ counted (message_shift s c n e)
      by (yes h) = kept-part h
      by (no o) = kept-refused o
