-- The answers at the places of a row that stand in one cell, by what the message says of the cell.
-- Assumes nothing.
use Rattle.std.proofs.Common.{Option}
use mathlib.Core.Path.{◌≡◌, refl, sym, ap, ◌∙◌, subst}
use mathlib.Core.Bool.{Bool, true, false, not, cond}
use mathlib.Core.List.{List}
use Prim.Native.Nat.{ℕ, ◌+◌, ◌*◌, ◌-◌, ◌≤◌, ◌<◌}
use native.Mathlib.Omega.{arith}
use lib.IntN.{ℤ, pos, ◌+ℤ◌, ◌*ℤ◌}
use Rattle.arith.specs.First.{first}
use Rattle.arith.specs.Lists.{all_below}
use Rattle.arith.proofs.Int.{at, nat, ◌⊞◌, ◌⊠◌, ring}
use Rattle.layout.specs.Layout.{value_in}
use Rattle.record_rows.specs.Numbers.{says}
use Rattle.record_grids.specs.declared.Settings.{Settings}
use Rattle.record_grids.specs.declared.Grid.{Grid}
use Rattle.record_grids.specs.Grids.{grid_of, settings_of}
use Rattle.record_grids.specs.Inner.{settings_at}
use Rattle.message_rows.specs.Message.{row, kind_refusal}
use Rattle.grid_refusals.specs.Refusals.{beyond}
use Rattle.grid_fields.specs.Inner.{grid_says, mean_says, cell_says}
use Rattle.grid_fields.specs.declared.Nodes.{Nodes}
use Rattle.grid_place.specs.Position.{place_tests}
use Rattle.grid_place.specs.Inner.{located, held_place}
use Rattle.grid_place.specs.declared.Located.{Located}
use Rattle.grid_place.proofs.Held.{held_place_lem}
use Rattle.grid_place.proofs.Places.{located-refusal, within, in-grid}
use Rattle.grid_cell.specs.Private.{Within, Weighed}
use Rattle.grid_cell.specs.declared.Weights.{Weights}
use Rattle.grid_shifts.specs.Shift.{part, outcome, shift_with, message_shift}
use Rattle.grid_shifts.specs.declared.Shift.{Shift}
use Rattle.grid_counts.specs.Inner.{values_in, count_at}
use Rattle.grid_shifts.specs.Private.{Held, nodes_in, cell_shift}
use Rattle.grid_shifts.proofs.Parts.{Bounded, cell-outcome, refused_as, weights_at, summed}
use Rattle.grid_shifts.proofs.Accepted.{message-passed, message-fields}
use Rattle.grid_shifts.proofs.Said.{settings-said, mean-said, nodes-said}
use Rattle.grid_row_refusals.specs.ShiftRow.{east_at}
use Rattle.grid_row_refusals.specs.Private.{lacking_at, first_refused}
use Rattle.grid_row_refusals.proofs.Refused.{one, refused-same, fifteen}
use Rattle.grid_row_refusals.proofs.Reaches.{in-run}
use Rattle.grid_row_refusals.proofs.Cells.{further, on-in-cell}

module _ (s : List ℕ) (h : kind_refusal 1023 1024 s ≡ 0) {f : Settings} (settings : f ≡ settings_at (grid_says s)) (c : ℕ) (n e : ℤ) {p : Located} (is : p ≡ held_place f c n e) where
  abbrev g : Grid
  g = grid_of (says (row s))

  fields : Held g
  fields = message-fields s c n e h

  settings-is : f ≡ settings_of g
  settings-is = settings ∙ settings-said s h

  place : p ≡ located (settings_of g) c n e
  place = is ∙ ap (λ (q : Settings). held_place q c n e) settings-is ∙ held_place_lem (settings_of g) fields.settings c n e

  -- a place that is refused before its cell is looked at
  pub refused-there : (p.refusal ≡ 0 → ⊥) → (message_shift s c n e).refusal ≡ p.refusal
  unfolding message_shift shift_with outcome
  refused-there k =
      let q : p.refusal ≡ first (place_tests (settings_of g) c n e) = ap (λ (q : Located). q.refusal) place ∙ located-refusal (settings_of g) c n e in
      sym (refused_as g c n e q k ∙ message-passed s c n e h)

  module _ (found : p.refusal ≡ 0) where
    abbrev mean : Option ℤ
    mean = mean_says s c

    abbrev nodes : Nodes
    nodes = cell_says s c p.row p.column

    mean-is : mean ≡ part c g.mean
    mean-is = mean-said s h c

    there : (located (settings_of g) c n e).refusal ≡ 0
    there = subst (λ (q : Located). q.refusal ≡ 0) place found

    nodes-are : nodes ≡ nodes_in g.nodes c p.row p.column
    nodes-are =
        let b = subst (λ (q : Located). (q.row ≤ 2) × (q.column ≤ 2)) (sym place) (in-grid (settings_of g) c n e fields.settings there) in
        nodes-said s h c p.row p.column b.0 b.1 refl

    pub in_cell_lem : Within p.height p.width p.north p.east
    in_cell_lem = subst (λ (q : Located). Within q.height q.width q.north q.east) (sym place) (within (settings_of g) c n e fields.settings there)

    pub bounded : {k : Weights} → Weighed k → Bounded (value_in mean) (values_in nodes) k
    bounded w = rw (mean-is, nodes-are) record { mean = summed-there.mean; nodes = summed-there.nodes; weights = w }
      where
        summed-there : Bounded (value_in (part c g.mean)) (values_in (nodes_in g.nodes c p.row p.column)) (weights_at p)
        summed-there = summed g c p.row p.column p fields in_cell_lem

    -- t steps further east in the cell
    pub shift-there : (t : ℕ) → beyond f.number n (e +ℤ pos t) ≡ false → p.east + t ≤ p.width → message_shift s c n (e +ℤ pos t) ≡ cell_shift f.number c mean nodes (weights_at (further p t))
    shift-there t near b =
        let back : located (settings_of g) c n e ≡ p = sym place in
        on-in-cell s h c n e there t (subst (λ (q : Settings). beyond q.number n (e +ℤ pos t) ≡ false) settings-is near)
        (subst (λ (q : Located). q.east + t ≤ q.width) place b)
        ∙ (λ i. cell_shift g.number c (part c g.mean) (nodes_in g.nodes c (back i).row (back i).column) (weights_at (further (back i) t)))
        ∙ sym (λ i. cell_shift (settings-is i).number c (mean-is i) (nodes-are i) (weights_at (further p t)))

    -- place j of a row from there on
    module _ (step j : ℕ) (near : beyond f.number n (east_at e (pos step) j) ≡ false) (b : p.east + j * step ≤ p.width) where
      pub refusal-there : (message_shift s c n (east_at e (pos step) j)).refusal ≡ cond (lacking_at mean nodes p.height p.width p.north (p.east + j * step)) 15 0
      unfolding outcome
      refusal-there = ap (λ (q : Shift). q.refusal) (shift-there (j * step) near b ∙ cell-outcome f.number c mean nodes (weights_at (further p (j * step))))

      pub count-there : (message_shift s c n (east_at e (pos step) j)).refusal ≡ 0
          → (message_shift s c n (east_at e (pos step) j)).count ≡ count_at f.number c (value_in mean) (values_in nodes) (weights_at (further p (j * step)))
      unfolding outcome
      count-there z =
          ap (λ (q : Shift). q.count) (shift-there (j * step) near b ∙ cell-outcome f.number c mean nodes (weights_at (further p (j * step))))
          ∙ rw (sym refusal-there ∙ z)

    -- so many of them
    pub run-refused : (step places : ℕ) {r : ℕ} → ((j : ℕ) → j < places → beyond f.number n (east_at e (pos step) j) ≡ false) → p.east + (places - 1) * step ≤ p.width
        → r ≡ cond (all_below (λ j. not (lacking_at mean nodes p.height p.width p.north (p.east + j * step))) places) 0 15 → r ≡ first_refused s c n e (pos step) 0 places
    unfolding first_refused
    run-refused step places near last is =
        is ∙ sym (fifteen (λ j. lacking_at mean nodes p.height p.width p.north (p.east + j * step)) places)
        ∙ refused-same _ (λ k. (message_shift s c n (east_at e (pos step) (0 + k))).refusal) places
        (λ k l.
        let z : k ≡ 0 + k = omega arith in
        sym (refusal-there step k (near k l) (in-run places step k p.east p.width l last)) ∙ ap (λ (m : ℕ). (message_shift s c n (east_at e (pos step) m)).refusal) z)

-- one place
pub one-refused : (s : List ℕ) (c : ℕ) (n e step : ℤ) {r : ℕ} → (message_shift s c n e).refusal ≡ r → r ≡ first_refused s c n e step 0 1
unfolding first_refused
one-refused s c n e step h =
    sym h ∙ ap (λ (z : ℤ). (message_shift s c n z).refusal) (ring (at e) (at e ⊞ nat (0 + 0) ⊠ at step) (omega arith))
    ∙ sym (one (λ k. (message_shift s c n (east_at e step (0 + k))).refusal))
