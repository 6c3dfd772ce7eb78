-- `grid_shifts::shifts_of` meets its contract: a record that no message holds is out of range, and each part is the component's shift.
-- Assumes nothing.
use Rattle.std.proofs.Common.{Option}
use mathlib.Core.Path.{◌≡◌, refl, sym, ap, ◌∙◌}
use mathlib.Core.Bool.{true, false}
use Prim.Native.Nat.{ℕ}
use native.Mathlib.Omega.{arith}
use lib.IntN.{ℤ}
use mir.Syntax.{w64}
use mir.Val.{to_z, of_z}
use Rattle.arith.proofs.Back.{held}
use Rattle.arith.proofs.Machine.{is-back}
use Rattle.record_grids.specs.declared.Settings.{Settings}
use Rattle.record_grids.specs.declared.Grid.{Grid}
use Rattle.record_grids.specs.Grids.{settings_of}
use Rattle.grid_fields.specs.declared.Nodes.{Nodes}
use Rattle.message_records.specs.Kinds.{grid_held}
use Rattle.grid_cell.specs.declared.Weights.{Weights}
use Rattle.grid_cell.specs.Inner.{weights_in}
use Rattle.grid_place.specs.Inner.{held_two_places}
use Rattle.grid_place.specs.declared.Located.{Located}
use Rattle.grid_shifts.specs.Shift.{part, shift_with, three_of, record_shift}
use Rattle.grid_shifts.specs.Inner.{record_shifts}
use Rattle.grid_shifts.specs.Private.{Held, nodes_in, part_shift}
use Rattle.grid_shifts.specs.declared.Shift.{Shift}
use Rattle.grid_shifts.proofs.Parts.{call-part}
use Rattle.grid_shifts.proofs.Accepted.{record-passed, record-fields}
use Rattle.grid_shifts.proofs.TwoPlaces.{Side, north-side, east-side, height-side, some-cell, record-none-given}
use Rattle.grid_shifts.proofs.shifts_of.Goals as goal

five : ◌≡◌ {A = ℕ} 5 0 → ⊥
five z = omega arith

pub returns-then-not-grid_held : goal.returns-then-not-grid_held
unfolding record_shifts
returns-then-not-grid_held c = let g : Grid = c.args.grid in
    let n : ℤ = c.args.north in
    let e : ℤ = c.args.east in
    let h : grid_held g ≡ false = sym c.grid_held.ensures ∙ c.if-not-grid_held.true in
    c.all_refused.ensures g.number
    ∙ (λ i. three_of (record-none-given 0 n e g refl five h i) (record-none-given 1 n e g refl five h i) (record-none-given 2 n e g refl five h i))

pub nodes_of-a-requires : goal.nodes_of-a-requires
nodes_of-a-requires c = let g : Grid = c.args.grid in
    let n : ℤ = c.args.north in
    let e : ℤ = c.args.east in
    let holds : grid_held g ≡ true = sym c.grid_held.ensures ∙ c.if-not-grid_held.false in
    let fields : Held g = record-fields g holds in
    let settings : c.settings_of-settings.result ≡ settings_of g = c.settings_of-settings.ensures in
    let sides : c.locate_both-p.result ≡ held_two_places (settings_of g) n e = c.locate_both-p.ensures ∙ (λ i. held_two_places (settings i) (is-back c.ranges.north i) (is-back c.ranges.east i)) in
    some-cell g n e fields sides

pub nodes_of-b-requires : goal.nodes_of-b-requires
nodes_of-b-requires c = let g : Grid = c.args.grid in
    let n : ℤ = c.args.north in
    let e : ℤ = c.args.east in
    let holds : grid_held g ≡ true = sym c.grid_held.ensures ∙ c.if-not-grid_held.false in
    let fields : Held g = record-fields g holds in
    let settings : c.settings_of-settings.result ≡ settings_of g = c.settings_of-settings.ensures in
    let sides : c.locate_both-p.result ≡ held_two_places (settings_of g) n e = c.locate_both-p.ensures ∙ (λ i. held_two_places (settings i) (is-back c.ranges.north i) (is-back c.ranges.east i)) in
    some-cell g n e fields sides

pub nodes_of-c-requires : goal.nodes_of-c-requires
nodes_of-c-requires c = let g : Grid = c.args.grid in
    let n : ℤ = c.args.north in
    let e : ℤ = c.args.east in
    let holds : grid_held g ≡ true = sym c.grid_held.ensures ∙ c.if-not-grid_held.false in
    let fields : Held g = record-fields g holds in
    let settings : c.settings_of-settings.result ≡ settings_of g = c.settings_of-settings.ensures in
    let sides : c.locate_both-p.result ≡ held_two_places (settings_of g) n e = c.locate_both-p.ensures ∙ (λ i. held_two_places (settings i) (is-back c.ranges.north i) (is-back c.ranges.east i)) in
    some-cell g n e fields sides

-- one part
module _ (g : Grid) (n e : ℤ) (holds : grid_held g ≡ true) where
  module _
      (c r : ℕ)
      {t : Located}
      (d : Side g c n e r t)
      {mean : Option ℤ}
      {w : Nodes}
      {ws : Weights}
      (a : mean ≡ part c g.mean)
      (h : w ≡ nodes_in g.nodes c t.row t.column)
      (k : ws ≡ weights_in t.height t.width t.north t.east) where
    gives : {x : Shift} {z : ℤ} → x ≡ part_shift z c r mean w ws → z ≡ g.number → x ≡ record_shift g c n e
    unfolding record_shift
    gives q number =
        call-part g c n e (record-fields g holds) d.refusal d.place a (λ _. h) k q number
        ∙ ap (shift_with g c n e) (record-passed g c n e holds)

pub returns : goal.returns
unfolding record_shifts
returns c = let g : Grid = c.args.grid in
    let n : ℤ = c.args.north in
    let e : ℤ = c.args.east in
    let holds : grid_held g ≡ true = sym c.grid_held.ensures ∙ c.if-not-grid_held.false in
    let fields : Held g = record-fields g holds in
    let settings : c.settings_of-settings.result ≡ settings_of g = c.settings_of-settings.ensures in
    let number : to_z w64 (of_z w64 c.settings_of-settings.result.number) ≡ g.number = held c.settings_of-settings.result.number (omega arith) ∙ ap (λ (f : Settings). f.number) settings in
    let sides : c.locate_both-p.result ≡ held_two_places (settings_of g) n e = c.locate_both-p.ensures ∙ (λ i. held_two_places (settings i) (is-back c.ranges.north i) (is-back c.ranges.east i)) in
    c.three_of.ensures
    ∙ (λ i.
    three_of
    (gives g n e holds 0 _ (north-side g n e fields sides) c.part_of.ensures c.nodes_of-a.ensures c.weights_in-k.ensures c.part_shift.ensures number i)
    (gives g n e holds 1 _ (east-side g n e fields sides) c.part_of-2.ensures c.nodes_of-b.ensures c.weights_in-k.ensures c.part_shift-2.ensures number i)
    (gives g n e holds 2 _ (height-side g n e fields sides) c.part_of-3.ensures c.nodes_of-c.ensures c.weights_in-k.ensures c.part_shift-3.ensures number i))

pub grid_held-requires : goal.grid_held-requires
grid_held-requires c = tt

pub all_refused-requires : goal.all_refused-requires
all_refused-requires c = five

pub settings_of-settings-requires : goal.settings_of-settings-requires
settings_of-settings-requires c = tt

pub locate_both-p-requires : goal.locate_both-p-requires
locate_both-p-requires c = tt

pub weights_in-k-requires : goal.weights_in-k-requires
weights_in-k-requires c = tt

pub part_of-requires : goal.part_of-requires
part_of-requires c = tt

pub part_shift-requires : goal.part_shift-requires
part_shift-requires c = tt

pub part_of-requires-2 : goal.part_of-requires-2
part_of-requires-2 c = tt

pub part_shift-requires-2 : goal.part_shift-requires-2
part_shift-requires-2 c = tt

pub part_of-requires-3 : goal.part_of-requires-3
part_of-requires-3 c = tt

pub part_shift-requires-3 : goal.part_shift-requires-3
part_shift-requires-3 c = tt

pub three_of-requires : goal.three_of-requires
three_of-requires c = tt
