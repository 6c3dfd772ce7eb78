-- `grid_shifts::shifts_at` meets its contract: what is read at its bits is what the message's record says, and each part is the component's shift.
-- Assumes nothing.
use Rattle.std.proofs.Common.{Option}
use mathlib.Core.Path.{◌≡◌, sym, ap, ◌∙◌}
use mathlib.Core.List.{List}
use Prim.Native.Nat.{ℕ}
use native.Mathlib.Omega.{arith}
use lib.IntN.{ℤ}
use mir.Syntax.{w64}
use mir.Val.{to_z, of_z}
use Rattle.arith.proofs.Back.{held}
use Rattle.arith.proofs.Machine.{is-back}
use Rattle.record_rows.specs.Numbers.{says}
use Rattle.record_grids.specs.declared.Settings.{Settings}
use Rattle.record_grids.specs.declared.Grid.{Grid}
use Rattle.record_grids.specs.declared.Shifts.{Shifts}
use Rattle.record_grids.specs.Grids.{grid_of, settings_of, shifts_at}
use Rattle.grid_fields.specs.Inner.{grid_says, mean_says, cell_says, cells_say}
use Rattle.grid_fields.proofs.Says.{grid-long}
use Rattle.grid_fields.specs.declared.Nodes.{Nodes}
use Rattle.grid_fields.specs.declared.Cells.{Cells}
use Rattle.message_rows.specs.Message.{row, kind_refusal}
use Rattle.grid_cell.specs.declared.Weights.{Weights}
use Rattle.grid_cell.specs.Inner.{weights_in}
use Rattle.grid_place.specs.Inner.{held_two_places}
use Rattle.grid_place.specs.declared.Located.{Located}
use Rattle.grid_shifts.specs.Shift.{shift_with, three_of, message_shift, message_shifts}
use Rattle.grid_shifts.specs.Private.{Held, nodes_in, part_shift}
use Rattle.grid_shifts.specs.declared.Shift.{Shift}
use Rattle.grid_shifts.proofs.Parts.{call-cell, call-part}
use Rattle.grid_shifts.proofs.Accepted.{message-passed, message-fields}
use Rattle.grid_shifts.proofs.Said.{settings-said, mean-said, nodes-said}
use Rattle.grid_shifts.proofs.TwoPlaces.{Side, north-side, east-side, height-side, message-none-given}
use Rattle.grid_shifts.proofs.shifts_at.Goals as goal

pub returns-then-refusal-ne0 : goal.returns-then-refusal-ne0
unfolding message_shifts
returns-then-refusal-ne0 c = let m : List ℕ = c.args.message.now in
    let n : ℤ = c.args.north in
    let e : ℤ = c.args.east in
    let g : Grid = grid_of (says (row m)) in
    let h = (c.outcome_number-refusal.ensures ∙ c.check_kind.ensures) in
    let o = c.if-refusal-ne0.true in
    c.all_refused.ensures g.number
    ∙ (λ i. three_of (message-none-given 0 n e m h o i) (message-none-given 1 n e m h o i) (message-none-given 2 n e m h o i))

three : ◌≡◌ {A = ℕ} 3 0 → ⊥
three z = omega arith

-- no grid message is so short
pub returns-then-message-lt71 : goal.returns-then-message-lt71
returns-then-message-lt71 c = let m : List ℕ = c.args.message.now in
    let h = sym (c.outcome_number-refusal.ensures ∙ c.check_kind.ensures) ∙ c.if-refusal-ne0.false in
    absurd (omega (arith, grid-long m h, c.if-message-lt71.true))

-- one part
module _ (s : List ℕ) (n e : ℤ) (none : kind_refusal 1023 1024 s ≡ 0) where
  abbrev g : Grid
  g = grid_of (says (row s))

  module _
      (c r : ℕ)
      {t : Located}
      (d : Side g c n e r t)
      {mean : Option ℤ}
      {w : Nodes}
      {ws : Weights}
      (a : mean ≡ mean_says s c)
      (b : w ≡ cell_says s c t.row t.column)
      (k : ws ≡ weights_in t.height t.width t.north t.east) where
    said : r ≡ 0 → w ≡ nodes_in g.nodes c t.row t.column
    said z =
        let i = call-cell g c n e (message-fields s 0 n e none) d.refusal d.place z in
        nodes-said s none c t.row t.column i.0 i.1 b

    gives : {x : Shift} {z : ℤ} → x ≡ part_shift z c r mean w ws → z ≡ g.number → x ≡ message_shift s c n e
    unfolding message_shift
    gives h number =
        call-part g c n e (message-fields s 0 n e none) d.refusal d.place (a ∙ mean-said s none c) said
        k h number
        ∙ ap (shift_with g c n e) (message-passed s c n e none)

-- what is read of each component
module _ (s : List ℕ) {m : Shifts} (h : m ≡ shifts_at (grid_says s) 8) where
  mean-north : m.north ≡ mean_says s 0
  unfolding shifts_at mean_says
  mean-north = ap (λ (x : Shifts). x.north) h

  mean-east : m.east ≡ mean_says s 1
  unfolding shifts_at mean_says
  mean-east = ap (λ (x : Shifts). x.east) h

  mean-height : m.height ≡ mean_says s 2
  unfolding shifts_at mean_says
  mean-height = ap (λ (x : Shifts). x.height) h

pub returns : goal.returns
unfolding message_shifts
returns c = let m : List ℕ = c.args.message.now in
    let n : ℤ = c.args.north in
    let e : ℤ = c.args.east in
    let none : kind_refusal 1023 1024 m ≡ 0 = sym (c.outcome_number-refusal.ensures ∙ c.check_kind.ensures) ∙ c.if-refusal-ne0.false in
    let fields : Held (g m n e none) = message-fields m 0 n e none in
    let settings : c.settings_at-f.result ≡ settings_of (g m n e none) = c.settings_at-f.ensures ∙ settings-said m none in
    let number : to_z w64 (of_z w64 c.settings_at-f.result.number) ≡ (g m n e none).number = held c.settings_at-f.result.number (omega arith) ∙ ap (λ (f : Settings). f.number) settings in
    let sides : c.locate_both-p.result ≡ held_two_places (settings_of (g m n e none)) n e = c.locate_both-p.ensures ∙ (λ i. held_two_places (settings i) (is-back c.ranges.north i) (is-back c.ranges.east i)) in
    let nodes-of : (f : Cells → Nodes) → f c.cells_at-n.result ≡ f (cells_say m c.locate_both-p.result.place.row c.locate_both-p.result.place.column) = λ f. ap f c.cells_at-n.ensures in
    c.three_of.ensures
    ∙ (λ i.
    three_of
    (gives m n e none 0 _ (north-side (g m n e none) n e fields sides) (mean-north m c.means_at-m.ensures) (nodes-of (λ x. x.north)) c.weights_in-k.ensures c.part_shift.ensures number i)
    (gives m n e none 1 _ (east-side (g m n e none) n e fields sides) (mean-east m c.means_at-m.ensures) (nodes-of (λ x. x.east)) c.weights_in-k.ensures c.part_shift-2.ensures number i)
    (gives m n e none 2 _ (height-side (g m n e none) n e fields sides) (mean-height m c.means_at-m.ensures) (nodes-of (λ x. x.height)) c.weights_in-k.ensures c.part_shift-3.ensures number i))

pub check_kind-requires : goal.check_kind-requires
check_kind-requires c = tt

pub all_refused-requires : goal.all_refused-requires
all_refused-requires c = c.if-refusal-ne0.true

pub all_refused-requires-then-message-lt71 : goal.all_refused-requires-then-message-lt71
all_refused-requires-then-message-lt71 c = three

pub settings_at-f-requires : goal.settings_at-f-requires
settings_at-f-requires c = tt

pub locate_both-p-requires : goal.locate_both-p-requires
locate_both-p-requires c = tt

pub weights_in-k-requires : goal.weights_in-k-requires
weights_in-k-requires c = tt

pub cells_at-n-requires : goal.cells_at-n-requires
cells_at-n-requires c = tt

pub means_at-m-requires : goal.means_at-m-requires
means_at-m-requires c = tt

pub part_shift-requires : goal.part_shift-requires
part_shift-requires c = tt

pub part_shift-requires-2 : goal.part_shift-requires-2
part_shift-requires-2 c = tt

pub part_shift-requires-3 : goal.part_shift-requires-3
part_shift-requires-3 c = tt

pub three_of-requires : goal.three_of-requires
three_of-requires c = tt
