-- `grid_place::locate_both` meets its contract.
-- Assumes nothing.
use mathlib.Core.Path.{◌≡◌, sym, ◌∙◌}
use mathlib.Core.Bool.{true, false}
use Prim.Native.Nat.{ℕ}
use mir.Syntax.{w64}
use mir.Val.{to_z, of_z}
use Rattle.arith.proofs.Machine.{is-back}
use Rattle.grid_place.specs.Inner.{settings_held, located, held_place, two_places_of, held_two_places}
use Rattle.grid_place.specs.declared.Located.{Located}
use Rattle.grid_place.proofs.Held.{held-fields, place-held, no-frame}
use Rattle.grid_place.proofs.locate_both.Goals as goal

pub returns-then-not-settings_held : goal.returns-then-not-settings_held
unfolding held_two_places
returns-then-not-settings_held c = let a = c.args in
    let h : settings_held a.f ≡ false = sym c.settings_held.ensures ∙ c.if-not-settings_held.true in
    c.two_places_of.ensures
    ∙ (λ i. two_places_of ((c.no_place.ensures ∙ no-frame a.f h 0 a.north a.east) i) ((c.no_place-then-not-settings_held.ensures ∙ no-frame a.f h 2 a.north a.east) i))

pub place_of-h-requires : goal.place_of-h-requires
place_of-h-requires c = let framed : settings_held c.args.f ≡ true = sym c.settings_held.ensures ∙ c.if-not-settings_held.false in
    held-fields c.args.f framed

pub vertical_of-v-requires : goal.vertical_of-v-requires
vertical_of-v-requires c = let framed : settings_held c.args.f ≡ true = sym c.settings_held.ensures ∙ c.if-not-settings_held.false in
    (held-fields c.args.f framed, c.place_of-h.ensures)

pub returns : goal.returns
unfolding held_two_places
returns c = let framed : settings_held c.args.f ≡ true = sym c.settings_held.ensures ∙ c.if-not-settings_held.false in
    let placed : (k : ℕ) (r : Located) → r ≡ located c.args.f k (to_z w64 (of_z w64 c.args.north)) (to_z w64 (of_z w64 c.args.east)) → r ≡ held_place c.args.f k c.args.north c.args.east = λ k r h. h
    ∙ (λ i. located c.args.f k (is-back c.ranges.north i) (is-back c.ranges.east i))
    ∙ place-held c.args.f framed k c.args.north c.args.east in
    c.two_places_of-2.ensures ∙ (λ i. two_places_of (placed 0 _ c.place_of-h.ensures i) (placed 2 _ c.vertical_of-v.ensures i))
