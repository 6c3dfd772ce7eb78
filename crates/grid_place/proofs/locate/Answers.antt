-- `grid_place::locate` meets its contract.
-- Assumes nothing.
use mathlib.Core.Path.{◌≡◌, sym, ◌∙◌}
use mathlib.Core.Bool.{true}
use Rattle.arith.proofs.Machine.{is-back}
use Rattle.grid_place.specs.Inner.{settings_held, located}
use Rattle.grid_place.proofs.Held.{held-fields, place-held, no-frame}
use Rattle.grid_place.proofs.locate.Goals as goal

pub returns-then-not-settings_held : goal.returns-then-not-settings_held
returns-then-not-settings_held c = let a = c.args in
    c.no_place.ensures ∙ no-frame a.f (sym c.settings_held.ensures ∙ c.if-not-settings_held.true) a.component a.north a.east

pub place_of-requires : goal.place_of-requires
place_of-requires c = let framed : settings_held c.args.f ≡ true = sym c.settings_held.ensures ∙ c.if-not-settings_held.false in
    held-fields c.args.f framed

pub returns : goal.returns
returns c = let framed : settings_held c.args.f ≡ true = sym c.settings_held.ensures ∙ c.if-not-settings_held.false in
    let a = c.args in
    c.place_of.ensures
    ∙ (λ i. located a.f a.component (is-back c.ranges.north i) (is-back c.ranges.east i))
    ∙ place-held a.f framed a.component a.north a.east
