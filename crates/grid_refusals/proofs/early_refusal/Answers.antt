-- `grid_refusals::early_refusal` meets its contract.
-- Assumes nothing.
use Rattle.arith.specs.Refusals.{outcome_number}
use Rattle.arith.proofs.Numbers.{passed, refused}
use native.Mathlib.Omega.{arith}
use mathlib.Core.Path.{◌≡◌, sym, ◌∙◌, ap}
use mathlib.Core.Bool.{not, ◌||◌}
use mathlib.Core.List.{List, [], ◌∷◌}
use lib.Dec.{ltb}
use lib.IntN.{pos}
use mir.Syntax.{w64}
use mir.Val.{to_z, of_z}
use Rattle.arith.specs.First.{Test, first}
use Rattle.arith.specs.Whole.{same_z}
use Rattle.arith.proofs.Back.{held}
use Rattle.grid_refusals.specs.Refusals.{side, beyond, origin_available}
use Rattle.arith.proofs.First.{stops, goes_on}
use Rattle.arith.proofs.Machine.{is-back}
use borrow.Author.Rules.{rules}
use Rattle.grid_refusals.proofs.early_refusal.Goals as goal

pub returns-in_err-position_refusal : goal.returns-in_err-position_refusal
returns-in_err-position_refusal c = let same : c.from_residual.result ≡ c.position_refusal.result = search rules in
    ap outcome_number same ∙ (let number : to_z w64 (of_z w64 c.args.f.number) ≡ c.args.f.number = held c.args.f.number (omega arith) in
    let before : List Test = (8, ltb 2 c.args.component) ∷ (9, beyond c.args.f.number c.args.north c.args.east) ∷ [] in
    let behind : List Test = (10, same_z (side c.args.component c.args.f.indicators) (pos 0))
    ∷ (11, not (same_z (side c.args.component c.args.f.methods) (pos 0)))
    ∷ (12, not (origin_available c.args.f.origin))
    ∷ (13, same_z c.args.f.spacing.north (pos 0) || same_z c.args.f.spacing.east (pos 0))
    ∷ [] in
    let known : outcome_number c.position_refusal.result ≡ first before = c.position_refusal.ensures
    ∙ (λ i. first ((8, ltb 2 c.args.component) ∷ (9, beyond (number i) (is-back c.ranges.north i) (is-back c.ranges.east i)) ∷ [])) in
    stops before behind tt known (refused c.in_err-position_refusal.was))

pub returns : goal.returns
returns c = let number : to_z w64 (of_z w64 c.args.f.number) ≡ c.args.f.number = held c.args.f.number (omega arith) in
    let before : List Test = (8, ltb 2 c.args.component) ∷ (9, beyond c.args.f.number c.args.north c.args.east) ∷ [] in
    let behind : List Test = (10, same_z (side c.args.component c.args.f.indicators) (pos 0))
    ∷ (11, not (same_z (side c.args.component c.args.f.methods) (pos 0)))
    ∷ (12, not (origin_available c.args.f.origin))
    ∷ (13, same_z c.args.f.spacing.north (pos 0) || same_z c.args.f.spacing.east (pos 0))
    ∷ [] in
    let known : outcome_number c.position_refusal.result ≡ first before = c.position_refusal.ensures
    ∙ (λ i. first ((8, ltb 2 c.args.component) ∷ (9, beyond (number i) (is-back c.ranges.north i) (is-back c.ranges.east i)) ∷ [])) in
    let shown : to_z w64 (of_z w64 c.side_of-indicator.result) ≡ side c.args.component c.args.f.indicators = held c.side_of-indicator.result c.side_of-indicator.type_inv ∙ c.side_of-indicator.ensures in
    let method : to_z w64 (of_z w64 c.side_of-method.result) ≡ side c.args.component c.args.f.methods = held c.side_of-method.result c.side_of-method.type_inv ∙ c.side_of-method.ensures in
    let fields : outcome_number c.field_refusal.result ≡ first behind = c.field_refusal.ensures
    ∙ (λ i. first ((10, same_z (shown i) (pos 0))
    ∷ (11, not (same_z (method i) (pos 0)))
    ∷ (12, not (origin_available c.args.f.origin))
    ∷ (13, same_z (held c.args.f.spacing.north (omega arith) i) (pos 0) || same_z (held c.args.f.spacing.east (omega arith) i) (pos 0))
    ∷ [])) in
    fields ∙ goes_on before behind tt (sym known ∙ passed c.in_ok-position_refusal.was)

pub position_refusal-requires : goal.position_refusal-requires
position_refusal-requires c = tt

pub side_of-indicator-requires : goal.side_of-indicator-requires
side_of-indicator-requires c = tt

pub side_of-method-requires : goal.side_of-method-requires
side_of-method-requires c = tt

pub field_refusal-requires : goal.field_refusal-requires
field_refusal-requires c = tt
