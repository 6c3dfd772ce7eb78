-- `grid_row_refusals::row_refusal` meets its contract.
-- Assumes nothing.
use native.Mathlib.Omega.{arith}
use mathlib.Core.Path.{◌≡◌, sym, ap, ◌∙◌}
use mathlib.Core.List.{List, [], ◌∷◌}
use Prim.Native.Nat.{ℕ}
use lib.Dec.{ltb}
use lib.IntN.{ℤ, pos, nat_abs}
use borrow.Author.Rules.{rules}
use mir.Syntax.{w64}
use mir.Val.{to_z, of_z}
use Rattle.arith.specs.First.{first}
use Rattle.arith.proofs.Back.{held}
use Rattle.arith.proofs.Machine.{is-back}
use Rattle.arith.proofs.Whole.{cast-natural}
use Rattle.record_rows.specs.Numbers.{says}
use Rattle.record_grids.specs.declared.Settings.{Settings}
use Rattle.record_grids.specs.Grids.{grid_of}
use Rattle.message_rows.specs.Message.{row, kind_refusal}
use Rattle.grid_row_refusals.specs.ShiftRow.{misplaced}
use Rattle.grid_row_refusals.specs.Private.{first_refused}
use Rattle.grid_row_refusals.proofs.Order.{Fit, natural-step, number-said, ready, kind-refuses, limits-refuse, row-fit, places-refuse, room-refuses, none-refuses}
use Rattle.grid_row_refusals.proofs.row_refusal.Goals as goal

pub returns-then-kind-ne0 : goal.returns-then-kind-ne0
returns-then-kind-ne0 c = let a = c.args in
    kind-refuses a.message.now a.component a.north a.east a.step a.count a.room (c.outcome_number-kind.ensures ∙ c.check_kind.ensures) c.if-kind-ne0.true

pub returns-then-limits-ne0 : goal.returns-then-limits-ne0
returns-then-limits-ne0 c = let m : List ℕ = c.args.message.now in
    let none : kind_refusal 1023 1024 m ≡ 0 = sym (c.outcome_number-kind.ensures ∙ c.check_kind.ensures) ∙ c.if-kind-ne0.false in
    let number : c.settings_at-f.result.number ≡ (grid_of (says (row m))).number = number-said m none c.settings_at-f.ensures in
    let known : c.limits_refusal-limits.result ≡ first ((8, ltb 2 c.args.component) ∷ (9, misplaced (grid_of (says (row m))).number c.args.north c.args.east c.args.step c.args.count) ∷ []) = c.limits_refusal-limits.ensures
    ∙ (λ i. first ((8, ltb 2 c.args.component)
    ∷ (9, misplaced ((held c.settings_at-f.result.number (omega arith) ∙ number) i) (is-back c.ranges.north i) (is-back c.ranges.east i) (is-back c.ranges.step i) c.args.count)
    ∷ [])) in
    let a = c.args in
    limits-refuse m a.component a.north a.east a.step a.count a.room none known c.if-limits-ne0.true

pub overflow_cast-step : goal.overflow_cast-step
overflow_cast-step c = let m : List ℕ = c.args.message.now in
    let none : kind_refusal 1023 1024 m ≡ 0 = sym (c.outcome_number-kind.ensures ∙ c.check_kind.ensures) ∙ c.if-kind-ne0.false in
    let number : c.settings_at-f.result.number ≡ (grid_of (says (row m))).number = number-said m none c.settings_at-f.ensures in
    let known : c.limits_refusal-limits.result ≡ first ((8, ltb 2 c.args.component) ∷ (9, misplaced (grid_of (says (row m))).number c.args.north c.args.east c.args.step c.args.count) ∷ []) = c.limits_refusal-limits.ensures
    ∙ (λ i. first ((8, ltb 2 c.args.component)
    ∷ (9, misplaced ((held c.settings_at-f.result.number (omega arith) ∙ number) i) (is-back c.ranges.north i) (is-back c.ranges.east i) (is-back c.ranges.step i) c.args.count)
    ∷ [])) in
    let within : first ((8, ltb 2 c.args.component) ∷ (9, misplaced (grid_of (says (row m))).number c.args.north c.args.east c.args.step c.args.count) ∷ []) ≡ 0 = sym known ∙ c.if-limits-ne0.false in
    let fits : Fit (grid_of (says (row m))).number c.args.north c.args.east c.args.step c.args.count = row-fit m c.args.component c.args.north c.args.east c.args.step c.args.count c.args.room none within in
    let back : to_z w64 (of_z w64 c.args.step) ≡ c.args.step = is-back c.ranges.step in
    let e = cast-natural c.args.step c.ranges.step.sfits fits.up in
    rw back (e.0, record { fits = e.1 })

pub places_refusal-places-requires : goal.places_refusal-places-requires
places_refusal-places-requires c = let m : List ℕ = c.args.message.now in
    let none : kind_refusal 1023 1024 m ≡ 0 = sym (c.outcome_number-kind.ensures ∙ c.check_kind.ensures) ∙ c.if-kind-ne0.false in
    let number : c.settings_at-f.result.number ≡ (grid_of (says (row m))).number = number-said m none c.settings_at-f.ensures in
    let known : c.limits_refusal-limits.result ≡ first ((8, ltb 2 c.args.component) ∷ (9, misplaced (grid_of (says (row m))).number c.args.north c.args.east c.args.step c.args.count) ∷ []) = c.limits_refusal-limits.ensures
    ∙ (λ i. first ((8, ltb 2 c.args.component)
    ∷ (9, misplaced ((held c.settings_at-f.result.number (omega arith) ∙ number) i) (is-back c.ranges.north i) (is-back c.ranges.east i) (is-back c.ranges.step i) c.args.count)
    ∷ [])) in
    let within : first ((8, ltb 2 c.args.component) ∷ (9, misplaced (grid_of (says (row m))).number c.args.north c.args.east c.args.step c.args.count) ∷ []) ≡ 0 = sym known ∙ c.if-limits-ne0.false in
    let fits : Fit (grid_of (says (row m))).number c.args.north c.args.east c.args.step c.args.count = row-fit m c.args.component c.args.north c.args.east c.args.step c.args.count c.args.room none within in
    let back : to_z w64 (of_z w64 c.args.step) ≡ c.args.step = is-back c.ranges.step in
    rw (is-back c.ranges.north, is-back c.ranges.east, back) (ready none c.settings_at-f.ensures fits)

pub returns-then-places-ne0 : goal.returns-then-places-ne0
returns-then-places-ne0 c = let m : List ℕ = c.args.message.now in
    let none : kind_refusal 1023 1024 m ≡ 0 = sym (c.outcome_number-kind.ensures ∙ c.check_kind.ensures) ∙ c.if-kind-ne0.false in
    let number : c.settings_at-f.result.number ≡ (grid_of (says (row m))).number = number-said m none c.settings_at-f.ensures in
    let known : c.limits_refusal-limits.result ≡ first ((8, ltb 2 c.args.component) ∷ (9, misplaced (grid_of (says (row m))).number c.args.north c.args.east c.args.step c.args.count) ∷ []) = c.limits_refusal-limits.ensures
    ∙ (λ i. first ((8, ltb 2 c.args.component)
    ∷ (9, misplaced ((held c.settings_at-f.result.number (omega arith) ∙ number) i) (is-back c.ranges.north i) (is-back c.ranges.east i) (is-back c.ranges.step i) c.args.count)
    ∷ [])) in
    let within : first ((8, ltb 2 c.args.component) ∷ (9, misplaced (grid_of (says (row m))).number c.args.north c.args.east c.args.step c.args.count) ∷ []) ≡ 0 = sym known ∙ c.if-limits-ne0.false in
    let fits : Fit (grid_of (says (row m))).number c.args.north c.args.east c.args.step c.args.count = row-fit m c.args.component c.args.north c.args.east c.args.step c.args.count c.args.room none within in
    let back : to_z w64 (of_z w64 c.args.step) ≡ c.args.step = is-back c.ranges.step in
    let found : c.places_refusal-places.result ≡ first_refused c.args.message.now c.args.component c.args.north c.args.east c.args.step 0 c.args.count = c.places_refusal-places.ensures
    ∙ (λ i. first_refused c.args.message.now c.args.component (is-back c.ranges.north i) (is-back c.ranges.east i) (pos (nat_abs (back i))) 0 c.args.count)
    ∙ ap (λ (t : ℤ). first_refused c.args.message.now c.args.component c.args.north c.args.east t 0 c.args.count) (natural-step c.args.step fits.up) in
    let a = c.args in
    places-refuse a.message.now a.component a.north a.east a.step a.count a.room none within found c.if-places-ne0.true

pub returns-then-room-count : goal.returns-then-room-count
returns-then-room-count c = let m : List ℕ = c.args.message.now in
    let none : kind_refusal 1023 1024 m ≡ 0 = sym (c.outcome_number-kind.ensures ∙ c.check_kind.ensures) ∙ c.if-kind-ne0.false in
    let number : c.settings_at-f.result.number ≡ (grid_of (says (row m))).number = number-said m none c.settings_at-f.ensures in
    let known : c.limits_refusal-limits.result ≡ first ((8, ltb 2 c.args.component) ∷ (9, misplaced (grid_of (says (row m))).number c.args.north c.args.east c.args.step c.args.count) ∷ []) = c.limits_refusal-limits.ensures
    ∙ (λ i. first ((8, ltb 2 c.args.component)
    ∷ (9, misplaced ((held c.settings_at-f.result.number (omega arith) ∙ number) i) (is-back c.ranges.north i) (is-back c.ranges.east i) (is-back c.ranges.step i) c.args.count)
    ∷ [])) in
    let within : first ((8, ltb 2 c.args.component) ∷ (9, misplaced (grid_of (says (row m))).number c.args.north c.args.east c.args.step c.args.count) ∷ []) ≡ 0 = sym known ∙ c.if-limits-ne0.false in
    let fits : Fit (grid_of (says (row m))).number c.args.north c.args.east c.args.step c.args.count = row-fit m c.args.component c.args.north c.args.east c.args.step c.args.count c.args.room none within in
    let back : to_z w64 (of_z w64 c.args.step) ≡ c.args.step = is-back c.ranges.step in
    let found : c.places_refusal-places.result ≡ first_refused c.args.message.now c.args.component c.args.north c.args.east c.args.step 0 c.args.count = c.places_refusal-places.ensures
    ∙ (λ i. first_refused c.args.message.now c.args.component (is-back c.ranges.north i) (is-back c.ranges.east i) (pos (nat_abs (back i))) 0 c.args.count)
    ∙ ap (λ (t : ℤ). first_refused c.args.message.now c.args.component c.args.north c.args.east t 0 c.args.count) (natural-step c.args.step fits.up) in
    let a = c.args in
    room-refuses a.message.now a.component a.north a.east a.step a.count a.room none within found c.if-places-ne0.false c.if-room-count.true

pub returns : goal.returns
returns c = let m : List ℕ = c.args.message.now in
    let none : kind_refusal 1023 1024 m ≡ 0 = sym (c.outcome_number-kind.ensures ∙ c.check_kind.ensures) ∙ c.if-kind-ne0.false in
    let number : c.settings_at-f.result.number ≡ (grid_of (says (row m))).number = number-said m none c.settings_at-f.ensures in
    let known : c.limits_refusal-limits.result ≡ first ((8, ltb 2 c.args.component) ∷ (9, misplaced (grid_of (says (row m))).number c.args.north c.args.east c.args.step c.args.count) ∷ []) = c.limits_refusal-limits.ensures
    ∙ (λ i. first ((8, ltb 2 c.args.component)
    ∷ (9, misplaced ((held c.settings_at-f.result.number (omega arith) ∙ number) i) (is-back c.ranges.north i) (is-back c.ranges.east i) (is-back c.ranges.step i) c.args.count)
    ∷ [])) in
    let within : first ((8, ltb 2 c.args.component) ∷ (9, misplaced (grid_of (says (row m))).number c.args.north c.args.east c.args.step c.args.count) ∷ []) ≡ 0 = sym known ∙ c.if-limits-ne0.false in
    let fits : Fit (grid_of (says (row m))).number c.args.north c.args.east c.args.step c.args.count = row-fit m c.args.component c.args.north c.args.east c.args.step c.args.count c.args.room none within in
    let back : to_z w64 (of_z w64 c.args.step) ≡ c.args.step = is-back c.ranges.step in
    let found : c.places_refusal-places.result ≡ first_refused c.args.message.now c.args.component c.args.north c.args.east c.args.step 0 c.args.count = c.places_refusal-places.ensures
    ∙ (λ i. first_refused c.args.message.now c.args.component (is-back c.ranges.north i) (is-back c.ranges.east i) (pos (nat_abs (back i))) 0 c.args.count)
    ∙ ap (λ (t : ℤ). first_refused c.args.message.now c.args.component c.args.north c.args.east t 0 c.args.count) (natural-step c.args.step fits.up) in
    let a = c.args in
    none-refuses a.message.now a.component a.north a.east a.step a.count a.room none within found c.if-places-ne0.false c.if-room-count.false
