-- `grid_place::vertical_of` meets its contract.
-- Assumes nothing.
use mathlib.Core.Path.{◌≡◌, sym, ap, ◌∙◌}
use Prim.Native.Nat.{ℕ}
use lib.IntN.{ℤ}
use Rattle.arith.specs.First.{first}
use mir.Syntax.{w64}
use mir.Val.{to_z, of_z}
use Rattle.arith.proofs.Machine.{is-back}
use Rattle.record_grids.specs.declared.Settings.{Settings}
use Rattle.grid_refusals.specs.Refusals.{field_tests}
use Rattle.grid_place.specs.Position.{place_tests}
use Rattle.grid_place.specs.Inner.{located}
use Rattle.grid_place.specs.declared.Located.{Located}
use Rattle.grid_place.proofs.Places.{located-refusal, placed-passes, outer-passes}
use Rattle.grid_place.proofs.vertical_of.Goals as goal

-- what `vertical_at` asks, of numbers read back
abbrev Asks : Settings → Located → ℤ → ℤ → Type 0
Asks f p n e = (first (field_tests f 0 n e) ≡ 0) × (p ≡ located f 0 n e)

asks : (f : Settings) (p : Located) {n n' e e' : ℤ} → n' ≡ n → e' ≡ e → Asks f p n e → Asks f p n' e'
asks f p a b h = rw (a, b) h

pub vertical_at-requires : goal.vertical_at-requires
vertical_at-requires c = let f : Settings = c.args.f in
    let n : ℤ = c.args.north in
    let e : ℤ = c.args.east in
    let known : (r : ℕ) → c.args.p.refusal ≡ r → first (place_tests f 0 n e) ≡ r = λ _ h. sym (located-refusal f 0 n e) ∙ sym (ap (λ (p : Located). p.refusal) c.requires.1) ∙ h in
    asks f c.args.p (is-back c.ranges.north) (is-back c.ranges.east)
    (placed-passes f n e 0 (known _ c.if-refusal-eq0.true), c.requires.1)

pub returns-then-refusal-eq0 : goal.returns-then-refusal-eq0
returns-then-refusal-eq0 c = let f : Settings = c.args.f in
    let n : ℤ = c.args.north in
    let e : ℤ = c.args.east in
    let back : (r : Located) → r ≡ located f 2 (to_z w64 (of_z w64 n)) (to_z w64 (of_z w64 e)) → r ≡ located f 2 n e = λ _ h. h ∙ (λ i. located f 2 (is-back c.ranges.north i) (is-back c.ranges.east i)) in
    back _ c.vertical_at.ensures

pub vertical_at-requires-then-refusal-eq-OUTSIDE : goal.vertical_at-requires-then-refusal-eq-OUTSIDE
vertical_at-requires-then-refusal-eq-OUTSIDE c = let f : Settings = c.args.f in
    let n : ℤ = c.args.north in
    let e : ℤ = c.args.east in
    let known : (r : ℕ) → c.args.p.refusal ≡ r → first (place_tests f 0 n e) ≡ r = λ _ h. sym (located-refusal f 0 n e) ∙ sym (ap (λ (p : Located). p.refusal) c.requires.1) ∙ h in
    asks f c.args.p (is-back c.ranges.north) (is-back c.ranges.east) (outer-passes f n e 0 (known _ c.if-refusal-eq-OUTSIDE.true), c.requires.1)

pub returns-then-refusal-eq-OUTSIDE : goal.returns-then-refusal-eq-OUTSIDE
returns-then-refusal-eq-OUTSIDE c = let f : Settings = c.args.f in
    let n : ℤ = c.args.north in
    let e : ℤ = c.args.east in
    let back : (r : Located) → r ≡ located f 2 (to_z w64 (of_z w64 n)) (to_z w64 (of_z w64 e)) → r ≡ located f 2 n e = λ _ h. h ∙ (λ i. located f 2 (is-back c.ranges.north i) (is-back c.ranges.east i)) in
    back _ c.vertical_at-then-refusal-eq-OUTSIDE.ensures

pub returns : goal.returns
returns c = let f : Settings = c.args.f in
    let n : ℤ = c.args.north in
    let e : ℤ = c.args.east in
    let back : (r : Located) → r ≡ located f 2 (to_z w64 (of_z w64 n)) (to_z w64 (of_z w64 e)) → r ≡ located f 2 n e = λ _ h. h ∙ (λ i. located f 2 (is-back c.ranges.north i) (is-back c.ranges.east i)) in
    back _ c.place_of.ensures

pub place_of-requires : goal.place_of-requires
place_of-requires c = c.requires.0
