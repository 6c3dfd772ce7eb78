-- `grid_place::place_of` meets its contract: the tests in their order, then one direction after the other.
-- Assumes nothing.
use native.Mathlib.Omega.{arith}
use mathlib.Core.Path.{◌≡◌, sym, ap, ◌∙◌}
use mathlib.Core.Bool.{true, false, cond}
use Prim.Native.Nat.{ℕ, ◌*◌, ◌≤◌, ◌<◌, ◌^◌}
use lib.IntN.{ℤ, pos, nat_abs, ◌-ℤ◌, ◌*ℤ◌}
use lib.Signed.{mag}
use mir.Syntax.{w64}
use mir.Val.{SFits, to_z, of_z}
use Rattle.arith.specs.First.{first}
use Rattle.arith.specs.Whole.{natural}
use Rattle.arith.proofs.Back.{held}
use Rattle.arith.proofs.Machine.{is-back}
use Rattle.layout.specs.Layout.{value_in}
use Rattle.grid_bilinear.specs.Bilinear.{outside}
use Rattle.grid_direction.specs.Inner.{along_of}
use Rattle.grid_direction.specs.declared.PlaceAlong.{PlaceAlong}
use Rattle.grid_direction.proofs.Placed.{along-refusal}
use Rattle.record_grids.specs.declared.Settings.{Settings}
use Rattle.grid_refusals.specs.Refusals.{ellipsoidal, field_tests}
use Rattle.grid_place.specs.Position.{steps_of, east_by, height_of, width_of, north_from, east_from}
use Rattle.grid_place.specs.Inner.{place_of}
use Rattle.grid_place.specs.Private.{Fields}
use Rattle.grid_place.proofs.Places.{Early, early, Spaced, spacings, steps-some, turn-most, in_cell_lem, outside-yes, outside-no, early-out, north-out, east-out, both-in}
use Rattle.grid_place.proofs.place_of.Goals as goal

-- what `spacing_of` and `difference` ask, of numbers read back
abbrev Raw : ℤ → ℕ → Type 0
Raw d q = (d ≡ pos (natural d)) × (natural d ≤ 4095) × (q ≤ 10000)

raw : {d d' : ℤ} {q q' : ℕ} → d' ≡ d → q' ≡ q → Raw d q → Raw d' q'
raw a b h = rw (a, b) h

abbrev Asks : ℤ → ℤ → ℕ → Type 0
Asks z o q = (nat_abs z ≤ 1000000000000) × (nat_abs o ≤ 67108864) × (q ≤ 10000)

asks : {z z' o o' : ℤ} {q q' : ℕ} → z' ≡ z → o' ≡ o → q' ≡ q → Asks z o q → Asks z' o' q'
asks a b c h = rw (a, b, c) h

-- what `east_difference` asks
abbrev EastAsks : ℤ → ℤ → ℤ → ℕ → Type 0
EastAsks n z o q = (nat_abs z ≤ 1000000000000) × (nat_abs o ≤ 67108864) × (q ≤ 10000) × (ellipsoidal n ≡ true → nat_abs (z -ℤ pos q *ℤ o) ≤ 12960000000)

east-asks : {n n' z z' o o' : ℤ} {q q' : ℕ} → n' ≡ n → z' ≡ z → o' ≡ o → q' ≡ q → EastAsks n z o q → EastAsks n' z' o' q'
east-asks a b c d h = rw (a, b, c, d) h

-- what `place_in` asks
along-asks : (d : ℕ) (u : ℤ) {h : ℕ} {p : PlaceAlong} → Spaced d → outside d u ≡ false → p ≡ along_of d u → h ≡ d → p.cell * h ≤ p.steps
along-asks d u s o e k = rw (e, k) (in_cell_lem d u s o).1

-- what is known at the test of p, the place along the north, with h the height: no test on the fields refuses, the cells have sizes, and p is as stated
record North (f : Settings) (k : ℕ) (n e : ℤ) (h : ℕ) (p : PlaceAlong) : Type 0 where
  none : first (field_tests f k n e) ≡ 0
  sizes : Spaced (height_of f) × Spaced (width_of f)
  height : h ≡ height_of f
  placed : p ≡ along_of (height_of f) (north_from f n)
  refusal : p.refusal ≡ cond (outside (height_of f) (north_from f n)) 14 0

-- from what the calls answer: r the refusal of the tests on the fields, t the steps, o the latitude of the origin, u the difference
north-facts : (f : Settings) (k : ℕ) (n e : ℤ) {r t h : ℕ} {o u : ℤ} {p : PlaceAlong} → Fields f → SFits w64 n → SFits w64 e →
    r ≡ first (field_tests f k (to_z w64 (of_z w64 n)) (to_z w64 (of_z w64 e))) → r ≡ 0 →
    mag f.number < 2 ^ 63 → t ≡ steps_of (to_z w64 (of_z w64 f.number)) →
    mag f.spacing.north < 2 ^ 63 → h ≡ natural (to_z w64 (of_z w64 f.spacing.north)) * t →
    mag o < 2 ^ 63 → o ≡ value_in f.origin.north →
    mag u < 2 ^ 63 → u ≡ to_z w64 (of_z w64 n) -ℤ pos t *ℤ to_z w64 (of_z w64 o) →
    p ≡ along_of h (to_z w64 (of_z w64 u)) → North f k n e h p
north-facts f k n e fields fn fe refusal_is passed mn st mr sp mo or mu di al =
    let none : first (field_tests f k n e) ≡ 0 = sym (refusal_is ∙ (λ i. first (field_tests f k (is-back fn i) (is-back fe i)))) ∙ passed in
    let sizes = spacings f n e fields (early f k n e none) in
    let steps = st ∙ ap steps_of (held f.number mn) in
    let height = sp ∙ (λ i. natural (held f.spacing.north mr i) * steps i) in
    let latitude = held _ mo ∙ or in
    let apart = held _ mu ∙ di ∙ (λ i. is-back fn i -ℤ pos (steps i) *ℤ latitude i) in
    let placed = al ∙ (λ i. along_of (height i) (apart i)) in
    let refusal = ap (λ (p : PlaceAlong). p.refusal) placed ∙ along-refusal (height_of f) (north_from f n) sizes.0.0 sizes.0.1 in
    record { none = none; sizes = sizes; height = height; placed = placed; refusal = refusal }

-- what is known at the test of p, the place along the east, with w the width: p is as stated
record East (f : Settings) (e : ℤ) (w : ℕ) (p : PlaceAlong) : Type 0 where
  width : w ≡ width_of f
  placed : p ≡ along_of (width_of f) (east_from f e)
  refusal : p.refusal ≡ cond (outside (width_of f) (east_from f e)) 14 0

-- from what the calls answer: t the steps, o the longitude of the origin, v the difference
east-facts : (f : Settings) (e : ℤ) {t w : ℕ} {o v : ℤ} {p : PlaceAlong} → Spaced (width_of f) → SFits w64 e →
    mag f.number < 2 ^ 63 → t ≡ steps_of (to_z w64 (of_z w64 f.number)) →
    mag f.spacing.east < 2 ^ 63 → w ≡ natural (to_z w64 (of_z w64 f.spacing.east)) * t →
    mag o < 2 ^ 63 → o ≡ value_in f.origin.east →
    mag v < 2 ^ 63 → v ≡ east_by (to_z w64 (of_z w64 f.number)) (to_z w64 (of_z w64 e) -ℤ pos t *ℤ to_z w64 (of_z w64 o)) →
    p ≡ along_of w (to_z w64 (of_z w64 v)) → East f e w p
east-facts f e size fe mn st mc sp mo or mv di al =
    let number = held f.number mn in
    let steps = st ∙ ap steps_of number in
    let width = sp ∙ (λ i. natural (held f.spacing.east mc i) * steps i) in
    let longitude = held _ mo ∙ or in
    let apart = held _ mv ∙ di ∙ (λ i. east_by (number i) (is-back fe i -ℤ pos (steps i) *ℤ longitude i)) in
    let placed = al ∙ (λ i. along_of (width i) (apart i)) in
    let refusal = ap (λ (p : PlaceAlong). p.refusal) placed ∙ along-refusal (width_of f) (east_from f e) size.0 size.1 in
    record { width = width; placed = placed; refusal = refusal }

pub returns-then-early-ne0 : goal.returns-then-early-ne0
returns-then-early-ne0 c = let f : Settings = c.args.f in
    let k : ℕ = c.args.component in
    let n : ℤ = c.args.north in
    let e : ℤ = c.args.east in
    let refusal_is : c.outcome_number-early.result ≡ first (field_tests f k n e) = (c.outcome_number-early.ensures ∙ c.early_refusal.ensures) ∙ (λ i. first (field_tests f k (is-back c.ranges.north i) (is-back c.ranges.east i))) in
    c.no_place.ensures ∙ early-out f k n e refusal_is c.if-early-ne0.true

pub spacing_of-h-requires : goal.spacing_of-h-requires
spacing_of-h-requires c = let f : Settings = c.args.f in
    let number : to_z w64 (of_z w64 f.number) ≡ f.number = held f.number (omega arith) in
    let steps : c.steps_of-steps.result ≡ steps_of f.number = c.steps_of-steps.ensures ∙ ap steps_of number in
    let few : steps_of f.number ≤ 10000 = (steps-some f.number).1 in
    let rows : to_z w64 (of_z w64 f.spacing.north) ≡ f.spacing.north = held f.spacing.north (omega arith) in
    raw rows steps (c.requires.rows.0, c.requires.rows.1, few)

pub difference-u-requires : goal.difference-u-requires
difference-u-requires c = let f : Settings = c.args.f in
    let k : ℕ = c.args.component in
    let n : ℤ = c.args.north in
    let e : ℤ = c.args.east in
    let refusal_is : c.outcome_number-early.result ≡ first (field_tests f k n e) = (c.outcome_number-early.ensures ∙ c.early_refusal.ensures) ∙ (λ i. first (field_tests f k (is-back c.ranges.north i) (is-back c.ranges.east i))) in
    let none : first (field_tests f k n e) ≡ 0 = sym refusal_is ∙ c.if-early-ne0.false in
    let known : Early f n e = early f k n e none in
    let number : to_z w64 (of_z w64 f.number) ≡ f.number = held f.number (omega arith) in
    let steps : c.steps_of-steps.result ≡ steps_of f.number = c.steps_of-steps.ensures ∙ ap steps_of number in
    let few : steps_of f.number ≤ 10000 = (steps-some f.number).1 in
    let latitude : to_z w64 (of_z w64 c.value_in.result) ≡ value_in f.origin.north = held c.value_in.result c.value_in.type_inv ∙ c.value_in.ensures in
    asks (is-back c.ranges.north) latitude steps (known.north, c.requires.north, few)

pub returns-then-n-ne0 : goal.returns-then-n-ne0
returns-then-n-ne0 c = let f : Settings = c.args.f in
    let a = north-facts f c.args.component c.args.north c.args.east c.requires c.ranges.north c.ranges.east (c.outcome_number-early.ensures ∙ c.early_refusal.ensures) c.if-early-ne0.false (omega arith)
    c.steps_of-steps.ensures (omega arith) c.spacing_of-h.ensures c.value_in.type_inv c.value_in.ensures c.difference-u.type_inv c.difference-u.ensures c.along-n.ensures in
    c.no_place-then-n-ne0.ensures
    ∙ north-out f c.args.component c.args.north c.args.east a.none (outside-yes _ a.refusal c.if-n-ne0.true)

pub spacing_of-w-requires : goal.spacing_of-w-requires
spacing_of-w-requires c = let f : Settings = c.args.f in
    let number : to_z w64 (of_z w64 f.number) ≡ f.number = held f.number (omega arith) in
    let steps : c.steps_of-steps.result ≡ steps_of f.number = c.steps_of-steps.ensures ∙ ap steps_of number in
    let few : steps_of f.number ≤ 10000 = (steps-some f.number).1 in
    let columns : to_z w64 (of_z w64 f.spacing.east) ≡ f.spacing.east = held f.spacing.east (omega arith) in
    raw columns steps (c.requires.columns.0, c.requires.columns.1, few)

pub east_difference-v-requires : goal.east_difference-v-requires
east_difference-v-requires c = let f : Settings = c.args.f in
    let k : ℕ = c.args.component in
    let n : ℤ = c.args.north in
    let e : ℤ = c.args.east in
    let refusal_is : c.outcome_number-early.result ≡ first (field_tests f k n e) = (c.outcome_number-early.ensures ∙ c.early_refusal.ensures) ∙ (λ i. first (field_tests f k (is-back c.ranges.north i) (is-back c.ranges.east i))) in
    let none : first (field_tests f k n e) ≡ 0 = sym refusal_is ∙ c.if-early-ne0.false in
    let known : Early f n e = early f k n e none in
    let number : to_z w64 (of_z w64 f.number) ≡ f.number = held f.number (omega arith) in
    let steps : c.steps_of-steps.result ≡ steps_of f.number = c.steps_of-steps.ensures ∙ ap steps_of number in
    let few : steps_of f.number ≤ 10000 = (steps-some f.number).1 in
    let longitude : to_z w64 (of_z w64 c.value_in-2.result) ≡ value_in f.origin.east = held c.value_in-2.result c.value_in-2.type_inv ∙ c.value_in-2.ensures in
    east-asks number (is-back c.ranges.east) longitude steps
    (known.east, c.requires.east, few, λ t. turn-most f.number e (value_in f.origin.east) t (known.turn t) (c.requires.longitude t))

pub returns-then-e-ne0 : goal.returns-then-e-ne0
returns-then-e-ne0 c = let f : Settings = c.args.f in
    let a = north-facts f c.args.component c.args.north c.args.east c.requires c.ranges.north c.ranges.east (c.outcome_number-early.ensures ∙ c.early_refusal.ensures) c.if-early-ne0.false (omega arith)
    c.steps_of-steps.ensures (omega arith) c.spacing_of-h.ensures c.value_in.type_inv c.value_in.ensures c.difference-u.type_inv c.difference-u.ensures c.along-n.ensures in
    let b = east-facts f c.args.east a.sizes.1 c.ranges.east (omega arith) c.steps_of-steps.ensures
    (omega arith) c.spacing_of-w.ensures c.value_in-2.type_inv c.value_in-2.ensures c.east_difference-v.type_inv c.east_difference-v.ensures c.along-e.ensures in
    let in-north = outside-no _ a.refusal c.if-n-ne0.false in
    c.no_place-then-e-ne0.ensures
    ∙ east-out f c.args.component c.args.north c.args.east a.none in-north (outside-yes _ b.refusal c.if-e-ne0.true)

pub place_in-requires : goal.place_in-requires
place_in-requires c = let f : Settings = c.args.f in
    let a = north-facts f c.args.component c.args.north c.args.east c.requires c.ranges.north c.ranges.east (c.outcome_number-early.ensures ∙ c.early_refusal.ensures) c.if-early-ne0.false (omega arith)
    c.steps_of-steps.ensures (omega arith) c.spacing_of-h.ensures c.value_in.type_inv c.value_in.ensures c.difference-u.type_inv c.difference-u.ensures c.along-n.ensures in
    let b = east-facts f c.args.east a.sizes.1 c.ranges.east (omega arith) c.steps_of-steps.ensures
    (omega arith) c.spacing_of-w.ensures c.value_in-2.type_inv c.value_in-2.ensures c.east_difference-v.type_inv c.east_difference-v.ensures c.along-e.ensures in
    let in-north = outside-no _ a.refusal c.if-n-ne0.false in
    let in-east = outside-no _ b.refusal c.if-e-ne0.false in (
      along-asks (height_of f) (north_from f c.args.north) a.sizes.0 in-north a.placed a.height,
      along-asks (width_of f) (east_from f c.args.east) a.sizes.1 in-east b.placed b.width,
    )

pub returns : goal.returns
returns c = let f : Settings = c.args.f in
    let a = north-facts f c.args.component c.args.north c.args.east c.requires c.ranges.north c.ranges.east (c.outcome_number-early.ensures ∙ c.early_refusal.ensures) c.if-early-ne0.false (omega arith)
    c.steps_of-steps.ensures (omega arith) c.spacing_of-h.ensures c.value_in.type_inv c.value_in.ensures c.difference-u.type_inv c.difference-u.ensures c.along-n.ensures in
    let b = east-facts f c.args.east a.sizes.1 c.ranges.east (omega arith) c.steps_of-steps.ensures
    (omega arith) c.spacing_of-w.ensures c.value_in-2.type_inv c.value_in-2.ensures c.east_difference-v.type_inv c.east_difference-v.ensures c.along-e.ensures in
    let in-north = outside-no _ a.refusal c.if-n-ne0.false in
    let in-east = outside-no _ b.refusal c.if-e-ne0.false in
    c.place_in.ensures
    ∙ (λ x. place_of (a.placed x) (b.placed x) (a.height x) (b.width x))
    ∙ both-in f c.args.component c.args.north c.args.east a.none in-north in-east
