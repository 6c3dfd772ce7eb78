-- A settings that a grid message holds: the test, and what it says of each field.
-- Assumes nothing.
use mathlib.Core.Path.{◌≡◌, refl, sym, ap, ◌∙◌}
use mathlib.Core.Bool.{Bool, true, false, cond, ◌&&◌}
use Prim.Native.Nat.{ℕ, zero, suc, ◌≤◌}
use native.Mathlib.Omega.{arith}
use borrow.Author.Tests.{leb-true, le-leb, le-ltb, eq-eqb, ne_eqb}
use lib.Dec.{leb, eqb}
use lib.IntN.{ℤ, pos, negsuc, nat_abs}
use Rattle.arith.specs.First.{first}
use Rattle.arith.specs.Whole.{natural}
use Rattle.arith.proofs.Tests.{false-ne-true, both_first, both-second}
use Rattle.layout.specs.Layout.{value_in}
use Rattle.record_grids.specs.declared.Settings.{Settings}
use Rattle.grid_refusals.specs.Refusals.{ellipsoidal, field_tests}
use Rattle.grid_place.specs.Inner.{spacing_held, settings_held, no_place, located, held_place, held_two_places}
use Rattle.grid_place.specs.Private.{Fields}
use Rattle.grid_place.specs.declared.Located.{Located}
use Rattle.grid_place.specs.declared.TwoPlaces.{TwoPlaces}
use Rattle.grid_place.proofs.Places.{located-refusal, placed-passes, same_place, in-some-cell}

-- ---- a spacing

spaced : (d : ℤ) → spacing_held d ≡ true → (d ≡ pos (natural d)) × (natural d ≤ 4095)
spaced (pos n) h = (refl, leb-true n 4095 (rw (le-ltb n 0 (omega arith)) at h))
spaced (negsuc n) h = absurd (false-ne-true h)

spacing-held : (d : ℤ) → d ≡ pos (natural d) → natural d ≤ 4095 → spacing_held d ≡ true
spacing-held (pos n) e h = rw (le-ltb n 0 (omega arith)) (le-leb n 4095 h)
spacing-held (negsuc n) e h = let z : ◌≡◌ {A = ℕ} 0 1 = cc in absurd (omega arith)

-- ---- a longitude or an easting

east-most : (b : Bool) (n : ℕ) → leb n (cond b 1296000 67108864) ≡ true → (n ≤ 67108864) × (b ≡ true → n ≤ 1296000)
east-most true n h = let k = leb-true n 1296000 h in (omega (arith, k), λ _. k)
east-most false n h = (leb-true n 67108864 h, λ t. absurd (false-ne-true t))

east-held : (b : Bool) (n : ℕ) → n ≤ 67108864 → (b ≡ true → n ≤ 1296000) → leb n (cond b 1296000 67108864) ≡ true
east-held true n h k = le-leb n 1296000 (k refl)
east-held false n h k = le-leb n 67108864 h

-- ---- the settings

module _ (f : Settings) where
  abbrev a : Bool
  a = leb (nat_abs (value_in f.origin.north)) 67108864

  abbrev b : Bool
  b = leb (nat_abs (value_in f.origin.east)) (cond (ellipsoidal f.number) 1296000 67108864)

  abbrev c : Bool
  c = spacing_held f.spacing.north

  abbrev d : Bool
  d = spacing_held f.spacing.east

  pub held-fields : settings_held f ≡ true → Fields f
  unfolding settings_held
  held-fields h =
      let p = both_first (a && b && c) d h in
      let q = both_first (a && b) c p in
      let e = east-most (ellipsoidal f.number) _ (both-second a b q) in
      record {
        north = leb-true _ 67108864 (both_first a b q);
        east = e.0;
        rows = spaced f.spacing.north (both-second (a && b) c p);
        columns = spaced f.spacing.east (both-second (a && b && c) d h);
        longitude = e.1;
      }

  pub fields-held : Fields f → settings_held f ≡ true
  unfolding settings_held
  fields-held h =
      rw (
        le-leb (nat_abs (value_in f.origin.north)) 67108864 h.north,
        east-held (ellipsoidal f.number) (nat_abs (value_in f.origin.east)) h.east h.longitude,
        spacing-held f.spacing.north h.rows.0 h.rows.1,
        spacing-held f.spacing.east h.columns.0 h.columns.1,
      )

  -- the place in such a settings
  pub held_place_lem : Fields f → (c : ℕ) (n e : ℤ) → held_place f c n e ≡ located f c n e
  unfolding held_place
  held_place_lem h c n e = rw (fields-held h)

  pub place-held : settings_held f ≡ true → (c : ℕ) (n e : ℤ) → located f c n e ≡ held_place f c n e
  unfolding held_place
  place-held h c n e = rw h

  pub no-frame : settings_held f ≡ false → (c : ℕ) (n e : ℤ) → no_place 5 ≡ held_place f c n e
  unfolding held_place
  no-frame h c n e = rw h

-- ---- what `locate_both` answers, in a settings that a message holds

module _ (f : Settings) (h : Fields f) (n e : ℤ) where
  abbrev r : TwoPlaces
  r = held_two_places f n e

  pub horizontal-refusal : r.horizontal ≡ (located f 0 n e).refusal
  unfolding held_two_places
  horizontal-refusal = ap (λ (p : Located). p.refusal) (held_place_lem f h 0 n e)

  pub vertical-refusal : r.vertical ≡ (located f 2 n e).refusal
  unfolding held_two_places
  vertical-refusal = ap (λ (p : Located). p.refusal) (held_place_lem f h 2 n e)

  pub horizontal-place : r.horizontal ≡ 0 → r.place ≡ located f 0 n e
  unfolding held_two_places
  horizontal-place z = rw (eq-eqb (held_place f 0 n e).refusal 0 z) (held_place_lem f h 0 n e)

  none : (c : ℕ) → (located f c n e).refusal ≡ 0 → first (field_tests f c n e) ≡ 0
  none c z = placed-passes f n e c (sym (located-refusal f c n e) ∙ z)

  pub vertical-place : r.vertical ≡ 0 → r.place ≡ located f 2 n e
  vertical-place z = by r.horizontal refl
    where
      by : (k : ℕ) → r.horizontal ≡ k → r.place ≡ located f 2 n e
      by zero y =
          horizontal-place y
          ∙ same_place f n e 0 2 (none 0 (sym horizontal-refusal ∙ y)) (none 2 (sym vertical-refusal ∙ z))
      by (suc k) y = unfold held_two_places in rw (ne_eqb (held_place f 0 n e).refusal 0 (λ q. absurd (omega (arith, y, q)))) (held_place_lem f h 2 n e)

  pub sides-cell : (r.place.row ≤ 2) × (r.place.column ≤ 2)
  unfolding held_two_places
  sides-cell = by (eqb (held_place f 0 n e).refusal 0)
    where
      cells : (c : ℕ) → ((held_place f c n e).row ≤ 2) × ((held_place f c n e).column ≤ 2)
      cells c = rw (held_place_lem f h c n e) (in-some-cell f c n e h)

      by : (b : Bool) → ((cond b (held_place f 0 n e) (held_place f 2 n e)).row ≤ 2) × ((cond b (held_place f 0 n e) (held_place f 2 n e)).column ≤ 2)
      by true = cells 0
      by false = cells 2
