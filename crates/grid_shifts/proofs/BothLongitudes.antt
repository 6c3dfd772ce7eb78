-- At -180 and +180 degrees every message but a 1024 gives the same whole answer.
-- Assumes nothing.
use mathlib.Core.Path.{◌≡◌, refl, sym, ap, ◌∙◌}
use mathlib.Core.Bool.{Bool, true, false, not, cond, ◌&&◌, ◌||◌}
use mathlib.Core.List.{List, [], ◌∷◌, ◌++◌}
use mathlib.Core.Logic.{⊎_elim}
use Prim.Native.Nat.{ℕ, zero, suc, ◌≤◌, ◌<◌}
use native.Mathlib.Nat.{eq-or-lt_of_le}
use native.Mathlib.Omega.{arith}
use borrow.Author.Tests.{ne_eqb, leb-true}
use lib.Dec.{eqb, leb}
use lib.IntN.{ℤ, pos, negsuc, neg_ℤ, ◌+ℤ◌, ◌-ℤ◌, ◌*ℤ◌}
use Rattle.arith.specs.First.{Test, first}
use Rattle.arith.specs.Whole.{natural, same_z}
use Rattle.arith.proofs.First.{first-append}
use Rattle.arith.proofs.Tests.{both_first, both-second}
use Rattle.arith.proofs.Int.{nat, minus, ◌⊞◌, ◌⊟◌, ◌⊠◌, ring}
use Rattle.arith.proofs.Int as Int
use Rattle.record_grids.specs.declared.Grid.{Grid}
use Rattle.record_grids.specs.Grids.{grid_of, settings_of}
use Rattle.layout.specs.Layout.{value_in}
use Rattle.record_rows.specs.Numbers.{says}
use Rattle.message_rows.specs.Message.{tests, refusal, number_of, row}
use Rattle.message_rows.proofs.Trips.{row_number}
use Rattle.grid_bilinear.specs.Bilinear.{outside, absent, interpolated}
use Rattle.grid_refusals.specs.Refusals.{ellipsoidal, field_tests}
use Rattle.grid_place.specs.Position.{turn, half_turn, by_turns, steps_of, height_of, width_of, north_from}
use Rattle.grid_shifts.specs.Shift.{surface, north_of, east_of, grid_tests, shift_refusal, answer_of, outcome, shift_with, message_shift}
use Rattle.grid_place.proofs.Antimeridian.{turns_of, turned_same, turned-low, turned-high, turned-only}

both-turns : (o : ℤ) → by_turns (pos half_turn -ℤ o) ≡ by_turns (neg_ℤ (pos half_turn) -ℤ o)
both-turns o =
    let x = pos half_turn -ℤ o in
    turned-only (neg_ℤ (pos half_turn) -ℤ o) (turns_of x +ℤ pos 1) (by_turns x)
    (turned_same x
    ∙ ring ((nat half_turn ⊟ Int.at o) ⊞ Int.at (turns_of x) ⊠ nat turn) ((minus (nat half_turn) ⊟ Int.at o) ⊞ (Int.at (turns_of x) ⊞ nat 1) ⊠ nat turn) (omega arith))
    (turned-low x) (turned-high x)

turned-both : (b : Bool) (x y : ℤ) → b ≡ true → by_turns x ≡ by_turns y → cond b (by_turns x) x ≡ cond b (by_turns y) y
turned-both b x y e h = rw e h

east-both : (g : Grid) → ellipsoidal g.number ≡ true → east_of g (pos half_turn) ≡ east_of g (neg_ℤ (pos half_turn))
unfolding east_of
east-both g t = turned-both (ellipsoidal g.number) _ _ t (both-turns (pos (steps_of g.number) *ℤ value_in g.origin.east))

only : (k : ℕ) → 1023 ≤ k → k ≤ 1024 → (k ≡ 1024 → ⊥) → k ≡ 1023
only k l h m = ⊎_elim (λ (e : 1023 ≡ k). sym e) (λ (e : 1023 < k). let z : k ≡ 1024 = omega arith in absurd (m z)) (eq-or-lt_of_le l)

-- a 1024 gives no longitudes
pub plane : (z : ℤ) → natural z ≡ 1024 → ellipsoidal z ≡ false
unfolding same_z
plane (pos k) h = rw h
plane (negsuc k) h = absurd (omega arith)

-- ---- the refusal

module _ (s : List ℕ) (c : ℕ) (n : ℤ) where
  abbrev g : Grid
  g = grid_of (says (row s))

  abbrev kind : Bool
  kind = leb 1023 (number_of s) && leb (number_of s) 1024

  refusal_is : (e : ℤ) → shift_refusal s c n e ≡ cond (eqb (refusal s) 0) (cond (not kind) 7 (first (grid_tests g c n e))) (refusal s)
  unfolding shift_refusal refusal
  refusal_is e = first-append (tests s) ((7, not kind) ∷ grid_tests g c n e) tt

  -- the tests, of an absolute longitude and a difference
  tests-both : ellipsoidal g.number ≡ true → grid_tests g c n (pos half_turn) ≡ grid_tests g c n (neg_ℤ (pos half_turn))
  unfolding north_of east_of
  tests-both t =
      ap
      (λ (v : ℤ).
      field_tests (settings_of g) c n (pos half_turn)
      ++ ((14, outside (height_of (settings_of g)) (north_from (settings_of g) n) || outside (width_of (settings_of g)) v) ∷ (15, absent (surface g c) (north_of g n) v) ∷ []))
      (east-both g t)

  with-turns : ellipsoidal g.number ≡ true → message_shift s c n (pos half_turn) ≡ message_shift s c n (neg_ℤ (pos half_turn))
  unfolding message_shift shift_with
  with-turns t i =
      outcome g.number c
      ((refusal_is (pos half_turn) ∙ ap (λ (l : List Test). cond (eqb (refusal s) 0) (cond (not kind) 7 (first l)) (refusal s)) (tests-both t) ∙ sym (refusal_is (neg_ℤ (pos half_turn)))) i)
      (interpolated (surface g c) (north_of g n) (east-both g t i))

  refused-both : (number : ℤ) (r : ℕ) (x y : ℤ) → (r ≡ 0 → ⊥) → outcome number c r x ≡ outcome number c r y
  unfolding outcome answer_of
  refused-both number r x y h = rw (ne_eqb r 0 h)

  same-refused : (r : ℕ) → (r ≡ 0 → ⊥) → shift_refusal s c n (pos half_turn) ≡ r → shift_refusal s c n (neg_ℤ (pos half_turn)) ≡ r → message_shift s c n (pos half_turn) ≡ message_shift s c n (neg_ℤ (pos half_turn))
  unfolding message_shift shift_with
  same-refused r h p q =
      ap (λ (k : ℕ). outcome g.number c k (interpolated (surface g c) (north_of g n) (east_of g (pos half_turn)))) p
      ∙ refused-both g.number r _ _ h
      ∙ ap (λ (k : ℕ). outcome g.number c k (interpolated (surface g c) (north_of g n) (east_of g (neg_ℤ (pos half_turn))))) (sym q)

  -- a 1023 gives longitudes
  longitudes : (z : ℤ) → natural z ≡ 1023 → ellipsoidal z ≡ true
  unfolding same_z
  longitudes (pos k) h = rw h
  longitudes (negsuc k) h = absurd (omega arith)

  pub both-sides : (number_of s ≡ 1024 → ⊥) → message_shift s c n (pos half_turn) ≡ message_shift s c n (neg_ℤ (pos half_turn))
  unfolding grid_of
  both-sides m = by (refusal s) refl kind refl
    where
      by : (r : ℕ) → refusal s ≡ r → (b : Bool) → kind ≡ b → message_shift s c n (pos half_turn) ≡ message_shift s c n (neg_ℤ (pos half_turn))
      by (suc r) e b k =
          let z : (x : ℤ) → shift_refusal s c n x ≡ suc r = λ x. refusal_is x ∙ rw (e, ne_eqb (suc r) 0 (λ q. omega arith)) in
          same-refused (suc r) (λ q. omega arith) (z (pos half_turn)) (z (neg_ℤ (pos half_turn)))
      by zero e false k =
          let z : (x : ℤ) → shift_refusal s c n x ≡ 7 = λ x. refusal_is x ∙ rw (e, k) in
          same-refused 7 (λ q. omega arith) (z (pos half_turn)) (z (neg_ℤ (pos half_turn)))
      by zero e true k =
          let l = leb-true 1023 (number_of s) (both_first (leb 1023 (number_of s)) (leb (number_of s) 1024) k) in
          let h = leb-true (number_of s) 1024 (both-second (leb 1023 (number_of s)) (leb (number_of s) 1024) k) in
          let q : number_of s ≡ 1023 = only (number_of s) l h m in
          with-turns (longitudes g.number (row_number s e ∙ q))
