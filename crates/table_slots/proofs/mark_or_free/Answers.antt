-- `table_slots::mark_or_free` meets its contract: each return is a case of the definition.
-- Assumes nothing.
use Rattle.std.proofs.Common.{◌≡◌, ◌∙◌, ◌≤◌, ◌<◌, ℕ, true, false, cond, ltb, arith, ap, sym, not, Some, None}
use Rattle.std.specs.Option.{is_some}
use borrow.Author.Tests.{lt-ltb, le-ltb}
use native.Mathlib.Decide.{dec_lt}
use Rattle.arith.proofs.Tests.{false-ne-true}
use Rattle.table_slots.specs.Slots.{slots, most}
use Rattle.table_slots.specs.Inner.{place_in, mark_place, mark_or_free}
use Rattle.table_slots.proofs.mark_or_free.Goals as goal
use Rattle.table_slots.proofs.mark_or_free.Goals.{else-is_none-via-then-is_none+else-holds-lt-MOST, else-is_none-via-else-is_none}

inside : (a : ℕ) → is_some (place_in a) ≡ false → slots ≤ a
unfolding place_in
inside a e = by (dec_lt a slots)
  where
    by : Dec (a < slots) → slots ≤ a
    by (yes l) = absurd (let z : is_some (cond (ltb a slots) (Some a) None) ≡ true = rw (lt-ltb a slots l) in cc)
    by (no l) = omega arith

none : (a : ℕ) → slots ≤ a → is_some (place_in a) ≡ false
unfolding place_in
none a h = rw (le-ltb a slots h)

outside : (a b : ℕ) → slots ≤ a → slots ≤ b → place_in a ≡ place_in b
unfolding place_in
outside a b h k = rw (le-ltb a slots h, le-ltb b slots k)

module _ (a b n : ℕ) where
  abbrev chosen : ℕ
  chosen = cond (ltb a slots) a (cond (ltb n most) b slots)

  free : is_some (place_in a) ≡ false → n < most → place_in b ≡ place_in chosen
  free e h = rw (le-ltb a slots (inside a e), lt-ltb n most h)

  kept : (is_some (place_in a) ≡ false → most ≤ n) → place_in a ≡ place_in chosen
  kept f = by (dec_lt a slots)
    where
      by : Dec (a < slots) → place_in a ≡ place_in chosen
      by (yes l) = rw (lt-ltb a slots l)
      by (no l) = rw (le-ltb a slots (omega arith), le-ltb n most (f (none a (omega arith)))) (outside a slots (omega arith) (omega arith))

pub returns-then-holds-lt-MOST : goal.returns-then-holds-lt-MOST
unfolding mark_or_free
returns-then-holds-lt-MOST c = c.mark_place.ensures
    ∙ free (mark_place c.args.row.now c.args.g slots) _ _ (ap is_some (sym c.mark_place-place.ensures) ∙ c.is_none.ensures ∙ ap not c.if-is_none.true) c.if-holds-lt-MOST.true

pub returns : goal.returns
unfolding mark_or_free
returns c = let a = mark_place c.args.row.now c.args.g slots in
    c.mark_place-place.ensures
    ∙ kept a _ _
    (λ e. elim c.else-is_none.branch [
      | else-is_none-via-then-is_none+else-holds-lt-MOST w ↦ w.if-holds-lt-MOST.false
      | else-is_none-via-else-is_none w ↦ absurd (false-ne-true (sym e ∙ ap is_some (sym c.mark_place-place.ensures) ∙ c.is_none.ensures ∙ ap not w.if-is_none.false))
    ])
