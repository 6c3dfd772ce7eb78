-- `table_index_search::place_of` meets its contract: the place and the test in an index of the right size, no place in another.
-- Assumes nothing.
use native.Mathlib.Omega.{arith}
use mathlib.Core.Path.{◌≡◌, sym, ap, ◌∙◌}
use mathlib.Core.Bool.{false}
use lib.Dec.{eqb}
use lib.ListN.{length}
use Rattle.table_index_search.specs.Index.{key_at}
use Rattle.table_index_search.specs.Place.{has_key}
use Rattle.table_index_search.specs.Inner.{placed}
use Rattle.table_index_search.proofs.Standing.{has-is, has-none, placed-there, placed-behind, placed-other}
use Rattle.table_index_search.proofs.place_of.Goals as goal
use Rattle.table_index_search.proofs.place_of.Goals.{else-at-lt-ENTRIES-via-then-at-lt-ENTRIES+else-is_key, else-at-lt-ENTRIES-via-else-at-lt-ENTRIES}

pub returns-in_default : goal.returns-in_default
returns-in_default c = sym (placed-other _ _ c.in_default.ensures.1)

pub returns-then-is_key : goal.returns-then-is_key
returns-then-is_key c = let k = c.args.key in
    let w = c.in-Ok.ensures.1 in
    let x = c.in-Ok.index.now in
    let h = has-is x k ∙ ap (λ j. eqb (key_at x j) k) (sym c.key_place-at.ensures) ∙ sym c.is_key.ensures ∙ c.if-is_key.true in
    rw c.key_place-at.ensures (sym (placed-there x k (ap length w.same ∙ w.long) h) ∙ ap (λ y. placed y k) w.same)

pub returns : goal.returns
returns c = let k = c.args.key in
    let w = c.in-Ok.ensures.1 in
    let x = c.in-Ok.index.now in
    let size = ap length w.same ∙ w.long in
    let none : has_key x k ≡ false = elim c.else-at-lt-ENTRIES.branch [
      | else-at-lt-ENTRIES-via-then-at-lt-ENTRIES+else-is_key v ↦ has-is x k ∙ ap (λ j. eqb (key_at x j) k) (sym c.key_place-at.ensures) ∙ sym v.is_key.ensures ∙ v.if-is_key.false
      | else-at-lt-ENTRIES-via-else-at-lt-ENTRIES v ↦ has-none x k size (omega arith) (omega (arith, c.key_place-at.ensures))
    ] in
    rw c.key_place-at.ensures (sym (placed-behind x k size none) ∙ ap (λ y. placed y k) w.same)
