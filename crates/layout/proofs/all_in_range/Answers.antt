-- `layout::all_in_range` meets its contract.
-- Assumes nothing.
use mathlib.Core.Path.{◌≡◌, refl, sym, ◌∙◌}
use mathlib.Core.Bool.{◌&&◌}
use mathlib.Core.List.{List}
use Prim.Native.Nat.{ℕ, ◌+◌, ◌*◌, ◌≤◌, ◌<◌}
use native.Mathlib.Omega.{arith}
use lib.ListN.{length, get_or, drop}
use Rattle.field.specs.Inner.{field_at}
use Rattle.layout.specs.Layout.{width, reading_of, takes, all_take, total, decode_all}
use Rattle.layout.proofs.Loop.{At, at-starts, at-goes-on, at-fits, total-most, head-taken, none_left}
use Rattle.layout.proofs.all_in_range.Goals as goal

-- the field at the place of the loop is within s
module _ (es s : List ℕ) (at i : ℕ) (r : At es 0 at i) (n : total es ≤ 8 * length s) (few : length es ≤ 96) (h : i < length es) where
  head : all_take (drop i es) (decode_all (drop i es) at s)
      ≡ (takes (get_or es i 0) (reading_of (get_or es i 0) (field_at s at (width (get_or es i 0)))) && all_take (drop (i + 1) es) (decode_all (drop (i + 1) es) (at + width (get_or es i 0)) s))
  head = let f = at-fits es 0 at i r h in head-taken es s at i h (omega arith) (omega (arith, total-most es))

pub overflow_add-at : goal.overflow_add-at
overflow_add-at c = let es = c.args.layout.now in
    let l = c.loop-e in
    omega (arith, total-most es, at-fits es 0 l.at l.e-index l.invariant.0 (omega arith))

pub loop-e-preserved : goal.loop-e-preserved
loop-e-preserved c = let a = c.args in
    let l = c.loop-e in
    let P = c.requires in
    let e = head a.layout.now a.s.now l.at l.e-index l.invariant.0 P.0 P.1 (omega arith) in
    (at-goes-on a.layout.now 0 l.at l.e-index l.invariant.0 (omega arith), sym (rw (sym c.takes_read.ensures ∙ c.if-not-takes_read.false) at e) ∙ l.invariant.1)

pub returns-then-not-takes_read : goal.returns-then-not-takes_read
returns-then-not-takes_read c = let a = c.args in
    let l = c.loop-e in
    let P = c.requires in
    let e = head a.layout.now a.s.now l.at l.e-index l.invariant.0 P.0 P.1 (omega arith) in
    sym (rw (sym c.takes_read.ensures ∙ c.if-not-takes_read.true) at e) ∙ l.invariant.1

pub returns : goal.returns
returns c = let a = c.args in
    let l = c.loop-e in
    sym (none_left a.layout.now a.s.now l.at l.e-index (omega arith)) ∙ l.invariant.1

pub loop-e-init : goal.loop-e-init
loop-e-init c = (at-starts c.args.layout.now 0, refl)
