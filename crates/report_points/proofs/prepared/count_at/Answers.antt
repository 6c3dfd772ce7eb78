-- `report_points::prepared::count_at` meets its contract: the numbers serve between their edges, and elsewhere the message does.
-- Assumes nothing.
use mathlib.Core.Path.{◌≡◌, sym, ◌∙◌, subst}
use mathlib.Core.Bool.{false}
use mathlib.Core.List.{List}
use Prim.Native.Nat.{ℕ, ◌<◌, ◌^◌}
use native.Mathlib.Omega.{arith}
use borrow.Author.Tests.{le-ltb}
use lib.IntN.{ℤ, pos, nat_abs, ◌-ℤ◌}
use lib.Signed.{mag, lt_z, ◌≤ℤ◌}
use mir.Syntax.{w64}
use mir.Val.{SFits, of_z, to_z}
use Rattle.arith.proofs.Back.{held}
use Rattle.arith.proofs.Int.{at, nat, ◌⊟◌, order, known, abs-above}
use Rattle.arith.proofs.Machine.{Num, any, sub_within, fits, not-less, is-back}
use Rattle.arith.proofs.Whole.{cast-natural}
use Rattle.grid_component.specs.Inner.{counted_by}
use Rattle.grid_component.specs.declared.Kept.{Kept}
use Rattle.report_prepared.specs.declared.Prepared.{Prepared}
use Rattle.report_prepared.specs.Private.{Between, CountBetween, Serves, count_in}
use Rattle.report_points.proofs.prepared.count_at.Goals as goal

-- by the message
pub returns-then-not-is_between : goal.returns-then-not-is_between
returns-then-not-is_between c = c.count_at.ensures ∙ (λ i. counted_by c.args.message.now c.args.kept c.args.component (is-back c.ranges.north i) (is-back c.ranges.east i))

-- by the numbers
from_zero : (a b : ℤ) → a ≤ℤ b → lt_z (b -ℤ a) (pos 0) ≡ false
from_zero a b h =
    subst (λ (z : ℤ). lt_z z (pos 0) ≡ false) (sym (abs-above (order (nat 0) (at b ⊟ at a) (omega (arith, known (at a) (at b) h)))))
    (le-ltb (nat_abs (b -ℤ a)) 0 (omega arith))

-- what is known on or between the edges
record Served (s : List ℕ) (kept : Kept) (k : ℕ) (p : Prepared) (nodes : List ℤ) (n e : ℤ) : Type 0 where
  north : SFits w64 n
  east : SFits w64 e
  south : SFits w64 p.south
  west : SFits w64 p.west
  between : Between p n e
  is : CountBetween s kept k p nodes n e

served : {s : List ℕ} {kept : Kept} {k : ℕ} {nodes : List ℤ} {n e : ℤ} (p : Prepared) → (mag p.south < 2 ^ 63) × (mag p.west < 2 ^ 63) → SFits w64 n → SFits w64 e
    → Between p (to_z w64 (of_z w64 n)) (to_z w64 (of_z w64 e)) → Serves s kept k p nodes → Served s kept k p nodes n e
served {n = n} {e = e} p edges north east between serves =
    let b : Between p n e = subst (λ (z : ℤ × ℤ). Between p z.0 z.1) (λ i. (is-back north i, is-back east i)) between in
    record { north = north; east = east; south = record { sfits = edges.0 }; west = record { sfits = edges.1 }; between = b; is = serves n e b }

-- the steps from the southern and from the western edge
module _ {s : List ℕ} {kept : Kept} {k : ℕ} {p : Prepared} {nodes : List ℤ} {n e : ℤ} (d : Served s kept k p nodes n e) where
  abbrev y-of : Num
  y-of = sub_within (any n d.north) (any p.south d.south) 122850000 (omega (arith, d.is.rows, d.is.high.1)) tt

  abbrev x-of : Num
  x-of = sub_within (any e d.east) (any p.west d.west) 122850000 (omega (arith, d.is.columns, d.is.wide.1)) tt

pub overflow_cast-y : goal.overflow_cast-y
overflow_cast-y c =
    let d = served c.args.p (omega arith) c.ranges.north c.ranges.east (c.is_between.ensures c.if-not-is_between.false) c.requires in
    let e = cast-natural (y-of d).z (y-of d).fit.sfits (from_zero c.args.p.south c.args.north d.between.south) in
    rw (y-of d).held (e.0, record { fits = e.1 })

pub overflow_cast-x : goal.overflow_cast-x
overflow_cast-x c =
    let d = served c.args.p (omega arith) c.ranges.north c.ranges.east (c.is_between.ensures c.if-not-is_between.false) c.requires in
    let e = cast-natural (x-of d).z (x-of d).fit.sfits (from_zero c.args.p.west c.args.east d.between.west) in
    rw (x-of d).held (e.0, record { fits = e.1 })

pub count_in-requires : goal.count_in-requires
count_in-requires c =
    let d = served c.args.p (omega arith) c.ranges.north c.ranges.east (c.is_between.ensures c.if-not-is_between.false) c.requires in
    (d.is.high.0, d.is.high.1, d.is.wide.0, d.is.wide.1)

pub returns : goal.returns
returns c =
    let p : Prepared = c.args.p in
    let d = served c.args.p (omega arith) c.ranges.north c.ranges.east (c.is_between.ensures c.if-not-is_between.false) c.requires in
    (λ i. record { refusal = 0; count = (held c.count_in.result c.count_in.type_inv ∙ c.count_in.ensures ∙ (λ j. count_in p c.args.nodes.now (nat_abs ((y-of d).held j)) (nat_abs ((x-of d).held j)))) i })
    ∙ sym d.is.count

pub overflow_sub-y : goal.overflow_sub-y
overflow_sub-y c = fits (y-of (served c.args.p (omega arith) c.ranges.north c.ranges.east (c.is_between.ensures c.if-not-is_between.false) c.requires))

pub overflow_sub-x : goal.overflow_sub-x
overflow_sub-x c = fits (x-of (served c.args.p (omega arith) c.ranges.north c.ranges.east (c.is_between.ensures c.if-not-is_between.false) c.requires))
