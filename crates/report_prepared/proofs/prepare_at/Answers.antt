-- `report_prepared::prepare_at` meets its contract: by the place of one position, and the limits at two corners.
-- Assumes nothing.
use Rattle.std.proofs.Common.{Option}
use native.Mathlib.Omega.{arith}
use mathlib.Core.Path.{◌≡◌, sym, ap, ◌∙◌}
use mathlib.Core.Bool.{Bool, true, false}
use mathlib.Core.List.{List}
use Prim.Native.Nat.{ℕ, ◌<◌, ◌^◌}
use lib.IntN.{ℤ, pos, ◌*ℤ◌}
use lib.Signed.{mag}
use borrow.Author.Tests.{eq-eqb, ne_eqb}
use mir.Syntax.{w64}
use mir.Val.{SFits, of_z, to_z}
use Rattle.arith.proofs.Back.{held}
use Rattle.arith.proofs.Machine.{Num, lit, result, mul, fits, is-back}
use Rattle.layout.specs.Layout.{value_in}
use Rattle.record_grids.specs.declared.Settings.{Settings}
use Rattle.grid_fields.specs.Inner.{mean_says}
use Rattle.grid_counts.specs.Counts.{node_factor}
use Rattle.grid_place.specs.Inner.{held_place}
use Rattle.grid_place.specs.declared.Located.{Located}
use Rattle.report_prepared.proofs.Means.{mean-most}
use Rattle.report_prepared.specs.declared.Prepared.{Prepared}
use Rattle.report_prepared.specs.Inner.{no_edges, around_of, edges_at}
use Rattle.report_prepared.specs.Private.{Near, corners_held}
use Rattle.report_prepared.proofs.Served.{near-is}
use Rattle.report_prepared.proofs.prepare_at.Goals as goal

near-back : {q q' : Located} {n n' e e' : ℤ} → q' ≡ q → n' ≡ n → e' ≡ e → Near q n e → Near q' n' e'
near-back a b c h = rw (a, b, c) h

-- a signed number as a call is passed it
abbrev read : ℤ → ℤ
read z = to_z w64 (of_z w64 z)

-- the mean in counts, as the code has it
abbrev mean_of : (s : List ℕ) (c : ℕ) {t : Option ℤ} {v : ℤ} → t ≡ mean_says s c → v ≡ value_in t → Num
mean_of s c {t} {v} says value = mul (lit 100 tt) (result v 16384 (value ∙ ap value_in says) (mean-most s c) tt) tt

module _ (s : List ℕ) (f : Settings) (c : ℕ) (n e : ℤ) where
  abbrev q : Located
  q = held_place f c n e

  abbrev edges : Prepared
  edges = around_of q n e (pos 100 *ℤ value_in (mean_says s c)) (node_factor f.number c)

  no_place_lem : (q.refusal ≡ 0 → ⊥) → no_edges ≡ edges_at s f c n e
  unfolding edges_at
  no_place_lem h = rw (ne_eqb q.refusal 0 h)

  out : q.refusal ≡ 0 → corners_held f.number c edges ≡ false → no_edges ≡ edges_at s f c n e
  unfolding edges_at
  out z h = rw (eq-eqb q.refusal 0 z, h)

  within : q.refusal ≡ 0 → corners_held f.number c edges ≡ true → edges ≡ edges_at s f c n e
  unfolding edges_at
  within z h = rw (eq-eqb q.refusal 0 z, h)

  -- with a place and the edges around it
  record Found (x : Prepared) : Type 0 where
    place : q.refusal ≡ 0
    around : x ≡ edges
    number : mag f.number < 2 ^ 63

  -- what the call for the place says
  module _ (north : SFits w64 n) (east : SFits w64 e) {r : Located} (place : r ≡ held_place f c (read n) (read e)) where
    place-is : r ≡ q
    place-is = place ∙ (λ i. held_place f c (is-back north i) (is-back east i))

    refusal-is : r.refusal ≡ q.refusal
    refusal-is = ap (λ (p : Located). p.refusal) place-is

    no-place : (r.refusal ≡ 0 → ⊥) → no_edges ≡ edges_at s f c n e
    no-place h = no_place_lem (λ z. h (refusal-is ∙ z))

    near : r.refusal ≡ 0 → Near r (read n) (read e)
    near none = near-back place-is (is-back north) (is-back east) (near-is f c n e (sym refusal-is ∙ none))

-- what the calls for the mean, the factor and the edges say
found : {s : List ℕ} {f : Settings} {c : ℕ} {n e : ℤ} → SFits w64 n → SFits w64 e → {r : Located} → r ≡ held_place f c (read n) (read e) → r.refusal ≡ 0
    → mag f.number < 2 ^ 63 → {t : Option ℤ} {v : ℤ} (says : t ≡ mean_says s c) (value : v ≡ value_in t) → {k : ℕ} → k ≡ node_factor (read f.number) c
    → {x : Prepared} → x ≡ around_of r (read n) (read e) (to_z w64 (mean_of s c says value).bits) k → Found s f c n e x
found {s} {f} {c} {n} {e} north east place none number says value factor around =
    let is = place-is s f c n e north east place in
    let mean : Num = mean_of s c says value in
    let whole = factor ∙ ap (λ (z : ℤ). node_factor z c) (held f.number number) in
    record {
      place = sym (refusal-is s f c n e north east place) ∙ none;
      around = around ∙ (λ i. around_of (is i) (is-back north i) (is-back east i) (mean.held i) (whole i));
      number = number;
    }

-- what the call for the corners says
corners-is : {s : List ℕ} {f : Settings} {c : ℕ} {n e : ℤ} {x : Prepared} → Found s f c n e x → {t : Bool} → t ≡ corners_held (read f.number) c x → t ≡ corners_held f.number c (edges s f c n e)
corners-is {f = f} {c = c} y t = t ∙ (λ i. corners_held (held f.number y.number i) c (y.around i))

pub returns-then-q-ne0 : goal.returns-then-q-ne0
returns-then-q-ne0 c =
    c.no_edges.ensures ∙ no-place c.args.message.now c.args.kept.settings c.args.component c.args.north c.args.east c.ranges.north c.ranges.east c.locate-q.ensures c.if-q-ne0.true

pub around-p-requires : goal.around-p-requires
around-p-requires c =
    near c.args.message.now c.args.kept.settings c.args.component c.args.north c.args.east c.ranges.north c.ranges.east c.locate-q.ensures c.if-q-ne0.false

pub returns-then-not-corners_held : goal.returns-then-not-corners_held
returns-then-not-corners_held c =
    let y : Found c.args.message.now c.args.kept.settings c.args.component c.args.north c.args.east c.around-p.result =
    found c.ranges.north c.ranges.east c.locate-q.ensures c.if-q-ne0.false (omega arith) c.mean_at.ensures c.value_in-mean.ensures c.factor_of-factor.ensures c.around-p.ensures in
    c.no_edges-then-not-corners_held.ensures ∙ out _ _ _ _ _ y.place (sym (corners-is y c.corners_held.ensures) ∙ c.if-not-corners_held.true)

pub returns : goal.returns
returns c =
    let y : Found c.args.message.now c.args.kept.settings c.args.component c.args.north c.args.east c.around-p.result =
    found c.ranges.north c.ranges.east c.locate-q.ensures c.if-q-ne0.false (omega arith) c.mean_at.ensures c.value_in-mean.ensures c.factor_of-factor.ensures c.around-p.ensures in
    y.around ∙ within _ _ _ _ _ y.place (sym (corners-is y c.corners_held.ensures) ∙ c.if-not-corners_held.false)

pub overflow_mul-mean : goal.overflow_mul-mean
overflow_mul-mean c = fits (mean_of c.args.message.now c.args.component c.mean_at.ensures c.value_in-mean.ensures)
