-- `grid_rows::fill_from` meets its contract.
-- Assumes nothing.
use mathlib.Core.Path.{◌≡◌, sym, ap, ◌∙◌, subst}
use mathlib.Core.List.{List, ◌++◌}
use Prim.Native.Nat.{ℕ, ◌+◌, ◌*◌, ◌-◌, ◌≤◌, ◌<◌}
use native.Mathlib.Omega.{arith}
use borrow.Author.Rules.{rules}
use borrow.Rule.Slice.PartMut.{put_mid, mid_of, mid_len, Post-is}
use lib.IntN.{ℤ, pos, ◌*ℤ◌}
use lib.ListN.{length, take, drop}
use Rattle.arith.specs.Lists.{up_to}
use Rattle.arith.proofs.Back.{held}
use Rattle.arith.proofs.Machine.{Num, cast, fits, is-back}
use Rattle.layout.specs.Layout.{value_in}
use Rattle.grid_fields.specs.Inner.{mean_says, cell_says}
use Rattle.grid_place.specs.Inner.{held_place}
use Rattle.grid_place.specs.declared.Located.{Located}
use Rattle.grid_counts.specs.Counts.{node_factor, mean_factor}
use Rattle.grid_counts.specs.Inner.{values_in}
use Rattle.grid_row_refusals.specs.ShiftRow.{east_at}
use Rattle.grid_row_refusals.specs.Inner.{places_in}
use Rattle.grid_row_refusals.proofs.Reaches.{Reaches, reaches}
use Rattle.grid_row_refusals.proofs.Rest.{stands, way-most}
use Rattle.grid_rows.specs.Private.{cell_counts, count_at}
use Rattle.grid_rows.proofs.Counts.{bounds, counts-are}
use Rattle.grid_rows.proofs.fill_from.Goals as goal

asked : {m n w : ℕ} (a step : ℕ) {P : Type 0} → m ≡ n → P → 0 < n → n ≤ 4096 → a + (n - 1) * step ≤ w → P × (0 < m) × (m ≤ 4096) × (a + (m - 1) * step ≤ w)
asked a step q p h b d = (p, rw q h, rw q b, rw q d)

pub fill_run-requires : goal.fill_run-requires
fill_run-requires c = let t : Num = stands c.requires.0.ready c.args.i c.requires.1 in
    let p : Located = c.locate-p.result in
    let is : p ≡ held_place c.args.f c.args.component c.args.north (east_at c.args.east (pos c.args.step) c.args.i) = c.locate-p.ensures ∙ (λ i. held_place c.args.f c.args.component (is-back c.ranges.north i) (t.held i)) in
    let n : ℕ = c.places_in.result in
    let end : ℕ = c.args.i + n in
    let reach : Reaches (c.args.count - c.args.i) p.width p.east c.args.step n = subst (Reaches (c.args.count - c.args.i) p.width p.east c.args.step) (sym c.places_in.ensures.number)
    (reaches (c.args.count - c.args.i) p.width p.east c.args.step (omega (arith, c.requires.1)) (bounds c.requires.0 c.args.i c.requires.1 is).within.east) in
    let inside : end ≤ c.args.count = omega (arith, reach.most, c.requires.1) in
    let long : length (mid_of c.args.i (end - c.args.i) c.args.row.now) ≡ n = let e : end - c.args.i ≡ n = omega arith in
    mid_len c.args.i end c.args.row.now (omega (arith, inside, c.requires.0.enough)) ∙ e in
    let r = reach in
    asked p.east c.args.step long (bounds c.requires.0 c.args.i c.requires.1 is) r.some (omega (arith, inside, c.requires.0.ready.most)) r.last

pub returns : goal.returns
returns c = let t : Num = stands c.requires.0.ready c.args.i c.requires.1 in
    let p : Located = c.locate-p.result in
    let is : p ≡ held_place c.args.f c.args.component c.args.north (east_at c.args.east (pos c.args.step) c.args.i) = c.locate-p.ensures ∙ (λ i. held_place c.args.f c.args.component (is-back c.ranges.north i) (t.held i)) in
    let n : ℕ = c.places_in.result in
    let end : ℕ = c.args.i + n in
    let reach : Reaches (c.args.count - c.args.i) p.width p.east c.args.step n = subst (Reaches (c.args.count - c.args.i) p.width p.east c.args.step) (sym c.places_in.ensures.number)
    (reaches (c.args.count - c.args.i) p.width p.east c.args.step (omega (arith, c.requires.1)) (bounds c.requires.0 c.args.i c.requires.1 is).within.east) in
    let inside : end ≤ c.args.count = omega (arith, reach.most, c.requires.1) in
    let long : length (mid_of c.args.i (end - c.args.i) c.args.row.now) ≡ n = let e : end - c.args.i ≡ n = omega arith in
    mid_len c.args.i end c.args.row.now (omega (arith, inside, c.requires.0.enough)) ∙ e in
    let a = c.args in
    let w = p in
    let r = reach in
    let v : a.i + n - a.i ≡ n = omega arith in
    let counts : ℤ → ℕ → List ℤ = λ m l. up_to (cell_counts (pos mean_factor *ℤ value_in (mean_says a.message.now a.component)) (node_factor m a.component) w.height w.width w.north w.east a.step
    (values_in (cell_says a.message.now a.component w.row w.column))) l in
    let filled =
    c.fill_run.ensures ∙ (λ i. counts (held a.f.number (omega arith) i) (long i))
    ∙ counts-are c.requires.0 a.i c.requires.1 is n r.most r.last in record {
      filled = record {
        some = omega (arith, r.some);
        most = inside;
        row =
            ap (put_mid a.i (a.i + n - a.i) a.row.now) filled
            ∙ ap (λ (l : List ℤ). take a.i a.row.now ++ (up_to (λ j. count_at a.message.now a.component a.north a.east (pos a.step) (a.i + j)) n ++ l))
            (Post-is a.i (a.i + n) a.row.now (omega arith))
            ∙ ap (λ (m : ℕ). take a.i a.row.now ++ (up_to (λ j. count_at a.message.now a.component a.north a.east (pos a.step) (a.i + j)) m ++ drop (a.i + n) a.row.now)) (sym v);
      };
      reaches = ap (λ (m : ℕ). a.i + m) c.places_in.ensures.number ∙ ap (λ (l : Located). a.i + places_in (a.count - a.i) l.width l.east a.step) is;
    }

pub overflow_mul-t : goal.overflow_mul-t
overflow_mul-t c =
    let way : c.args.i * c.args.step ≤ 2000000000000 = way-most c.requires.0.ready c.args.i c.requires.1 in
    record { fits = omega (arith, way) }

pub overflow_cast-t : goal.overflow_cast-t
overflow_cast-t c =
    let way : c.args.i * c.args.step ≤ 2000000000000 = way-most c.requires.0.ready c.args.i c.requires.1 in
    (cast (c.args.i * c.args.step) 2000000000000 way tt).fit

pub overflow_add-t : goal.overflow_add-t
overflow_add-t c =
    let t : Num = stands c.requires.0.ready c.args.i c.requires.1 in
    fits t

pub overflow_add-end : goal.overflow_add-end
overflow_add-end c = let t : Num = stands c.requires.0.ready c.args.i c.requires.1 in
    let p : Located = c.locate-p.result in
    let is : p ≡ held_place c.args.f c.args.component c.args.north (east_at c.args.east (pos c.args.step) c.args.i) = c.locate-p.ensures ∙ (λ i. held_place c.args.f c.args.component (is-back c.ranges.north i) (t.held i)) in
    let n : ℕ = c.places_in.result in
    let end : ℕ = c.args.i + n in
    let reach : Reaches (c.args.count - c.args.i) p.width p.east c.args.step n = subst (Reaches (c.args.count - c.args.i) p.width p.east c.args.step) (sym c.places_in.ensures.number)
    (reaches (c.args.count - c.args.i) p.width p.east c.args.step (omega (arith, c.requires.1)) (bounds c.requires.0 c.args.i c.requires.1 is).within.east) in
    let inside : end ≤ c.args.count = omega (arith, reach.most, c.requires.1) in
    record { fits = omega (arith, inside, c.requires.0.ready.most) }

pub slice_bounds-fill_run-end : goal.slice_bounds-fill_run-end
slice_bounds-fill_run-end c = let t : Num = stands c.requires.0.ready c.args.i c.requires.1 in
    let p : Located = c.locate-p.result in
    let is : p ≡ held_place c.args.f c.args.component c.args.north (east_at c.args.east (pos c.args.step) c.args.i) = c.locate-p.ensures ∙ (λ i. held_place c.args.f c.args.component (is-back c.ranges.north i) (t.held i)) in
    let n : ℕ = c.places_in.result in
    let end : ℕ = c.args.i + n in
    let reach : Reaches (c.args.count - c.args.i) p.width p.east c.args.step n = subst (Reaches (c.args.count - c.args.i) p.width p.east c.args.step) (sym c.places_in.ensures.number)
    (reaches (c.args.count - c.args.i) p.width p.east c.args.step (omega (arith, c.requires.1)) (bounds c.requires.0 c.args.i c.requires.1 is).within.east) in
    let inside : end ≤ c.args.count = omega (arith, reach.most, c.requires.1) in
    omega (arith, inside, c.requires.0.enough)
