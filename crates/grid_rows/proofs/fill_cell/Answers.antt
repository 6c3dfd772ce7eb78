-- `grid_rows::fill_cell` meets its contract.
-- Assumes nothing.
use mathlib.Core.Path.{◌≡◌, sym, subst}
use Prim.Native.Nat.{ℕ, ◌*◌, ◌+◌, ◌≤◌}
use native.Mathlib.Omega.{arith}
use borrow.Author.Rules.{rules}
use lib.IntN.{ℤ, pos, nat_abs}
use mir.Syntax.{w64}
use mir.Val.{to_z, of_z}
use Rattle.arith.proofs.Machine.{is-back}
use Rattle.grid_cell.proofs.Sum.{area-most, fits-weight}
use Rattle.grid_rows.specs.Private.{number_of}
use Rattle.grid_rows.proofs.Line.{second-in, alone, growing}
use Rattle.grid_rows.proofs.fill_cell.Goals as goal

pub fill-requires : goal.fill-requires
fill-requires c = let level : nat_abs (to_z w64 (of_z w64 c.args.mean)) ≤ 10000000 = subst (λ (z : ℤ). nat_abs z ≤ 10000000) (sym (is-back c.ranges.mean)) c.requires.level in
    let p = c.part_at-first.ensures in
    record {
      rest = p.0.rest;
      grows = omega (arith, p.0.rest);
      whole = omega (arith, p.1);
      slope = omega arith;
      level = level;
      places = c.requires.most;
    }

pub returns-then-row-lt2 : goal.returns-then-row-lt2
returns-then-row-lt2 c = alone c.requires c.if-row-lt2.true (number_of (c.args.h * c.args.w) (pos 0) 0) (is-back c.ranges.mean) c.part_at-first.ensures.0.total c.fill.ensures

pub part_at-second-requires : goal.part_at-second-requires
part_at-second-requires c = let two : c.args.x + c.args.step ≤ c.args.w = second-in c.requires c.if-row-lt2.false in
    let p = c.requires in
    let w = p.within in
    (record { north = w.north; east = two; high = w.high; wide = w.wide }, p.nodes, p.factor)

pub fill-requires-2 : goal.fill-requires-2
fill-requires-2 c = let level : nat_abs (to_z w64 (of_z w64 c.args.mean)) ≤ 10000000 = subst (λ (z : ℤ). nat_abs z ≤ 10000000) (sym (is-back c.ranges.mean)) c.requires.level in
    let p = c.part_at-first.ensures in
    record {
      rest = p.0.rest;
      grows = c.growth.ensures.rest;
      whole = omega (arith, p.1);
      slope = omega (arith, c.growth.ensures.most);
      level = level;
      places = c.requires.most;
    }

pub returns : goal.returns
returns c = growing c.requires c.if-row-lt2.false (is-back c.ranges.mean) c.part_at-first.ensures.0.total c.part_at-second.ensures.0.total
    c.growth.ensures.total c.fill-2.ensures

pub overflow_mul-area : goal.overflow_mul-area
overflow_mul-area c = fits-weight (area-most c.requires.within)

pub overflow_add-x : goal.overflow_add-x
overflow_add-x c =
    let two : c.args.x + c.args.step ≤ c.args.w = second-in c.requires c.if-row-lt2.false in
    omega (arith, two, c.requires.within.wide.1)
