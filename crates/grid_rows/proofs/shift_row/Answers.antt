-- `grid_rows::shift_row` meets its contract.
-- Assumes nothing.
use mathlib.Core.Path.{◌≡◌, sym, ap, ◌∙◌}
use mathlib.Core.List.{List, ◌++◌}
use Prim.Native.Nat.{ℕ}
use borrow.Author.Rules.{rules}
use lib.IntN.{ℤ, pos, nat_abs}
use lib.ListN.{length, drop}
use mir.Syntax.{w64}
use mir.Val.{to_z, of_z}
use Rattle.arith.specs.Lists.{up_to}
use Rattle.arith.proofs.Machine.{is-back}
use Rattle.arith.proofs.Whole.{cast-natural}
use Rattle.record_grids.specs.declared.Settings.{Settings}
use Rattle.grid_shifts.specs.Shift.{message_shift}
use Rattle.grid_row_refusals.specs.ShiftRow.{east_at, shift_row_refusal, shift_row_filled}
use Rattle.grid_row_refusals.proofs.Order.{Passed, natural-step, ready, row-passes}
use Rattle.grid_rows.specs.Private.{Answered, count_at}
use Rattle.grid_rows.proofs.Fills.{keeps, fills}
use Rattle.grid_rows.proofs.shift_row.Goals as goal

pub returns-then-refusal-ne0 : goal.returns-then-refusal-ne0
unfolding shift_row_filled
returns-then-refusal-ne0 c = let m : List ℕ = c.args.message.now in
    let full : List ℤ = up_to (count_at m c.args.component c.args.north c.args.east c.args.step) c.args.count ++ drop c.args.count c.args.row.now in
    let known : c.row_refusal-refusal.result ≡ shift_row_refusal m c.args.component c.args.north c.args.east c.args.step c.args.count (length c.args.row.now) = c.row_refusal-refusal.ensures
    ∙ (λ i. shift_row_refusal m c.args.component (is-back c.ranges.north i) (is-back c.ranges.east i) (is-back c.ranges.step i) c.args.count (length c.args.row.now)) in record { answer = known; output = keeps full c.args.row.now known c.if-refusal-ne0.true }

pub overflow_cast-step : goal.overflow_cast-step
overflow_cast-step c = let m : List ℕ = c.args.message.now in
    let known : c.row_refusal-refusal.result ≡ shift_row_refusal m c.args.component c.args.north c.args.east c.args.step c.args.count (length c.args.row.now) = c.row_refusal-refusal.ensures
    ∙ (λ i. shift_row_refusal m c.args.component (is-back c.ranges.north i) (is-back c.ranges.east i) (is-back c.ranges.step i) c.args.count (length c.args.row.now)) in
    let none : shift_row_refusal m c.args.component c.args.north c.args.east c.args.step c.args.count (length c.args.row.now) ≡ 0 = sym known ∙ c.if-refusal-ne0.false in
    let passed : Passed m c.args.component c.args.north c.args.east c.args.step c.args.count (length c.args.row.now) = row-passes m c.args.component c.args.north c.args.east c.args.step c.args.count (length c.args.row.now) none in
    let back : to_z w64 (of_z w64 c.args.step) ≡ c.args.step = is-back c.ranges.step in
    let e = cast-natural c.args.step c.ranges.step.sfits passed.within.up in
    rw back (e.0, record { fits = e.1 })

moved : {m : List ℕ} {f : Settings} {c : ℕ} {n n' e e' z z' : ℤ} {count room : ℕ} → n' ≡ n → e' ≡ e → z' ≡ z → Answered m f c n e (nat_abs z) count room → Answered m f c n' e' (nat_abs z') count room
moved p q r h = rw (p, q, r) h

pub fill_row-requires : goal.fill_row-requires
fill_row-requires c = let m : List ℕ = c.args.message.now in
    let known : c.row_refusal-refusal.result ≡ shift_row_refusal m c.args.component c.args.north c.args.east c.args.step c.args.count (length c.args.row.now) = c.row_refusal-refusal.ensures
    ∙ (λ i. shift_row_refusal m c.args.component (is-back c.ranges.north i) (is-back c.ranges.east i) (is-back c.ranges.step i) c.args.count (length c.args.row.now)) in
    let none : shift_row_refusal m c.args.component c.args.north c.args.east c.args.step c.args.count (length c.args.row.now) ≡ 0 = sym known ∙ c.if-refusal-ne0.false in
    let passed : Passed m c.args.component c.args.north c.args.east c.args.step c.args.count (length c.args.row.now) = row-passes m c.args.component c.args.north c.args.east c.args.step c.args.count (length c.args.row.now) none in
    let back : to_z w64 (of_z w64 c.args.step) ≡ c.args.step = is-back c.ranges.step in
    let up : pos (nat_abs c.args.step) ≡ c.args.step = natural-step c.args.step passed.within.up in
    let answered : Answered m c.settings_at-f.result c.args.component c.args.north c.args.east (nat_abs c.args.step) c.args.count (length c.args.row.now) = let p = passed in
    let a = c.args in
    record {
      ready = ready p.kind c.settings_at-f.ensures p.within;
      none = λ j l. ap (λ (z : ℤ). (message_shift m a.component a.north (east_at a.east z j)).refusal) up ∙ p.none j l;
      enough = p.enough;
    } in
    moved (is-back c.ranges.north) (is-back c.ranges.east) back answered

pub returns : goal.returns
unfolding shift_row_filled
returns c = let m : List ℕ = c.args.message.now in
    let full : List ℤ = up_to (count_at m c.args.component c.args.north c.args.east c.args.step) c.args.count ++ drop c.args.count c.args.row.now in
    let known : c.row_refusal-refusal.result ≡ shift_row_refusal m c.args.component c.args.north c.args.east c.args.step c.args.count (length c.args.row.now) = c.row_refusal-refusal.ensures
    ∙ (λ i. shift_row_refusal m c.args.component (is-back c.ranges.north i) (is-back c.ranges.east i) (is-back c.ranges.step i) c.args.count (length c.args.row.now)) in
    let none : shift_row_refusal m c.args.component c.args.north c.args.east c.args.step c.args.count (length c.args.row.now) ≡ 0 = sym known ∙ c.if-refusal-ne0.false in
    let passed : Passed m c.args.component c.args.north c.args.east c.args.step c.args.count (length c.args.row.now) = row-passes m c.args.component c.args.north c.args.east c.args.step c.args.count (length c.args.row.now) none in
    let back : to_z w64 (of_z w64 c.args.step) ≡ c.args.step = is-back c.ranges.step in
    let up : pos (nat_abs c.args.step) ≡ c.args.step = natural-step c.args.step passed.within.up in
    let a = c.args in record {
      answer = sym none;
      output = c.fill_row.ensures
          ∙ (λ i. up_to (count_at m a.component (is-back c.ranges.north i) (is-back c.ranges.east i) (pos (nat_abs (back i)))) a.count ++ drop a.count a.row.now)
          ∙ (λ i. up_to (count_at m a.component a.north a.east (up i)) a.count ++ drop a.count a.row.now)
          ∙ fills full a.row.now none;
    }
