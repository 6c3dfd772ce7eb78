-- `report_update::with_refusal` meets its contract: the code's tests are the definition's.
-- Assumes nothing.
use mathlib.Core.Path.{◌≡◌, sym, ap, ◌∙◌, subst}
use mathlib.Core.List.{List}
use Prim.Native.Nat.{ℕ, ◌-◌, ◌<◌}
use borrow.Author.Tests.{lt-ltb, le-ltb, le-leb, lt-leb}
use lib.ListN.{get_or}
use Rattle.report_update.specs.declared.Tally.{Tally}
use Rattle.report_update.specs.Update.{with_refused}
use Rattle.report_update.proofs.Laws.{read-refused}
use Rattle.report_update.proofs.with_refusal.Goals as goal

pub returns-then-n-gt15 : goal.returns-then-n-gt15
returns-then-n-gt15 c = rw (lt-leb c.args.n 15 c.if-n-gt15.true)

pub returns-then-refused-n-ge10000 : goal.returns-then-refused-n-ge10000
returns-then-refused-n-ge10000 c = let a = c.args in
    rw (le-leb a.n 15 c.if-n-gt15.false, le-ltb (get_or a.t.refused (a.n - 1) 0) 10000 c.if-refused-n-ge10000.true)

pub with_refused-requires : goal.with_refused-requires
with_refused-requires c = let a = c.args in
    let same : c.as_read.result.refused ≡ a.t.refused = ap (λ (t : Tally). t.refused) c.as_read.ensures ∙ read-refused a.t in
    (c.requires, c.if-n-gt15.false, subst (λ (l : List ℕ). get_or l (a.n - 1) 0 < 10000) (sym same) c.if-refused-n-ge10000.false)

pub returns : goal.returns
returns c = let a = c.args in
    c.with_refused.ensures
    ∙ ap (λ (t : Tally). with_refused t a.n) c.as_read.ensures
    ∙ rw (le-leb a.n 15 c.if-n-gt15.false, lt-ltb (get_or a.t.refused (a.n - 1) 0) 10000 c.if-refused-n-ge10000.false)
