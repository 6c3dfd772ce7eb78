-- `demands_tables::agreement` carries its theorems: those of table_index_history on what agrees and stays so, and on what find shows.
-- Assumes nothing.
use Prim.Native.Nat.{ℕ}
use mathlib.Core.Path.{sym, ◌∙◌}
use mathlib.Core.List.{List}
use Rattle.table.specs.Table.{found_of}
use Rattle.table.proofs.Whole.{formed}
use Rattle.table_index_search.proofs.Agree as tested
use Rattle.table_index.proofs.Laws.{one-listed}
use Rattle.table_indexed.specs.Indexed.{slot_keys}
use Rattle.table_indexed.specs.Find.{found_by}
use Rattle.table_indexed.proofs.Calls.{agrees-passed, agrees-done}
use Rattle.table_index_history.proofs.Keys.{keys, key_in, length-keys}
use Rattle.table_index_history.proofs.Histories.{same, written-agrees}
use Rattle.table_index_history.proofs.Found.{find-same}
use Rattle.demands_tables.specs.Indexes.{AgreementIs, OneEntry, AgreementKept, FindsLikeTheWalk}
use Rattle.demands_tables.proofs.agreement.Goals as goal

is : (t x : List ℕ) → AgreementIs t x
is t x =
    record {
      means = λ e. (let p = agrees-passed t x e in tested.means (slot_keys t) x p.1 (keys t (formed t p.0)));
      tests = λ w a. agrees-done t x w (tested.tests (slot_keys t) x (length-keys t) a);
    }

one : OneEntry
one t x e i j k h n lj lk a b =
    let p = agrees-passed t x e in
    let q = key_in t i h in
    let r = one-listed (slot_keys t) x (keys t (formed t p.0)) p.1 i (λ z. n (sym q ∙ z)) in
    let u = r.1 j lj (a ∙ sym q) in
    let v = r.1 k lk (b ∙ sym q) in
    (u.1 ∙ sym v.1, u.0)

kept : AgreementKept
kept b e cs h = (same cs b e h).agreed

walk : FindsLikeTheWalk
unfolding found_by found_of
walk t x e o s g h =
    let p = agrees-passed t x e in
    let r = find-same t x p.0 p.1 o s g h in
    record { refusal = r.number; at = r.start; length = r.size }

pub returns : goal.returns
returns c = record { is = is; one = one; kept = kept; written = written-agrees; walk = walk }
