-- `demands_tables::isolation` carries its theorems: those of the table without an index over two histories and over one, and the pair of histories with thirteen keys.
-- Assumes nothing.
use Prim.Native.Nat.{ℕ}
use mathlib.Core.Path.{◌≡◌, sym, ap, ◌∙◌}
use mathlib.Core.Bool.{true}
use mathlib.Core.List.{List}
use lib.ListN.{length}
use Rattle.table.specs.Table.{used_slots, holding}
use Rattle.table_history.specs.History.{Call, Entry}
use Rattle.table_history.specs.Dict.{total}
use Rattle.table_history.specs.Isolation.{of_owner, replies_to, kept_after, none, no_key_twice}
use Rattle.table_history.proofs.Isolation.{non-interference, used-are-kept, held-are-kept, kept-once}
use Rattle.table_index_history.specs.Calls.{fresh_both, byte_calls}
use Rattle.table_index_history.proofs.Histories.{same, fresh-agrees}
use Rattle.demands_tables.specs.Isolation.{NonInterference, SlotsCounted}
use Rattle.demands_tables.proofs.Thirteen.{thirteen-fail}
use Rattle.demands_tables.proofs.isolation.Goals as goal

unseen : NonInterference
unfolding replies_to
unseen o v cs cs' h h' e few =
    ap (of_owner o cs) (same cs fresh_both fresh-agrees h).answers
    ∙ non-interference o v cs cs' e few
    ∙ sym (ap (of_owner o cs') (same cs' fresh_both fresh-agrees h').answers)

counted : (cs : List Call) → byte_calls cs ≡ true → SlotsCounted cs
counted cs h =
    let r = same cs fresh_both fresh-agrees h in
    record {
      all = ap used_slots r.table ∙ used-are-kept cs ∙ sym (ap (λ (l : List Entry). total (kept_after none l)) r.log);
      each = λ o v. ap (λ (t : List ℕ). holding t o) r.table ∙ held-are-kept cs o v ∙ sym (ap (λ (l : List Entry). length (kept_after none l o)) r.log);
      once = λ o v. ap (λ (l : List Entry). no_key_twice (kept_after none l o)) r.log ∙ kept-once cs o v;
    }

pub returns : goal.returns
returns c = record { unseen = unseen; counted = counted; thirteen = thirteen-fail }
