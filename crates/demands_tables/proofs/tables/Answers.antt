-- `demands_tables::tables` carries its theorems: those of the table without an index, over the same calls.
-- Assumes nothing.
use Prim.Native.Nat.{ℕ, ◌<◌}
use mathlib.Core.Path.{◌≡◌, refl, sym, ap, subst, ◌∙◌}
use mathlib.Core.List.{List}
use lib.ListN.{take, drop}
use Rattle.table_slots.specs.Slots.{key}
use Rattle.table.specs.Table.{find_refusal, found_length}
use Rattle.table.specs.Inner.{found}
use Rattle.table_history.specs.History.{after_all, log_of, last_of}
use Rattle.table_history.specs.Private.{walk}
use Rattle.table_history.proofs.Replies.{replies-same, fresh-empty}
use Rattle.table_history.proofs.Answers.{find-last, find-other}
use Rattle.table.proofs.Whole.{formed}
use Rattle.table_indexed.specs.Find.{part_at, part}
use Rattle.table_indexed.proofs.Calls.{agrees-passed}
use Rattle.table_index_history.specs.Calls.{Both, Agreed, indexed}
use Rattle.table_index_history.proofs.Found.{find-same}
use Rattle.table_index_history.proofs.Histories.{same, fresh-agrees, refused-keeps}
use Rattle.demands_tables.specs.Tables.{LikeADictionary, Finds, LastStored, NoGroup, ZeroBytes}
use Rattle.demands_tables.proofs.tables.Goals as goal

dictionary : LikeADictionary
dictionary b e cs h = (same cs b e h).answers ∙ replies-same b.table (agrees-passed b.table b.index e).0 cs

-- the part shown is that of the walk
part_same : (b : Both) → Agreed b → (o s g : ℕ) → s < 256 → part b.table b.index o s g ≡ found b.table o s g
unfolding part found
part_same b e o s g h =
    let t = b.table in
    let p = agrees-passed t b.index e in
    let r = find-same t b.index p.0 p.1 o s g h in
    ap (λ (n : ℕ). take n (drop (part_at t b.index o s g) t)) r.size ∙ ap (λ (n : ℕ). take (found_length t o s g) (drop n t)) r.start

last : LastStored
last b e cs h o s g v small few =
    let r = same cs b e h in
    let a = after_all indexed b cs in
    let t = b.table in
    let w = (agrees-passed t b.index e).0 in
    let f = find-last t w cs o s g v few in
    let m = last_of o (key s g) (found t o s g) (log_of walk t cs) in
    let q : m ≡ last_of o (key s g) (part t b.index o s g) (log_of indexed b cs) =
    sym (ap (λ (old : List ℕ). last_of o (key s g) old (log_of indexed b cs)) (part_same b e o s g small) ∙ ap (last_of o (key s g) (found t o s g)) r.log) in
    let p = agrees-passed a.table a.index r.agreed in
    let z = find-same a.table a.index p.0 p.1 o s g small in
    subst (Finds a o s g) q
    (record {
      shown = part_same a r.agreed o s g small ∙ ap (λ (u : List ℕ). found u o s g) r.table ∙ f.shown;
      number = z.number ∙ ap (λ (u : List ℕ). find_refusal u o s g) r.table ∙ f.number;
    })

no-group : NoGroup
no-group b e o s g v small h =
    let p = agrees-passed b.table b.index e in
    let r = find-other b.table (formed b.table p.0) o s g v h in
    let z = find-same b.table b.index p.0 p.1 o s g small in
    record { shown = part_same b e o s g small ∙ r.shown; number = z.number ∙ r.number }

zero-bytes : ZeroBytes
zero-bytes = record { table = refl; index = refl; agreed = fresh-agrees; empty = fresh-empty }

pub returns : goal.returns
returns c = record { dictionary = dictionary; last = last; group = no-group; zero = zero-bytes; refused = refused-keeps }
