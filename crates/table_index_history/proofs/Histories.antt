-- Lists of calls where table and index agree: the replies, the log and the table are those of the calls without an index, and they agree at the end; which indexes agree to begin with; and what find reads. Rests on one call.
-- Assumes nothing.
use Prim.Native.Nat.{ℕ, ◌+◌, ◌*◌, ◌≤◌}
use native.Mathlib.Omega.{arith}
use native.Mathlib.Decide.{ℕ_discrete}
use mathlib.Core.Path.{◌≡◌, refl, ap, ◌∙◌}
use mathlib.Core.Bool.{Bool, true, false, not, cond}
use mathlib.Core.List.{List, [], ◌∷◌}
use lib.Dec.{ltb, eqb}
use lib.ListN.{length, get_or}
use borrow.Author.Tests.{eq-eqb, ne_eqb, eqb-true}
use Rattle.arith.specs.First.{first}
use Rattle.arith.proofs.Lists.{get_d-filled}
use Rattle.arith.proofs.First.{passed, not-false}
use Rattle.arith.proofs.Tests.{both_first, both-second}
use Rattle.table_slots.specs.Slots.{slots, slot_size, table_size, is_owner, slot}
use Rattle.table.specs.Table.{well_formed}
use Rattle.table.proofs.Whole.{formed}
use Rattle.table_history.specs.History.{fresh, Ask, store, find, remove, Call, after_all, replies, log_of}
use Rattle.table_history.specs.Private.{walk}
use Rattle.table_history.proofs.Replies.{fresh-formed}
use Rattle.table_index_search.specs.Index.{index_size}
use Rattle.table_index_search.specs.Search.{named, is_found, slot_found, searched, entries_at}
use Rattle.table_index_search.specs.Agree.{agree}
use Rattle.table_index_search.specs.Means.{mark_in}
use Rattle.table_index_search.specs.declared.Probe.{Probe}
use Rattle.table_index_search.proofs.Agree.{tests}
use Rattle.table_index_search.proofs.Rounds.{search-looks}
use Rattle.table_index.specs.Change.{zeros, rebuilt}
use Rattle.table_index.proofs.Rebuilt.{empty-agrees}
use Rattle.table_index.proofs.Laws.{rebuilt-whole}
use Rattle.table_indexed.specs.Indexed.{entry_key, slot_key, slot_key_at, slot_keys, agrees_refusal, write_refusal, write_index}
use Rattle.table_indexed.specs.Find.{probed, used_by, find_number, given, part_at, part_length, found_by}
use Rattle.table_indexed.specs.declared.Found.{Found}
use Rattle.table_indexed.proofs.Calls.{agrees-done, write_done, store-disagrees, store-refused, store-done, remove-disagrees, remove-refused, remove-done}
use Rattle.table_index_history.specs.Calls.{fresh_index, Both, number, after, indexed, byte_ask, byte_calls}
use Rattle.table_index_history.proofs.Named.{searched-local, searched-count}
use Rattle.table_index_history.proofs.Keys.{keys, length-keys}
use Rattle.table_index_history.proofs.Step.{step}

-- ---- lists of calls

pub record Same (b : Both) (cs : List Call) : Type 0 where
  pub answers : replies indexed b cs ≡ replies walk b.table cs
  pub log : log_of indexed b cs ≡ log_of walk b.table cs
  pub table : (after_all indexed b cs).table ≡ after_all walk b.table cs
  pub agreed : agrees_refusal (after_all indexed b cs).table (after_all indexed b cs).index ≡ 0

pub same : (cs : List Call) (b : Both) → agrees_refusal b.table b.index ≡ 0 → byte_calls cs ≡ true → Same b cs
unfolding replies log_of after_all byte_calls
same [] b e h = record { answers = refl; log = refl; table = refl; agreed = e }
same (c ∷ cs) b e h =
    let o = c.owner in
    let a = c.ask in
    let s = step b e o a (both_first (byte_ask a) (byte_calls cs) h) in
    let r = same cs (after b o a) s.agreed (both-second (byte_ask a) (byte_calls cs) h) in
    record {
      answers = λ i. record { answer = s.answer i; part = s.part i } ∷ (r.answers ∙ ap (λ (t : List ℕ). replies walk t cs) s.table) i;
      log = λ i. record { call = c; answer = s.answer i } ∷ (r.log ∙ ap (λ (t : List ℕ). log_of walk t cs) s.table) i;
      table = r.table ∙ ap (λ (t : List ℕ). after_all walk t cs) s.table;
      agreed = r.agreed;
    }

-- a refused call changes no byte of either, whatever they are
pub refused-keeps : (b : Both) (o : ℕ) (a : Ask) → (number b o a ≡ 0 → ⊥) → after b o a ≡ b
unfolding number after
refused-keeps b o (store m) n = by (ℕ_discrete (agrees_refusal b.table b.index) 0)
  where
    by : Dec (agrees_refusal b.table b.index ≡ 0) → after b o (store m) ≡ b
    by (no z) = let r = store-disagrees b.table b.index o m z in λ i. record { table = r.table i; index = r.index i }
    by (yes z) =
        let r = store-refused b.table b.index o m z (λ q. n (store-done b.table b.index o m z q).number) in
        λ i. record { table = r.table i; index = r.index i }
refused-keeps b o (find s g) n = refl
refused-keeps b o (remove s g) n = by (ℕ_discrete (agrees_refusal b.table b.index) 0)
  where
    by : Dec (agrees_refusal b.table b.index ≡ 0) → after b o (remove s g) ≡ b
    by (no z) = let r = remove-disagrees b.table b.index o s g z in λ i. record { table = r.table i; index = r.index i }
    by (yes z) =
        let r = remove-refused b.table b.index o s g z (λ q. n (remove-done b.table b.index o s g z q).number) in
        λ i. record { table = r.table i; index = r.index i }

-- ---- which indexes agree

pub written-agrees : (t x : List ℕ) → write_refusal t x ≡ 0 → agrees_refusal t (write_index t x) ≡ 0
unfolding write_refusal
written-agrees t x z =
    let a = passed 17 (not (well_formed t)) _ z in
    let b = passed 21 (not (eqb (length x) index_size)) _ a.1 in
    let w = not-false _ a.0 in
    let e = eqb-true (length x) index_size (not-false _ b.0) in
    ap (agrees_refusal t) (write_done t x w e).index ∙ agrees-done t (rebuilt (slot_keys t) x) w (rebuilt-whole (slot_keys t) x (length-keys t) (keys t (formed t w)) e)

fresh-keys : slot_keys fresh ≡ zeros slots
unfolding slot_keys slot_key_at slot_key slot
fresh-keys = refl

pub fresh-agrees : agrees_refusal fresh fresh_index ≡ 0
fresh-agrees =
    agrees-done fresh fresh_index fresh-formed
    (ap (λ (l : List ℕ). agree l fresh_index) fresh-keys ∙ tests (zeros slots) (zeros index_size) refl (empty-agrees (mark_in (zeros slots)) (λ s. get_d-filled {A = ℕ} [] slots s 0)))

-- ---- what find reads, on any bytes

pub probes-few : (t x : List ℕ) (o s g : ℕ) → (found_by t x o s g).probes ≤ 6
unfolding found_by given probed
probes-few t x o s g = by (ℕ_discrete (find_number t x o s g) 0)
  where
    by : Dec (find_number t x o s g ≡ 0) → cond (eqb (find_number t x o s g) 0) (searched x (entry_key o s g)).probes 0 ≤ 6
    by (yes e) = rw (eq-eqb (find_number t x o s g) 0 e) (search-looks x (entry_key o s g))
    by (no n) = rw (ne_eqb (find_number t x o s g) 0 n) (omega arith)

pub probes-count : (t x : List ℕ) (o s g : ℕ) → find_number t x o s g ≡ 0 → (found_by t x o s g).probes ≡ length (named x (entry_key o s g))
unfolding found_by given probed
probes-count t x o s g e = rw (eq-eqb (find_number t x o s g) 0 e) (searched-count x (entry_key o s g))

-- find's number and answer from the two sizes, what the search gives, and the slot
abbrev number_from : ℕ → ℕ → ℕ → ℕ → ℕ → Probe → List ℕ → ℕ
number_from o s g size sized p l =
    first
    ((18, not (eqb size table_size)) ∷ (22, not (eqb sized index_size)) ∷ (21, not (is_owner o)) ∷ (17, not (ltb g 3)) ∷ (17, not (is_found p)) ∷ (22, not (ltb (slot_found p) slots)) ∷ (22, not (used_by l o s g)) ∷ [])

abbrev answer_from : ℕ → ℕ → ℕ → ℕ → ℕ → Probe → List ℕ → Found
answer_from o s g size sized p l =
    record {
      refusal = number_from o s g size sized p l;
      at = cond (eqb (number_from o s g size sized p l) 0) (slot_found p * slot_size + 2) 0;
      length = cond (eqb (number_from o s g size sized p l) 0) (get_or l 1 0) 0;
      probes = cond (eqb (number_from o s g size sized p l) 0) p.probes 0;
    }

pub find-local : (t t' x x' : List ℕ) (o s g : ℕ) → length t ≡ length t' → length x ≡ length x'
    → entries_at x (named x (entry_key o s g)) ≡ entries_at x' (named x (entry_key o s g))
    → (is_found (searched x (entry_key o s g)) ≡ true → slot t (slot_found (searched x (entry_key o s g))) ≡ slot t' (slot_found (searched x (entry_key o s g))))
    → found_by t x o s g ≡ found_by t' x' o s g
unfolding found_by find_number given part_at part_length probed
find-local t t' x x' o s g p q r u = by (is_found (searched x (entry_key o s g))) refl
  where
    e : searched x (entry_key o s g) ≡ searched x' (entry_key o s g)
    e = searched-local x x' (entry_key o s g) q r

    -- without an entry no slot counts
    none : (size sized : ℕ) (y : Probe) (l l' : List ℕ) → is_found y ≡ false → answer_from o s g size sized y l ≡ answer_from o s g size sized y l'
    none size sized y l l' z = rw z (early (not (eqb size table_size)) (not (eqb sized index_size)) (not (is_owner o)) (not (ltb g 3)))
      where
        early : (a b c d : Bool) → ◌≡◌ {A = Found}
            (record { refusal = cond a 18 (cond b 22 (cond c 21 (cond d 17 17))); at = cond (eqb (cond a 18 (cond b 22 (cond c 21 (cond d 17 17)))) 0) (slot_found y * slot_size + 2) 0; length = cond (eqb (cond a 18 (cond b 22 (cond c 21 (cond d 17 17)))) 0) (get_or l 1 0) 0; probes = cond (eqb (cond a 18 (cond b 22 (cond c 21 (cond d 17 17)))) 0) y.probes 0 })
            (record { refusal = cond a 18 (cond b 22 (cond c 21 (cond d 17 17))); at = cond (eqb (cond a 18 (cond b 22 (cond c 21 (cond d 17 17)))) 0) (slot_found y * slot_size + 2) 0; length = cond (eqb (cond a 18 (cond b 22 (cond c 21 (cond d 17 17)))) 0) (get_or l' 1 0) 0; probes = cond (eqb (cond a 18 (cond b 22 (cond c 21 (cond d 17 17)))) 0) y.probes 0 })
        early true b c d = refl
        early false true c d = refl
        early false false true d = refl
        early false false false true = refl
        early false false false false = refl

    by : (b : Bool) → is_found (searched x (entry_key o s g)) ≡ b → answer_from o s g (length t) (length x) (searched x (entry_key o s g)) (slot t (slot_found (searched x (entry_key o s g)))) ≡ answer_from o s g (length t') (length x') (searched x' (entry_key o s g)) (slot t' (slot_found (searched x' (entry_key o s g))))
    by true h =
        let v : slot t (slot_found (searched x (entry_key o s g))) ≡ slot t' (slot_found (searched x' (entry_key o s g))) = u h ∙ ap (λ (y : Probe). slot t' (slot_found y)) e in
        λ i. answer_from o s g (p i) (q i) (e i) (v i)
    by false h =
        none (length t) (length x) (searched x (entry_key o s g)) (slot t (slot_found (searched x (entry_key o s g)))) (slot t' (slot_found (searched x' (entry_key o s g)))) h
        ∙ (λ i. answer_from o s g (p i) (q i) (e i) (slot t' (slot_found (searched x' (entry_key o s g)))))
