-- A key deleted leaves index and table in agreement. Rests on where each entry moves.
-- Assumes nothing.
use Prim.Native.Nat.{ℕ, suc, ◌+◌, ◌-◌, ◌*◌, ◌≤◌, ◌<◌}
use native.Mathlib.Omega.{arith}
use native.Mathlib.Decide.{dec_lt, ℕ_discrete}
use mathlib.Core.Path.{◌≡◌, sym, ap, subst, ◌∙◌}
use mathlib.Core.List.{List}
use lib.ListN.{get_or-eq_default}
use Rattle.table_index_search.specs.Index.{entries, entry_size, byte_at, owner_at, slot_at, above, key_at}
use Rattle.table_index.specs.Change.{taken_out, deleted}
use Rattle.table_index_search.specs.Private.{Keys}
use Rattle.table_index_search.specs.Means.{Entry, Agrees}
use Rattle.table_index.proofs.Change.{delete-none, delete-has}
use Rattle.table_index.proofs.Bytes.{length-taken_out}
use Rattle.table_index_search.proofs.Found.{one_place}
use Rattle.table_index.proofs.Moved.{Same, same-owner, same-slot, same_key, out-early, out-late}
use Rattle.table_index.proofs.Inserted.{has-entry, has-no-entry, used-small}

-- a key that no slot has
pub delete-absent : (mark : ℕ → ℕ) (x : List ℕ) → Agrees mark x → Keys mark → (key : ℕ) → key < above → ((s : ℕ) → mark s ≡ key → ⊥) → deleted x key ≡ x
delete-absent mark x a keys key h none = delete-none x key a.size (has-no-entry mark x a keys key h none)

-- ---- the law: mark is the table before, mark' after slot i lost its key

module _ (mark mark' : ℕ → ℕ) (x : List ℕ) (i : ℕ) (a : Agrees mark x) (keys : Keys mark) (used : mark i ≡ 0 → ⊥)
    (lost : mark' i ≡ 0) (kept : (s : ℕ) → (s ≡ i → ⊥) → mark' s ≡ mark s) where
  o : Entry x (mark i) i
  o = a.listed i used

  abbrev p : ℕ
  p = o.place

  abbrev y : List ℕ
  y = taken_out x p

  low : p < entries
  low = o.low

  small : mark i < above
  small = omega (arith, (keys.keys i used).high)

  -- entry k of the new index is entry q of the old, in the same order and not the one taken out
  data From (k : ℕ) : ℕ → Type 0 where
    early : k < p → From k k
    late : p ≤ k → From k (suc k)

  same : (k q : ℕ) → From k q → Same y k x q
  same k q (early h) = out-early x p a.size low k h
  same k q (late h) = out-late x p a.size low k h

  from : (k : ℕ) → (q : ℕ) × From k q
  from k = by (dec_lt k p)
    where
      by : Dec (k < p) → (q : ℕ) × From k q
      by (yes h) = (k, early h)
      by (no h) = (suc k, late (omega arith))

  -- behind the last entry stands nothing
  past : (b : ℕ) → byte_at x entries b ≡ 0
  past b = get_or-eq_default x 0 {n = entries * entry_size + b} (omega (arith, a.size))

  inside : (k q : ℕ) → From k q → k < entries → (owner_at x q ≡ 0 → ⊥) → q < entries
  inside k q (early h) l n = l
  inside k q (late h) l n = by (ℕ_discrete k 31)
    where
      by : Dec (k ≡ 31) → suc k < entries
      by (yes e) = absurd (n (ap (λ j. owner_at x (suc j)) e ∙ past 0))
      by (no d) = omega arith

  not-p : (k q : ℕ) → From k q → q ≡ p → ⊥
  not-p k q (early h) e = omega arith
  not-p k q (late h) e = omega arith

  ordered : (j k q r : ℕ) → From j q → From k r → j < k → q < r
  ordered j k q r (early g) (early h) l = l
  ordered j k q r (early g) (late h) l = omega arith
  ordered j k q r (late g) (early h) l = absurd (omega arith)
  ordered j k q r (late g) (late h) l = omega arith

  rising : (j k q r : ℕ) → From j q → From k r → j < k → k < entries → (owner_at y k ≡ 0 → ⊥) → key_at y j < key_at y k
  rising j k q r f g l h n =
      let u : owner_at x r ≡ 0 → ⊥ = λ z. n (same-owner y k x r (same k r g) ∙ z) in
      omega (arith, same_key y j x q (same j q f), same_key y k x r (same k r g), a.rising q r (ordered j k q r f g l) (inside k r g h u) u)

  zeros : (k q b : ℕ) → From k q → k < entries → b < entry_size → owner_at y k ≡ 0 → byte_at y k b ≡ 0
  zeros k q b f h l e = same k q f b l ∙ by (dec_lt q entries)
    where
      top : q ≤ entries
      top = most q f
        where
          most : (q : ℕ) → From k q → q ≤ entries
          most q' (early g) = omega arith
          most q' (late g) = omega arith

      by : Dec (q < entries) → byte_at x q b ≡ 0
      by (yes d) = a.zeros q b d l (sym (same-owner y k x q (same k q f)) ∙ e)
      by (no d) =
          let z : q ≡ entries = omega (arith, top) in
          ap (λ j. byte_at x j b) z ∙ past b

  true-to : (k q : ℕ) → From k q → k < entries → (owner_at y k ≡ 0 → ⊥) → mark' (slot_at y k) ≡ key_at y k
  true-to k q f h n =
      let u : owner_at x q ≡ 0 → ⊥ = λ z. n (same-owner y k x q (same k q f) ∙ z) in
      let l : q < entries = inside k q f h u in
      let t : mark (slot_at x q) ≡ key_at x q = a.true-to q l u in
      ap mark' (same-slot y k x q (same k q f))
      ∙ kept (slot_at x q) (λ z. not-p k q f (one_place mark x a q p l low (sym t ∙ ap mark z ∙ sym o.key-is) (used-small mark x a keys q l u)))
      ∙ t
      ∙ sym (same_key y k x q (same k q f))

  listed : (s : ℕ) → (mark' s ≡ 0 → ⊥) → Dec (s ≡ i) → Entry y (mark' s) s
  listed s n (yes e) = absurd (n (ap mark' e ∙ lost))
  listed s n (no d) = put (dec_lt q p) (dec_lt p q)
    where
      e : Entry x (mark s) s
      e = a.listed s (λ z. n (kept s d ∙ z))

      q : ℕ
      q = e.place

      entry : (k : ℕ) → From k q → k < entries → Entry y (mark' s) s
      entry k f h =
          record {
            place = k;
            low = h;
            key-is = same_key y k x q (same k q f) ∙ e.key-is ∙ sym (kept s d);
            slot_is = same-slot y k x q (same k q f) ∙ e.slot_is;
          }

      put : Dec (q < p) → Dec (p < q) → Entry y (mark' s) s
      put (yes h) g = entry q (early h) e.low
      put (no h) (yes g) =
          let z : suc (q - 1) ≡ q = omega arith in
          entry (q - 1) (subst (From (q - 1)) z (late (omega arith))) (omega (arith, e.low))
      put (no h) (no g) =
          let z : q ≡ p = omega arith in
          absurd (d (sym e.slot_is ∙ ap (slot_at x) z ∙ o.slot_is))

  pub delete-agrees : Agrees mark' (deleted x (mark i))
  delete-agrees =
      let has = has-entry mark x a keys (mark i) i small o in
      subst (Agrees mark') (sym (delete-has x (mark i) a.size has.1 ∙ ap (taken_out x) has.0))
      (record {
        size = length-taken_out x p a.size low;
        rising = λ j k. rising j k (from j).0 (from k).0 (from j).1 (from k).1;
        zeros = λ k b. zeros k (from k).0 b (from k).1;
        true-to = λ k. true-to k (from k).0 (from k).1;
        listed = λ s n. listed s n (ℕ_discrete s i);
      })
