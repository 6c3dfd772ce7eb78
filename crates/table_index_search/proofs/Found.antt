-- Where index and table agree, the halving rule finds a key exactly where a slot has it. Rests on the rule's rounds and on what agreement means.
-- Assumes nothing.
use Prim.Native.Nat.{ℕ, zero, suc, ◌-◌, ◌≤◌, ◌<◌}
use native.Mathlib.Omega.{arith}
use native.Mathlib.Decide.{dec_lt}
use mathlib.Core.Path.{◌≡◌, refl, sym, ap, subst, ◌∙◌}
use mathlib.Core.Bool.{true}
use mathlib.Core.List.{List}
use Rattle.arith.proofs.Tests.{false-ne-true}
use Rattle.table_index_search.specs.Index.{entries, slot_at, above, key_at}
use Rattle.table_index_search.specs.Search.{middle, is_found, slot_found, searched}
use Rattle.table_index_search.specs.Private.{binary_search, Keys}
use Rattle.table_index_search.specs.Means.{Entry, Agrees}
use Rattle.table_index_search.proofs.Entry.{used-if}
use Rattle.table_index_search.proofs.Rounds.{round, searched-sized}

-- what is found is an entry of the key, in any index
pub probe-entry : (rounds : ℕ) (x : List ℕ) (key lo end n : ℕ) → end ≤ entries → is_found (binary_search rounds x key lo end n) ≡ true → Entry x key (slot_found (binary_search rounds x key lo end n))
unfolding binary_search
probe-entry zero x key lo end n h f = absurd (false-ne-true f)
probe-entry (suc t) x key lo end n h f =
    round (λ r. is_found r ≡ true → Entry x key (slot_found r)) x key t lo end n
    (λ l e. absurd (false-ne-true e))
    (λ l e g. record { place = middle lo end; low = omega arith; key-is = e; slot_is = refl })
    (λ l e. probe-entry t x key (suc (middle lo end)) end (suc n) h)
    (λ l e. probe-entry t x key lo (middle lo end) (suc n) (omega arith))
    f

module _ (mark : ℕ → ℕ) (x : List ℕ) (a : Agrees mark x) where
  -- the order of the keys is that of the places
  pub places : (j k : ℕ) → j < entries → k < entries → key_at x j < key_at x k → key_at x j < above → j < k
  places j k h l less low = by (dec_lt j k) (dec_lt k j)
    where
      by : Dec (j < k) → Dec (k < j) → j < k
      by (yes d) e = d
      by (no d) (yes e) = absurd (omega (arith, a.rising k j e h (used-if x j low)))
      by (no d) (no e) =
          let q : j ≡ k = omega arith in
          absurd (omega (arith, ap (key_at x) q))

  -- a key has one place
  pub one_place : (j k : ℕ) → j < entries → k < entries → key_at x j ≡ key_at x k → key_at x j < above → j ≡ k
  one_place j k h l e low = by (dec_lt j k) (dec_lt k j)
    where
      by : Dec (j < k) → Dec (k < j) → j ≡ k
      by (yes d) e' = absurd (omega (arith, a.rising j k d l (used-if x k (omega arith))))
      by (no d) (yes e') = absurd (omega (arith, a.rising k j e' h (used-if x j low)))
      by (no d) (no e') = omega arith

  -- an entry between the ends is met
  pub meets : (rounds : ℕ) (key slot lo end n : ℕ) (e : Entry x key slot) → key < above → lo ≤ e.place → e.place < end → end ≤ entries → end - lo ≤ rounds
      → (is_found (binary_search rounds x key lo end n) ≡ true) × (slot_found (binary_search rounds x key lo end n) ≡ slot)
  meets zero key slot lo end n e k l h s t = absurd (omega arith)
  meets (suc t) key slot lo end n e k l h s room =
      let m = middle lo end in
      let p = e.place in
      round (λ r. (is_found r ≡ true) × (slot_found r ≡ slot)) x key t lo end n
      (λ z. absurd (omega arith))
      (λ z q. (refl, ap (slot_at x) (one_place m p (omega arith) e.low (q ∙ sym e.key-is) (omega arith)) ∙ e.slot_is))
      (λ z q. meets t key slot (suc m) end (suc n) e k (places m p (omega arith) e.low (omega (arith, e.key-is)) (omega arith)) h s (omega arith))
      (λ z q. meets t key slot lo m (suc n) e k l (places p m e.low (omega arith) (omega (arith, e.key-is)) (omega (arith, e.key-is))) (omega arith) (omega arith))

  -- the search gives the slot that has the key
  pub finds : Keys mark → (key i : ℕ) → mark i ≡ key → (key ≡ 0 → ⊥) → (is_found (searched x key) ≡ true) × (slot_found (searched x key) ≡ i)
  finds keys key i e n =
      let u : mark i ≡ 0 → ⊥ = λ z. n (sym e ∙ z) in
      let en : Entry x key i = subst (λ k. Entry x k i) e (a.listed i u) in
      rw (searched-sized x key a.size)
      (meets entries key i 0 entries 0 en (omega (arith, (keys.keys i u).high)) (omega arith) en.low (omega arith) (omega arith))

  -- and finds no key that no slot has
  pub found-has : (key : ℕ) → key < above → is_found (searched x key) ≡ true → mark (slot_found (searched x key)) ≡ key
  found-has key h f =
      let sized = searched-sized x key a.size in
      let e = probe-entry entries x key 0 entries 0 (omega arith) (ap is_found (sym sized) ∙ f) in
      ap (λ r. mark (slot_found r)) sized ∙ ap mark (sym e.slot_is) ∙ a.true-to e.place e.low (used-if x e.place (omega (arith, e.key-is))) ∙ e.key-is

  -- each used slot has exactly one entry: an entry with its key has its number and stands where its entry stands
  pub one_entry : Keys mark → (i j : ℕ) (n : mark i ≡ 0 → ⊥) → j < entries → key_at x j ≡ mark i → (slot_at x j ≡ i) × (j ≡ (a.listed i n).place)
  one_entry keys i j n h e =
      let low : key_at x j < above = omega (arith, (keys.keys i n).high) in
      let t = a.true-to j h (used-if x j low) in
      (sym (keys.once i (slot_at x j) n (sym (t ∙ e))), one_place j (a.listed i n).place h (a.listed i n).low (e ∙ sym (a.listed i n).key-is) low)
