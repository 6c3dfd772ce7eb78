-- The halving rule: its rounds, and how many entries it looks at. Rests on its definition.
-- Assumes nothing.
use Prim.Native.Nat.{ℕ, zero, suc, ◌+◌, ◌-◌, ◌*◌, ◌^◌, ◌≤◌, ◌<◌}
use native.Mathlib.Omega.{arith}
use native.Mathlib.Decide.{dec_lt, ℕ_discrete}
use native.Mathlib.Numerals.{add-one}
use native.Mathlib.Nat.{pow-suc}
use mathlib.Core.Path.{◌≡◌, refl, sym, ap, ◌∙◌}
use mathlib.Core.Bool.{Bool, true, false}
use mathlib.Core.List.{List, [], ◌∷◌}
use lib.Dec.{eqb, ltb}
use lib.ListN.{length}
use borrow.Author.Tests.{lt-ltb, le-ltb, eq-eqb, ne_eqb, ltb-true, ltb-false, eqb-true, eqb-false}
use Rattle.table_index_search.specs.Index.{entries, index_size, slot_at, key_at}
use Rattle.table_index_search.specs.Search.{middle, named_among, named, missed_after, met_after, last_named, searched}
use Rattle.table_index_search.specs.Private.{binary_search}
use Rattle.table_index_search.specs.declared.Probe.{Probe}

module _ (x : List ℕ) (key : ℕ) (rounds lo end n : ℕ) where
  pub probe-none : end ≤ lo → binary_search rounds x key lo end n ≡ missed_after n
  unfolding binary_search
  probe-none h = by rounds
    where
      by : (t : ℕ) → binary_search t x key lo end n ≡ missed_after n
      by zero = refl
      by (suc t) = rw (le-ltb lo end h, binary_search)

  pub probe-met : lo < end → eqb (key_at x (middle lo end)) key ≡ true → binary_search (suc rounds) x key lo end n ≡ met_after (slot_at x (middle lo end)) (suc n)
  unfolding binary_search
  probe-met h e = rw (lt-ltb lo end h, e, binary_search)

  pub probe-behind : lo < end → eqb (key_at x (middle lo end)) key ≡ false → ltb (key_at x (middle lo end)) key ≡ true
      → binary_search (suc rounds) x key lo end n ≡ binary_search rounds x key (suc (middle lo end)) end (suc n)
  unfolding binary_search
  probe-behind h e l = rw (lt-ltb lo end h, e, l, binary_search)

  pub probe-before : lo < end → eqb (key_at x (middle lo end)) key ≡ false → ltb (key_at x (middle lo end)) key ≡ false
      → binary_search (suc rounds) x key lo end n ≡ binary_search rounds x key lo (middle lo end) (suc n)
  unfolding binary_search
  probe-before h e l = rw (lt-ltb lo end h, e, l, binary_search)

-- the same as the loop has them: n of 32 looked at, and no more left than rounds
module _ (x : List ℕ) (key lo end n : ℕ) (some : lo < end) (room : n + (end - lo) ≤ entries) where
  one-round : entries - n ≡ suc (entries - (n + 1))
  one-round = omega arith

  pub round-met : eqb (key_at x (middle lo end)) key ≡ true → binary_search (entries - n) x key lo end n ≡ met_after (slot_at x (middle lo end)) (n + 1)
  round-met e = rw (one-round, add-one n) (probe-met x key (entries - suc n) lo end n some e)

  pub round-behind : eqb (key_at x (middle lo end)) key ≡ false → ltb (key_at x (middle lo end)) key ≡ true
      → binary_search (entries - n) x key lo end n ≡ binary_search (entries - (n + 1)) x key (middle lo end + 1) end (n + 1)
  round-behind e l = rw (one-round, add-one n, add-one (middle lo end)) (probe-behind x key (entries - suc n) lo end n some e l)

  pub round-before : eqb (key_at x (middle lo end)) key ≡ false → ltb (key_at x (middle lo end)) key ≡ false
      → binary_search (entries - n) x key lo end n ≡ binary_search (entries - (n + 1)) x key lo (middle lo end) (n + 1)
  round-before e l = rw (one-round, add-one n) (probe-before x key (entries - suc n) lo end n some e l)

-- ---- what holds of a round's four ends holds of the round

pub round : (P : Probe → Type 0) (x : List ℕ) (key rounds lo end n : ℕ)
    → (end ≤ lo → P (missed_after n))
    → (lo < end → key_at x (middle lo end) ≡ key → P (met_after (slot_at x (middle lo end)) (suc n)))
    → (lo < end → key_at x (middle lo end) < key → P (binary_search rounds x key (suc (middle lo end)) end (suc n)))
    → (lo < end → key < key_at x (middle lo end) → P (binary_search rounds x key lo (middle lo end) (suc n)))
    → P (binary_search (suc rounds) x key lo end n)
round P x key rounds lo end n none meets behind before = by (dec_lt lo end)
  where
    k : ℕ
    k = key_at x (middle lo end)

    side : lo < end → (a b : Bool) → eqb k key ≡ a → ltb k key ≡ b → P (binary_search (suc rounds) x key lo end n)
    side h true b p q = rw (probe-met x key rounds lo end n h p) (meets h (eqb-true k key p))
    side h false true p q = rw (probe-behind x key rounds lo end n h p q) (behind h (ltb-true k key q))
    side h false false p q =
        let l : key < k = omega (arith, ltb-false k key q, eqb-false k key p) in
        rw (probe-before x key rounds lo end n h p q) (before h l)

    by : Dec (lo < end) → P (binary_search (suc rounds) x key lo end n)
    by (yes h) = side h (eqb k key) (ltb k key) refl refl
    by (no h) = rw (probe-none x key (suc rounds) lo end n (omega arith)) (none (omega arith))

-- ---- rounds: as many as entries are enough

pub enough : (rounds : ℕ) (x : List ℕ) (key lo end n : ℕ) → end - lo ≤ rounds → binary_search (suc rounds) x key lo end n ≡ binary_search rounds x key lo end n
enough zero x key lo end n h = probe-none x key 1 lo end n (omega arith) ∙ sym (probe-none x key 0 lo end n (omega arith))
enough (suc t) x key lo end n h =
    let m = middle lo end in
    round (λ r. r ≡ binary_search (suc t) x key lo end n) x key (suc t) lo end n
    (λ l. sym (probe-none x key (suc t) lo end n l))
    (λ l e. sym (probe-met x key t lo end n l (eq-eqb (key_at x m) key e)))
    (λ l e. enough t x key (suc m) end (suc n) (omega arith) ∙ sym (probe-behind x key t lo end n l (ne_eqb (key_at x m) key (λ z. omega arith)) (lt-ltb (key_at x m) key e)))
    (λ l e. enough t x key lo m (suc n) (omega arith) ∙ sym (probe-before x key t lo end n l (ne_eqb (key_at x m) key (λ z. omega arith)) (le-ltb (key_at x m) key (omega arith))))

-- ---- how many entries are looked at

-- with fewer than 2 ^ k entries left, at most k are looked at
pub looks : (k rounds : ℕ) (x : List ℕ) (key lo end n : ℕ) → end - lo < 2 ^ k → (binary_search rounds x key lo end n).probes ≤ n + k
unfolding binary_search
looks k zero x key lo end n h = omega arith
looks zero (suc t) x key lo end n h = rw (probe-none x key (suc t) lo end n (omega arith)) (omega arith)
looks (suc k) (suc t) x key lo end n h =
    let double : end - lo < 2 * 2 ^ k = omega (arith, pow-suc 2 k) in
    round (λ r. r.probes ≤ n + suc k) x key t lo end n
    (λ l. omega arith)
    (λ l e. omega arith)
    (λ l e. omega (arith, looks k t x key (suc (middle lo end)) end (suc n) (omega arith)))
    (λ l e. omega (arith, looks k t x key lo (middle lo end) (suc n) (omega arith)))

-- ---- the whole search

-- ---- the places named, by cases

module _ (x : List ℕ) (key rounds lo end : ℕ) where
  pub named_none : end ≤ lo → named_among (suc rounds) x key lo end ≡ []
  unfolding named_among
  named_none h = rw (le-ltb lo end h, named_among)

  pub named-met : lo < end → eqb (key_at x (middle lo end)) key ≡ true → named_among (suc rounds) x key lo end ≡ middle lo end ∷ []
  unfolding named_among
  named-met h e = rw (lt-ltb lo end h, e, named_among)

  pub named-behind : lo < end → eqb (key_at x (middle lo end)) key ≡ false → ltb (key_at x (middle lo end)) key ≡ true
      → named_among (suc rounds) x key lo end ≡ middle lo end ∷ named_among rounds x key (suc (middle lo end)) end
  unfolding named_among
  named-behind h e l = rw (lt-ltb lo end h, e, l, named_among)

  pub named-before : lo < end → eqb (key_at x (middle lo end)) key ≡ false → ltb (key_at x (middle lo end)) key ≡ false
      → named_among (suc rounds) x key lo end ≡ middle lo end ∷ named_among rounds x key lo (middle lo end)
  unfolding named_among
  named-before h e l = rw (lt-ltb lo end h, e, l, named_among)

-- a place without the key does not decide
passed_over : (x : List ℕ) (key j : ℕ) (js : List ℕ) (n : ℕ) → eqb (key_at x j) key ≡ false → last_named x key (j ∷ js) n ≡ last_named x key js n
unfolding last_named
passed_over x key j [] n e = rw e
passed_over x key j (k ∷ js) n e = refl

-- the last place named decides as the loop does, and the places named are as many as it looks at
pub last-decides : (rounds : ℕ) (x : List ℕ) (key lo end n : ℕ)
    → last_named x key (named_among rounds x key lo end) (n + length (named_among rounds x key lo end)) ≡ binary_search rounds x key lo end n
unfolding binary_search named_among last_named
last-decides zero x key lo end n = ap missed_after (omega arith)
last-decides (suc t) x key lo end n = by (dec_lt lo end) (λ lo' end'. last-decides t x key lo' end' (suc n))
  where
    m : ℕ
    m = middle lo end

    Rest : Type 0
    Rest = (lo' end' : ℕ) → last_named x key (named_among t x key lo' end') (suc n + length (named_among t x key lo' end')) ≡ binary_search t x key lo' end' (suc n)

    -- the places js behind m, as the rest decides
    on : (js : List ℕ) → eqb (key_at x m) key ≡ false → last_named x key (m ∷ js) (n + length (m ∷ js)) ≡ last_named x key js (suc n + length js)
    on js e = passed_over x key m js (n + length (m ∷ js)) e ∙ ap (last_named x key js) (omega arith)

    side : Rest → lo < end → (a b : Bool) → eqb (key_at x m) key ≡ a → ltb (key_at x m) key ≡ b
        → last_named x key (named_among (suc t) x key lo end) (n + length (named_among (suc t) x key lo end)) ≡ binary_search (suc t) x key lo end n
    side rest h true b p q =
        ap (λ (js : List ℕ). last_named x key js (n + length js)) (named-met x key t lo end h p)
        ∙ rw p (ap (met_after (slot_at x m)) (omega arith))
        ∙ sym (probe-met x key t lo end n h p)
    side rest h false true p q =
        ap (λ (js : List ℕ). last_named x key js (n + length js)) (named-behind x key t lo end h p q)
        ∙ on (named_among t x key (suc m) end) p
        ∙ rest (suc m) end
        ∙ sym (probe-behind x key t lo end n h p q)
    side rest h false false p q =
        ap (λ (js : List ℕ). last_named x key js (n + length js)) (named-before x key t lo end h p q)
        ∙ on (named_among t x key lo m) p
        ∙ rest lo m
        ∙ sym (probe-before x key t lo end n h p q)

    by : Dec (lo < end) → Rest → last_named x key (named_among (suc t) x key lo end) (n + length (named_among (suc t) x key lo end)) ≡ binary_search (suc t) x key lo end n
    by (yes h) rest = side rest h (eqb (key_at x m) key) (ltb (key_at x m) key) refl refl
    by (no h) rest =
        ap (λ (js : List ℕ). last_named x key js (n + length js)) (named_none x key t lo end (omega arith))
        ∙ ap missed_after (omega arith)
        ∙ sym (probe-none x key (suc t) lo end n (omega arith))

pub searched-sized : (x : List ℕ) (key : ℕ) → length x ≡ index_size → searched x key ≡ binary_search entries x key 0 entries 0
unfolding searched named
searched-sized x key e =
    let js = named_among entries x key 0 entries in
    let z : length js ≡ 0 + length js = omega arith in
    rw (eq-eqb (length x) index_size e) (ap (last_named x key js) z ∙ last-decides entries x key 0 entries 0)

pub searched-other : (x : List ℕ) (key : ℕ) → (length x ≡ index_size → ⊥) → searched x key ≡ missed_after 0
unfolding searched named last_named
searched-other x key n = rw (ne_eqb (length x) index_size n)

-- "their number, never above 6"
pub search-looks : (x : List ℕ) (key : ℕ) → (searched x key).probes ≤ 6
search-looks x key = by (ℕ_discrete (length x) index_size)
  where
    by : Dec (length x ≡ index_size) → (searched x key).probes ≤ 6
    by (yes e) = rw (searched-sized x key e) (looks 6 entries x key 0 entries 0 (omega arith))
    by (no n) = rw (searched-other x key n) (omega arith)
