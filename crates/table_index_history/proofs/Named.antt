-- The search counts the entries that it names and depends on no other. Rests on the rule's rounds.
-- Assumes nothing.
use Prim.Native.Nat.{ℕ, zero, suc, ◌*◌, ◌<◌}
use native.Mathlib.Omega.{arith}
use native.Mathlib.Decide.{dec_lt, ℕ_discrete}
use mathlib.Core.Path.{◌≡◌, refl, sym, ap, ◌∙◌}
use mathlib.Core.Bool.{Bool, true, false, cond}
use mathlib.Core.List.{List, [], ◌∷◌}
use lib.Dec.{eqb, ltb}
use lib.ListN.{length, get_or, drop}
use lib.Seq.{get_or-take, get_or-drop}
use borrow.Author.Tests.{eq-eqb}
use Rattle.table_index_search.specs.Index.{entries, entry_size, index_size, byte_at, owner_at, number_at, above, slot_at, key_at}
use Rattle.table_index_search.specs.Search.{middle, named_among, named, missed_after, met_after, last_named, searched, entry_at, entries_at}
use Rattle.table_index_search.specs.Private.{binary_search}
use Rattle.table_index_search.proofs.Rounds.{named-met, named-behind, named-before, probe-none, probe-met, probe-behind, probe-before, searched-sized, searched-other}

-- ---- entries that are equal have equal keys and slots

module _ (x y : List ℕ) (j : ℕ) (same : entry_at x j ≡ entry_at y j) where
  byte-same : (b : ℕ) → b < entry_size → byte_at x j b ≡ byte_at y j b
  byte-same b h =
      sym (get_or-take entry_size (drop (j * entry_size) x) b 0 h ∙ get_or-drop (j * entry_size) x b 0)
      ∙ ap (λ (l : List ℕ). get_or l b 0) same
      ∙ get_or-take entry_size (drop (j * entry_size) y) b 0 h
      ∙ get_or-drop (j * entry_size) y b 0

  slot_same : slot_at x j ≡ slot_at y j
  slot_same = byte-same 3 (omega arith)

  key-same : key_at x j ≡ key_at y j
  unfolding key_at
  key-same =
      let n : number_at x j ≡ number_at y j = omega (arith, byte-same 0 (omega arith), byte-same 1 (omega arith), byte-same 2 (omega arith)) in
      ap (λ (o : ℕ). cond (eqb o 0) above (number_at x j)) (byte-same 0 (omega arith)) ∙ ap (cond (eqb (owner_at y j) 0) above) n

-- ---- the search of two indexes that are equal in the entries named

pub search-local : (rounds : ℕ) (x y : List ℕ) (key lo end n : ℕ)
    → entries_at x (named_among rounds x key lo end) ≡ entries_at y (named_among rounds x key lo end)
    → binary_search rounds x key lo end n ≡ binary_search rounds y key lo end n
unfolding binary_search entries_at
search-local zero x y key lo end n s = refl
search-local (suc t) x y key lo end n s = by (dec_lt lo end) (λ lo' end'. search-local t x y key lo' end' (suc n))
  where
    m : ℕ
    m = middle lo end

    k : ℕ
    k = key_at x m

    -- the first entry named is the same, and so are the others
    first-same : (js : List ℕ) → named_among (suc t) x key lo end ≡ m ∷ js → (entry_at x m ≡ entry_at y m) × (entries_at x js ≡ entries_at y js)
    first-same js e =
        let q : entry_at x m ∷ entries_at x js ≡ entry_at y m ∷ entries_at y js = ap (entries_at x) (sym e) ∙ s ∙ ap (entries_at y) e in
        (cc, cc)

    -- what holds after this round
    Rest : Type 0
    Rest = (lo' end' : ℕ) → entries_at x (named_among t x key lo' end') ≡ entries_at y (named_among t x key lo' end') → binary_search t x key lo' end' (suc n) ≡ binary_search t y key lo' end' (suc n)

    side : Rest → lo < end → (a b : Bool) → eqb k key ≡ a → ltb k key ≡ b → binary_search (suc t) x key lo end n ≡ binary_search (suc t) y key lo end n
    side rest h true b p q =
        let f = (first-same [] (named-met x key t lo end h p)).0 in
        probe-met x key t lo end n h p
        ∙ ap (λ (i : ℕ). met_after i (suc n)) (slot_same x y m f)
        ∙ sym (probe-met y key t lo end n h (ap (λ (i : ℕ). eqb i key) (sym (key-same x y m f)) ∙ p))
    side rest h false true p q =
        let f = first-same (named_among t x key (suc m) end) (named-behind x key t lo end h p q) in
        let e = sym (key-same x y m f.0) in
        probe-behind x key t lo end n h p q
        ∙ rest (suc m) end f.1
        ∙ sym (probe-behind y key t lo end n h (ap (λ (i : ℕ). eqb i key) e ∙ p) (ap (λ (i : ℕ). ltb i key) e ∙ q))
    side rest h false false p q =
        let f = first-same (named_among t x key lo m) (named-before x key t lo end h p q) in
        let e = sym (key-same x y m f.0) in
        probe-before x key t lo end n h p q
        ∙ rest lo m f.1
        ∙ sym (probe-before y key t lo end n h (ap (λ (i : ℕ). eqb i key) e ∙ p) (ap (λ (i : ℕ). ltb i key) e ∙ q))

    by : Dec (lo < end) → Rest → binary_search (suc t) x key lo end n ≡ binary_search (suc t) y key lo end n
    by (yes h) rest = side rest h (eqb k key) (ltb k key) refl refl
    by (no h) rest = probe-none x key (suc t) lo end n (omega arith) ∙ sym (probe-none y key (suc t) lo end n (omega arith))

-- ---- the whole search

pub searched-local : (x y : List ℕ) (key : ℕ) → length x ≡ length y → entries_at x (named x key) ≡ entries_at y (named x key) → searched x key ≡ searched y key
unfolding named
searched-local x y key e s = by (ℕ_discrete (length x) index_size)
  where
    by : Dec (length x ≡ index_size) → searched x key ≡ searched y key
    by (yes z) =
        let q : cond (eqb (length x) index_size) (named_among entries x key 0 entries) [] ≡ named_among entries x key 0 entries = rw (eq-eqb (length x) index_size z) in
        searched-sized x key z
        ∙ search-local entries x y key 0 entries 0 (ap (entries_at x) (sym q) ∙ s ∙ ap (entries_at y) q)
        ∙ sym (searched-sized y key (sym e ∙ z))
    by (no z) = searched-other x key z ∙ sym (searched-other y key (λ w. z (e ∙ w)))

last-counts : (x : List ℕ) (key : ℕ) (js : List ℕ) (n : ℕ) → (last_named x key js n).probes ≡ n
unfolding last_named
last-counts x key [] n = refl
last-counts x key (j ∷ []) n = by (eqb (key_at x j) key)
  where
    by : (b : Bool) → (cond b (met_after (slot_at x j) n) (missed_after n)).probes ≡ n
    by true = refl
    by false = refl
last-counts x key (j ∷ k ∷ js) n = last-counts x key (k ∷ js) n

pub searched-count : (x : List ℕ) (key : ℕ) → (searched x key).probes ≡ length (named x key)
unfolding searched
searched-count x key = last-counts x key (named x key) (length (named x key))
