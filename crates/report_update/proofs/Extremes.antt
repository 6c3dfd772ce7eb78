-- The first count in an order, and its first place, with one outcome more: once for the smallest and the greatest.
-- Assumes nothing.
use mathlib.Core.Path.{◌≡◌, refl, sym, ap, ◌∙◌, subst}
use mathlib.Core.Bool.{Bool, true, false, cond, ◌&&◌, ◌||◌}
use mathlib.Core.List.{List, [], ◌∷◌, ◌++◌}
use Prim.Native.Nat.{ℕ, ◌+◌, ◌<◌}
use native.Mathlib.Omega.{arith}
use lib.Dec.{eqb}
use lib.IntN.{ℤ, pos, negsuc}
use lib.ListN.{length}
use lib.Signed.{lt_z}
use borrow.Author.Tests.{eq-eqb, ne_eqb, le-ltb, lt-ltb, ltb-true, ltb-false}
use Rattle.arith.specs.Whole.{eq_z}
use Rattle.arith.proofs.Whole.{eq_z-refl, eq_z-false}
use Rattle.arith.proofs.Tests.{false-ne-true}
use Rattle.grid_counts.specs.declared.Counted.{Counted}
use Rattle.report_update.specs.Numbers.{how_many, counts, extreme, below, above, ahead, place_of}
use Rattle.report_update.proofs.Laws.{yes, no}
use Rattle.report_update.proofs.Behind.{one, many_more, counts-answered, counts-refused, counts-many, plus-zero, among, ahead-out, ahead_in, ahead-front, ahead-behind}

-- ---- the first count in an order

pub record Order (before : ℤ → ℤ → Bool) : Type 0 where
  pub through : (a b c : ℤ) → before a b ≡ true → before b c ≡ true → before a c ≡ true
  pub never : (a b c : ℤ) → before a b ≡ false → before b c ≡ false → before a c ≡ false
  pub self : (a : ℤ) → before a a ≡ false

module _ (before : ℤ → ℤ → Bool) (ord : Order before) where
  abbrev best : List ℤ → ℤ
  best = extreme before

  extreme-more : (w : ℤ) (zs : List ℤ) (z : ℤ) → best ((w ∷ zs) ++ (z ∷ [])) ≡ cond (before z (best (w ∷ zs))) z (best (w ∷ zs))
  extreme-more w [] z = refl
  extreme-more w (x ∷ zs) z =
      ap (λ (m : ℤ). cond (before m w) m w) (extreme-more x zs z) ∙ merge (best (x ∷ zs)) (before z (best (x ∷ zs))) (before (best (x ∷ zs)) w) refl refl
    where
      merge : (m : ℤ) (p q : Bool) → before z m ≡ p → before m w ≡ q → cond (before (cond p z m) w) (cond p z m) w ≡ cond (before z (cond q m w)) z (cond q m w)
      merge m true true e f = yes _ _ (ord.through z m w e f) ∙ sym (yes _ _ e)
      merge m true false e f = refl
      merge m false true e f = yes _ _ f ∙ sym (no _ _ e)
      merge m false false e f = no _ _ f ∙ sym (no _ _ (ord.never z m w e f))

  -- a count before the first is not among them, and the first is
  pub among_none : (w : ℤ) (zs : List ℤ) (z : ℤ) → before z (best (w ∷ zs)) ≡ true → among z (w ∷ zs) ≡ false
  among_none w [] z e = unlike w z e
    where
      unlike : (w z : ℤ) → before z w ≡ true → (eq_z w z || false) ≡ false
      unlike w z e = ap (λ (t : Bool). t || false) (eq_z-false w z (λ p. false-ne-true (sym (ord.self z) ∙ subst (λ (y : ℤ). before z y ≡ true) p e)))
  among_none w (x ∷ zs) z e = merge (best (x ∷ zs)) (before (best (x ∷ zs)) w) refl e (among_none x zs z)
    where
      unlike : before z w ≡ true → eq_z w z ≡ false
      unlike e = eq_z-false w z (λ p. false-ne-true (sym (ord.self z) ∙ subst (λ (y : ℤ). before z y ≡ true) p e))

      lower : (m : ℤ) (p : Bool) → before z m ≡ p → before m w ≡ false → before z w ≡ true → p ≡ true
      lower m true f g e = refl
      lower m false f g e = sym (ord.never z m w f g) ∙ e

      merge : (m : ℤ) (q : Bool) → before m w ≡ q → before z (cond q m w) ≡ true → (before z m ≡ true → among z (x ∷ zs) ≡ false) → (eq_z w z || among z (x ∷ zs)) ≡ false
      merge m true f e h = λ i. unlike (ord.through z m w e f) i || h e i
      merge m false f e h = λ i. unlike e i || h (lower m (before z m) refl f e) i

  among-best : (w : ℤ) (zs : List ℤ) → among (best (w ∷ zs)) (w ∷ zs) ≡ true
  among-best w [] = ap (λ (t : Bool). t || false) (eq_z-refl w)
  among-best w (x ∷ zs) = merge (best (x ∷ zs)) (before (best (x ∷ zs)) w) (among-best x zs)
    where
      or-true : (t : Bool) → (t || true) ≡ true
      or-true true = refl
      or-true false = refl

      merge : (m : ℤ) (q : Bool) → among m (x ∷ zs) ≡ true → (eq_z w (cond q m w) || among (cond q m w) (x ∷ zs)) ≡ true
      merge m true h = ap (λ (t : Bool). eq_z w m || t) h ∙ or-true (eq_z w m)
      merge m false h = ap (λ (t : Bool). t || among w (x ∷ zs)) (eq_z-refl w)

  -- ---- the first place, with one outcome more

  pub best-ahead : (os : List Counted) (w : ℤ) (zs : List ℤ) → counts os ≡ w ∷ zs → ahead (best (counts os)) os < length os
  best-ahead os w zs e = ahead_in (best (counts os)) os (subst (λ (l : List ℤ). among (best l) l ≡ true) (sym e) (among-best w zs))

  pub some : (os : List Counted) (w : ℤ) (zs : List ℤ) → counts os ≡ w ∷ zs → eqb (how_many 0 os) 0 ≡ false
  some os w zs e = ne_eqb (how_many 0 os) 0 (λ z. absurd (omega (arith, counts-many os, ap length e, z)))

  pub none : (os : List Counted) → counts os ≡ [] → eqb (how_many 0 os) 0 ≡ true
  none os e = eq-eqb (how_many 0 os) 0 (omega (arith, counts-many os, ap length e))

  module _ (os : List Counted) (o : Counted) where
    module _ (a : eqb o.refusal 0 ≡ true) where
      last : (z : ℤ) → o.count ≡ z → among z (counts os) ≡ false → ahead z (os ++ one o) ≡ length os
      last z e h =
          ahead-behind z os (one o) (ahead-out z os h)
          ∙ ap (λ (t : Bool). length os + cond t 0 (0 + 1)) ((λ i. a i && eq_z (e i) z) ∙ eq_z-refl z) ∙ plus-zero (length os)

      answered-some : eqb (how_many 0 (os ++ one o)) 0 ≡ false
      answered-some = ne_eqb (how_many 0 (os ++ one o)) 0 (λ z. absurd (omega (arith, many_more 0 os o, yes {A = ℕ} 1 0 a, z)))

      pub best-more : (zs : List ℤ) → counts os ≡ zs → best (counts (os ++ one o)) ≡ cond (eqb (how_many 0 os) 0 || before o.count (best (counts os))) o.count (best (counts os))
      best-more [] e = ap best (counts-answered os o a ∙ ap (λ (l : List ℤ). l ++ (o.count ∷ [])) e) ∙ sym (yes _ _ (ap (λ (t : Bool). t || before o.count (best (counts os))) (none os e)))
      best-more (w ∷ zs) e =
          ap best (counts-answered os o a ∙ ap (λ (l : List ℤ). l ++ (o.count ∷ [])) e) ∙ extreme-more w zs o.count
          ∙ (λ i. cond (sym (some os w zs e) i || before o.count (best (sym e i))) o.count (best (sym e i)))

      pub place-more : (zs : List ℤ) → counts os ≡ zs
          → place_of (best (counts (os ++ one o))) (os ++ one o) ≡ cond (eqb (how_many 0 os) 0 || before o.count (best (counts os))) (length os + 1) (place_of (best (counts os)) os)
      place-more zs e =
          no _ _ answered-some ∙ ap (λ (z : ℤ). ahead z (os ++ one o) + 1) (best-more zs e) ∙ go zs e (before o.count (best (counts os))) refl
        where
          go : (zs : List ℤ) → counts os ≡ zs → (q : Bool) → before o.count (best (counts os)) ≡ q
              → ahead (cond (eqb (how_many 0 os) 0 || before o.count (best (counts os))) o.count (best (counts os))) (os ++ one o) + 1
              ≡ cond (eqb (how_many 0 os) 0 || before o.count (best (counts os))) (length os + 1) (place_of (best (counts os)) os)
          go [] e q f =
              let t : (eqb (how_many 0 os) 0 || before o.count (best (counts os))) ≡ true = ap (λ (t : Bool). t || before o.count (best (counts os))) (none os e) in
              ap (λ (z : ℤ). ahead z (os ++ one o) + 1) (yes _ _ t) ∙ ap (λ (k : ℕ). k + 1) (last o.count refl (ap (among o.count) e)) ∙ sym (yes _ _ t)
          go (w ∷ zs) e true f =
              let t : (eqb (how_many 0 os) 0 || before o.count (best (counts os))) ≡ true = λ i. some os w zs e i || f i in
              ap (λ (z : ℤ). ahead z (os ++ one o) + 1) (yes _ _ t)
              ∙ ap (λ (k : ℕ). k + 1) (last o.count refl (ap (among o.count) e ∙ among_none w zs o.count (subst (λ (l : List ℤ). before o.count (best l) ≡ true) e f))) ∙ sym (yes _ _ t)
          go (w ∷ zs) e false f =
              let t : (eqb (how_many 0 os) 0 || before o.count (best (counts os))) ≡ false = λ i. some os w zs e i || f i in
              ap (λ (z : ℤ). ahead z (os ++ one o) + 1) (no _ _ t)
              ∙ ap (λ (k : ℕ). k + 1) (ahead-front (best (counts os)) os (one o) (best-ahead os w zs e)) ∙ sym (no _ _ (some os w zs e)) ∙ sym (no _ _ t)

    pub place_kept : (zs : List ℤ) → counts os ≡ zs → eqb o.refusal 0 ≡ false → place_of (best (counts (os ++ one o))) (os ++ one o) ≡ place_of (best (counts os)) os
    place_kept zs e a =
        (λ i. place_of (best (counts-refused os o a i)) (os ++ one o)) ∙ ap (λ (k : ℕ). cond (eqb k 0) 0 (ahead (best (counts os)) (os ++ one o) + 1)) (many-kept 0 a) ∙ go zs e
      where
        many-kept : (n : ℕ) → eqb o.refusal n ≡ false → how_many n (os ++ one o) ≡ how_many n os
        many-kept n a = omega (arith, many_more n os o, no {A = ℕ} 1 0 a)

        go : (zs : List ℤ) → counts os ≡ zs → cond (eqb (how_many 0 os) 0) 0 (ahead (best (counts os)) (os ++ one o) + 1) ≡ place_of (best (counts os)) os
        go [] e = yes _ _ (none os e) ∙ sym (yes _ _ (none os e))
        go (w ∷ zs) e = ap (λ (k : ℕ). cond (eqb (how_many 0 os) 0) 0 (k + 1)) (ahead-front (best (counts os)) os (one o) (best-ahead os w zs e))

-- ---- the two orders

less-self : (a : ℤ) → lt_z a a ≡ false
less-self (pos n) = le-ltb n n (omega arith)
less-self (negsuc n) = le-ltb n n (omega arith)

less-through : (a b c : ℤ) → lt_z a b ≡ true → lt_z b c ≡ true → lt_z a c ≡ true
less-through (pos a) (pos b) (pos c) p q = lt-ltb a c (omega (arith, ltb-true a b p, ltb-true b c q))
less-through (pos a) (pos b) (negsuc c) p q = absurd (false-ne-true q)
less-through (pos a) (negsuc b) c p q = absurd (false-ne-true p)
less-through (negsuc a) (pos b) (pos c) p q = refl
less-through (negsuc a) (pos b) (negsuc c) p q = absurd (false-ne-true q)
less-through (negsuc a) (negsuc b) (pos c) p q = refl
less-through (negsuc a) (negsuc b) (negsuc c) p q = lt-ltb c a (omega (arith, ltb-true b a p, ltb-true c b q))

less-never : (a b c : ℤ) → lt_z a b ≡ false → lt_z b c ≡ false → lt_z a c ≡ false
less-never (pos a) (pos b) (pos c) p q = le-ltb a c (omega (arith, ltb-false a b p, ltb-false b c q))
less-never (pos a) b (negsuc c) p q = refl
less-never (pos a) (negsuc b) (pos c) p q = absurd (false-ne-true (sym q))
less-never (negsuc a) (pos b) (pos c) p q = absurd (false-ne-true (sym p))
less-never (negsuc a) (pos b) (negsuc c) p q = absurd (false-ne-true (sym p))
less-never (negsuc a) (negsuc b) (pos c) p q = absurd (false-ne-true (sym q))
less-never (negsuc a) (negsuc b) (negsuc c) p q = le-ltb c a (omega (arith, ltb-false b a p, ltb-false c b q))

pub below-order : Order below
below-order = record { through = less-through; never = less-never; self = less-self }

pub above-order : Order above
above-order = record { through = λ a b c p q. less-through c b a q p; never = λ a b c p q. less-never c b a q p; self = less-self }
