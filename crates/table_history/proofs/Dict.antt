-- Laws of dictionaries. Rest on their definitions.
-- Assumes nothing.
use Prim.Native.Nat.{ℕ, suc, ◌<◌}
use mathlib.Core.Bool.{cond}
use mathlib.Core.List.{List, [], ◌∷◌}
use mathlib.Core.Path.{◌≡◌, refl, sym, ap, subst, ◌∙◌}
use native.Mathlib.Omega.{arith}
use native.Mathlib.Decide.{ℕ_discrete}
use lib.ListN.{length}
use lib.Dec.{eqb}
use borrow.Author.Tests.{eq-eqb, ne_eqb}
use Rattle.table_slots.specs.Slots.{key_of}
use Rattle.table_history.specs.Dict.{Dict, stored_under, without}

-- no empty message, and no key twice
abbrev pub Sound : Dict → Type 0
Sound [] = Unit {0}
Sound (m ∷ d) = (0 < length m) × (stored_under d (key_of m) ≡ []) × Sound d

pub lookup-hit : (m : List ℕ) (d : Dict) (k : ℕ) → key_of m ≡ k → stored_under (m ∷ d) k ≡ m
unfolding stored_under
lookup-hit m d k e = rw (eq-eqb (key_of m) k e, stored_under)

pub lookup-on : (m : List ℕ) (d : Dict) (k : ℕ) → (key_of m ≡ k → ⊥) → stored_under (m ∷ d) k ≡ stored_under d k
unfolding stored_under
lookup-on m d k n = rw (ne_eqb (key_of m) k n, stored_under)

without-hit : (m : List ℕ) (d : Dict) (k : ℕ) → key_of m ≡ k → without (m ∷ d) k ≡ without d k
unfolding without
without-hit m d k e = rw (eq-eqb (key_of m) k e, without)

without_on : (m : List ℕ) (d : Dict) (k : ℕ) → (key_of m ≡ k → ⊥) → without (m ∷ d) k ≡ m ∷ without d k
unfolding without
without_on m d k n = rw (ne_eqb (key_of m) k n, without)

pub without-absent : (d : Dict) (k : ℕ) → Sound d → stored_under d k ≡ [] → without d k ≡ d
unfolding without
without-absent [] k s e = refl
without-absent (m ∷ d) k s e = go (ℕ_discrete (key_of m) k) (without-absent d k s.2)
  where
    go : Dec (key_of m ≡ k) → (stored_under d k ≡ [] → without d k ≡ d) → without (m ∷ d) k ≡ m ∷ d
    go (yes q) h = absurd (let z = ap length (sym (lookup-hit m d k q) ∙ e) in omega (arith, s.0))
    go (no n) h = without_on m d k n ∙ ap (λ (x : Dict). m ∷ x) (h (sym (lookup-on m d k n) ∙ e))

pub without-present : (d : Dict) (k : ℕ) → Sound d → (stored_under d k ≡ [] → ⊥) → suc (length (without d k)) ≡ length d
unfolding stored_under
without-present [] k s n = absurd (n refl)
without-present (m ∷ d) k s n = go (ℕ_discrete (key_of m) k) (without-present d k s.2)
  where
    go : Dec (key_of m ≡ k) → ((stored_under d k ≡ [] → ⊥) → suc (length (without d k)) ≡ length d) → suc (length (without (m ∷ d) k)) ≡ suc (length d)
    go (yes q) h = ap (λ (x : Dict). suc (length x)) (without-hit m d k q ∙ without-absent d k s.2 (ap (stored_under d) (sym q) ∙ s.1))
    go (no z) h = ap (λ (x : Dict). suc (length x)) (without_on m d k z) ∙ ap suc (h (λ e. n (lookup-on m d k z ∙ e)))

pub lookup-without-same : (d : Dict) (k : ℕ) → stored_under (without d k) k ≡ []
unfolding stored_under without
lookup-without-same [] k = refl
lookup-without-same (m ∷ d) k = go (ℕ_discrete (key_of m) k) (lookup-without-same d k)
  where
    go : Dec (key_of m ≡ k) → stored_under (without d k) k ≡ [] → stored_under (without (m ∷ d) k) k ≡ []
    go (yes q) h = ap (λ (x : Dict). stored_under x k) (without-hit m d k q) ∙ h
    go (no n) h = ap (λ (x : Dict). stored_under x k) (without_on m d k n) ∙ lookup-on m (without d k) k n ∙ h

pub lookup-without-other : (d : Dict) (k j : ℕ) → (j ≡ k → ⊥) → stored_under (without d k) j ≡ stored_under d j
unfolding stored_under without
lookup-without-other [] k j n = refl
lookup-without-other (m ∷ d) k j n = go (ℕ_discrete (key_of m) k) (ℕ_discrete (key_of m) j) (lookup-without-other d k j n)
  where
    go : Dec (key_of m ≡ k) → Dec (key_of m ≡ j) → stored_under (without d k) j ≡ stored_under d j → stored_under (without (m ∷ d) k) j ≡ stored_under (m ∷ d) j
    go (yes q) (yes z) h = absurd (n (sym z ∙ q))
    go (yes q) (no z) h = ap (λ (x : Dict). stored_under x j) (without-hit m d k q) ∙ h ∙ sym (lookup-on m d j z)
    go (no q) (yes z) h = ap (λ (x : Dict). stored_under x j) (without_on m d k q) ∙ lookup-hit m (without d k) j z ∙ sym (lookup-hit m d j z)
    go (no q) (no z) h = ap (λ (x : Dict). stored_under x j) (without_on m d k q) ∙ lookup-on m (without d k) j z ∙ h ∙ sym (lookup-on m d j z)

pub sound-without : (d : Dict) (k : ℕ) → Sound d → Sound (without d k)
unfolding without
sound-without [] k s = tt
sound-without (m ∷ d) k s = go (ℕ_discrete (key_of m) k) (sound-without d k s.2)
  where
    go : Dec (key_of m ≡ k) → Sound (without d k) → Sound (without (m ∷ d) k)
    go (yes q) h = subst Sound (sym (without-hit m d k q)) h
    go (no n) h = subst Sound (sym (without_on m d k n)) (s.0, lookup-without-other d k (key_of m) n ∙ s.1, h)

-- the message stored, in front
pub lookup-stored : (m : List ℕ) (d : Dict) (k : ℕ) → stored_under (m ∷ without d (key_of m)) k ≡ cond (eqb (key_of m) k) m (stored_under d k)
lookup-stored m d k = go (ℕ_discrete (key_of m) k)
  where
    go : Dec (key_of m ≡ k) → stored_under (m ∷ without d (key_of m)) k ≡ cond (eqb (key_of m) k) m (stored_under d k)
    go (yes q) = rw (eq-eqb (key_of m) k q) (lookup-hit m (without d (key_of m)) k q)
    go (no n) = rw (ne_eqb (key_of m) k n) (lookup-on m (without d (key_of m)) k n ∙ lookup-without-other d (key_of m) k (λ e. n (sym e)))

pub lookup-removed : (d : Dict) (k j : ℕ) → stored_under (without d k) j ≡ cond (eqb k j) [] (stored_under d j)
lookup-removed d k j = go (ℕ_discrete k j)
  where
    go : Dec (k ≡ j) → stored_under (without d k) j ≡ cond (eqb k j) [] (stored_under d j)
    go (yes q) = rw (eq-eqb k j q) (ap (λ (x : ℕ). stored_under (without d x) j) q ∙ lookup-without-same d j)
    go (no n) = rw (ne_eqb k j n) (lookup-without-other d k j (λ e. n (sym e)))
