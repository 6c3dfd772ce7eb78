-- From the tests of the formula to its answer: what none of them holding says, and the answer of each way out.
-- Assumes nothing.
use mathlib.Core.Path.{◌≡◌, sym, ap, ◌∙◌, subst}
use mathlib.Core.Bool.{Bool, false, ◌||◌}
use Prim.Native.Nat.{ℕ, ◌≤◌}
use native.Mathlib.Nat.{le_trans}
use borrow.Author.Tests.{ltb-false, le-ltb}
use lib.Dec.{T, leb, ltb, leb→le}
use lib.IntN.{ℤ, nat_abs}
use mir.Syntax.{w64}
use mir.Val.{SFits, to_z, of_z}
use mir.ValLaws.{to_z-of_z}
use Rattle.arith.proofs.First.{or-false}
use Rattle.datum_formula.specs.declared.Values.{Values}
use Rattle.datum_formula.specs.declared.Position.{Position}
use Rattle.datum_formula.specs.Formula.{About, Near, Answered, zeros, beyond_any}

-- three numbers of which none is beyond a limit
pub none-beyond : (limit : ℕ) (a b c : ℤ) → beyond_any limit a b c ≡ false → (nat_abs a ≤ limit) × (nat_abs b ≤ limit) × (nat_abs c ≤ limit)
none-beyond limit a b c h =
    let p = or-false (ltb limit (nat_abs a) || ltb limit (nat_abs b)) (ltb limit (nat_abs c)) h in
    let q = or-false (ltb limit (nat_abs a)) (ltb limit (nat_abs b)) p.0 in
    (ltb-false limit (nat_abs a) q.0, ltb-false limit (nat_abs b) q.1, ltb-false limit (nat_abs c) p.1)

pub all-within : (limit : ℕ) (a b c : ℤ) → nat_abs a ≤ limit → nat_abs b ≤ limit → nat_abs c ≤ limit → beyond_any limit a b c ≡ false
all-within limit a b c p q r = rw (le-ltb limit (nat_abs a) p, le-ltb limit (nat_abs b) q, le-ltb limit (nat_abs c) r)

-- a test of three numbers that were passed by their bits
pub read-back : {r : Bool} (limit : ℕ) (a b c : ℤ) → SFits w64 a → SFits w64 b → SFits w64 c
    → r ≡ beyond_any limit (to_z w64 (of_z w64 a)) (to_z w64 (of_z w64 b)) (to_z w64 (of_z w64 c)) → r ≡ beyond_any limit a b c
read-back limit a b c p q r e = e ∙ λ i. beyond_any limit (to_z-of_z w64 a p i) (to_z-of_z w64 b q i) (to_z-of_z w64 c r i)

-- a refusal r, which is the number n that is called for
pub refuses : {e r n : ℕ} {v : Values} {x y z : ℤ} {t : Position} → t ≡ zeros r → (r ≡ 0 → ⊥) → r ≡ n → Answered e n v x y z t
refuses h f q =
    record { refusal = ap (λ (t : Position). t.refusal) h ∙ q; zero = λ _. h ∙ ap zeros q; near = λ g. absurd (f (q ∙ g)) }

pub answers : {e n : ℕ} {v : Values} {x y z : ℤ} {t : Position} → (t.refusal ≡ 0) × Near e v x y z t → 0 ≡ n → Answered e n v x y z t
answers h q = record { refusal = h.0 ∙ q; zero = λ f. absurd (f (sym q)); near = λ _. h.1 }

-- the number by another name
pub numbered : {e n m : ℕ} {v : Values} {x y z : ℤ} {t : Position} → Answered e n v x y z t → n ≡ m → Answered e m v x y z t
numbered {e} {v = v} {x} {y} {z} {t} p q = subst (λ (k : ℕ). Answered e k v x y z t) q p

-- ---- a wider bound

wider : {c : ℕ} {x y : ℤ} {e : ℕ} (f : ℕ) → T (leb e f) → About c x y e → About c x y f
wider {e = e} f t p = record { within = le_trans p.within (leb→le e f t) }

pub answered-wider : {e n : ℕ} {v : Values} {x y z : ℤ} {t : Position} (f : ℕ) → T (leb e f) → Answered e n v x y z t → Answered f n v x y z t
answered-wider f u p =
    record {
      refusal = p.refusal;
      zero = p.zero;
      near = λ q. let h = p.near q in record { at_x = wider f u h.at_x; at_y = wider f u h.at_y; at_z = wider f u h.at_z };
    }
