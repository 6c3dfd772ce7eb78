-- Lists stored one behind another, whatever their elements, and the buffers of a record at the end.
-- Assumes nothing.
use mathlib.Core.Path.{◌≡◌, refl, ap, subst, ◌∙◌}
use mathlib.Core.Bool.{Bool, true, false}
use mathlib.Core.List.{List, [], ◌++◌}
use Prim.Native.Nat.{ℕ, ◌+◌, ◌-◌, ◌≤◌, ◌<◌}
use native.Mathlib.Omega.{arith}
use borrow.Author.Tests.{le-leb, lt-leb}
use lib.IntN.{ℤ, pos}
use lib.ListN.{length, drop, replicate, length-append}
use lib.Seq.{paste, length-paste, paste-zero, take-length}
use Rattle.arith.specs.Inner.{padded}
use Rattle.arith.proofs.Store.{paste-paste}
use Rattle.arith.proofs.Lists.{drop-replicate}
use Rattle.std.specs.Prelude.{Option, Some}
use Rattle.record_rows.specs.declared.Row.{Row}
use Rattle.record_rows.specs.Inner.{present_padded, buffers, appended, place_behind}
use Rattle.record_rows.specs.Private.{Appended}

-- ---- the two answers of a row stored in another

module _ {A : Type 0} {d e s : List A} {at k : ℕ} where
  -- there is room: from the answers, and to them
  pub appends : at + length s ≤ length d → k ≡ place_behind d at s → e ≡ appended d at s → Appended d at s k e
  unfolding appended place_behind
  appends h p q = record { room = h; place = rw (le-leb (at + length s) (length d) h) at p; stored = rw (le-leb (at + length s) (length d) h) at q }

  pub appends-as : Appended d at s k e → (k ≡ place_behind d at s) × (e ≡ appended d at s)
  unfolding appended place_behind
  appends-as p = rw (le-leb (at + length s) (length d) p.room) (p.place, p.stored)

-- there is none
pub no_room : {A : Type 0} (d s : List A) (at : ℕ) → length d < at + length s → (at ≡ place_behind d at s) × (d ≡ appended d at s)
unfolding appended place_behind
no_room d s at h = rw (lt-leb (at + length s) (length d) h) (refl, refl)

-- into the first places
pub first-places : {A : Type 0} (d s : List A) → length s ≤ length d → appended d 0 s ≡ s ++ drop (length s) d
unfolding appended
first-places {A} d s h =
    let e : 0 + length s ≡ length s = omega arith in
    rw (le-leb (0 + length s) (length d) (omega arith))
    (ap (λ (l : List A). l ++ drop (0 + length s) d) (take-length s) ∙ ap (λ (n : ℕ). s ++ drop n d) e)

-- ---- one row behind another

pub same_size : {A : Type 0} {d e s : List A} {at k : ℕ} → Appended d at s k e → length e ≡ length d
same_size {A} {d} {e} {s} {at} p = ap length p.stored ∙ length-paste d at s (length s) p.room (omega arith)

-- what room is left behind s
pub left : {A : Type 0} {d e : List A} {at k : ℕ} (s : List A) (n m l : ℕ) → n + m ≤ l → Appended d at s k e → length s ≤ n → at + l ≤ length d → k + m ≤ length e
left s n m l q p h r = omega (arith, p.place, same_size p)

-- t behind s
pub behind : {A : Type 0} {d e f : List A} {at k r : ℕ} (s t : List A) → Appended d at s k e → Appended e k t r f → Appended d at (s ++ t) r f
behind {A} {d} {e} {f} {at} {k} {r} s t p q =
    let n = length-append s t in
    let h : at + length s + length t ≤ length d = omega (arith, same_size p, p.place, q.room) in
    record {
      room = omega arith;
      place = omega (arith, p.place, q.place);
      stored = q.stored ∙ rw (p.stored, p.place) (paste-paste d at s t h);
    }

-- the same row by another name
pub same_row : {A : Type 0} {d e s t : List A} {at k : ℕ} → s ≡ t → Appended d at s k e → Appended d at t k e
same_row {A} {d} {e} {s} {t} {at} {k} p a = subst (λ (l : List A). Appended d at l k e) p a

pub nothing : {A : Type 0} (d : List A) (at : ℕ) → at ≤ length d → Appended d at [] at d
nothing d at h = record { room = omega arith; place = omega arith; stored = paste-zero d at [] }

-- ---- the answer

-- a list from place 0 of n equal elements on
pub paste-filled : {A : Type 0} (n : ℕ) (x : A) (s : List A) → paste (replicate n x) 0 s (length s) ≡ s ++ replicate (n - length s) x
paste-filled {A} n x s =
    let e : n - (0 + length s) ≡ n - length s = omega arith in
    ap (λ (l : List A). l ++ drop (0 + length s) (replicate n x)) (take-length s)
    ∙ ap (λ (l : List A). s ++ l) (drop-replicate n (0 + length s) x ∙ ap (λ (m : ℕ). replicate m x) e)

pub none : (g : Bool) (z : List ℤ) (b : List ℕ) {n : Option Row} → n ≡ buffers false [] [] → g ≡ false → n ≡ buffers g z b
unfolding buffers
none g z b p q = p ∙ rw q

-- values from place 0 of 96 zeros on, and presence bytes from place 0 of 96 ones on
pub all-good : (z : List ℤ) (b : List ℕ) {k l : ℕ} {e : List ℤ} {f : List ℕ} → Appended (padded []) 0 z k e → Appended (present_padded []) 0 b l f
    → ◌≡◌ {A = Option Row} (Some (record { count = k; values = e; present = f })) (buffers true z b)
unfolding buffers padded present_padded
all-good z b {k} {l} {e} {f} p q =
    let n : k ≡ length z = omega (arith, p.place) in
    λ i. Some (record {
      count = n i;
      values = (p.stored ∙ paste-filled 96 (pos 0) z) i;
      present = (q.stored ∙ paste-filled 96 1 b) i;
    })
