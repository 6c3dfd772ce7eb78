-- The place is that of the first bad point, and a file is accepted exactly if all of it is right.
-- Assumes nothing.
use mathlib.Core.Path.{◌≡◌, refl, sym, ap, ◌∙◌, subst}
use mathlib.Core.Bool.{Bool, true, false, not, cond, ◌&&◌, true≢false}
use mathlib.Core.List.{List, [], ◌∷◌}
use Prim.Native.Nat.{ℕ, suc, ◌≤◌, ◌<◌}
use native.Mathlib.Decide.{dec_lt}
use native.Mathlib.Omega.{arith}
use borrow.Author.Tests.{eqb-true, eqb-false, ne_eqb, lt-ltb, le-ltb, not-true, not-false}
use lib.Dec.{eqb}
use lib.ListN.{length, get_or}
use Rattle.arith.specs.Places.{first_of}
use Rattle.arith.proofs.Tests.{both_first, both-second}
use Rattle.arith.proofs.Places.{First, first, first-is}
use Rattle.message_rows.specs.Message.{kind_tests, kind_refusal}
use Rattle.arith.specs.First as tests
use Rattle.sample_files.specs.declared.SamplePoint.{SamplePoint}
use Rattle.sample_files.specs.File.{message_of, points_of, shape, no_point, file_of}
use Rattle.sample_files.proofs.Back.{message-back, points-of-back, shape-back}
use Rattle.sample_files.proofs.Shape.{shape-file, shape-few, message-low, held-points}
use Rattle.sample_checks.specs.declared.Checked.{Checked}
use Rattle.sample_checks.specs.Check.{message_refusal, right, bad_at, place_of, first_bad, refused_with, claims, checked}
use Rattle.demands_samples.specs.Samples.{ReadBack, FileBack, ShapeExactly, Accepted, Exactly, AcceptedExactly, FirstBad, Place, PlaceIsFirst}

-- ---- the file

pub file-back : FileBack
file-back m ps h l hs =
    record { shaped = shape-back m ps (omega arith) l hs; message = message-back m ps (omega arith); points = points-of-back m ps (omega arith) hs }

pub shape-exactly : ShapeExactly
shape-exactly f b =
    record {
      only = λ t. let s = message-low f b in
          record { message = message_of f; points = points_of f; short = omega arith; few = shape-few f b t; held = held-points f b; made = shape-file f b t };
      whenever = λ x. rw x.made (shape-back x.message x.points (omega (arith, x.short)) x.few x.held);
    }

-- ---- the first bad point

module _ (m : List ℕ) (ps : List SamplePoint) where
  abbrev at : ℕ → Bool
  at k = right m (get_or ps k no_point)

  found : First (bad_at m ps) (length ps) (first_of (bad_at m ps) 0 (length ps))
  found = first (bad_at m ps) (length ps)

  good-at : (k : ℕ) → bad_at m ps k ≡ false → at k ≡ true
  unfolding bad_at
  good-at k e = not-false (right m (get_or ps k no_point)) e

  bad-at : (k : ℕ) → bad_at m ps k ≡ true → at k ≡ false
  unfolding bad_at
  bad-at k e = not-true (right m (get_or ps k no_point)) e

  at-good : (k : ℕ) → at k ≡ true → bad_at m ps k ≡ false
  unfolding bad_at
  at-good k e = ap not e

  at-bad : (k : ℕ) → at k ≡ false → bad_at m ps k ≡ true
  unfolding bad_at
  at-bad k e = ap not e

  -- what is known of the place, by cases
  data Found : ℕ → Type 0 where
    clear : ((k : ℕ) → k < length ps → at k ≡ true) → Found 0
    bad : (k : ℕ) → k < length ps → at k ≡ false → ((j : ℕ) → j < k → at j ≡ true) → Found (suc k)

  place_found : Found (first_bad m ps)
  unfolding first_bad place_of
  place_found = by (dec_lt r (length ps))
    where
      r : ℕ
      r = first_of (bad_at m ps) 0 (length ps)

      by : Dec (r < length ps) → Found (place_of r (length ps))
      by (yes h) = subst Found (sym (placed h)) (bad r h (bad-at r (found.holds h)) (λ j l. good-at j (found.before j l)))
        where
          placed : r < length ps → place_of r (length ps) ≡ suc r
          placed h = unfold place_of in rw (lt-ltb r (length ps) h)
      by (no h) = subst Found (sym (placed (omega arith))) (clear (λ k l. good-at k (found.before k (omega arith))))
        where
          placed : length ps ≤ r → place_of r (length ps) ≡ 0
          placed h = unfold place_of in rw (le-ltb r (length ps) h)

  pub is-first : (k : ℕ) → k < length ps → at k ≡ false → ((j : ℕ) → j < k → at j ≡ true) → first_bad m ps ≡ suc k
  unfolding first_bad place_of
  is-first k h e b =
      rw (first-is (bad_at m ps) (length ps) k (record { top = omega arith; before = λ j l. at-good j (b j l); holds = λ l. at-bad k e }), lt-ltb k (length ps) h)

  pub all_right : ((k : ℕ) → k < length ps → at k ≡ true) → first_bad m ps ≡ 0
  all_right h = by (first_bad m ps) place_found
    where
      by : (n : ℕ) → Found n → n ≡ 0
      by _ (clear g) = refl
      by _ (bad k l e g) = absurd (true≢false (sym (h k l) ∙ e))

-- ---- the answer of a file, by cases

-- the numbers of the tests are others than n
abbrev others : ℕ → List tests.Test → Bool
others n [] = true
others n (t ∷ ts) = not (eqb t.0 n) && others n ts

never : (n : ℕ) (ts : List tests.Test) → others (suc n) ts ≡ true → tests.first ts ≡ suc n → ⊥
never n [] o e = absurd (omega arith)
never n (t ∷ ts) o e =
    by t.1 (both_first (not (eqb t.0 (suc n))) (others (suc n) ts) o) (never n ts (both-second (not (eqb t.0 (suc n))) (others (suc n) ts) o)) e
  where
    by : (b : Bool) → not (eqb t.0 (suc n)) ≡ true → (tests.first ts ≡ suc n → ⊥) → cond b t.0 (tests.first ts) ≡ suc n → ⊥
    by true o r e = eqb-false t.0 (suc n) (not-true (eqb t.0 (suc n)) o) e
    by false o r e = r e

-- a message is not refused CLAIM
no-claim : (m : List ℕ) → message_refusal m ≡ 25 → ⊥
unfolding kind_refusal
no-claim m e = never 24 (kind_tests 1023 1024 m) refl e

module _ (f : List ℕ) where
  abbrev m : List ℕ
  m = message_of f

  abbrev ps : List SamplePoint
  ps = points_of f

  data Case : Checked → Type 0 where
    layout : Case (refused_with 24)
    message : (n : ℕ) → n ≡ message_refusal m → (n ≡ 0 → ⊥) → Case (refused_with n)
    claim : (k : ℕ) → FirstBad f k → Case (record { refusal = 25; place = suc k })
    accepted : Accepted f → Case (refused_with 0)

  by_place : shape f ≡ true → message_refusal m ≡ 0 → (n : ℕ) → Found m ps n → Case (claims n)
  by_place t e _ (clear g) = accepted (record { shaped = t; message = e; points = g })
  by_place t e _ (bad k l b g) = rw (ne_eqb (suc k) 0 (λ z. omega arith)) (claim k (record { within = l; bad = b; before = g }))

  by-message : shape f ≡ true → (b : Bool) → eqb (message_refusal m) 0 ≡ b → Case (cond b (claims (first_bad m ps)) (refused_with (message_refusal m)))
  by-message t true e = by_place t (eqb-true (message_refusal m) 0 e) (first_bad m ps) (place_found m ps)
  by-message t false e = message (message_refusal m) refl (eqb-false (message_refusal m) 0 e)

  by_shape : (b : Bool) → shape f ≡ b → Case (cond b (cond (eqb (message_refusal m) 0) (claims (first_bad m ps)) (refused_with (message_refusal m))) (refused_with 24))
  by_shape true t = by-message t (eqb (message_refusal m) 0) refl
  by_shape false t = layout

  case : Case (checked f)
  unfolding checked
  case = by_shape (shape f) refl

  pub exactly : Exactly f
  exactly =
      record {
        only = only (checked f) case;
        whenever = whenever;
      }
    where
      only : (c : Checked) → Case c → c.refusal ≡ 0 → Accepted f
      only _ layout e = absurd (omega arith)
      only _ (message n q r) e = absurd (r e)
      only _ (claim k b) e = absurd (omega arith)
      only _ (accepted a) e = a

      whenever : Accepted f → checked f ≡ refused_with 0
      whenever a = unfold checked in rw (a.shaped, a.message, all_right m ps a.points)

  -- two first bad points are one
  one : (j k : ℕ) → FirstBad f j → FirstBad f k → suc j ≡ suc k
  one j k b c =
      sym (is-first m ps j b.within b.bad b.before) ∙ is-first m ps k c.within c.bad c.before

  pub place : Place f
  place = record { first = first-is (checked f) case; only = only (checked f) case; some = some (checked f) case; none = none (checked f) case }
    where
      first-is : (c : Checked) → Case c → c.refusal ≡ 25 → (k : ℕ) → c.place ≡ suc k → FirstBad f k
      first-is _ layout e k q = absurd (omega arith)
      first-is _ (message n z r) e k q = absurd (omega arith)
      first-is _ (claim j b) e k q = let s : j ≡ k = omega arith in subst (FirstBad f) s b
      first-is _ (accepted a) e k q = absurd (omega arith)

      only : (c : Checked) → Case c → c.refusal ≡ 25 → (k : ℕ) → FirstBad f k → c.place ≡ suc k
      only _ layout e k b = absurd (omega arith)
      only _ (message n z r) e k b = absurd (no-claim m (sym z ∙ e))
      only _ (claim j c) e k b = one j k c b
      only _ (accepted a) e k b = absurd (omega arith)

      some : (c : Checked) → Case c → c.refusal ≡ 25 → 1 ≤ c.place
      some _ layout e = absurd (omega arith)
      some _ (message n z r) e = absurd (no-claim m (sym z ∙ e))
      some _ (claim j c) e = omega arith
      some _ (accepted a) e = absurd (omega arith)

      none : (c : Checked) → Case c → (c.refusal ≡ 25 → ⊥) → c.place ≡ 0
      none _ layout e = refl
      none _ (message n z r) e = refl
      none _ (claim j c) e = absurd (e refl)
      none _ (accepted a) e = refl

pub accepted-exactly : AcceptedExactly
accepted-exactly f = exactly f

pub place-is-first : PlaceIsFirst
place-is-first f = place f

-- a file that is read back
pub back-checked : (m : List ℕ) (ps : List SamplePoint) → ReadBack m ps → message_refusal m ≡ 0 → checked (file_of m ps) ≡ claims (first_bad m ps)
unfolding checked
back-checked m ps b r = rw (b.shaped, b.message, b.points, r)
