-- A text is its first line, what ends that, and the rest.
-- Assumes nothing.
use Prim.Native.Nat.{ℕ, suc, ◌+◌, ◌≤◌, ◌<◌}
use native.Mathlib.Nat.{not-suc-le-zero}
use native.Mathlib.Omega.{arith}
use borrow.Author.Rules.{rules}
use mathlib.Core.Path.{◌≡◌, refl, sym, ap, ◌∙◌}
use mathlib.Core.Bool.{Bool, true, false, cond}
use mathlib.Core.List.{List, [], ◌∷◌, ◌++◌, append-nil}
use lib.Dec.{eqb, ltb}
use lib.ListN.{length, take, drop, length-drop, drop_of_length-le}
use Rattle.std.proofs.Common.{le_refl}
use lib.Seq.{take_all, drop-drop}
use borrow.Author.Tests.{eqb-true, ltb-true, ltb-false}
use Rattle.std.specs.Prelude.{Some, None}
use Rattle.std.specs.Option.{unwrap_or}
use Rattle.text_words.specs.Inner.{find}
use Rattle.text_lines.specs.Inner.{line_of, line_at}
use Rattle.line_reads.specs.Inner.{ended_by}

-- ---- up to the first byte b

hit_by : (b x : ℕ) (t : List ℕ) → (find b t < length t → t ≡ (take (find b t) t ++ (b ∷ [])) ++ drop (suc (find b t)) t) → (e : Bool) → eqb x b ≡ e
    → cond e 0 (suc (find b t)) < suc (length t) → x ∷ t ≡ (take (cond e 0 (suc (find b t))) (x ∷ t) ++ (b ∷ [])) ++ drop (suc (cond e 0 (suc (find b t)))) (x ∷ t)
hit_by b x t r true q h = ap (λ y. y ∷ t) (eqb-true x b q)
hit_by b x t r false q h = ap (λ l. x ∷ l) (r (omega arith))

hit : (b : ℕ) (t : List ℕ) → find b t < length t → t ≡ (take (find b t) t ++ (b ∷ [])) ++ drop (suc (find b t)) t
unfolding find
hit b [] h = absurd (not-suc-le-zero h)
hit b (x ∷ t) h = hit_by b x t (hit b t) (eqb x b) refl h

none_by : (b x : ℕ) (t : List ℕ) → find b (take (find b t) t) ≡ length (take (find b t) t) → (e : Bool) → eqb x b ≡ e
    → find b (take (cond e 0 (suc (find b t))) (x ∷ t)) ≡ length (take (cond e 0 (suc (find b t))) (x ∷ t))
unfolding find
none_by b x t r true q = refl
none_by b x t r false q = rw q (ap suc r)

-- no byte b stands before the first
pub none_before : (b : ℕ) (t : List ℕ) → find b (take (find b t) t) ≡ length (take (find b t) t)
unfolding find
none_before b [] = refl
none_before b (x ∷ t) = none_by b x t (none_before b t) (eqb x b) refl

-- ---- the first line of what stands behind f

module _ (s : List ℕ) (f end : ℕ) (h : length s ≤ end) where
  stays_by : (n : ℕ) (e : Bool) → ltb (f + n) (length s) ≡ e → unwrap_or (cond e (Some (f + n + 1)) None) end ≤ end
  stays_by n true q = omega (arith, h, ltb-true (f + n) (length s) q)
  stays_by n false q = le_refl end

  pub stays : unwrap_or (line_at s f).next end ≤ end
  unfolding line_at line_of
  stays = stays_by (find 10 (drop f s)) (ltb (f + find 10 (drop f s)) (length s)) refl

  passes_by : (e : Bool) → ltb (f + find 10 (drop f s)) (length s) ≡ e
      → drop f s ≡ ended_by (take (find 10 (drop f s)) (drop f s)) (cond e (Some (f + find 10 (drop f s) + 1)) None) ++ drop (unwrap_or (cond e (Some (f + find 10 (drop f s) + 1)) None) end) s
  passes_by true q =
      let t = drop f s in
      let n = find 10 t in
      let k : f + suc n ≡ f + n + 1 = omega arith in
      let l : n < length t = omega (arith, length-drop f s, ltb-true (f + n) (length s) q) in
      hit 10 t l ∙ ap (λ r. (take n t ++ (10 ∷ [])) ++ r) (drop-drop (suc n) f s ∙ ap (λ j. drop j s) k)
  passes_by false q =
      let t = drop f s in
      let n = find 10 t in
      let l : length t ≤ n = omega (arith, length-drop f s, ltb-false (f + n) (length s) q) in
      sym (append-nil t) ∙ ap (λ x. x ++ []) (sym (take_all n t l)) ∙ ap (λ r. take n t ++ r) (sym (drop_of_length-le s {i = end} h))

  pub passes : drop f s ≡ ended_by (take (line_at s f).length (drop (line_at s f).from s)) (line_at s f).next ++ drop (unwrap_or (line_at s f).next end) s
  unfolding line_at line_of
  passes = passes_by (ltb (f + find 10 (drop f s)) (length s)) refl

  pub one_line : find 10 (take (line_at s f).length (drop (line_at s f).from s)) ≡ length (take (line_at s f).length (drop (line_at s f).from s))
  unfolding line_at line_of
  one_line = none_before 10 (drop f s)

  open_by : (n : ℕ) (e : Bool) → ltb (f + n) (length s) ≡ e → cond e (Some (f + n + 1)) None ≡ None → length s ≤ f + n
  open_by n true q z = absurd (search (rules, z))
  open_by n false q z = ltb-false (f + n) (length s) q

  -- a line that no newline ends goes to the end
  pub open_line : (line_at s f).next ≡ None → length s ≤ f + (line_at s f).length
  unfolding line_at line_of
  open_line z = open_by (find 10 (drop f s)) (ltb (f + find 10 (drop f s)) (length s)) refl z

  pub starts : (line_at s f).from ≡ f
  unfolding line_at line_of
  starts = refl
