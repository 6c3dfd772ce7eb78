-- The demands on messages hold: each statement of specs/Messages.antt, from the laws of layouts, of rows, of the records and of messages.
-- Assumes nothing.
use Rattle.std.proofs.Common.{ℤ, Option, Some}
use Prim.Native.Nat.{ℕ, ◌+◌, ◌*◌, ◌≤◌, ◌<◌}
use native.Mathlib.Omega.{arith}
use native.Mathlib.Nat.{lt_irrefl}
use mathlib.Core.Path.{◌≡◌, refl, sym, ap, ◌∙◌}
use mathlib.Core.Logic.{⊎_elim}
use mathlib.Core.Bool.{Bool, true, false, not, cond, ◌||◌, ◌&&◌}
use mathlib.Core.List.{List, ◌∷◌, ◌++◌}
use lib.Dec.{ltb}
use lib.IntN.{pos}
use lib.ListN.{length, length-append, length-replicate}
use borrow.Author.Tests.{lt-ltb, le-ltb, lt-leb, le-leb, ne_eqb}
use Rattle.record_rows.specs.Numbers.{says, values_of, present_of}
use Rattle.field.specs.Field.{field}
use Rattle.layout.specs.Layout.{uint, total, size, zero_from, all_take, decode_all, answered}
use Rattle.layout.specs.Inner.{refusal_of}
use Rattle.layout.proofs.Round.{accepted, refused_none, value-at}
use Rattle.layout.proofs.Answer.{fill-set, out_of_range}
use Rattle.record_transformations.specs.Transformations.{good_name, helmert_of, helmert_row, molodenski_badekas_of, molodenski_badekas_row}
use Rattle.record_transformations.specs.declared.Name.{Name}
use Rattle.record_transformations.proofs.Inverse.{helmert-good, molodenski-badekas-good}
use Rattle.layout_tables.specs.Layouts.{names, tail1021, tail1022, layout_of, layout1021, layout1022, layout1023, layout1024, layout1025, layout1026, layout1027}
use Rattle.message_rows.specs.Message.{number_of, source_count, target_count, counter_cut, layout, refusal}
use Rattle.message_rows.specs.Message.{kind_row, kind_write_refusal}
use Rattle.message_records.specs.Kinds.{read_helmert, read_molodenski_badekas, read_grid, read_projection, read_lambert, read_oblique_mercator}
use Rattle.message_rows.proofs.Head.{head_of, head-passes, head_passed, accepted-head, row_of_lem, source-lt, target-lt, layout-most}
use Rattle.layout_tables.proofs.Length.{total-1021, total-1022, total-names, by_number}
use Rattle.message_rows.proofs.Trips.{sized-head, message-of-row, row_written, message-accepted, buffers-of-message, length-message}
use Rattle.message_records.proofs.RecordTrips.{layout-at, kept, kept-written, helmert-row, molodenski-badekas-row, grid-row, projection-row, lambert-row, oblique-mercator-row, helmert-back, molodenski-badekas-back, grid-back, projection-back, lambert-back, oblique-mercator-back}
use Rattle.demands_messages.specs.Messages.{FirstThatApplies, CounterCut, AcceptedLengths, SinFound}

-- ---- the order of refusals

any-length : (a b : Bool) (x : ℕ) → cond a 3 (cond b 3 (cond true 3 x)) ≡ 3
any-length true b x = refl
any-length false true x = refl
any-length false false x = refl

or-true : (a : Bool) → (a || true) ≡ true
or-true true = refl
or-true false = refl

wrong-length : (s : List ℕ) → 2 ≤ length s → 1021 ≤ number_of s → number_of s ≤ 1027 → (length s ≡ size (layout s) → ⊥) → refusal s ≡ 3
unfolding refusal
wrong-length s h lo hi n =
    rw (le-ltb (length s) 2 h, le-leb 1021 (number_of s) lo, le-leb (number_of s) 1027 hi, ne_eqb (length s) (size (layout s)) n)
    (any-length (counter_cut s) (ltb 96 (length (layout s))) (cond (not (zero_from s (total (layout s)))) 4 (cond (not (all_take (layout s) (decode_all (layout s) 0 s))) 5 0)))

pub first-that-applies : (s : List ℕ) → FirstThatApplies s
first-that-applies s =
    record {
      short = λ h. unfold refusal in rw (lt-ltb (length s) 2 h);
      number =
          λ h o.
          ⊎_elim
          (λ (l : number_of s < 1021). unfold refusal in rw (le-ltb (length s) 2 h, lt-leb 1021 (number_of s) l))
          (λ (l : 1027 < number_of s). unfold refusal in rw (le-ltb (length s) 2 h, le-leb 1021 (number_of s) (omega arith), lt-leb (number_of s) 1027 l))
          o;
      wrong_length = wrong-length s;
      fill = λ h lo hi n f. passing lo hi n ∙ fill-set (layout s) s few n f;
      range = λ h lo hi n f r. passing lo hi n ∙ out_of_range (layout s) s few n f r;
      done = λ h lo hi n f r. passing lo hi n ∙ refused_none (layout s) s (record { few = few; sized = n; filled = f; ranged = r });
    }
  where
    few : length (layout s) ≤ 96
    few = omega (arith, layout-most s)

    passing : 1021 ≤ number_of s → number_of s ≤ 1027 → length s ≡ size (layout s) → refusal s ≡ refusal_of (layout s) s
    passing lo hi n = head_passed s (head-passes s (sized-head s lo hi n))

pub counter-cut : CounterCut
unfolding refusal
counter-cut s h lo hi o =
    ⊎_elim
    (λ (l : length s < 3). rw (le-ltb (length s) 2 h, le-leb 1021 (number_of s) lo, le-leb (number_of s) 1027 (omega arith), le-leb (number_of s) 1022 hi, lt-ltb (length s) 3 l))
    (λ (l : length s < source_count s + 3).
    rw (
      le-ltb (length s) 2 h,
      le-leb 1021 (number_of s) lo,
      le-leb (number_of s) 1027 (omega arith),
      le-leb (number_of s) 1022 hi,
      lt-ltb (length s) (source_count s + 3) l,
      or-true (ltb (length s) 3),
    ))
    o

-- ---- lengths and the system identification number

sized : (s : List ℕ) (k : ℕ) → refusal s ≡ 0 → number_of s ≡ k → length s ≡ size (layout_of k (source_count s) (target_count s))
sized s k e q = (accepted (layout s) s (sym (head_passed s (accepted-head s e)) ∙ e)).sized ∙ ap size (layout-at s k q)

pub accepted-lengths : AcceptedLengths
unfolding layout_of layout1023 layout1024 layout1025 layout1026 layout1027 total
accepted-lengths s e =
    let n : ℕ = source_count s in
    let m : ℕ = target_count s in
    record {
      l1021 =
          λ q.
          let l : length s ≡ 52 + n + m = sized s 1021 e q ∙ omega (arith, total-1021 n m) in
          (l, omega (arith, source-lt s, target-lt s));
      l1022 =
          λ q.
          let l : length s ≡ 65 + n + m = sized s 1022 e q ∙ omega (arith, total-1022 n m) in
          (l, omega (arith, source-lt s, target-lt s));
      l1023 = λ q. sized s 1023 e q;
      l1024 = λ q. sized s 1024 e q;
      l1025 = λ q. sized s 1025 e q;
      l1026 = λ q. sized s 1026 e q;
      l1027 = λ q. sized s 1027 e q;
      b1021 = λ q. ap total (layout-at s 1021 q) ∙ total-1021 n m;
      b1022 = λ q. ap total (layout-at s 1022 q) ∙ total-1022 n m;
      b1023 = λ q. ap total (layout-at s 1023 q);
      b1024 = λ q. ap total (layout-at s 1024 q);
      b1025 = λ q. ap total (layout-at s 1025 q);
      b1026 = λ q. ap total (layout-at s 1026 q);
      b1027 = λ q. ap total (layout-at s 1027 q);
    }

-- the field behind the names
behind : (n m : ℕ) (b s : List ℕ) → says (decode_all (names n m ++ (uint 8 ∷ b)) 0 s) (3 + n + m) ≡ Some (pos (field s (22 + 8 * (n + m)) 8))
behind n m b s =
    let l : length (names n m) ≡ 3 + n + m = simp (length-append, length-replicate) (omega arith) in
    let t : 0 + total (names n m) ≡ 22 + 8 * (n + m) = omega (arith, total-names n m) in
    ap (says (decode_all (names n m ++ (uint 8 ∷ b)) 0 s)) (sym l) ∙ value-at (names n m) (uint 8) b 0 s ∙ ap (λ (p : ℕ). Some (pos (field s p 8))) t

pub sin-found : SinFound
sin-found s e =
    let h = head_of s (accepted-head s e) in
    let n : ℕ = source_count s in
    let m : ℕ = target_count s in
    record {
      named =
          λ l.
          rw (le-leb (number_of s) 1022 l)
          (ap (λ (v : List (Option ℤ)). says v (3 + n + m)) (row_of_lem s e ∙ ap (λ (l : List ℕ). decode_all l 0 s) (layout-at s (number_of s) refl))
          ∙ by_number (λ k. k ≤ 1022 → says (decode_all (layout_of k n m) 0 s) (3 + n + m) ≡ Some (pos (field s (22 + 8 * (n + m)) 8))) (number_of s) h.low h.high
          (λ _. unfold layout_of layout1021 tail1021 in behind n m _ s)
          (λ _. unfold layout_of layout1022 tail1022 in behind n m _ s)
          (λ g. absurd (lt_irrefl 0 (omega arith))) (λ g. absurd (lt_irrefl 0 (omega arith))) (λ g. absurd (lt_irrefl 0 (omega arith)))
          (λ g. absurd (lt_irrefl 0 (omega arith))) (λ g. absurd (lt_irrefl 0 (omega arith)))
          l);
      fixed =
          λ l.
          rw (lt-leb (number_of s) 1022 l)
          (ap (λ (v : List (Option ℤ)). says v 1) (row_of_lem s e ∙ ap (λ (l : List ℕ). decode_all l 0 s) (layout-at s (number_of s) refl))
          ∙ by_number (λ k. 1023 ≤ k → says (decode_all (layout_of k n m) 0 s) 1 ≡ Some (pos (field s 12 8))) (number_of s) h.low h.high
          (λ g. absurd (lt_irrefl 0 (omega arith)))
          (λ g. absurd (lt_irrefl 0 (omega arith)))
          (λ _. unfold layout_of layout1023 decode_all in refl)
          (λ _. unfold layout_of layout1024 decode_all in refl)
          (λ _. unfold layout_of layout1025 decode_all in refl)
          (λ _. unfold layout_of layout1026 decode_all in refl)
          (λ _. unfold layout_of layout1027 decode_all in refl)
          l);
    }
