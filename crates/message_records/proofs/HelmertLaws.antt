-- Two laws of reading a 1021, on which the datum step rests: its refusal, and the widths of its parameters.
-- Assumes nothing.
use Rattle.std.proofs.Common.{ℤ, Option}
use mathlib.Core.Path.{◌≡◌, refl, ap, ◌∙◌, subst}
use mathlib.Core.Bool.{true}
use mathlib.Core.List.{List, ◌++◌}
use Prim.Native.Nat.{ℕ, ◌+◌, ◌-◌, ◌^◌, ◌≤◌, ◌<◌}
use native.Mathlib.Omega.{arith}
use lib.IntN.{nat_abs}
use lib.ListN.{length, get_or, length-append, length-replicate}
use lib.Seq.{get_or-append-add}
use Rattle.arith.specs.First.{first}
use Rattle.arith.specs.Whole.{natural}
use Rattle.layout.specs.Layout.{all_take, takes, value_in}
use Rattle.layout.proofs.Taken.{Upto, bounded, takes_at}
use Rattle.record_rows.specs.Numbers.{says, number_at, counter_at}
use Rattle.layout_tables.specs.Layouts.{names, layout_of, layout1021, tail1021}
use Rattle.record_transformations.specs.declared.Parameters.{Parameters}
use Rattle.record_transformations.specs.Transformations.{behind_names, helmert_of, parameters_at}
use Rattle.message_rows.specs.Message.{row, row_layout, kind_tests, kind_refusal}
use Rattle.message_rows.proofs.OneKind.{kind-of, kind-read}
use Rattle.message_rows.proofs.Trips.{row-taken, row-layout-of, row_number}
use Rattle.message_records.specs.Kinds.{read_helmert}

-- ---- the refusal: 1 to 5, then 7 KIND

pub helmert-refusal : (s : List ℕ) → (read_helmert s).refusal ≡ first (kind_tests 1021 1021 s)
unfolding read_helmert kind_refusal
helmert-refusal s = refl

-- ---- the parameters of an accepted 1021 are within the widths of their fields

pub record Within (p : Parameters) : Type 0 where
  pub dx : nat_abs (value_in p.dx) ≤ 2 ^ 22 - 1
  pub dy : nat_abs (value_in p.dy) ≤ 2 ^ 22 - 1
  pub dz : nat_abs (value_in p.dz) ≤ 2 ^ 22 - 1
  pub rx : nat_abs (value_in p.rx) ≤ 2 ^ 31 - 1
  pub ry : nat_abs (value_in p.ry) ≤ 2 ^ 31 - 1
  pub rz : nat_abs (value_in p.rz) ≤ 2 ^ 31 - 1
  pub ds : nat_abs (value_in p.ds) ≤ 2 ^ 24 - 1

length-names : (n m : ℕ) → length (names n m) ≡ 3 + n + m
length-names n m = simp (length-append, length-replicate) (omega arith)

module _ (v : List (Option ℤ)) (number : natural (number_at (says v) 0) ≡ 1021) (taken : all_take (row_layout v) v ≡ true) where
  abbrev n : ℕ
  n = counter_at (says v) 1

  abbrev m : ℕ
  m = counter_at (says v) (2 + n)

  by_layout : all_take (names n m ++ tail1021) v ≡ true
  unfolding row_layout layout_of layout1021
  by_layout = rw number at taken

  -- field j behind the names, whose width has no value beyond b
  behind : (j b : ℕ) → j < length tail1021 → Upto (get_or tail1021 j 0) b → (i : ℕ) → i ≡ behind_names (says v) + j → nat_abs (value_in (says v i)) ≤ b
  behind j b h t i e =
      let k : i ≡ length (names n m) + j = omega (arith, length-names n m) in
      bounded (get_or tail1021 j 0) (says v i) b
      (subst (λ (x : ℕ). takes x (says v i) ≡ true) (ap (λ (l : ℕ). get_or (names n m ++ tail1021) l 0) k ∙ get_or-append-add (names n m) tail1021 j 0)
      (takes_at (names n m ++ tail1021) v by_layout i (omega (arith, length-names n m, length-append (names n m) tail1021))))
      t

  row_within : Within (helmert_of (says v)).parameters
  unfolding helmert_of parameters_at tail1021
  row_within =
      let b = behind_names (says v) in
      record {
        dx = behind 9 (2 ^ 22 - 1) (omega arith) tt (b + 9) refl;
        dy = behind 10 (2 ^ 22 - 1) (omega arith) tt (b + 9 + 1) (omega arith);
        dz = behind 11 (2 ^ 22 - 1) (omega arith) tt (b + 9 + 2) (omega arith);
        rx = behind 12 (2 ^ 31 - 1) (omega arith) tt (b + 9 + 3) (omega arith);
        ry = behind 13 (2 ^ 31 - 1) (omega arith) tt (b + 9 + 4) (omega arith);
        rz = behind 14 (2 ^ 31 - 1) (omega arith) tt (b + 9 + 5) (omega arith);
        ds = behind 15 (2 ^ 24 - 1) (omega arith) tt (b + 9 + 6) (omega arith);
      }

pub helmert-within : (s : List ℕ) → (read_helmert s).refusal ≡ 0 → Within (read_helmert s).value.parameters
unfolding read_helmert
helmert-within s e =
    let d = kind-of 1021 1021 s e in
    let taken : all_take (row_layout (row s)) (row s) ≡ true = rw (row-layout-of s d.accepted) (row-taken s d.accepted) in
    subst (λ (v : List (Option ℤ)). Within (helmert_of (says v)).parameters) (kind-read 1021 1021 s d.accepted d.low d.high).1
    (row_within (row s) (omega (arith, row_number s d.accepted, d.low, d.high)) taken)
