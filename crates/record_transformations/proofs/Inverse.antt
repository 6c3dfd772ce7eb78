-- Each record of 1021 and 1022 and its row are each other's inverse.
-- Assumes nothing.
use Rattle.std.proofs.Common.{Option, Some}
use Prim.Native.Nat.{ℕ, ◌+◌, ◌%◌, ◌≤◌, ◌<◌}
use native.Mathlib.Nat.{add-zero, add_assoc}
use native.Mathlib.Omega.{arith}
use mathlib.Core.Path.{◌≡◌, refl, sym, ap, subst, ◌∙◌}
use mathlib.Core.Bool.{true}
use mathlib.Core.List.{List, [], ◌∷◌, ◌++◌, append_assoc}
use lib.IntN.{ℤ, pos}
use lib.ListN.{length}
use lib.Seq.{get_or-append-add}
use Rattle.arith.specs.Lists.{up_to}
use Rattle.arith.specs.Whole.{natural}
use Rattle.arith.proofs.Lists.{is-up_to}
use Rattle.layout.specs.Layout.{value_in}
use Rattle.record_rows.specs.Numbers.{says, number_at, counter_at, pair_at, pair_row}
use Rattle.record_rows.proofs.Rows.{all_of, Valued}
use Rattle.record_transformations.specs.declared.Name.{Name}
use Rattle.record_transformations.specs.declared.Helmert.{Helmert}
use Rattle.record_transformations.specs.declared.MolodenskiBadekas.{MolodenskiBadekas}
use Rattle.record_transformations.specs.Private.{names, shared, last}
use Rattle.record_transformations.specs.Transformations.{name_at, name_row, good_name, system_at, system_row, area_at, area_row, parameters_at, parameters_row, point_at, point_row, ellipsoids_at, ellipsoids_row, behind_names, helmert_of, helmert_row, molodenski_badekas_of, molodenski_badekas_row}
use Rattle.record_transformations.proofs.Parts.{length-name_row, length-names, helmert-joined, molodenski-badekas-joined}
use Rattle.record_transformations.proofs.Names.{Bytes, part, name_at-good, name_in, counter-is, name_row-is, grow}

-- any names that are read are good
pub helmert-good : (v : ℕ → Option ℤ) → (good_name (helmert_of v).source ≡ true) × (good_name (helmert_of v).target ≡ true)
unfolding helmert_of
helmert-good v = (name_at-good v 1, name_at-good v (2 + counter_at v 1))

pub molodenski-badekas-good : (v : ℕ → Option ℤ) → (good_name (molodenski_badekas_of v).source ≡ true) × (good_name (molodenski_badekas_of v).target ≡ true)
unfolding molodenski_badekas_of
molodenski-badekas-good v = (name_at-good v 1, name_at-good v (2 + counter_at v 1))

-- ---- from a row to its record and back

-- the unsigned fields say values: DF002, and those behind the names, which end at place b; the ellipsoids begin d places behind it
pub record Unsigned (v : ℕ → Option ℤ) (b d : ℕ) : Type 0 where
  pub number : Valued (v 0)
  pub sin : Valued (v (b + 0))
  pub messages : Valued (v (b + 1))
  pub plate : Valued (v (b + 2))
  pub computation : Valued (v (b + 3))
  pub height : Valued (v (b + 4))
  pub north : Valued (v (b + 7))
  pub east : Valued (v (b + 8))
  pub source-major : Valued (v (b + d))
  pub source-minor : Valued (v (b + (d + 1)))
  pub target-major : Valued (v (b + (d + 2)))
  pub target-minor : Valued (v (b + (d + 3)))
  pub horizontal : Valued (v (b + (d + 4)))
  pub vertical : Valued (v (b + (d + 5)))

-- the unsigned field at place k
abbrev number : (ℕ → Option ℤ) → ℕ → Option ℤ
number v k = Some (number_at v k)

module _ (v : ℕ → Option ℤ) (b d : ℕ) (u : Unsigned v b d) where
  shared-is : shared (system_at v b) (area_at v (b + 5)) (parameters_at v (b + 9)) ≡ part v b 16
  unfolding system_row system_at area_row area_at parameters_row parameters_at
  shared-is =
      let e : shared (system_at v b) (area_at v (b + 5)) (parameters_at v (b + 9))
      ≡ number v (b + 0) ∷ number v (b + 1) ∷ number v (b + 2) ∷ number v (b + 3) ∷ number v (b + 4) ∷ v (b + 5) ∷ v (b + 6) ∷ number v (b + 7) ∷ number v (b + 8)
      ∷ v (b + 9) ∷ v (b + 10) ∷ v (b + 11) ∷ v (b + 12) ∷ v (b + 13) ∷ v (b + 14) ∷ v (b + 15) ∷ [] = simp (add-zero, add_assoc) in
      e
      ∙ sym
      (λ i. u.sin i ∷ u.messages i ∷ u.plate i ∷ u.computation i ∷ u.height i ∷ v (b + 5) ∷ v (b + 6) ∷ u.north i ∷ u.east i
      ∷ v (b + 9) ∷ v (b + 10) ∷ v (b + 11) ∷ v (b + 12) ∷ v (b + 13) ∷ v (b + 14) ∷ v (b + 15) ∷ [])

  last-is : last (ellipsoids_at v (b + d)) (pair_at v (b + (d + 4))) ≡ part v (b + d) 6
  unfolding ellipsoids_row ellipsoids_at pair_row pair_at
  last-is =
      let e : last (ellipsoids_at v (b + d)) (pair_at v (b + (d + 4)))
      ≡ number v (b + d) ∷ number v (b + (d + 1)) ∷ number v (b + (d + 2)) ∷ number v (b + (d + 3)) ∷ number v (b + (d + 4)) ∷ number v (b + (d + 5)) ∷ [] = simp add_assoc in
      let f : v (b + d) ∷ v (b + (d + 1)) ∷ v (b + (d + 2)) ∷ v (b + (d + 3)) ∷ v (b + (d + 4)) ∷ v (b + (d + 5)) ∷ [] ≡ part v (b + d) 6 = simp (add-zero, add_assoc) in
      e
      ∙ sym (λ i. u.source-major i ∷ u.source-minor i ∷ u.target-major i ∷ u.target-minor i ∷ u.horizontal i ∷ u.vertical i ∷ [])
      ∙ f

point-is : (v : ℕ → Option ℤ) (b : ℕ) → point_row (point_at v b) ≡ part v b 3
unfolding point_row point_at
point-is v b = simp add-zero

module _
    (v : List (Option ℤ))
    (n m : ℕ)
    (small : n ≤ 31)
    (small' : m ≤ 31)
    (p : says v 1 ≡ Some (pos n))
    (q : says v (2 + n) ≡ Some (pos m))
    (f : (j : ℕ) → j < n → Some (pos (natural (number_at (says v) (2 + j)) % 256)) ≡ says v (2 + j))
    (g : (j : ℕ) → j < m → Some (pos (natural (number_at (says v) (3 + n + j)) % 256)) ≡ says v (3 + n + j))
  where
    source-counter : counter_at (says v) 1 ≡ n
    source-counter = counter-is (says v) 1 n p small

    target-counter : counter_at (says v) (2 + counter_at (says v) 1) ≡ m
    target-counter = ap (λ (k : ℕ). counter_at (says v) (2 + k)) source-counter ∙ counter-is (says v) (2 + n) m q small'

    behind-are : behind_names (says v) ≡ 3 + n + m
    behind-are = λ i. 3 + source-counter i + target-counter i

    -- names of n and m characters
    names-are : Valued (says v 0) → names (number_at (says v) 0) (name_at (says v) 1) (name_at (says v) (2 + counter_at (says v) 1)) ≡ up_to (says v) (3 + n + m)
    names-are z =
        let w = says v in
        let a = name_row-is w 1 n small p f in
        let b : name_row (name_at w (2 + n)) ≡ up_to (λ j. w (2 + n + j)) (1 + m) =
        name_row-is w (2 + n) m small' q
        (λ j l. let z : 3 + n + j ≡ 2 + n + 1 + j = omega arith in subst (λ (k : ℕ). Some (pos (natural (number_at w k) % 256)) ≡ w k) z (g j l)) in
        grow w _ _ (2 + n) (1 + m) (2 + n) (3 + n + m)
        (grow w _ _ 1 (1 + n) 1 (2 + n) (λ i. sym z i ∷ []) a refl (omega arith))
        (ap (λ (k : ℕ). name_row (name_at w (2 + k))) source-counter ∙ b) refl (omega arith)

    -- and the sixteen places behind them
    front-are : (d : ℕ) → Unsigned (says v) (3 + n + m) d
        → names (number_at (says v) 0) (name_at (says v) 1) (name_at (says v) (2 + counter_at (says v) 1))
        ++ shared (system_at (says v) (behind_names (says v))) (area_at (says v) (behind_names (says v) + 5)) (parameters_at (says v) (behind_names (says v) + 9))
        ≡ up_to (says v) (19 + n + m)
    front-are d u =
        let w = says v in
        grow w _ _ (3 + n + m) 16 (3 + n + m) (19 + n + m) (names-are u.number)
        (ap (λ (k : ℕ). shared (system_at w k) (area_at w (k + 5)) (parameters_at w (k + 9))) behind-are ∙ shared-is w (3 + n + m) d u) refl (omega arith)

    pub helmert-row-of : length v ≡ 25 + n + m → Unsigned (says v) (3 + n + m) 16 → helmert_row (helmert_of (says v)) ≡ v
    unfolding helmert_of
    helmert-row-of e u =
        let w = says v in
        sym (helmert-joined (helmert_of w))
        ∙ grow w _ _ (19 + n + m) 6 (3 + n + m + 16) (25 + n + m) (front-are 16 u)
        (ap (λ (k : ℕ). last (ellipsoids_at w (k + 16)) (pair_at w (k + 20))) behind-are ∙ last-is w (3 + n + m) 16 u) (omega arith) (omega arith)
        ∙ all_of v (25 + n + m) e

    pub molodenski-badekas-row-of : length v ≡ 28 + n + m → Unsigned (says v) (3 + n + m) 19 → molodenski_badekas_row (molodenski_badekas_of (says v)) ≡ v
    unfolding molodenski_badekas_of
    molodenski-badekas-row-of e u =
        let w = says v in
        sym (molodenski-badekas-joined (molodenski_badekas_of w))
        ∙ sym
        (append_assoc (names (number_at w 0) (name_at w 1) (name_at w (2 + counter_at w 1)) ++ shared (system_at w (behind_names w)) (area_at w (behind_names w + 5)) (parameters_at w (behind_names w + 9)))
        (point_row (point_at w (behind_names w + 16))) (last (ellipsoids_at w (behind_names w + 19)) (pair_at w (behind_names w + 23))))
        ∙ grow w _ _ (22 + n + m) 6 (3 + n + m + 19) (28 + n + m)
        (grow w _ _ (19 + n + m) 3 (3 + n + m + 16) (22 + n + m) (front-are 19 u)
        (ap (λ (k : ℕ). point_row (point_at w (k + 16))) behind-are ∙ point-is w (3 + n + m + 16)) (omega arith) (omega arith))
        (ap (λ (k : ℕ). last (ellipsoids_at w (k + 19)) (pair_at w (k + 23))) behind-are ∙ last-is w (3 + n + m) 19 u) (omega arith) (omega arith)
        ∙ all_of v (28 + n + m) e

-- ---- from a record to its row and back

-- a part of the places behind b is that part of the row
module _ (v : ℕ → Option ℤ) (b : ℕ) where
  abbrev rest : ℕ → Option ℤ
  rest j = v (b + j)

  system-rest : system_at v b ≡ system_at rest 0
  unfolding system_at
  system-rest = simp add-zero

  area-rest : area_at v (b + 5) ≡ area_at rest 5
  unfolding area_at
  area-rest = simp add_assoc

  parameters-rest : parameters_at v (b + 9) ≡ parameters_at rest 9
  unfolding parameters_at
  parameters-rest = simp add_assoc

  point-rest : point_at v (b + 16) ≡ point_at rest 16
  unfolding point_at
  point-rest = simp add_assoc

  ellipsoids-rest : (d : ℕ) → ellipsoids_at v (b + d) ≡ ellipsoids_at rest d
  unfolding ellipsoids_at
  ellipsoids-rest d = simp add_assoc

  pair-rest : (d : ℕ) → pair_at v (b + d) ≡ pair_at rest d
  unfolding pair_at
  pair-rest d = simp add_assoc

three : (a b c d : List (Option ℤ)) → a ++ b ++ c ++ d ≡ a ++ (b ++ (c ++ d))
three a b c d = simp append_assoc

-- a row v of two names, with a tail behind them
module _
    (z : ℤ)
    (s t : Name)
    (tail v : List (Option ℤ))
    (d : v ≡ names z s t ++ tail)
    (long : length s.chars ≡ 31)
    (long' : length t.chars ≡ 31)
    (bytes : Bytes s)
    (bytes' : Bytes t)
    (good : good_name s ≡ true)
    (good' : good_name t ≡ true)
  where
    source_is : name_at (says v) 1 ≡ s
    source_is = name_in s long bytes good (Some z ∷ []) (name_row t ++ tail) v 1 (d ∙ three (Some z ∷ []) (name_row s) (name_row t) tail) refl

    source-count : counter_at (says v) 1 ≡ s.length
    unfolding name_at
    source-count = ap (λ (n : Name). n.length) source_is

    target_is : name_at (says v) (2 + counter_at (says v) 1) ≡ t
    target_is =
        ap (λ (k : ℕ). name_at (says v) (2 + k)) source-count
        ∙ name_in t long' bytes' good' ((Some z ∷ []) ++ name_row s) tail v (2 + s.length) (d ∙ append_assoc ((Some z ∷ []) ++ name_row s) (name_row t) tail) (omega (arith, length-name_row s))

    target-count : counter_at (says v) (2 + counter_at (says v) 1) ≡ t.length
    unfolding name_at
    target-count = ap (λ (n : Name). n.length) target_is

    behind-is : behind_names (says v) ≡ length (names z s t)
    behind-is = (λ i. 3 + source-count i + target-count i) ∙ sym (length-names z s t)

    tail-is : (c : ℕ) → length tail ≡ c → part (says v) (behind_names (says v)) c ≡ tail
    tail-is c e =
        sym
        (is-up_to (λ j. says v (behind_names (says v) + j)) c (Some (pos 0)) tail e
        (λ j l.
        sym
        (ap (λ (k : ℕ). says v (k + j)) behind-is
        ∙ ap (λ (x : List (Option ℤ)). says x (length (names z s t) + j)) d
        ∙ get_or-append-add (names z s t) tail j (Some (pos 0)))))

abbrev helmert_tail : Helmert → List (Option ℤ)
helmert_tail r = shared r.system r.area r.parameters ++ last r.ellipsoids r.quality

abbrev molodenski_badekas_tail : MolodenskiBadekas → List (Option ℤ)
molodenski_badekas_tail r = shared r.system r.area r.parameters ++ (point_row r.point ++ last r.ellipsoids r.quality)

helmert-split : (r : Helmert) → helmert_row r ≡ names r.number r.source r.target ++ helmert_tail r
helmert-split r =
    sym (helmert-joined r)
    ∙ append_assoc (names r.number r.source r.target) (shared r.system r.area r.parameters) (last r.ellipsoids r.quality)

molodenski-badekas-split : (r : MolodenskiBadekas) → molodenski_badekas_row r ≡ names r.number r.source r.target ++ molodenski_badekas_tail r
molodenski-badekas-split r =
    sym (molodenski-badekas-joined r)
    ∙ append_assoc (names r.number r.source r.target) (shared r.system r.area r.parameters) (point_row r.point ++ last r.ellipsoids r.quality)

pub helmert-of-row : (r : Helmert) → length r.source.chars ≡ 31 → length r.target.chars ≡ 31 → Bytes r.source → Bytes r.target
    → good_name r.source ≡ true → good_name r.target ≡ true → helmert_of (says (helmert_row r)) ≡ r
unfolding helmert_of system_row system_at area_row area_at parameters_row parameters_at ellipsoids_row ellipsoids_at pair_row pair_at
helmert-of-row r l l' y y' g g' =
    let v = helmert_row r in
    let w = says v in
    let b = behind_names w in
    let d = helmert-split r in
    let t : part w b 22 ≡ helmert_tail r = tail-is r.number r.source r.target (helmert_tail r) v d l l' y y' g g' 22 refl in
    λ i. record {
      number = value_in (says (d i) 0);
      source = source_is r.number r.source r.target (helmert_tail r) v d l l' y y' g g' i;
      target = target_is r.number r.source r.target (helmert_tail r) v d l l' y y' g g' i;
      system = (system-rest w b ∙ (λ k. system_at (says (t k)) 0)) i;
      area = (area-rest w b ∙ (λ k. area_at (says (t k)) 5)) i;
      parameters = (parameters-rest w b ∙ (λ k. parameters_at (says (t k)) 9)) i;
      ellipsoids = (ellipsoids-rest w b 16 ∙ (λ k. ellipsoids_at (says (t k)) 16)) i;
      quality = (pair-rest w b 20 ∙ (λ k. pair_at (says (t k)) 20)) i;
    }

pub molodenski-badekas-of-row : (r : MolodenskiBadekas) → length r.source.chars ≡ 31 → length r.target.chars ≡ 31 → Bytes r.source → Bytes r.target
    → good_name r.source ≡ true → good_name r.target ≡ true → molodenski_badekas_of (says (molodenski_badekas_row r)) ≡ r
unfolding molodenski_badekas_of system_row system_at area_row area_at parameters_row parameters_at point_row point_at ellipsoids_row ellipsoids_at pair_row pair_at
molodenski-badekas-of-row r l l' y y' g g' =
    let v = molodenski_badekas_row r in
    let w = says v in
    let b = behind_names w in
    let d = molodenski-badekas-split r in
    let t : part w b 25 ≡ molodenski_badekas_tail r = tail-is r.number r.source r.target (molodenski_badekas_tail r) v d l l' y y' g g' 25 refl in
    λ i. record {
      number = value_in (says (d i) 0);
      source = source_is r.number r.source r.target (molodenski_badekas_tail r) v d l l' y y' g g' i;
      target = target_is r.number r.source r.target (molodenski_badekas_tail r) v d l l' y y' g g' i;
      system = (system-rest w b ∙ (λ k. system_at (says (t k)) 0)) i;
      area = (area-rest w b ∙ (λ k. area_at (says (t k)) 5)) i;
      parameters = (parameters-rest w b ∙ (λ k. parameters_at (says (t k)) 9)) i;
      point = (point-rest w b ∙ (λ k. point_at (says (t k)) 16)) i;
      ellipsoids = (ellipsoids-rest w b 19 ∙ (λ k. ellipsoids_at (says (t k)) 19)) i;
      quality = (pair-rest w b 23 ∙ (λ k. pair_at (says (t k)) 23)) i;
    }
