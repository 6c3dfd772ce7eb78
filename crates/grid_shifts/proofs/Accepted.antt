-- An accepted grid message or record has its fields within their ranges, and the refusals of the two public functions are those of the parts.
-- Assumes nothing.
use Rattle.std.proofs.Common.{Option, Some, None}
use mathlib.Core.Path.{◌≡◌, refl, sym, ap, ◌∙◌, subst}
use mathlib.Core.Bool.{Bool, true, false, not, cond, ◌&&◌}
use mathlib.Core.List.{List, [], ◌∷◌, ◌++◌, append_assoc}
use mathlib.Core.Logic.{◌⊎◌, inl, inr}
use Prim.Native.Nat.{ℕ, zero, suc, ◌+◌, ◌*◌, ◌≤◌, ◌<◌, ◌^◌}
use native.Mathlib.Nat.{le_trans, not-suc-le-zero, le_of_suc-le-suc, eq-or-lt_of_le}
use native.Mathlib.Omega.{arith}
use borrow.Author.Tests.{eq-eqb, ltb-true, leb-true, le-leb, le-ltb}
use lib.Dec.{T, eqb, ltb, leb, leb→le}
use lib.IntN.{ℤ, pos, negsuc, nat_abs}
use lib.ListN.{length, get_or, take, length-append}
use Rattle.arith.specs.First.{Test, first}
use Rattle.arith.specs.Whole.{natural, same_z}
use Rattle.arith.proofs.Whole.{eq_z-true}
use Rattle.arith.proofs.First.{stops, goes_on, passes}
use Rattle.arith.proofs.Tests.{false-ne-true, both_first, both-second}
use Rattle.field.specs.Field.{none_of}
use Rattle.layout.specs.Layout.{all_take, row_takes, row_of, takes, of_width, signed, width, int, int_to, size, value_in}
use Rattle.layout.proofs.Round.{of-true, take-length, taken-all, row_in, all-taken}
use Rattle.layout_tables.specs.Layouts.{layout_of, layout1023, layout1024, times, points}
use Rattle.layout_tables.proofs.Length.{length-1023, length-1024, total-1023, total-1024}
use Rattle.record_rows.specs.Numbers.{says, number_at, pair_row, values_of, present_of}
use Rattle.record_grids.specs.declared.Grid.{Grid}
use Rattle.record_grids.specs.declared.Shifts.{Shifts}
use Rattle.record_grids.specs.Grids.{grid_of, grid_row, nodes_row, origin_row, spacing_row, shifts_row}
use Rattle.message_rows.specs.Message.{tests, number_of, layout, row, row_layout, kind_refusal, kind_row, kind_write_refusal, of_kind, row_held}
use Rattle.message_records.specs.Kinds.{grid_held}
use Rattle.message_records.proofs.RecordTrips.{grid-row}
use Rattle.message_rows.proofs.OneKind.{Kind, kind-of}
use Rattle.message_rows.proofs.Trips.{row-taken, row-layout-of, row_number}
use Rattle.grid_refusals.specs.Refusals.{ellipsoidal}
use Rattle.grid_shifts.specs.Shift.{part, node_of, grid_tests, record_shift_refusal, shift_refusal}
use Rattle.grid_shifts.specs.Private.{Held}

-- ---- what a field takes

fits-most : (b : Bool) (w : ℕ) (z : ℤ) → of_width b w z ≡ true → nat_abs z ≤ cond b (none_of w) (2 ^ w)
fits-most true w z h = omega (arith, ltb-true (nat_abs z) (none_of w) h)
fits-most false w (pos n) h = omega (arith, ltb-true n (2 ^ w) h)
fits-most false w (negsuc n) h = absurd (false-ne-true h)

-- the entry takes values up to b
abbrev Upto : ℕ → ℕ → Type 0
Upto e b = T (leb (cond (signed e) (none_of (width e)) (2 ^ width e)) b)

bounded : (e : ℕ) (r : Option ℤ) (b : ℕ) → takes e r ≡ true → Upto e b → nat_abs (value_in r) ≤ b
bounded e (Some z) b h t = le_trans (fits-most (signed e) (width e) z (both_first _ _ h)) (leb→le _ b t)
bounded e None b h t = omega arith

-- a longitude of the origin is within its declared range
in-turn : (r : Option ℤ) → takes (int_to 22 1296000) r ≡ true → nat_abs (value_in r) ≤ 1296000
in-turn (Some z) h = leb-true (nat_abs z) 1296000 (both-second (of_width true 22 z) (leb (nat_abs z) 1296000) h)
in-turn None h = omega arith

counted : (w : ℕ) (z : ℤ) → of_width false w z ≡ true → (z ≡ pos (natural z)) × (natural z < 2 ^ w)
counted w (pos n) h = (refl, ltb-true n (2 ^ w) h)
counted w (negsuc n) h = absurd (false-ne-true h)

spaced : (z : ℤ) → takes 12 (Some z) ≡ true → (z ≡ pos (natural z)) × (natural z ≤ 4095)
spaced z h = let c = counted 12 z (both_first _ _ h) in (c.0, omega (arith, c.1))

-- ---- the places of a row

takes_at : (es : List ℕ) (vs : List (Option ℤ)) → all_take es vs ≡ true → (i : ℕ) → i < length es → takes (get_or es i 0) (says vs i) ≡ true
unfolding all_take
takes_at [] vs h i k = absurd (not-suc-le-zero k)
takes_at (e ∷ es) [] h i k = absurd (false-ne-true h)
takes_at (e ∷ es) (v ∷ vs) h zero k = both_first (takes e v) (all_take es vs) h
takes_at (e ∷ es) (v ∷ vs) h (suc i) k = takes_at es vs (both-second (takes e v) (all_take es vs) h) i (le_of_suc-le-suc k)

skips : (a es : List ℕ) (va vs : List (Option ℤ)) → length a ≡ length va → all_take (a ++ es) (va ++ vs) ≡ true → all_take es vs ≡ true
unfolding all_take
skips [] es [] vs e h = h
skips [] es (v ∷ va) vs e h = absurd (omega arith)
skips (x ∷ a) es [] vs e h = absurd (omega arith)
skips (x ∷ a) es (v ∷ va) vs e h = skips a es va vs (omega arith) (both-second (takes x v) (all_take (a ++ es) (va ++ vs)) h)

-- ---- the nodes

abbrev none : Shifts
none = record { north = Some (pos 0); east = Some (pos 0); height = Some (pos 0) }

-- each component of a shift is at most b
pub record Small (b : ℕ) (s : Shifts) : Type 0 where
  pub north : nat_abs (value_in s.north) ≤ b
  pub east : nat_abs (value_in s.east) ≤ b
  pub height : nat_abs (value_in s.height) ≤ b

part-most : {b : ℕ} {s : Shifts} → Small b s → (c : ℕ) → nat_abs (value_in (part c s)) ≤ b
part-most {b} {s} h c = by (eqb c 0) (eqb c 1)
  where
    by : (p q : Bool) → nat_abs (value_in (cond p s.north (cond q s.east s.height))) ≤ b
    by true q = h.north
    by false true = h.east
    by false false = h.height

-- three entries of a node
abbrev node : List ℕ
node = int 9 ∷ int 9 ∷ int 9 ∷ []

small : (n : Shifts) (es : List ℕ) (vs : List (Option ℤ)) → all_take (node ++ es) (shifts_row n ++ vs) ≡ true → Small 256 n × (all_take es vs ≡ true)
unfolding all_take shifts_row
small n es vs h =
    let i = both-second (takes (int 9) n.north) _ h in
    let j = both-second (takes (int 9) n.east) _ i in (
      record {
        north = bounded (int 9) n.north 256 (both_first (takes (int 9) n.north) _ h) tt;
        east = bounded (int 9) n.east 256 (both_first (takes (int 9) n.east) _ i) tt;
        height = bounded (int 9) n.height 256 (both_first (takes (int 9) n.height) _ j) tt;
      },
      both-second (takes (int 9) n.height) _ j,
    )

nodes-small : (m : ℕ) (ns : List Shifts) (es : List ℕ) (vs : List (Option ℤ)) → length ns ≡ m →
    all_take (times m node es) (nodes_row ns ++ vs) ≡ true → (k : ℕ) → Small 256 (get_or ns k none)
unfolding nodes_row shifts_row
nodes-small zero [] es vs e h k = record { north = omega arith; east = omega arith; height = omega arith }
nodes-small zero (n ∷ ns) es vs e h k = absurd (omega arith)
nodes-small (suc m) [] es vs e h k = absurd (omega arith)
nodes-small (suc m) (n ∷ ns) es vs e h zero = (small n (times m node es) (nodes_row ns ++ vs) h).0
nodes-small (suc m) (n ∷ ns) es vs e h (suc k) = nodes-small m ns es vs (omega arith) (small n (times m node es) (nodes_row ns ++ vs) h).1 k

length-nodes : (ns : List Shifts) → length (nodes_row ns) ≡ 3 * length ns
unfolding nodes_row shifts_row
length-nodes [] = refl
length-nodes (n ∷ ns) = omega (arith, length-nodes ns)

-- ---- a record whose row its layout takes

by_number : (P : ℕ → Type 0) (k : ℕ) → 1023 ≤ k → k ≤ 1024 → P 1023 → P 1024 → P k
by_number P k lo hi p q = by (eq-or-lt_of_le lo)
  where
    by : (1023 ≡ k) ⊎ (1023 < k) → P k
    by (inl e) = subst P e p
    by (inr l) = let e : 1024 ≡ k = omega arith in subst P e q

-- the eleven fields before the nodes, and the nodes
module _ (g : Grid) (a : List ℕ) (l : length a ≡ 11) (h : all_take (a ++ points) (grid_row g) ≡ true) where
  sixteen : length g.nodes ≡ 16
  unfolding grid_row pair_row origin_row spacing_row shifts_row
  sixteen =
      omega (
        arith,
        simp length-append at (take-length (a ++ points) (grid_row g) (of-true h)),
        length-nodes g.nodes,
      )

  abbrev behind : List (Option ℤ)
  behind = pair_row g.methods ++ (pair_row g.quality ++ (Some g.day ∷ []))

  grouped : nodes_row g.nodes ++ pair_row g.methods ++ pair_row g.quality ++ (Some g.day ∷ []) ≡ nodes_row g.nodes ++ behind
  grouped =
      append_assoc (nodes_row g.nodes ++ pair_row g.methods) (pair_row g.quality) (Some g.day ∷ [])
      ∙ append_assoc (nodes_row g.nodes) (pair_row g.methods) (pair_row g.quality ++ (Some g.day ∷ []))

  taken-nodes : all_take points (nodes_row g.nodes ++ pair_row g.methods ++ pair_row g.quality ++ (Some g.day ∷ [])) ≡ true
  unfolding grid_row pair_row origin_row spacing_row shifts_row
  taken-nodes =
      skips a points
      (Some g.number ∷ Some g.sin ∷ Some g.indicators.horizontal ∷ Some g.indicators.vertical ∷ g.origin.north ∷ g.origin.east ∷ Some g.spacing.north ∷ Some g.spacing.east ∷ g.mean.north ∷ g.mean.east ∷ g.mean.height ∷ [])
      _ l h

  nodes-most : (c i j : ℕ) → nat_abs (value_in (node_of g.nodes c i j)) ≤ 256
  nodes-most c i j = part-most (nodes-small 16 g.nodes _ behind sixteen (subst (λ vs. all_take points vs ≡ true) grouped taken-nodes) (4 * i + j)) c

-- the bounds of a record by any layout of its kind: eleven entries, and the points
fields-by : (g : Grid) (a : List ℕ) → let es : List ℕ = a ++ points in length a ≡ 11 → 11 ≤ length es
    → Upto (get_or es 4 0) 67108864 → Upto (get_or es 5 0) 67108864 → get_or es 6 0 ≡ 12 → get_or es 7 0 ≡ 12
    → Upto (get_or es 8 0) 16384 → Upto (get_or es 9 0) 16384 → Upto (get_or es 10 0) 16384
    → (takes (get_or es 5 0) g.origin.east ≡ true → ellipsoidal g.number ≡ true → nat_abs (value_in g.origin.east) ≤ 1296000)
    → all_take es (grid_row g) ≡ true → Held g
unfolding grid_row pair_row origin_row spacing_row shifts_row
fields-by g a l m north east rows columns p q r turn h =
    let t : (i : ℕ) → i < length (a ++ points) → takes (get_or (a ++ points) i 0) (says (grid_row g) i) ≡ true = takes_at (a ++ points) (grid_row g) h in
    record {
      settings =
          record {
            north = bounded _ g.origin.north 67108864 (t 4 (omega arith)) north;
            east = bounded _ g.origin.east 67108864 (t 5 (omega arith)) east;
            rows = spaced g.spacing.north (subst (λ (e : ℕ). takes e (Some g.spacing.north) ≡ true) rows (t 6 (omega arith)));
            columns = spaced g.spacing.east (subst (λ (e : ℕ). takes e (Some g.spacing.east) ≡ true) columns (t 7 (omega arith)));
            longitude = turn (t 5 (omega arith));
          };
      mean =
          part-most {s = g.mean}
          (record {
            north = bounded _ g.mean.north 16384 (t 8 (omega arith)) p;
            east = bounded _ g.mean.east 16384 (t 9 (omega arith)) q;
            height = bounded _ g.mean.height 16384 (t 10 (omega arith)) r;
          });
      nodes = nodes-most g a l h;
    }

abbrev Ranged : Grid → ℕ → List ℕ → Type 0
Ranged g k es = natural g.number ≡ k → all_take es (grid_row g) ≡ true → Held g

fields-1023 : (g : Grid) → Ranged g 1023 layout1023
unfolding layout1023
fields-1023 g e = fields-by g (take 11 layout1023) refl (omega arith) tt tt refl refl tt tt tt (λ t _. in-turn g.origin.east t)

-- 1024 is not ellipsoidal
plane : (z : ℤ) → natural z ≡ 1024 → ellipsoidal z ≡ true → ⊥
unfolding same_z
plane z e t = let y : natural z ≡ 1023 = ap natural (eq_z-true z (pos 1023) t) in let x : ◌≡◌ {A = ℕ} 1023 1024 = sym y ∙ e in absurd (omega arith)

fields-1024 : (g : Grid) → Ranged g 1024 layout1024
unfolding layout1024
fields-1024 g e = fields-by g (take 11 layout1024) refl (omega arith) tt tt refl refl tt tt tt (λ _ t. absurd (plane g.number e t))

fields-layout : (g : Grid) (k n m : ℕ) → 1023 ≤ k → k ≤ 1024 → Ranged g k (layout_of k n m)
unfolding layout_of
fields-layout g k n m lo hi = by_number (λ (k : ℕ). Ranged g k (layout_of k n m)) k lo hi (fields-1023 g) (fields-1024 g)

fields-of : (g : Grid) → 1023 ≤ natural g.number → natural g.number ≤ 1024 → all_take (row_layout (grid_row g)) (grid_row g) ≡ true → Held g
unfolding row_layout grid_row
fields-of g lo hi h = fields-layout g (natural g.number) _ _ lo hi refl h

-- ---- the refusals of a record: what `grid_held` answers, then the tests of the grid

abbrev kind : ℕ → Bool
kind k = leb 1023 k && leb k 1024

kind-low : (k : ℕ) → kind k ≡ true → (1023 ≤ k) × (k ≤ 1024)
kind-low k e = (leb-true 1023 k (both_first (leb 1023 k) (leb k 1024) e), leb-true k 1024 (both-second (leb 1023 k) (leb k 1024) e))

-- with room for any grid message a record is refused for its ranges alone
abbrev Room : List ℕ → Type 0
Room es = (ltb 96 (length es) ≡ false) × (size es ≤ 74)

room_of : (k n m : ℕ) → 1023 ≤ k → k ≤ 1024 → Room (layout_of k n m)
unfolding layout_of
room_of k n m lo hi =
    by_number (λ (k : ℕ). Room (layout_of k n m)) k lo hi
    (rw (length-1023, total-1023) (refl, omega arith))
    (rw (length-1024, total-1024) (refl, omega arith))

room : (v : List (Option ℤ)) → 1023 ≤ natural (number_at (says v) 0) → natural (number_at (says v) 0) ≤ 1024 → Room (row_layout v)
unfolding row_layout
room v lo hi = room_of (natural (number_at (says v) 0)) _ _ lo hi

module _ (z : List ℤ) (b : List ℕ) where
  abbrev number : ℕ
  number = natural (number_at (says (row_of z b)) 0)

  pub held-is-written : (m : ℕ) → 74 ≤ m → row_held 1023 1024 z b ≡ eqb (kind_write_refusal 1023 1024 true z b m) 0
  unfolding row_held kind_write_refusal
  held-is-written m h = by (kind number) refl
    where
      last : (t : Bool) → t ≡ eqb (first ((5, not t) ∷ (6, false) ∷ [])) 0
      last true = refl
      last false = refl

      by : (t : Bool) → kind number ≡ t → row_held 1023 1024 z b ≡ eqb (kind_write_refusal 1023 1024 true z b m) 0
      by true e =
          let k = kind-low number e in
          let r = room (row_of z b) k.0 k.1 in
          unfold row_held kind_write_refusal in
          rw (
            le-leb 1023 number k.0,
            le-leb number 1024 k.1,
            le-leb 1021 number (omega arith),
            le-leb number 1027 (omega arith),
            r.0,
            le-ltb m (size (row_layout (row_of z b))) (omega arith),
          )
          (last (row_takes (row_layout (row_of z b)) z b))
      by false e = unfold row_held kind_write_refusal in rw e

module _ (g : Grid) (c : ℕ) (n e : ℤ) where
  pub record-refused : grid_held g ≡ false → 5 ≡ record_shift_refusal g c n e
  unfolding record_shift_refusal
  record-refused h = rw h

  pub record-passed : grid_held g ≡ true → first (grid_tests g c n e) ≡ record_shift_refusal g c n e
  unfolding record_shift_refusal
  record-passed h = rw h

-- what `grid_held` says, of the row
held-row : (v : List (Option ℤ)) → row_held 1023 1024 (values_of v) (present_of v) ≡ (of_kind 1023 1024 v && row_takes (row_layout v) (values_of v) (present_of v))
unfolding row_held
held-row v = rw (row_in v)

pub record-fields : (g : Grid) → grid_held g ≡ true → Held g
unfolding grid_row
record-fields g h =
    let v = grid_row g in
    let t = sym (held-row v) ∙ h in
    let k = kind-low (natural g.number) (both_first (of_kind 1023 1024 v) (row_takes (row_layout v) (values_of v) (present_of v)) t) in
    let a = taken-all (row_layout v) (values_of v) (present_of v) (both-second (of_kind 1023 1024 v) (row_takes (row_layout v) (values_of v) (present_of v)) t) in
    fields-of g k.0 k.1 (subst (λ (w : List (Option ℤ)). all_take (row_layout v) w ≡ true) (row_in v) a)

-- ---- the refusals of a message: what `check_kind` answers, then the tests of the grid

module _ (s : List ℕ) (c : ℕ) (n e : ℤ) where
  abbrev g : Grid
  g = grid_of (says (row s))

  abbrev reading : List Test
  reading = tests s ++ ((7, not (kind (number_of s))) ∷ [])

  pub message-refused : {r : ℕ} → r ≡ kind_refusal 1023 1024 s → (r ≡ 0 → ⊥) → r ≡ shift_refusal s c n e
  unfolding kind_refusal shift_refusal
  message-refused w h = stops reading (grid_tests g c n e) tt w h

  pub message-none : shift_refusal s c n e ≡ 0 → (kind_refusal 1023 1024 s ≡ 0) × (first (grid_tests g c n e) ≡ 0)
  unfolding kind_refusal shift_refusal
  message-none h = passes reading (grid_tests g c n e) tt h

  module _ (h : kind_refusal 1023 1024 s ≡ 0) where
    pub message-passed : first (grid_tests g c n e) ≡ shift_refusal s c n e
    unfolding kind_refusal shift_refusal
    message-passed = goes_on reading (grid_tests g c n e) tt h

    pub message-grid : grid_of (says (kind_row 1023 1024 s)) ≡ g
    unfolding kind_row
    message-grid = rw (eq-eqb (kind_refusal 1023 1024 s) 0 h)

    abbrev r : Kind 1023 1024 s
    r = kind-of 1023 1024 s h

    row_is : grid_row g ≡ row s
    row_is = ap grid_row (sym message-grid) ∙ grid-row s h

    -- the record of a message is one that a message holds
    pub message-held : grid_held g ≡ true
    message-held =
        held-row (grid_row g)
        ∙ rw (
          row_is,
          row_number s r.accepted,
          le-leb 1023 (number_of s) r.low,
          le-leb (number_of s) 1024 r.high,
          row-layout-of s r.accepted,
          all-taken (layout s) (row s) (row-taken s r.accepted),
        )

    pub message-fields : Held g
    message-fields = record-fields g message-held
