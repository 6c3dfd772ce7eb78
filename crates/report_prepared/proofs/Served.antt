-- Prepared numbers serve: on or between the edges of a grid in which one position has a place, a count asks for no more of the message.
-- Assumes nothing.
use mathlib.Core.Path.{◌≡◌, refl, sym, ap, ◌∙◌, subst}
use mathlib.Core.Bool.{Bool, true, false, not, cond, ◌&&◌, ◌||◌}
use mathlib.Core.List.{List, ◌∷◌}
use Prim.Native.Nat.{ℕ, ◌+◌, ◌*◌, ◌-◌, ◌/◌, ◌≤◌, ◌<◌}
use native.Mathlib.Omega.{arith}
use borrow.Author.Tests.{le-ltb, ltb-false, eq-eqb, eqb-true}
use lib.Dec.{eqb, ltb}
use lib.IntN.{ℤ, pos, neg_ℤ, nat_abs, ◌+ℤ◌, ◌-ℤ◌, ◌*ℤ◌}
use lib.ListN.{get_or, drop}
use lib.Signed.{◌≤ℤ◌, ◌<ℤ◌}
use Rattle.arith.specs.First.{Test, first}
use Rattle.arith.proofs.First.{passed, or-false}
use Rattle.arith.proofs.Int.{at, nat, minus, ◌⊞◌, ◌⊟◌, ◌⊠◌, ring, order, order_lt, known, abs-above, abs-within, within-abs, abs-most}
use Rattle.arith.proofs.Lists.{get_d-up_to}
use Rattle.arith.proofs.Tests.{all-at, both_first, both-second}
use Rattle.layout.specs.Layout.{value_in, available}
use Rattle.record_grids.specs.declared.Settings.{Settings}
use Rattle.grid_refusals.specs.Refusals.{beyond, ellipsoidal, field_tests}
use Rattle.grid_bilinear.specs.Bilinear.{from_edge, outside, cell, lacks}
use Rattle.grid_bilinear.proofs.Place.{steps-are, cell-le}
use Rattle.grid_direction.specs.Inner.{along_of}
use Rattle.grid_cell.specs.Inner.{count_by}
use Rattle.grid_cell.specs.declared.Corners.{Corners}
use Rattle.grid_cell.specs.declared.Weights.{Weights}
use Rattle.grid_direction.proofs.Placed.{along-steps, along-cell}
use Rattle.grid_fields.specs.Inner.{mean_says, node_says, nodes_said, cell_says}
use Rattle.grid_fields.specs.declared.Nodes.{Nodes}
use Rattle.grid_place.specs.Position.{turn, half_turn, by_turns, steps_of, height_of, width_of, north_from, east_from, place_tests}
use Rattle.grid_place.specs.Inner.{settings_held, place_of, held_place}
use Rattle.grid_place.specs.Private.{Fields}
use Rattle.grid_place.specs.declared.Located.{Located}
use Rattle.grid_place.proofs.Antimeridian.{turns_of, turned_same, turned-only}
use Rattle.grid_place.proofs.Held.{held-fields, held_place_lem, no-frame}
use Rattle.grid_place.proofs.Places.{Inside, inside, Spaced, spacings, in_cell_lem, located-refusal, located-in, placed-passes, both-in}
use Rattle.grid_counts.specs.Counts.{node_factor, mean_factor}
use Rattle.grid_counts.specs.Inner.{values_in, lacking, cell_count}
use Rattle.grid_component.specs.Inner.{counted_by}
use Rattle.grid_component.specs.declared.Kept.{Kept}
use Rattle.report_prepared.specs.declared.Prepared.{Prepared}
use Rattle.report_prepared.specs.Inner.{node_value, node_available, node_values, nodes_available, no_edges, around_of, refusal_at, edges_at, prepared_of}
use Rattle.report_prepared.specs.Private.{Near, Between, corners_of, count_in, Serves}

-- ---- along one direction: a position x, where x₀ has the difference u₀ and the steps t₀ from the edge

module _ (d : ℕ) (x₀ x u₀ : ℤ) (o : outside d u₀ ≡ false) where
  abbrev t₀ : ℕ
  t₀ = nat_abs (from_edge d u₀)

  -- the steps from the edge x₀ - t₀
  steps-from : from_edge d (u₀ +ℤ (x -ℤ x₀)) ≡ x -ℤ (x₀ -ℤ pos t₀)
  unfolding from_edge
  steps-from =
      ring (at u₀ ⊞ (at x ⊟ at x₀) ⊞ nat (3 * (d / 2))) (at x ⊟ at x₀ ⊞ (at u₀ ⊞ nat (3 * (d / 2)))) (omega arith)
      ∙ ap (λ (z : ℤ). x -ℤ x₀ +ℤ z) (steps-are d u₀ o)
      ∙ ring (at x ⊟ at x₀ ⊞ nat t₀) (at x ⊟ (at x₀ ⊟ nat t₀)) (omega arith)

  module _ (a : (x₀ -ℤ pos t₀) ≤ℤ x) (b : x ≤ℤ (x₀ -ℤ pos t₀ +ℤ pos (3 * d))) where
    abbrev t : ℕ
    t = nat_abs (x -ℤ (x₀ -ℤ pos t₀))

    steps-is : x -ℤ (x₀ -ℤ pos t₀) ≡ pos t
    steps-is = abs-above (order (nat 0) (at x ⊟ (at x₀ ⊟ nat t₀)) (omega (arith, known (at x₀ ⊟ nat t₀) (at x) a)))

    steps-most : t ≤ 3 * d
    steps-most =
        abs-most (order (nat 0) (at x ⊟ (at x₀ ⊟ nat t₀)) (omega (arith, known (at x₀ ⊟ nat t₀) (at x) a)))
        (order (at x ⊟ (at x₀ ⊟ nat t₀)) (nat (3 * d)) (omega (arith, known (at x) (at x₀ ⊟ nat t₀ ⊞ nat (3 * d)) b)))

    still-inside : outside d (u₀ +ℤ (x -ℤ x₀)) ≡ false
    unfolding outside
    still-inside = rw (steps-from, steps-is, le-ltb t 0 (omega arith)) (le-ltb (3 * d) t steps-most)

    -- less than half a turn from the origin
    near : d ≤ 40950000 → (neg_ℤ (pos half_turn) ≤ℤ (u₀ +ℤ (x -ℤ x₀))) × ((u₀ +ℤ (x -ℤ x₀)) <ℤ pos half_turn)
    unfolding from_edge
    near h =
        let v = u₀ +ℤ (x -ℤ x₀) in
        let is : v ≡ pos t -ℤ pos (3 * (d / 2)) =
        ring (at v) (at v ⊞ nat (3 * (d / 2)) ⊟ nat (3 * (d / 2))) (omega arith) ∙ ap (λ (z : ℤ). z -ℤ pos (3 * (d / 2))) (steps-from ∙ steps-is) in (
          subst (λ (z : ℤ). neg_ℤ (pos half_turn) ≤ℤ z) (sym is) (order (minus (nat half_turn)) (nat t ⊟ nat (3 * (d / 2))) (omega arith)),
          subst (λ (z : ℤ). z <ℤ pos half_turn) (sym is) (order_lt (nat t ⊟ nat (3 * (d / 2))) (nat half_turn) (omega (arith, steps-most))),
        )

-- ---- the difference east

turned_by : (d t : ℤ) → neg_ℤ (pos half_turn) ≤ℤ (by_turns d +ℤ t) → (by_turns d +ℤ t) <ℤ pos half_turn → by_turns (d +ℤ t) ≡ by_turns d +ℤ t
turned_by d t a b =
    sym
    (turned-only (d +ℤ t) (turns_of d) (by_turns d +ℤ t)
    (ap (λ (z : ℤ). z +ℤ t) (turned_same d) ∙ ring (at d ⊞ at (turns_of d) ⊠ nat turn ⊞ at t) (at d ⊞ at t ⊞ at (turns_of d) ⊠ nat turn) (omega arith))
    a b)

by-turns : (b : Bool) (d t : ℤ) → (neg_ℤ (pos half_turn) ≤ℤ (cond b (by_turns d) d +ℤ t)) × ((cond b (by_turns d) d +ℤ t) <ℤ pos half_turn)
    → cond b (by_turns (d +ℤ t)) (d +ℤ t) ≡ cond b (by_turns d) d +ℤ t
by-turns true d t h = turned_by d t h.0 h.1
by-turns false d t h = refl

-- ---- the limits of a position

abs-between : (a x b : ℤ) (m : ℕ) → a ≤ℤ x → x ≤ℤ b → nat_abs a ≤ m → nat_abs b ≤ m → nat_abs x ≤ m
abs-between a x b m h k p q =
    let low = within-abs (at a) p in
    let high = within-abs (at b) q in
    abs-within (at x) (omega (arith, known (at x) (at b) k, high.0)) (omega (arith, known (at a) (at x) h, low.1))

in-limits : (n₁ n n₂ e₁ e e₂ : ℤ) (p q : ℕ) → n₁ ≤ℤ n → n ≤ℤ n₂ → e₁ ≤ℤ e → e ≤ℤ e₂ → (ltb p (nat_abs n₁) || ltb q (nat_abs e₁)) ≡ false → (ltb p (nat_abs n₂) || ltb q (nat_abs e₂)) ≡ false
    → (ltb p (nat_abs n) || ltb q (nat_abs e)) ≡ false
in-limits n₁ n n₂ e₁ e e₂ p q a b c d h k =
    let s = or-false (ltb p (nat_abs n₁)) (ltb q (nat_abs e₁)) h in
    let t = or-false (ltb p (nat_abs n₂)) (ltb q (nat_abs e₂)) k in
    rw (le-ltb p (nat_abs n) (abs-between n₁ n n₂ p a b (ltb-false p (nat_abs n₁) s.0) (ltb-false p (nat_abs n₂) t.0)))
    (le-ltb q (nat_abs e) (abs-between e₁ e e₂ q c d (ltb-false q (nat_abs e₁) s.1) (ltb-false q (nat_abs e₂) t.1)))

not_beyond : (z : Bool) (n₁ n n₂ e₁ e e₂ : ℤ) → n₁ ≤ℤ n → n ≤ℤ n₂ → e₁ ≤ℤ e → e ≤ℤ e₂
    → cond z (ltb 3240000000 (nat_abs n₁) || ltb 6480000000 (nat_abs e₁)) (ltb 1000000000000 (nat_abs n₁) || ltb 1000000000000 (nat_abs e₁)) ≡ false
    → cond z (ltb 3240000000 (nat_abs n₂) || ltb 6480000000 (nat_abs e₂)) (ltb 1000000000000 (nat_abs n₂) || ltb 1000000000000 (nat_abs e₂)) ≡ false
    → cond z (ltb 3240000000 (nat_abs n) || ltb 6480000000 (nat_abs e)) (ltb 1000000000000 (nat_abs n) || ltb 1000000000000 (nat_abs e)) ≡ false
not_beyond true n₁ n n₂ e₁ e e₂ a b c d h k = in-limits n₁ n n₂ e₁ e e₂ 3240000000 6480000000 a b c d h k
not_beyond false n₁ n n₂ e₁ e e₂ a b c d h k = in-limits n₁ n n₂ e₁ e e₂ 1000000000000 1000000000000 a b c d h k

other : (a b c : Bool) (ts : List Test) → first ((8, a) ∷ (9, b) ∷ ts) ≡ 0 → c ≡ false → first ((8, a) ∷ (9, c) ∷ ts) ≡ 0
other a b c ts h e = let p = passed 7 a _ h in rw (p.0, e) (passed 8 b _ p.1).1

-- ---- the place

module _ (f : Settings) (c : ℕ) (n₀ e₀ : ℤ) (z : (held_place f c n₀ e₀).refusal ≡ 0) where
  abbrev h : ℕ
  h = height_of f

  abbrev w : ℕ
  w = width_of f

  abbrev u₀ : ℤ
  u₀ = north_from f n₀

  abbrev v₀ : ℤ
  v₀ = east_from f e₀

  abbrev q : Located
  q = held_place f c n₀ e₀

  is_held : settings_held f ≡ true
  is_held = by (settings_held f) refl
    where
      none : settings_held f ≡ false → ⊥
      none y = let five : ◌≡◌ {A = ℕ} 5 0 = ap (λ (p : Located). p.refusal) (no-frame f y c n₀ e₀) ∙ z in absurd (omega arith)

      by : (b : Bool) → settings_held f ≡ b → settings_held f ≡ true
      by true y = y
      by false y = absurd (none y)

  fields : Fields f
  fields = held-fields f is_held

  none : first (place_tests f c n₀ e₀) ≡ 0
  none = sym (located-refusal f c n₀ e₀) ∙ ap (λ (p : Located). p.refusal) (sym (held_place_lem f fields c n₀ e₀)) ∙ z

  in-grid : Inside f n₀ e₀
  in-grid = inside f c n₀ e₀ none

  sizes : Spaced h × Spaced w
  sizes = spacings f n₀ e₀ fields in-grid.early

  found : q ≡ place_of (along_of h u₀) (along_of w v₀) h w
  found = held_place_lem f fields c n₀ e₀ ∙ located-in f c n₀ e₀ none

  -- the position is near the place's edges
  pub near-is : Near q n₀ e₀
  near-is =
      let u = in_cell_lem h u₀ sizes.0 in-grid.north in
      let v = in_cell_lem w v₀ sizes.1 in-grid.east in
      subst (λ (r : Located). Near r n₀ e₀) (sym found)
      (record {
        north = in-grid.early.north;
        east = in-grid.early.east;
        cell = (u.0, v.0);
        steps = (u.2, v.2);
        sizes = (sizes.0.1, sizes.1.1);
      })

  -- the steps from the edges
  whole : {a b t : ℕ} → b ≤ t → a ≡ t - b → b + a ≡ t
  whole l e = omega arith

  from-south : q.row * q.height + q.north ≡ nat_abs (from_edge h u₀)
  from-south =
      rw found (whole (in_cell_lem h u₀ sizes.0 in-grid.north).1 refl ∙ along-steps h u₀ sizes.0.0 sizes.0.1 in-grid.north)

  from-west : q.column * q.width + q.east ≡ nat_abs (from_edge w v₀)
  from-west =
      rw found (whole (in_cell_lem w v₀ sizes.1 in-grid.east).1 refl ∙ along-steps w v₀ sizes.1.0 sizes.1.1 in-grid.east)

  abbrev S : ℤ
  S = n₀ -ℤ pos (nat_abs (from_edge h u₀))

  abbrev W : ℤ
  W = e₀ -ℤ pos (nat_abs (from_edge w v₀))

  around-is : (mean : ℤ) (k : ℕ) → around_of q n₀ e₀ mean k
      ≡ record { south = S; north = S +ℤ pos (3 * h); west = W; east = W +ℤ pos (3 * w); height = h; width = w; mean = mean; factor = k }
  around-is mean k =
      (λ i. record {
        south = n₀ -ℤ pos (from-south i);
        north = n₀ -ℤ pos (from-south i) +ℤ pos (3 * (found i).height);
        west = e₀ -ℤ pos (from-west i);
        east = e₀ -ℤ pos (from-west i) +ℤ pos (3 * (found i).width);
        height = (found i).height;
        width = (found i).width;
        mean = mean;
        factor = k;
      })

  module _ (n e : ℤ) (a₁ : S ≤ℤ n) (a₂ : n ≤ℤ (S +ℤ pos (3 * h))) (b₁ : W ≤ℤ e) (b₂ : e ≤ℤ (W +ℤ pos (3 * w)))
      (l₁ : beyond f.number S W ≡ false) (l₂ : beyond f.number (S +ℤ pos (3 * h)) (W +ℤ pos (3 * w)) ≡ false) where
    abbrev y : ℕ
    y = nat_abs (n -ℤ S)

    abbrev x : ℕ
    x = nat_abs (e -ℤ W)

    north-is : north_from f n ≡ u₀ +ℤ (n -ℤ n₀)
    north-is =
        let o = pos (steps_of f.number) *ℤ value_in f.origin.north in
        ring (at n ⊟ at o) (at n₀ ⊟ at o ⊞ (at n ⊟ at n₀)) (omega arith)

    east-is : east_from f e ≡ v₀ +ℤ (e -ℤ e₀)
    east-is =
        let o = pos (steps_of f.number) *ℤ value_in f.origin.east in
        let t : e -ℤ o ≡ e₀ -ℤ o +ℤ (e -ℤ e₀) = ring (at e ⊟ at o) (at e₀ ⊟ at o ⊞ (at e ⊟ at e₀)) (omega arith) in
        (λ i. cond (ellipsoidal f.number) (by_turns (t i)) (t i))
        ∙ by-turns (ellipsoidal f.number) (e₀ -ℤ o) (e -ℤ e₀) (near w e₀ e v₀ in-grid.east b₁ b₂ sizes.1.1)

    north-in : outside h (north_from f n) ≡ false
    north-in = ap (outside h) north-is ∙ still-inside h n₀ n u₀ in-grid.north a₁ a₂

    east-in : outside w (east_from f e) ≡ false
    east-in = ap (outside w) east-is ∙ still-inside w e₀ e v₀ in-grid.east b₁ b₂

    passes : first (field_tests f c n e) ≡ 0
    passes =
        other (ltb 2 c) (beyond f.number n₀ e₀) (beyond f.number n e) (drop 2 (field_tests f c n₀ e₀)) (placed-passes f n₀ e₀ c none)
        (not_beyond (ellipsoidal f.number) S n (S +ℤ pos (3 * h)) W e (W +ℤ pos (3 * w)) a₁ a₂ b₁ b₂ l₁ l₂)

    y-is : nat_abs (from_edge h (north_from f n)) ≡ y
    y-is = ap (λ (u : ℤ). nat_abs (from_edge h u)) north-is ∙ ap nat_abs (steps-from h n₀ n u₀ in-grid.north)

    x-is : nat_abs (from_edge w (east_from f e)) ≡ x
    x-is = ap (λ (u : ℤ). nat_abs (from_edge w u)) east-is ∙ ap nat_abs (steps-from w e₀ e v₀ in-grid.east)

    place_is : held_place f c n e
        ≡ record { refusal = 0; row = cell h y; column = cell w x; north = y - cell h y * h; east = x - cell w x * w; height = h; width = w }
    place_is =
        held_place_lem f fields c n e
        ∙ sym (both-in f c n e passes north-in east-in)
        ∙ (λ i. place_of
        (record { refusal = (along_of h (north_from f n)).refusal; steps = along-steps h (north_from f n) sizes.0.0 sizes.0.1 north-in i; cell = along-cell h (north_from f n) sizes.0.0 sizes.0.1 north-in i })
        (record { refusal = (along_of w (east_from f e)).refusal; steps = along-steps w (east_from f e) sizes.1.0 sizes.1.1 east-in i; cell = along-cell w (east_from f e) sizes.1.0 sizes.1.1 east-in i })
        h w)
        ∙ (λ i. record { refusal = 0; row = cell h (y-is i); column = cell w (x-is i); north = y-is i - cell h (y-is i) * h; east = x-is i - cell w (x-is i) * w; height = h; width = w })

-- ---- the count

module _ (s : List ℕ) (c : ℕ) (all : nodes_available s c ≡ true) where
  node-there : (i : ℕ) → i < 16 → available (node_says s c i) ≡ true
  unfolding nodes_available
  node-there i l = all-at (node_available s c) 16 all i l

  node-is : (i : ℕ) → i < 16 → get_or (node_values s c) i (pos 0) ≡ value_in (node_says s c i)
  unfolding node_values
  node-is i l = get_d-up_to (node_value s c) 16 i (pos 0) l

  lacks-not : (k i : ℕ) → i < 16 → lacks k (available (node_says s c i)) ≡ false
  unfolding lacks
  lacks-not k i l = rw (node-there i l) (go (eqb k 0))
    where
      go : (b : Bool) → (not b && false) ≡ false
      go true = refl
      go false = refl

  module _ (k l : ℕ) (a : k ≤ 2) (b : l ≤ 2) where
    cell-said : cell_says s c k l ≡ nodes_said s c k l
    unfolding cell_says
    cell-said = rw (le-ltb 2 k a, le-ltb 2 l b)

    corners-are : values_in (nodes_said s c k l) ≡ corners_of (node_values s c) k l
    corners-are =
        (λ i. record {
          sw = sym (node-is (4 * (3 - k) + l) (omega arith)) i;
          se = sym (node-is (4 * (3 - k) + (l + 1)) (omega arith)) i;
          nw = sym (node-is (4 * (2 - k) + l) (omega arith)) i;
          ne = sym (node-is (4 * (2 - k) + (l + 1)) (omega arith)) i;
        })

    lacking-not : available (mean_says s c) ≡ true → (g : Weights) → lacking (mean_says s c) (nodes_said s c k l) g ≡ false
    lacking-not m g =
        rw (
          m,
          lacks-not g.sw (4 * (3 - k) + l) (omega arith),
          lacks-not g.se (4 * (3 - k) + (l + 1)) (omega arith),
          lacks-not g.nw (4 * (2 - k) + l) (omega arith),
          lacks-not g.ne (4 * (2 - k) + (l + 1)) (omega arith),
        )

    cell-counted : available (mean_says s c) ≡ true → (number : ℤ) (g : Weights) → cell_count number c (mean_says s c) (cell_says s c k l) g
        ≡ record { refusal = 0; count = count_by (pos mean_factor *ℤ value_in (mean_says s c)) (node_factor number c) (corners_of (node_values s c) k l) g }
    unfolding cell_count
    cell-counted m number g =
        ap (λ (w : Nodes). cell_count number c (mean_says s c) w g) cell-said
        ∙ rw (lacking-not m g) (ap (λ (v : Corners). record { refusal = 0; count = count_by (pos mean_factor *ℤ value_in (mean_says s c)) (node_factor number c) v g }) corners-are)

-- ---- the prepared numbers

module _ (s : List ℕ) (kept : Kept) (c : ℕ) (accepted : kept.refusal ≡ 0) (mean : available (mean_says s c) ≡ true) (nodes : nodes_available s c ≡ true) (n₀ e₀ : ℤ)
    (z : (held_place kept.settings c n₀ e₀).refusal ≡ 0) where
  abbrev f : Settings
  f = kept.settings

  abbrev p : Prepared
  p =
      record {
        south = S f c n₀ e₀ z;
        north = S f c n₀ e₀ z +ℤ pos (3 * height_of f);
        west = W f c n₀ e₀ z;
        east = W f c n₀ e₀ z +ℤ pos (3 * width_of f);
        height = height_of f;
        width = width_of f;
        mean = pos mean_factor *ℤ value_in (mean_says s c);
        factor = node_factor f.number c;
      }

  module _ (l₁ : beyond f.number p.south p.west ≡ false) (l₂ : beyond f.number p.north p.east ≡ false) where
    count-is : (n e : ℤ) → Between p n e → counted_by s kept c n e ≡ record { refusal = 0; count = count_in p (node_values s c) (nat_abs (n -ℤ p.south)) (nat_abs (e -ℤ p.west)) }
    unfolding counted_by count_in
    count-is n e b =
        rw (eq-eqb kept.refusal 0 accepted, place_is f c n₀ e₀ z n e b.south b.north b.west b.east l₁ l₂)
        (cell-counted s c nodes _ _ (cell-le _ _) (cell-le _ _) mean f.number _)

    serves-is : Serves s kept c p (node_values s c)
    serves-is n e b =
        record {
          high = (sizes f c n₀ e₀ z).0;
          wide = (sizes f c n₀ e₀ z).1;
          rows = steps-most (height_of f) n₀ n (north_from f n₀) (in-grid f c n₀ e₀ z).north b.south b.north;
          columns = steps-most (width_of f) e₀ e (east_from f e₀) (in-grid f c n₀ e₀ z).east b.west b.east;
          count = count-is n e b;
        }

  abbrev a : Prepared
  a = around_of (held_place f c n₀ e₀) n₀ e₀ (pos mean_factor *ℤ value_in (mean_says s c)) (node_factor f.number c)

  -- the edges around the place of a position
  around-serves : beyond f.number a.south a.west ≡ false → beyond f.number a.north a.east ≡ false → Serves s kept c a (node_values s c)
  around-serves l₁ l₂ =
      let e = around-is f c n₀ e₀ z (pos mean_factor *ℤ value_in (mean_says s c)) (node_factor f.number c) in
      subst (λ (r : Prepared). Serves s kept c r (node_values s c)) (sym e)
      (serves-is (subst (λ (r : Prepared). beyond f.number r.south r.west ≡ false) e l₁) (subst (λ (r : Prepared). beyond f.number r.north r.east ≡ false) e l₂))

-- ---- edges between which there is no position

none-serves : (s : List ℕ) (kept : Kept) (c : ℕ) (v : List ℤ) → Serves s kept c no_edges v
none-serves s kept c v n e b = absurd (omega (arith, known (nat 1) (at n) b.south, known (at n) (nat 0) b.north))

-- ---- the prepared numbers serve

module _ (s : List ℕ) (kept : Kept) (c : ℕ) where
  abbrev Serve : Prepared → Type 0
  Serve p = Serves s kept c p (node_values s c)

  tested : (b : Bool) (p : Prepared) → (b ≡ true → Serve p) → Serve (cond b p no_edges)
  tested true p h = h refl
  tested false p h = none-serves s kept c (node_values s c)

  abbrev settings : Settings
  settings = kept.settings

  within : (n e : ℤ) → eqb (refusal_at settings.number c n e) 0 ≡ true → beyond settings.number n e ≡ false
  within n e h = (passed 8 (beyond settings.number n e) 0 (passed 7 (ltb 2 c) _ (eqb-true _ 0 h)).1).0

  edges-serve : kept.refusal ≡ 0 → available (mean_says s c) ≡ true → nodes_available s c ≡ true → (n e : ℤ) → Serve (edges_at s settings c n e)
  unfolding edges_at
  edges-serve accepted mean nodes n e =
      let p = around_of (held_place settings c n e) n e (pos mean_factor *ℤ value_in (mean_says s c)) (node_factor settings.number c) in
      let x = eqb (held_place settings c n e).refusal 0 in
      let y = eqb (refusal_at settings.number c p.south p.west) 0 in
      let z = eqb (refusal_at settings.number c p.north p.east) 0 in
      tested (x && y && z) p
      (λ t.
      let u = both_first (x && y) z t in
      around-serves s kept c accepted mean nodes n e (eqb-true _ 0 (both_first x y u)) (within p.south p.west (both-second x y u))
      (within p.north p.east (both-second (x && y) z t)))

  pub serves : Serve (prepared_of s kept c)
  unfolding prepared_of
  serves =
      let x = eqb kept.refusal 0 in
      let y = available (mean_says s c) in
      let z = nodes_available s c in
      tested (x && y && z) _
      (λ t. let u = both_first (x && y) z t in edges-serve (eqb-true _ 0 (both_first x y u)) (both-second x y u) (both-second (x && y) z t) _ _)
