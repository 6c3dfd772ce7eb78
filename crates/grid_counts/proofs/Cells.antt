-- From what the mean and the nodes of a cell say to the answer.
-- Assumes nothing.
use Rattle.std.proofs.Common.{Option, Some, None}
use mathlib.Core.Path.{◌≡◌, refl, sym, ap, ◌∙◌}
use mathlib.Core.Bool.{Bool, true, false, not, cond, ◌&&◌}
use Prim.Native.Nat.{ℕ}
use lib.Dec.{eqb}
use lib.IntN.{ℤ}
use Rattle.arith.proofs.Tests.{false-ne-true}
use Rattle.layout.specs.Layout.{value_in, available}
use Rattle.grid_bilinear.specs.Bilinear.{lacks}
use Rattle.grid_cell.specs.declared.Corners.{Corners}
use Rattle.grid_cell.specs.declared.Weights.{Weights}
use Rattle.grid_fields.specs.declared.Nodes.{Nodes}
use Rattle.grid_counts.specs.Inner.{values_in, lacking, count_at, cell_count}
use Rattle.grid_counts.specs.Counts.{refused_with}
use Rattle.grid_counts.specs.Private.{asked}
use Rattle.grid_counts.specs.declared.Counted.{Counted}

-- ---- what a node of weight w says

differ : {z : ℤ} → Some z ≡ None → ⊥
differ e = false-ne-true (sym (ap available e))

none : (b : Bool) (r : Option ℤ) → cond b (Some (value_in r)) r ≡ None → (not b && not (available r)) ≡ true
none true r e = absurd (differ e)
none false (Some z) e = absurd (differ e)
none false None e = refl

some : (b : Bool) (r : Option ℤ) {z : ℤ} → cond b (Some (value_in r)) r ≡ Some z → ((not b && not (available r)) ≡ false) × (z ≡ value_in r)
some true r e = (refl, sym (ap value_in e))
some false (Some z) e = (refl, sym (ap value_in e))
some false None e = absurd (differ (sym e))

module _ (w : ℕ) (r : Option ℤ) {q : Option ℤ} (h : q ≡ asked w r) where
  pub missing : q ≡ None → lacks w (available r) ≡ true
  unfolding lacks
  missing e = none (eqb w 0) r (sym h ∙ e)

  pub given : {z : ℤ} → q ≡ Some z → (lacks w (available r) ≡ false) × (z ≡ value_in r)
  unfolding lacks
  given e = some (eqb w 0) r (sym h ∙ e)

-- ---- the answers in a cell

abbrev counts : ℤ → Counted
counts z = record { refusal = 0; count = z }

module _ (number : ℤ) (c : ℕ) (mean : Option ℤ) (n : Nodes) (k : Weights) (s : Counted) where
  abbrev lack : Bool
  lack = lacking mean n k

  abbrev count : ℤ
  count = count_at number c (value_in mean) (values_in n) k

  absent-out : lack ≡ true → s ≡ refused_with 15 → s ≡ cell_count number c mean n k
  unfolding cell_count
  absent-out e r = r ∙ rw e

  present-out : lack ≡ false → s ≡ counts count → s ≡ cell_count number c mean n k
  unfolding cell_count
  present-out e h = h ∙ rw e

  pub mean-out : available mean ≡ false → s ≡ refused_with 15 → s ≡ cell_count number c mean n k
  mean-out e = absent-out (rw e)

  module _ (m : available mean ≡ true) where
    pub sw-out : lacks k.sw (available n.sw) ≡ true → s ≡ refused_with 15 → s ≡ cell_count number c mean n k
    sw-out e = absent-out (rw (m, e))

    module _ (a : lacks k.sw (available n.sw) ≡ false) where
      pub se-out : lacks k.se (available n.se) ≡ true → s ≡ refused_with 15 → s ≡ cell_count number c mean n k
      se-out e = absent-out (rw (m, a, e))

      module _ (b : lacks k.se (available n.se) ≡ false) where
        pub nw-out : lacks k.nw (available n.nw) ≡ true → s ≡ refused_with 15 → s ≡ cell_count number c mean n k
        nw-out e = absent-out (rw (m, a, b, e))

        module _ (d : lacks k.nw (available n.nw) ≡ false) where
          pub ne-out : lacks k.ne (available n.ne) ≡ true → s ≡ refused_with 15 → s ≡ cell_count number c mean n k
          ne-out e = absent-out (rw (m, a, b, d, e))

          pub all_in : lacks k.ne (available n.ne) ≡ false → {v u z y : ℤ} {w : Corners} → s ≡ counts v → v ≡ u → u ≡ count_at z c y w k
              → z ≡ number → y ≡ value_in mean → w ≡ values_in n → s ≡ cell_count number c mean n k
          all_in e o h g i j l = present-out (rw (m, a, b, d, e)) (o ∙ ap counts (h ∙ g ∙ (λ x. count_at (i x) c (j x) (l x) k)))
