-- What is read at its bit in a message that is a grid is what the message's row says.
-- Assumes nothing.
use Prim.Native.Nat.{ℕ, suc, ◌+◌, ◌≤◌, ◌<◌}
use native.Mathlib.Nat.{eq-or-lt_of_le}
use native.Mathlib.Omega.{arith}
use mathlib.Core.Logic.{⊎_elim}
use mathlib.Core.Path.{◌≡◌, refl, sym, ap, ◌∙◌}
use mathlib.Core.List.{List, ◌∷◌}
use lib.ListN.{length, get_or, take, drop}
use lib.Seq.{split_at}
use Rattle.field.specs.Inner.{field_at}
use Rattle.field.proofs.Place.{field-inside}
use Rattle.layout.specs.Layout.{width, total}
use Rattle.layout.proofs.Round.{total-append, total-most, accepted}
use Rattle.layout_tables.specs.Layouts.{layout_of}
use Rattle.layout_tables.proofs.Length.{length-1023, length-1024, total-1023, total-1024}
use Rattle.record_rows.specs.Numbers.{says}
use Rattle.message_rows.specs.Message.{number_of, layout, row, kind_refusal}
use Rattle.message_rows.proofs.Head.{number_read, head_of, head_passed, accepted-head}
use Rattle.message_rows.proofs.OneKind.{kind-of}
use Rattle.message_rows.proofs.Trips.{row-place}
use Rattle.grid_fields.specs.Inner.{grid_layout, grid_says}

-- a field ends within its layout
within : (es : List ℕ) (k : ℕ) → k < length es → total (take k es) + width (get_or es k 0) ≤ total es
unfolding total
within es k h =
    let e : total es ≡ total (take k es) + total (get_or es k 0 ∷ drop (suc k) es) = ap total (split_at es k 0 h) ∙ total-append (take k es) (get_or es k 0 ∷ drop (suc k) es) in
    omega (arith, e)

module _ (s : List ℕ) (e : kind_refusal 1023 1024 s ≡ 0) where
  -- the layout by DF002 is the message's, of 64 fields
  grid-layout : (grid_layout s ≡ layout s) × (length (layout s) ≡ 64)
  unfolding grid_layout layout layout_of
  grid-layout =
      let d = kind-of 1023 1024 s e in
      let n : field_at s 0 12 ≡ number_of s = number_read s (head_of s (accepted-head s d.accepted)).long in
      ⊎_elim
      (λ (q : 1023 ≡ number_of s). rw (n, ← q) (refl, length-1023))
      (λ (l : 1023 < number_of s). let q : number_of s ≡ 1024 = omega (arith, d.high) in rw (n, q) (refl, length-1024))
      (eq-or-lt_of_le d.low)

  -- each field of the message, DF002 being field 0
  pub grid-says : (k : ℕ) → k < 64 → grid_says s k ≡ says (row s) k
  unfolding grid_says
  grid-says k h =
      let r = (kind-of 1023 1024 s e).accepted in
      let g = grid-layout in
      let a = accepted (layout s) s (sym (head_passed s (accepted-head s r)) ∙ r) in
      let l : k < length (layout s) = omega (arith, g.1) in
      let p : ℕ = total (take k (layout s)) in
      let w : ℕ = width (get_or (layout s) k 0) in
      rw (g.0, field-inside s p w (omega arith) (omega (arith, within (layout s) k l, total-most (layout s), g.1)) (omega (arith, within (layout s) k l, a.sized)))
      (sym (row-place s r k l))

  grid-total : 568 ≤ total (layout s)
  unfolding layout layout_of
  grid-total =
      let d = kind-of 1023 1024 s e in
      ⊎_elim
      (λ (q : 1023 ≡ number_of s). rw (← q, total-1023) (omega arith))
      (λ (l : 1023 < number_of s). let q : number_of s ≡ 1024 = omega (arith, d.high) in rw (q, total-1024) (omega arith))
      (eq-or-lt_of_le d.low)

  -- the message has the bytes of its nodes and methods
  pub grid-long : 71 ≤ length s
  grid-long =
      let r = (kind-of 1023 1024 s e).accepted in
      let a = accepted (layout s) s (sym (head_passed s (accepted-head s r)) ∙ r) in
      omega (arith, grid-total, a.sized)
