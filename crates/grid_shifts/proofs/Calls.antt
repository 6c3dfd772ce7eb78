-- Laws of the two calls: they agree, every cell that holds a place gives the answer, a node without weight is not asked for, and sum and count are bounded.
-- Assumes nothing.
use mathlib.Core.Path.{◌≡◌, sym, ap, ap₂, ◌∙◌}
use mathlib.Core.Bool.{Bool, false, cond}
use mathlib.Core.List.{List}
use Prim.Native.Nat.{ℕ, suc, ◌*◌, ◌≤◌, ◌<◌}
use lib.IntN.{ℤ, nat_abs, ◌+ℤ◌}
use lib.Dec.{T}
use lib.Ieee.{binary64, whole, of_int, to_signed}
use Rattle.arith.specs.First.{first}
use Rattle.record_grids.specs.declared.Grid.{Grid}
use Rattle.record_grids.specs.Grids.{grid_of, settings_of}
use Rattle.record_rows.specs.Numbers.{says}
use Rattle.message_rows.specs.Message.{row, kind_refusal}
use Rattle.grid_bilinear.specs.Bilinear.{nearest_whole, from_edge, outside, exact}
use Rattle.grid_bilinear.proofs.Edges.{shared-exact, shared-absent}
use Rattle.grid_shifts.specs.Shift.{surface, north_of, east_of, outcome, in_cell_shift, shift_with, shift_refusal, record_shift, message_shift}
use Rattle.grid_refusals.specs.Refusals.{field_tests}
use Rattle.grid_shifts.specs.Private.{Held}
use Rattle.grid_shifts.proofs.Floats.{lossless}
use Rattle.grid_place.proofs.Places.{early, spacings, both-pass}
use Rattle.grid_shifts.proofs.Parts.{in-out, sum_below, whole-most}
use Rattle.grid_shifts.proofs.Accepted.{message-none, message-passed, message-held, message-fields, record-passed}
use Rattle.grid_shifts.proofs.Lipschitz.{placed, counted}

-- ---- of a message

module _ (s : List ℕ) (c : ℕ) (n e : ℤ) where
  abbrev g : Grid
  g = grid_of (says (row s))

  module _ (h : shift_refusal s c n e ≡ 0) where
    fields : Held g
    fields = message-fields s c n e (message-none s c n e h).0

    pub sum-below-limit :
        2 * nat_abs (exact (surface g c) (nat_abs (from_edge (surface g c).H (north_of g n))) (nat_abs (from_edge (surface g c).W (east_of g e)))) < 8600000000000000000
    sum-below-limit = sum_below g c n e fields (placed s c n e h).found

    pub count-lossless : T (whole binary64 (of_int binary64 (message_shift s c n e).count)) × (to_signed 63 (of_int binary64 (message_shift s c n e).count) ≡ (message_shift s c n e).count)
    count-lossless = rw (counted s c n e h) (lossless _ (whole-most g c n e fields (placed s c n e h).found))

  module _ (h : kind_refusal 1023 1024 s ≡ 0) where
    pub calls-agree : record_shift g c n e ≡ message_shift s c n e
    unfolding record_shift message_shift
    calls-agree = ap (shift_with g c n e) (sym (record-passed g c n e (message-held s c n e h)) ∙ message-passed s c n e h)

    -- every cell that holds the place gives the answer
    module _
        (f : first (field_tests (settings_of g) c n e) ≡ 0)
        (a : outside (surface g c).H (north_of g n) ≡ false)
        (b : outside (surface g c).W (east_of g e) ≡ false)
        (k l : ℕ)
        (hk : k ≤ 2)
        (hl : l ≤ 2) where
      abbrev Y : ℕ
      Y = nat_abs (from_edge (surface g c).H (north_of g n))

      abbrev X : ℕ
      X = nat_abs (from_edge (surface g c).W (east_of g e))

      pub shared-answer : k * (surface g c).H ≤ Y → Y ≤ suc k * (surface g c).H → l * (surface g c).W ≤ X → X ≤ suc l * (surface g c).W
          → message_shift s c n e ≡ in_cell_shift g c k l Y X
      unfolding message_shift surface north_of east_of
      shared-answer p q r t =
          let d = spacings (settings_of g) n e (message-fields s c n e h).settings (early (settings_of g) c n e f) in
          ap (shift_with g c n e) (sym (message-passed s c n e h)) ∙ sym (in-out g c n e (both-pass (settings_of g) c n e f a b))
          ∙ ap₂
          (λ (m : Bool) (z : ℤ). outcome g.number c (cond m 15 0) ((surface g c).mean +ℤ nearest_whole z ((surface g c).H * (surface g c).W)))
          (shared-absent (surface g c) d.0.0 d.1.0 k l Y X hk hl p q r t)
          (unfold exact in shared-exact (surface g c) d.0.0 d.1.0 k l Y X hk hl p q r t)
