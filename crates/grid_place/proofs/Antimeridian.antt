-- Differences of longitudes: what whole turns leave, that it is the only such number, and that it is the same on both sides of the antimeridian.
-- Assumes nothing.
use mathlib.Core.Path.{◌≡◌, ap, ◌∙◌}
use Prim.Native.Nat.{◌+◌, ◌-◌, ◌/◌, ◌%◌, ◌<◌}
use native.Mathlib.Omega.{arith}
use native.Mathlib.Nat.{mod-lt, div-add-mod'}
use lib.IntN.{ℤ, pos, negsuc, neg_ℤ, ◌+ℤ◌, ◌-ℤ◌, ◌*ℤ◌}
use lib.Signed.{◌≤ℤ◌, ◌<ℤ◌}
use Rattle.arith.proofs.Int.{over, under, Ex, at, nat, minus, ◌⊞◌, ◌⊟◌, ◌⊠◌, ring, order, order_lt, known, known-lt}
use Rattle.grid_place.specs.Position.{turn, half_turn, without_turns, by_turns}

some : 0 < turn
some = omega arith

-- the turns that are added to w
abbrev turns-in : ℤ → ℤ
turns-in (pos n) = neg_ℤ (pos (n / turn))
turns-in (negsuc n) = pos (n / turn + 1)

remains : (w : ℤ) → pos (without_turns w) ≡ w +ℤ turns-in w *ℤ pos turn
remains (pos n) = ring (nat (n % turn)) (nat n ⊞ minus (nat (n / turn)) ⊠ nat turn) (omega (arith, div-add-mod' n turn))
remains (negsuc n) =
    ring (nat (turn - 1 - n % turn)) (at (negsuc n) ⊞ nat (n / turn + 1) ⊠ nat turn) (omega (arith, div-add-mod' n turn, mod-lt n some))

less : (w : ℤ) → without_turns w < turn
less (pos n) = mod-lt n some
less (negsuc n) = omega arith

abbrev pub turns_of : ℤ → ℤ
turns_of z = turns-in (z +ℤ pos half_turn)

module _ (z : ℤ) where
  pub turned_same : by_turns z ≡ z +ℤ turns_of z *ℤ pos turn
  unfolding by_turns
  turned_same =
      ap (λ (x : ℤ). x -ℤ pos half_turn) (remains (z +ℤ pos half_turn))
      ∙ ring ((at z ⊞ nat half_turn) ⊞ at (turns_of z) ⊠ nat turn ⊟ nat half_turn) (at z ⊞ at (turns_of z) ⊠ nat turn) (omega arith)

  pub turned-low : neg_ℤ (pos half_turn) ≤ℤ by_turns z
  unfolding by_turns
  turned-low = order (minus (nat half_turn)) (nat (without_turns (z +ℤ pos half_turn)) ⊟ nat half_turn) (omega arith)

  pub turned-high : by_turns z <ℤ pos half_turn
  unfolding by_turns
  turned-high = order_lt (nat (without_turns (z +ℤ pos half_turn)) ⊟ nat half_turn) (nat half_turn) (omega (arith, less (z +ℤ pos half_turn)))

-- two numbers of one half-open turn that differ by whole turns are the same
pub turned-only : (z k r : ℤ) → r ≡ z +ℤ k *ℤ pos turn → neg_ℤ (pos half_turn) ≤ℤ r → r <ℤ pos half_turn → r ≡ by_turns z
turned-only z k r e l h =
    let j = turns_of z in
    let q = by_turns z in
    ring (at r) (at q)
    (omega (
      arith,
      equal (at r) (at z ⊞ at k ⊠ nat turn) e,
      equal (at q) (at z ⊞ at j ⊠ nat turn) (turned_same z),
      known (minus (nat half_turn)) (at r) l,
      known-lt (at r) (nat half_turn) h,
      known (minus (nat half_turn)) (at q) (turned-low z),
      known-lt (at q) (nat half_turn) (turned-high z),
    ))
  where
    equal : (a b : Ex) → a.val ≡ b.val → a.p + b.n ≡ b.p + a.n
    equal a b e = omega (arith, a.ok, b.ok, ap over e, ap under e)
