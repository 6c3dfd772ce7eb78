-- `record_transformations::name_at` meets its contract: a loop that fills the characters from the front.
-- Assumes nothing.
use Prim.Native.Nat.{ℕ}
use mathlib.Core.Path.{◌≡◌, refl, ap, ◌∙◌}
use mathlib.Core.List.{List, ◌++◌}
use native.Mathlib.Omega.{arith}
use lib.ListN.{drop, replicate}
use Rattle.arith.specs.Lists.{up_to}
use Rattle.layout.specs.Layout.{row_of}
use Rattle.arith.proofs.Lists.{fill-turn, drop-replicate}
use Rattle.record_transformations.specs.Transformations.{name_at}
use Rattle.record_rows.specs.Numbers.{says, counter_at}
use Rattle.record_rows.proofs.Rows.{counter-most}
use Rattle.record_transformations.proofs.name_at.Invariants.{char_from}
use Rattle.record_transformations.proofs.name_at.Goals as goal

pub loop-j-init : goal.loop-j-init
loop-j-init c = (omega arith, refl)

pub loop-j-preserved : goal.loop-j-preserved
loop-j-preserved c = let l = c.loop-j in
    let a = c.args in
    let v = says (row_of a.values.now a.present.now) in
    let m = counter-most v a.k in (
      omega arith,
      fill-turn (char_from v a.k) (replicate 31 0) _ l.j _ 0 l.invariant.1
          c.char_at.ensures (omega arith),
    )

pub returns : goal.returns
unfolding name_at
returns c = let l = c.loop-j in
    let a = c.args in
    let v = says (row_of a.values.now a.present.now) in
    let f = char_from v a.k in
    let n = counter_at v a.k in
    let long : c.counter_at-length.result ≡ n = c.counter_at-length.ensures.value in
    let e : l.j ≡ n = omega arith in
    λ i. record {
      length = long i;
      chars = (l.invariant.1 ∙ ap (λ (m : ℕ). up_to f m ++ drop m (replicate 31 0)) e ∙ ap (λ (r : List ℕ). up_to f n ++ r) (drop-replicate 31 n 0)) i;
    }

pub char_at-requires : goal.char_at-requires
char_at-requires c = tt
