-- `record_transformations::helmert_of` meets its contract: each part is read where the definition reads it.
-- Assumes nothing.
use mathlib.Core.Path.{ap, ◌∙◌}
use Prim.Native.Nat.{ℕ, ◌+◌}
use native.Mathlib.Omega.{arith}
use Rattle.layout.specs.Layout.{row_of}
use Rattle.arith.proofs.Back.{held}
use Rattle.record_transformations.specs.Transformations.{helmert_of, system_at, area_at, parameters_at, ellipsoids_at}
use Rattle.record_rows.specs.Numbers.{says, pair_at}
use Rattle.record_transformations.proofs.helmert_of.Goals as goal

pub returns : goal.returns
unfolding helmert_of
returns c = let a = c.args in
    let v = says (row_of a.values.now a.present.now) in
    let b = c.behind_names-b.ensures.value in
    λ i. record {
      number = (held _ c.number_at.type_inv ∙ c.number_at.ensures) i;
      source = c.name_at.ensures i;
      target = c.target_of.ensures i;
      system = (c.system_at.ensures ∙ ap (system_at v) b) i;
      area = (c.area_at.ensures ∙ ap (λ (k : ℕ). area_at v (k + 5)) b) i;
      parameters = (c.parameters_at.ensures ∙ ap (λ (k : ℕ). parameters_at v (k + 9)) b) i;
      ellipsoids = (c.ellipsoids_at.ensures ∙ ap (λ (k : ℕ). ellipsoids_at v (k + 16)) b) i;
      quality = (c.pair_at.ensures ∙ ap (λ (k : ℕ). pair_at v (k + 20)) b) i;
    }

pub system_at-requires : goal.system_at-requires
system_at-requires c = omega (arith, c.behind_names-b.ensures.upper_bound)

pub overflow_add-b : goal.overflow_add-b
overflow_add-b c = omega (arith, c.behind_names-b.ensures.upper_bound)

pub area_at-requires : goal.area_at-requires
area_at-requires c = omega (arith, c.behind_names-b.ensures.upper_bound)

pub overflow_add-b-2 : goal.overflow_add-b-2
overflow_add-b-2 c = omega (arith, c.behind_names-b.ensures.upper_bound)

pub parameters_at-requires : goal.parameters_at-requires
parameters_at-requires c = omega (arith, c.behind_names-b.ensures.upper_bound)

pub overflow_add-b-3 : goal.overflow_add-b-3
overflow_add-b-3 c = omega (arith, c.behind_names-b.ensures.upper_bound)

pub ellipsoids_at-requires : goal.ellipsoids_at-requires
ellipsoids_at-requires c = omega (arith, c.behind_names-b.ensures.upper_bound)

pub overflow_add-b-4 : goal.overflow_add-b-4
overflow_add-b-4 c = omega (arith, c.behind_names-b.ensures.upper_bound)

pub pair_at-requires : goal.pair_at-requires
pair_at-requires c = tt
