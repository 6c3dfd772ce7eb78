-- The datum step of message 1021: request A12 over formula 3.5-1.
-- Assumes nothing.
use Rattle.std.specs.Prelude.{ℕ, ◌^◌, Bool, not, cond, ◌||◌, List, [], ◌∷◌, eqb, ℤ, pos}
use Rattle.arith.specs.First.{Test, first}
use Rattle.arith.specs.Whole.{same_z}
use Rattle.layout.specs.Layout.{value_in, is_absent}
use Rattle.record_transformations.specs.declared.Parameters.{Parameters}
use Rattle.message_records.specs.Kinds.{read_helmert}
use Rattle.datum_formula.specs.declared.Values.{Values}
use Rattle.datum_formula.specs.declared.Position.{Position}
use Rattle.datum_formula.specs.Formula.{beyond_any, Answered}

-- ---- the seven parameters, DF156 to DF162

-- "one of the seven parameters has no value"
abbrev pub absent : Parameters → Bool
absent p =
    is_absent p.dx || is_absent p.dy || is_absent p.dz || is_absent p.rx || is_absent p.ry || is_absent p.rz || is_absent p.ds

abbrev pub values_in : Parameters → Values
values_in p =
    record {
      dx = value_in p.dx;
      dy = value_in p.dy;
      dz = value_in p.dz;
      rx = value_in p.rx;
      ry = value_in p.ry;
      rz = value_in p.rz;
      ds = value_in p.ds;
    }

-- ---- refusals

-- 9 POSITION: "X, Y, Z in 0.1 mm, each within ±10^11", 11 METHOD "if DF150 isn't 0", 15 ABSENT
abbrev pub step_tests : (computation : ℤ) → Parameters → (x y z : ℤ) → List Test
step_tests computation p x y z =
    (9, beyond_any (10 ^ 11) x y z)
    ∷ (11, not (same_z computation (pos 0)))
    ∷ (15, absent p)
    ∷ []

-- "1 to 5, KIND if not 1021", which is the refusal of the reader of a 1021; then the tests of the step
unfoldable pub step_refusal : List ℕ → (x y z : ℤ) → ℕ
step_refusal s x y z =
    let r = read_helmert s in
    cond (eqb r.refusal 0) (first (step_tests r.value.system.computation r.value.parameters x y z)) r.refusal

-- ---- the answer

-- of a message s and a position: "each coordinate answered must lie within one unit" of the exact target, which is over 10^35.
-- Which whole number within that unit is answered is left free
abbrev pub Stepped : List ℕ → (x y z : ℤ) → Position → Type 0
Stepped s x y z t = Answered (10 ^ 35) (step_refusal s x y z) (values_in (read_helmert s).value.parameters) x y z t
