-- What private functions and proofs need.
-- Assumes nothing.
use Rattle.std.specs.Prelude.{List, [], ◌∷◌, ◌++◌, ℤ, Option, Some}
use Rattle.record_rows.specs.declared.Pair.{Pair}
use Rattle.record_rows.specs.Numbers.{pair_row}
use Rattle.record_transformations.specs.declared.Name.{Name}
use Rattle.record_transformations.specs.declared.System.{System}
use Rattle.record_transformations.specs.declared.Area.{Area}
use Rattle.record_transformations.specs.declared.Parameters.{Parameters}
use Rattle.record_transformations.specs.declared.Ellipsoids.{Ellipsoids}
use Rattle.record_transformations.specs.Transformations.{name_row, system_row, area_row, parameters_row, ellipsoids_row}

-- the number of the message and both names
abbrev pub names : ℤ → Name → Name → List (Option ℤ)
names z s t = (Some z ∷ []) ++ name_row s ++ name_row t

-- the sixteen places behind them
abbrev pub shared : System → Area → Parameters → List (Option ℤ)
shared s a p = system_row s ++ area_row a ++ parameters_row p

-- the last six places
abbrev pub last : Ellipsoids → Pair → List (Option ℤ)
last e q = ellipsoids_row e ++ pair_row q
