-- A float that equals itself is a number, and has bits.
use mathlib.Core.Path.{◌≡◌, subst}
use mathlib.Core.Bool.{false, not}
use lib.Dec.{T}
use lib.Ieee.{Float, nan, inf, fin, eq, ne, is_nan}
use Rattle.cases.proofs.shifts.put_float.Goals as goal

is_number : (x : Float) → ne x x ≡ false → T (not (is_nan x))
unfolding ne eq is_nan
is_number nan h = subst T h tt
is_number (inf s) h = tt
is_number (fin s m e) h = tt

pub float_to_bits-x : goal.float_to_bits-x
float_to_bits-x c = is_number c.args.x c.if-x.false
