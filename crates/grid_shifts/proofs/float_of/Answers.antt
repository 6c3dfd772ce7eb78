-- `grid_shifts::float_of` meets its contract: each case of the enum.
-- Assumes nothing.
use mathlib.Core.Path.{◌≡◌, refl, sym, ap, ◌∙◌}
use mathlib.Core.Logic.{⊎_elim}
use lib.IntN.{pos}
use lib.Ieee.{binary64, of_int, of_bits}
use Rattle.grid_shifts.specs.Shift.{float_of}
use Rattle.grid_shifts.proofs.float_of.Goals as goal

pub returns-in-Seconds : goal.returns-in-Seconds
unfolding float_of
returns-in-Seconds c = ⊎_elim (λ e. sym (ap float_of e)) (λ e. sym (ap float_of e)) c.in-Seconds.is

pub returns-in-Seconds-2 : goal.returns-in-Seconds-2
unfolding float_of
returns-in-Seconds-2 c = ⊎_elim (λ e. sym (ap float_of e)) (λ e. sym (ap float_of e)) c.in-Seconds.is

zero : of_bits binary64 0 ≡ of_int binary64 (pos 0)
unfolding of_bits of_int
zero = refl

pub returns-in-Refused : goal.returns-in-Refused
unfolding float_of
returns-in-Refused c = zero ∙ sym (ap float_of c.in-Refused.is)
