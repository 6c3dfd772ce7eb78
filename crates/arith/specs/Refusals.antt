-- Refusals and their numbers: document 01, "Refusal numbers", and document 02 from 19 on.
-- Assumes nothing.
use Rattle.std.specs.Prelude.{ℕ, Result, Ok, Err}
use Rattle.arith.specs.declared.refusals.Refusal.{Refusal}
use Rattle.arith.specs.declared.refusals.Refusal.TheVariants.{Short, Number, Length, Fill, Range, Room, Kind, Component, Position, Off, Method, Origin, Spacing, Outside, Absent, Full, None, Table, Need, Noframe, Owner, Index, Nomean, Layout, Claim}

abbrev pub number : Refusal → ℕ
number Short = 1
number Number = 2
number Length = 3
number Fill = 4
number Range = 5
number Room = 6
number Kind = 7
number Component = 8
number Position = 9
number Off = 10
number Method = 11
number Origin = 12
number Spacing = 13
number Outside = 14
number Absent = 15
number Full = 16
number None = 17
number Table = 18
number Need = 19
number Noframe = 20
number Owner = 21
number Index = 22
number Nomean = 23
number Layout = 24
number Claim = 25

-- the number of an answer, 0 where the call is not refused
abbrev pub outcome_number : {A : Type 0} → Result A Refusal → ℕ
outcome_number (Ok x) = 0
outcome_number (Err r) = number r
