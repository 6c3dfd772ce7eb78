-- Worked examples: one table of rows, each a message, a position, and the answer worked out by the papers.
-- Assumes nothing.
use Rattle.std.specs.Prelude.{ℕ, ◌≤◌, ◌≡◌, cond, List, [], ◌∷◌, eqb, ℤ, pos, negsuc, nat_abs, ◌-ℤ◌}
use Rattle.layout.specs.Layout.{blank}
use Rattle.datum_formula.specs.declared.Position.{Position}
use Rattle.datum_formula.specs.Formula.{zeros}
use Rattle.datum.specs.Step.{Stepped}

-- ---- messages 1021 with empty names and all other fields zero

-- dZ 4.5 m, R3 -0.554", dS 0.219 ppm
unfoldable pub turning : List ℕ
turning =
    63 ∷ 208 ∷ 0 ∷ 0 ∷ 0 ∷ 0 ∷ 0 ∷ 0 ∷ 0 ∷ 0 ∷ 0 ∷ 0 ∷ 0 ∷ 0 ∷ 0 ∷ 0 ∷ 0 ∷ 0 ∷ 0 ∷ 0 ∷ 0 ∷ 2 ∷ 50 ∷ 128 ∷ 0 ∷ 0 ∷ 0 ∷ 0 ∷ 0 ∷ 0 ∷ 0 ∷ 31 ∷ 255 ∷ 242 ∷ 121 ∷ 128 ∷ 5 ∷ 88 ∷ 192 ∷ blank 13

-- every parameter as far from zero as it can be: dY and R2 negative, the others positive
unfoldable pub extreme : List ℕ
extreme =
    63 ∷ 208 ∷ 0 ∷ 0 ∷ 0 ∷ 0 ∷ 0 ∷ 0 ∷ 0 ∷ 0 ∷ 0 ∷ 0 ∷ 0 ∷ 0 ∷ 1 ∷ 255 ∷ 255 ∷ 252 ∷ 0 ∷ 0 ∷ 23 ∷ 255 ∷ 255 ∷ 239 ∷ 255 ∷ 255 ∷ 255 ∷ 240 ∷ 0 ∷ 0 ∷ 0 ∷ 47 ∷ 255 ∷ 255 ∷ 255 ∷ 239 ∷ 255 ∷ 255 ∷ 240 ∷ blank 13

-- dS not available, with DF150 0 and 1
unfoldable pub no_scale : List ℕ
no_scale =
    63 ∷ 208 ∷ 0 ∷ 0 ∷ 0 ∷ 0 ∷ 0 ∷ 0 ∷ 0 ∷ 0 ∷ 0 ∷ 0 ∷ 0 ∷ 0 ∷ 0 ∷ 0 ∷ 0 ∷ 0 ∷ 0 ∷ 0 ∷ 0 ∷ 0 ∷ 0 ∷ 0 ∷ 0 ∷ 0 ∷ 0 ∷ 0 ∷ 0 ∷ 0 ∷ 0 ∷ 0 ∷ 0 ∷ 0 ∷ 0 ∷ 16 ∷ blank 16

unfoldable pub strict : List ℕ
strict =
    63 ∷ 208 ∷ 0 ∷ 0 ∷ 0 ∷ 0 ∷ 128 ∷ 0 ∷ 0 ∷ 0 ∷ 0 ∷ 0 ∷ 0 ∷ 0 ∷ 0 ∷ 0 ∷ 0 ∷ 0 ∷ 0 ∷ 0 ∷ 0 ∷ 0 ∷ 0 ∷ 0 ∷ 0 ∷ 0 ∷ 0 ∷ 0 ∷ 0 ∷ 0 ∷ 0 ∷ 0 ∷ 0 ∷ 0 ∷ 0 ∷ 16 ∷ blank 16

-- ---- rows

pub record Worked : Type 0 where
  pub message : List ℕ
  pub x : ℤ
  pub y : ℤ
  pub z : ℤ
  pub answer : Position

abbrev pub row : List ℕ → (x y z : ℤ) → Position → Worked
row m x y z a = record { message = m; x = x; y = y; z = z; answer = a }

-- done, with the whole numbers nearest to the exact target
abbrev pub target : (x y z : ℤ) → Position
target x y z = record { refusal = 0; x = x; y = y; z = z }

abbrev pub table : List Worked
table =
    row (63 ∷ 208 ∷ blank 50) (pos 1) (negsuc 1) (pos 3) (target (pos 1) (negsuc 1) (pos 3))
    ∷ row turning (pos 36576606600) (pos 2557685500) (pos 52013821100) (target (pos 36576607741) (pos 2557784300) (pos 52013877491))
    ∷ row extreme (pos 100000000000) (pos 100000000000) (negsuc 99999999999) (target (pos 100058720245) (pos 58322669203) (negsuc 141626999166))
    ∷ row (63 ∷ 208 ∷ blank 51) (pos 1) (pos 2) (pos 3) (zeros 3)
    ∷ row (63 ∷ 224 ∷ blank 63) (pos 1) (pos 2) (pos 3) (zeros 7)
    ∷ row strict (pos 1) (pos 2) (negsuc 100000000000) (zeros 9)
    ∷ row strict (pos 1) (pos 2) (negsuc 99999999999) (zeros 11)
    ∷ row no_scale (pos 1) (pos 2) (pos 3) (zeros 15)
    ∷ []

-- of an answer: its number is the row's, and so are its coordinates, those of a target to one unit
pub record Meets (t a : Position) : Type 0 where
  pub refusal : t.refusal ≡ a.refusal
  pub at_x : nat_abs (t.x -ℤ a.x) ≤ cond (eqb a.refusal 0) 1 0
  pub at_y : nat_abs (t.y -ℤ a.y) ≤ cond (eqb a.refusal 0) 1 0
  pub at_z : nat_abs (t.z -ℤ a.z) ≤ cond (eqb a.refusal 0) 1 0

-- every answer that is promised of a row's message and position
abbrev pub Right : Worked → Type 0
Right w = (t : Position) → Stepped w.message w.x w.y w.z t → Meets t w.answer

abbrev pub AllRight : List Worked → Type 0
AllRight [] = Unit {0}
AllRight (w ∷ ws) = Right w × AllRight ws

abbrev pub WorkedSteps : Type 0
WorkedSteps = AllRight table
