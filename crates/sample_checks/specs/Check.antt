-- What the checker answers: request A13, "accepted exactly if shape and grid message are right and every point is answered 0 with the claimed count".
-- Assumes nothing.
use Rattle.std.specs.Prelude.{ℕ, suc, Bool, not, cond, ◌&&◌, List, eqb, ltb, length, get_or}
use Rattle.arith.specs.Places.{first_of}
use Rattle.arith.specs.Whole.{same_z}
use Rattle.message_rows.specs.Message.{kind_refusal}
use Rattle.grid_shifts.specs.Shift.{message_shift}
use Rattle.sample_files.specs.declared.SamplePoint.{SamplePoint}
use Rattle.sample_files.specs.File.{message_of, points_of, shape, no_point}
use Rattle.sample_checks.specs.declared.Checked.{Checked}

-- "1 to 5 and KIND": why m is no grid message
abbrev pub message_refusal : List ℕ → ℕ
message_refusal m = kind_refusal 1023 1024 m

-- "answered 0 with the claimed count"
unfoldable pub right : List ℕ → SamplePoint → Bool
right m p =
    let a = message_shift m p.component p.north p.east in
    eqb a.refusal 0 && same_z a.count p.claim

-- point i, from 0, is bad
unfoldable pub bad_at : List ℕ → List SamplePoint → ℕ → Bool
bad_at m ps i = not (right m (get_or ps i no_point))

-- "the first bad point, from 1"; 0 where there is none
unfoldable pub place_of : ℕ → ℕ → ℕ
place_of i n = cond (ltb i n) (suc i) 0

unfoldable pub first_bad : List ℕ → List SamplePoint → ℕ
first_bad m ps = place_of (first_of (bad_at m ps) 0 (length ps)) (length ps)

abbrev pub refused_with : ℕ → Checked
refused_with n = record { refusal = n; place = 0 }

-- 25 CLAIM with the place, or 0
abbrev pub claims : ℕ → Checked
claims place = record { refusal = cond (eqb place 0) 0 25; place = place }

-- 24 LAYOUT "for any other shape of file", 1 to 5 and 7 KIND, 25 CLAIM
unfoldable pub checked : List ℕ → Checked
checked f =
    cond (shape f)
    (cond (eqb (message_refusal (message_of f)) 0)
    (claims (first_bad (message_of f) (points_of f)))
    (refused_with (message_refusal (message_of f))))
    (refused_with 24)
