-- The search for frames in a stream: one step over the bytes that are there, and the frames of the whole stream.
-- Assumes nothing.
use Rattle.std.specs.Prelude.{ℕ, zero, suc, ◌+◌, ◌-◌, Bool, cond, List, [], ◌∷◌, length, eqb}
use Rattle.frame.specs.declared.Frame.{Frame}
use Rattle.frame.specs.Frames.{found, find_frame}
use Rattle.frame_search.specs.declared.Step.{Step}
use Rattle.frame_search.specs.declared.Outcome.TheVariants.{Found, Passed, More}

-- ---- one step

-- a frame; the search goes on behind it
abbrev pub found-step : Frame → Step
found-step f = record { outcome = Found f.at f.length; next = f.at + f.length + 6 }

-- no frame in n bytes
abbrev pub end_step : ℕ → Step
end_step n = record { outcome = More; next = n }

-- an unfinished candidate that stays so
abbrev pub pass_step : ℕ → Step
pass_step u = record { outcome = Passed; next = u + 1 }

-- an unfinished candidate
abbrev pub wait-step : ℕ → Step
wait-step u = record { outcome = More; next = u }

unfoldable pub step_by : Frame → ℕ → Bool → Step
step_by f n ended =
    cond (eqb f.refusal 0) (found-step f) (cond (eqb f.refusal 20) (end_step n) (cond ended (pass_step f.at) (wait-step f.at)))

unfoldable pub step_of : List ℕ → ℕ → Bool → Step
step_of s from ended = step_by (find_frame s from) (length s) ended

-- ---- the frames of a whole stream, each from the last one's end; an unfinished candidate is none, and the search goes on one byte behind it

unfoldable pub frames_within : ℕ → List ℕ → ℕ → List Frame
frames_within zero s from = []
frames_within (suc k) s from =
    cond (eqb (find_frame s from).refusal 0) (find_frame s from ∷ frames_within k s ((find_frame s from).at + (find_frame s from).length + 6))
    (cond (eqb (find_frame s from).refusal 19) (frames_within k s ((find_frame s from).at + 1)) [])

-- each round goes on by a byte or more
unfoldable pub frames_from : List ℕ → ℕ → List Frame
frames_from s from = frames_within (length s + 1 - from) s from

-- what a step says is found
unfoldable pub reported : Step → List Frame
reported r = elim r.outcome [ Found at length ↦ found at length ∷ [] | Passed ↦ [] | More ↦ [] ]

-- the same frames k places further on
unfoldable pub moved : ℕ → List Frame → List Frame
moved k [] = []
moved k (f ∷ fs) = found (k + f.at) f.length ∷ moved k fs
