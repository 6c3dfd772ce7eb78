-- What private functions and proofs need.
-- Assumes nothing.
use Rattle.std.specs.Prelude.{ℕ, cond, List}
use Rattle.frame.specs.declared.Frame.{Frame}
use Rattle.frame.specs.Frames.{length_of, unfinished, whole, found, need, no_frame}

-- what the code finds at one place
unfoldable pub frame_at : List ℕ → ℕ → Frame
frame_at t at = cond (unfinished t) (need at) (cond (whole t) (found at (length_of t)) no_frame)
