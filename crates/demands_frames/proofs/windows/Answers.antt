-- `demands_frames::windows` carries its theorems: steps over a window that slides.
-- Assumes nothing.
use Rattle.frame_search.proofs.Whole.{step_right, slide-right}
use Rattle.demands_frames.proofs.windows.Goals as goal

pub returns : goal.returns
returns c = record { step = step_right; slide = slide-right }
