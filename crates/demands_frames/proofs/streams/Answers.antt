-- `demands_frames::streams` carries its theorems: frames in streams.
-- Assumes nothing.
use Rattle.demands_frames.proofs.Frames.{written-found, read_back, found-stays, need-goes-on, need-not-earlier, exactly, writer-refusals, published-frames}
use Rattle.demands_frames.proofs.streams.Goals as goal

pub returns : goal.returns
returns c = record { found = written-found; back = read_back; stays = found-stays; further = need-goes-on; later = need-not-earlier; exactly = exactly; refusals = writer-refusals; published = published-frames }
