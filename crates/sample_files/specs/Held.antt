-- Points whose numbers a file has room for: a byte, and whole numbers of 64 bits.
-- Assumes nothing.
use Rattle.std.specs.Prelude.{◌^◌, ◌<◌, List, [], ◌∷◌}
use Rattle.std.specs.Int.Signed.{mag}
use Rattle.sample_files.specs.declared.SamplePoint.{SamplePoint}

pub record Held (p : SamplePoint) : Type 0 where
  pub component : p.component < 256
  pub north : mag p.north < 2 ^ 63
  pub east : mag p.east < 2 ^ 63
  pub claim : mag p.claim < 2 ^ 63

pub data AllHeld : List SamplePoint → Type 0 where
  none : AllHeld []
  more : {p : SamplePoint} {ps : List SamplePoint} → Held p → AllHeld ps → AllHeld (p ∷ ps)
