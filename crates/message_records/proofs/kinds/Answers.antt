-- `message_records::kinds` carries its laws: each kind's two numbers, record, names and places are those of its definitions.
-- Assumes nothing.
use Rattle.std.proofs.Common.{refl}
use Rattle.message_records.specs.Kinds.{read_helmert, read_molodenski_badekas, read_grid, read_projection, read_lambert, read_oblique_mercator}
use Rattle.message_records.proofs.kinds.Goals as goal

pub returns : goal.returns
unfolding read_helmert read_molodenski_badekas read_grid read_projection read_lambert read_oblique_mercator
returns c =
    record {
      helmert_read = λ s. refl;
      molodenski_badekas_read = λ s. refl;
      grid_read = λ s. refl;
      projection_read = λ s. refl;
      lambert_read = λ s. refl;
      oblique_mercator_read = λ s. refl;
      helmert_written = λ r out. refl;
      molodenski_badekas_written = λ r out. refl;
      grid_written = λ r out. refl;
      projection_written = λ r out. refl;
      lambert_written = λ r out. refl;
      oblique_mercator_written = λ r out. refl;
    }
