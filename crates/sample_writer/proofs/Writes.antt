-- The answers of `write_samples`, one law for each way out.
-- Assumes nothing.
use mathlib.Core.Path.{◌≡◌, refl, ap, ◌∙◌}
use mathlib.Core.List.{List, [], ◌∷◌, map}
use Prim.Native.Nat.{ℕ, suc, ◌+◌, ◌*◌, ◌≤◌, ◌<◌}
use borrow.Author.Tests.{lt-ltb, le-ltb, ne_eqb}
use lib.IntN.{ℤ}
use lib.ListN.{length}
use Rattle.layout.specs.declared.Written.{Written}
use Rattle.layout.specs.Layout.{answered, stored}
use Rattle.sample_files.specs.File.{point_size}
use Rattle.sample_writer.specs.Refusals.{Asked, asked_of, points_refusal}
use Rattle.sample_writer.proofs.Asked.{length-asked_of, passed}
use Rattle.sample_writer.specs.Write.{sample, samples_file, write_refusal}
use Rattle.sample_files.proofs.Bytes.{length-file}

pub length-samples : (m : List ℕ) (ps : List Asked) → length (map (sample m) ps) ≡ length ps
length-samples m [] = refl
length-samples m (p ∷ ps) = ap suc (length-samples m ps)

-- a refusal keeps the output
pub refused-is : (n k : ℕ) (f out : List ℕ) (r : Written) → (r.refusal ≡ k) × (r.length ≡ 0) → (k ≡ 0 → ⊥) → n ≡ k → (r ≡ answered n f) × (out ≡ stored n f out)
unfolding answered stored
refused-is n k f out r e q h = rw (h, ne_eqb k 0 q) (λ i. record { refusal = e.0 i; length = e.1 i }, refl)

module _ (m cs : List ℕ) (ns es : List ℤ) (room : ℕ) where
  pub by-points : (k : ℕ) → k ≡ points_refusal m cs ns es → (k ≡ 0 → ⊥) → write_refusal m cs ns es room ≡ k
  unfolding write_refusal
  by-points k e q = rw (← e, ne_eqb k 0 q)

  module _ (a : points_refusal m cs ns es ≡ 0) where
    pub length-written : length (samples_file m (asked_of cs ns es)) ≡ 3 + length m + point_size * length cs
    unfolding samples_file
    length-written =
        length-file m (map (sample m) (asked_of cs ns es))
        ∙ ap (λ (n : ℕ). 3 + length m + point_size * n) (length-samples m (asked_of cs ns es) ∙ length-asked_of cs ns es (passed m cs ns es a).north (passed m cs ns es a).east)

    pub by-room : room < 3 + length m + point_size * length cs → write_refusal m cs ns es room ≡ 6
    unfolding write_refusal
    by-room l = rw (a, length-written, lt-ltb room (3 + length m + point_size * length cs) l)

    pub by-none : 3 + length m + point_size * length cs ≤ room → write_refusal m cs ns es room ≡ 0
    unfolding write_refusal
    by-none l = rw (a, length-written, le-ltb room (3 + length m + point_size * length cs) l)
