-- The fields of the points of three lists of equal length, stored one by one.
-- Assumes nothing.
use mathlib.Core.Path.{◌≡◌, sym, ap, ◌∙◌}
use mathlib.Core.List.{List, ◌++◌, map, append_assoc, append-nil}
use Prim.Native.Nat.{ℕ, ◌+◌, ◌-◌, ◌*◌, ◌≤◌, ◌<◌}
use native.Mathlib.Omega.{arith}
use borrow.Rule.Slice.PartMut.{put_mid, post_of, same_len_mid}
use lib.IntN.{ℤ}
use lib.ListN.{length, take, drop, length-append}
use lib.Seq.{take_at, take_all, length-take-le}
use Rattle.sample_files.specs.File.{point_size, point_field, point_fields}
use Rattle.sample_files.proofs.Bytes.{length-point}
use Rattle.sample_writer.proofs.Asked.{from, point, from_end, from-point}
use Rattle.sample_writer.specs.Write.{sample}

pub size-put : (out z : List ℕ) (i : ℕ) → length z ≡ length (take (point_size * i + point_size - point_size * i) (drop (point_size * i) out)) → length (put_mid (point_size * i) (point_size * i + point_size - point_size * i) out z) ≡ length out
size-put out z i e = same_len_mid (point_size * i) (point_size * i + point_size - point_size * i) out z e

put_next : (out z : List ℕ) (i : ℕ) → point_size * i + point_size ≤ length out → length z ≡ point_size
    → take (point_size * (i + 1)) (put_mid (point_size * i) (point_size * i + point_size - point_size * i) out z) ≡ take (point_size * i) out ++ z
put_next out z i h e =
    let a : ℕ = point_size * i in
    let r : List ℕ = post_of a (a + point_size - a) out in
    let n : length (take a out ++ z) ≡ point_size * (i + 1) = length-append (take a out) z ∙ omega (arith, length-take-le a out (omega arith)) in
    ap (take (point_size * (i + 1))) (sym (append_assoc (take a out) z r)) ∙ take_at (take a out ++ z) r (point_size * (i + 1)) n

module _ (cs : List ℕ) (ns es : List ℤ) (i : ℕ) (h : i < length cs) (p : length cs ≡ length ns) (q : length cs ≡ length es) (m : List ℕ) where
  abbrev fields_from : ℕ → List ℕ
  fields_from k = point_fields (map (sample m) (from cs ns es k))

  fields-next : fields_from i ≡ point_field (sample m (point cs ns es i)) ++ fields_from (i + 1)
  unfolding point_fields
  fields-next = rw (from-point cs ns es i h p q)

  pub round-fields : (out z : List ℕ) → z ≡ point_field (sample m (point cs ns es i)) → point_size * i + point_size ≤ length out
      → take (point_size * (i + 1)) (put_mid (point_size * i) (point_size * i + point_size - point_size * i) out z) ++ fields_from (i + 1) ≡ take (point_size * i) out ++ fields_from i
  round-fields out z e l =
      ap (λ (b : List ℕ). b ++ fields_from (i + 1)) (put_next out z i l (ap length e ∙ length-point (sample m (point cs ns es i))))
      ∙ append_assoc (take (point_size * i) out) z (fields_from (i + 1))
      ∙ ap (λ (b : List ℕ). take (point_size * i) out ++ b) (ap (λ (b : List ℕ). b ++ fields_from (i + 1)) e ∙ sym fields-next)

pub end-fields : (cs : List ℕ) (ns es : List ℤ) (i : ℕ) (m out : List ℕ) → length cs ≤ i → length out ≤ point_size * i → take (point_size * i) out ++ point_fields (map (sample m) (from cs ns es i)) ≡ out
unfolding point_fields
end-fields cs ns es i m out h l = rw (from_end cs ns es i h) (append-nil (take (point_size * i) out) ∙ take_all (point_size * i) out l)
