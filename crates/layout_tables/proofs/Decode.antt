-- The answers of a reader that checks first, one law for each way out.
-- Assumes nothing.
use mathlib.Core.Path.{◌≡◌, sym, ◌∙◌}
use mathlib.Core.List.{List, ◌++◌, map}
use Prim.Native.Nat.{ℕ, ◌≤◌, ◌<◌}
use native.Mathlib.Omega.{arith}
use lib.IntN.{ℤ}
use lib.ListN.{length, drop, length-map}
use Rattle.layout.specs.Layout.{decode_all, value_in, present_in, stored}
use Rattle.layout.specs.Inner.{refusal_of, decode_refusal}
use Rattle.layout.proofs.Answer.{not-read, few-values, few_bytes, read_none, refused-read, filled-first, length-decode_all}

module _ (es s : List ℕ) (v : List ℤ) (b : List ℕ) where
  -- the answer r, with v' and b' left in the buffers
  abbrev pub Answered : ℕ → List ℤ → List ℕ → Type 0
  Answered r v' b' =
      let d : ℕ = decode_refusal es s (length v) (length b) in
      (r ≡ d) × ((v' ≡ stored d (map value_in (decode_all es 0 s)) v) × (b' ≡ stored d (map present_in (decode_all es 0 s)) b))

  abbrev pub vs : List ℤ
  vs = map value_in (decode_all es 0 s)

  abbrev pub bs : List ℕ
  bs = map present_in (decode_all es 0 s)

  pub not-decoded : (r : ℕ) → r ≡ refusal_of es s → (r ≡ 0 → ⊥) → Answered r v b
  not-decoded r e h = refused-read r _ vs v bs b (not-read es s (length v) (length b) (λ z. h (e ∙ z)) ∙ sym e) h

  module _ (z : refusal_of es s ≡ 0) where
    pub no_place_lem : length v < length es → Answered 6 v b
    no_place_lem h = refused-read 6 _ vs v bs b (few-values es s (length v) (length b) z h) (λ e. omega arith)

    pub no_byte : length es ≤ length v → length b < length es → Answered 6 v b
    no_byte k h = refused-read 6 _ vs v bs b (few_bytes es s (length v) (length b) z k h) (λ e. omega arith)

    pub decoded : (v' : List ℤ) (b' : List ℕ) → length es ≤ length v → length es ≤ length b → v' ≡ vs ++ drop (length es) v → b' ≡ bs ++ drop (length es) b → Answered 0 v' b'
    decoded v' b' k l f g =
        let e = read_none es s (length v) (length b) z k l in
        let n = length-decode_all es 0 s in
        (sym e, (f ∙ filled-first _ vs v (length es) e (length-map (decode_all es 0 s) value_in ∙ n), g ∙ filled-first _ bs b (length es) e (length-map (decode_all es 0 s) present_in ∙ n)))
