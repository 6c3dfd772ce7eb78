-- `text_numerals::put_negative` meets its contract: the sign stands before the digits.
-- Assumes nothing.
use Prim.Native.Nat.{◌-◌}
use native.Mathlib.Numerals.{add-one}
use native.Mathlib.Omega.{arith}
use mathlib.Core.Path.{◌≡◌, sym, ap, ◌∙◌}
use mathlib.Core.List.{◌∷◌}
use lib.ListN.{set, take, drop, length-set, length-drop}
use lib.Seq.{take_all}
use Rattle.text_words.specs.Inner.{put, place_behind}
use Rattle.text_numerals.specs.Inner.{decimal}
use Rattle.text_numerals.proofs.Writing.{stored}
use Rattle.text_numerals.proofs.put_negative.Goals as goal

pub slice_bounds-put-end : goal.slice_bounds-put-end
slice_bounds-put-end c = simp length-set (omega arith)

pub returns : goal.returns
returns c = let a = c.args in
    let t = c.digits-k.new.text in
    let k = c.digits-k.result in
    let s = set t k 45 in
    let e : take (21 - k) (drop k s) ≡ 45 ∷ decimal a.n =
    take_all (21 - k) (drop k s) (omega (arith, length-drop k s, length-set t k 45, c.digits-k.auto))
    ∙ stored t k 45 (omega (arith, c.digits-k.auto, c.digits-k.ensures.before))
    ∙ ap (λ r. 45 ∷ r) (ap (λ n. drop n t) (sym (add-one k)) ∙ c.digits-k.ensures.output) in record { output = c.put.ensures.output ∙ ap (put a.out.now a.at) e; answer = c.put.ensures.answer ∙ ap (place_behind a.out.now a.at) e }
