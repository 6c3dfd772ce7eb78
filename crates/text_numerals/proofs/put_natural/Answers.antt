-- `text_numerals::put_natural` meets its contract.
-- Assumes nothing.
use Prim.Native.Nat.{◌+◌, ◌-◌}
use native.Mathlib.Omega.{arith}
use mathlib.Core.Path.{◌≡◌, ap, ◌∙◌}
use lib.ListN.{take, drop, length-drop}
use lib.Seq.{take_all}
use Rattle.text_words.specs.Inner.{put, place_behind}
use Rattle.text_numerals.specs.Inner.{decimal}
use Rattle.text_numerals.proofs.put_natural.Goals as goal

pub returns : goal.returns
returns c = let a = c.args in
    let t = c.digits-from.new.text in
    let from = c.digits-from.result + 1 in
    let e : take (21 - from) (drop from t) ≡ decimal a.n = take_all (21 - from) (drop from t) (omega (arith, length-drop from t, c.digits-from.auto)) ∙ c.digits-from.ensures.output in record { output = c.put.ensures.output ∙ ap (put a.out.now a.at) e; answer = c.put.ensures.answer ∙ ap (place_behind a.out.now a.at) e }
