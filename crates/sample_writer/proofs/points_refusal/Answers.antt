-- `sample_writer::points_refusal` meets its contract: each return is a case of the definition.
-- Assumes nothing.
use mathlib.Core.Path.{◌≡◌, sym, ap, ◌∙◌}
use Rattle.message_rows.specs.Message.{kind_refusal}
use Rattle.grid_component.specs.declared.Kept.{Kept}
use Rattle.grid_component.specs.Inner.{kept_of}
use Rattle.sample_writer.specs.Refusals.{asked_of, first_refused}
use Rattle.sample_writer.proofs.Asked.{by-message, by-north, by-east, by-point, by_count, by-none}
use Rattle.sample_writer.proofs.points_refusal.Goals as goal

pub returns-then-kept-ne0 : goal.returns-then-kept-ne0
unfolding kept_of
returns-then-kept-ne0 c = let refusal : c.keep-kept.result.refusal ≡ kind_refusal 1023 1024 c.args.message.now = ap (λ (r : Kept). r.refusal) c.keep-kept.ensures in
    by-message _ _ _ _ _ refusal c.if-kept-ne0.true

pub returns-then-n-north : goal.returns-then-n-north
unfolding kept_of
returns-then-n-north c = let refusal : c.keep-kept.result.refusal ≡ kind_refusal 1023 1024 c.args.message.now = ap (λ (r : Kept). r.refusal) c.keep-kept.ensures in
    let none : kind_refusal 1023 1024 c.args.message.now ≡ 0 = sym refusal ∙ c.if-kept-ne0.false in
    by-north _ _ _ _ none c.if-n-north.true

pub returns-then-n-east : goal.returns-then-n-east
unfolding kept_of
returns-then-n-east c = let refusal : c.keep-kept.result.refusal ≡ kind_refusal 1023 1024 c.args.message.now = ap (λ (r : Kept). r.refusal) c.keep-kept.ensures in
    let none : kind_refusal 1023 1024 c.args.message.now ≡ 0 = sym refusal ∙ c.if-kept-ne0.false in
    by-east _ _ _ _ none c.if-n-north.false c.if-n-east.true

pub returns-then-point-ne0 : goal.returns-then-point-ne0
unfolding kept_of
returns-then-point-ne0 c = let refusal : c.keep-kept.result.refusal ≡ kind_refusal 1023 1024 c.args.message.now = ap (λ (r : Kept). r.refusal) c.keep-kept.ensures in
    let none : kind_refusal 1023 1024 c.args.message.now ≡ 0 = sym refusal ∙ c.if-kept-ne0.false in
    let point : c.first_refused-point.result ≡ first_refused c.args.message.now (asked_of c.args.components.now c.args.north.now c.args.east.now) = c.first_refused-point.ensures in
    by-point _ _ _ _ none c.if-n-north.false c.if-n-east.false _ point c.if-point-ne0.true

pub returns-then-n-gt-MOST_POINTS : goal.returns-then-n-gt-MOST_POINTS
unfolding kept_of
returns-then-n-gt-MOST_POINTS c = let refusal : c.keep-kept.result.refusal ≡ kind_refusal 1023 1024 c.args.message.now = ap (λ (r : Kept). r.refusal) c.keep-kept.ensures in
    let none : kind_refusal 1023 1024 c.args.message.now ≡ 0 = sym refusal ∙ c.if-kept-ne0.false in
    let point : c.first_refused-point.result ≡ first_refused c.args.message.now (asked_of c.args.components.now c.args.north.now c.args.east.now) = c.first_refused-point.ensures in
    by_count _ _ _ _ none c.if-n-north.false c.if-n-east.false (sym point ∙ c.if-point-ne0.false) c.if-n-gt-MOST_POINTS.true

pub returns : goal.returns
unfolding kept_of
returns c = let refusal : c.keep-kept.result.refusal ≡ kind_refusal 1023 1024 c.args.message.now = ap (λ (r : Kept). r.refusal) c.keep-kept.ensures in
    let none : kind_refusal 1023 1024 c.args.message.now ≡ 0 = sym refusal ∙ c.if-kept-ne0.false in
    let point : c.first_refused-point.result ≡ first_refused c.args.message.now (asked_of c.args.components.now c.args.north.now c.args.east.now) = c.first_refused-point.ensures in
    by-none _ _ _ _ none c.if-n-north.false c.if-n-east.false (sym point ∙ c.if-point-ne0.false) c.if-n-gt-MOST_POINTS.false

pub first_refused-point-requires : goal.first_refused-point-requires
first_refused-point-requires c = (c.keep-kept.ensures, (c.if-n-north.false, c.if-n-east.false))
