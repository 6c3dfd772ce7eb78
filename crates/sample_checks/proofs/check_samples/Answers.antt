-- `sample_checks::check_samples` meets its contract: each return is a case of what a file is answered.
-- Assumes nothing.
use mathlib.Core.Path.{◌≡◌, sym, ap, ◌∙◌}
use mathlib.Core.Bool.{true}
use mathlib.Core.List.{List}
use Prim.Native.Nat.{ℕ}
use borrow.Author.Rules.{rules}
use Rattle.grid_component.specs.declared.Kept.{Kept}
use Rattle.grid_component.specs.Inner.{kept_of}
use Rattle.sample_files.specs.File.{message_of, points_of, shape}
use Rattle.sample_checks.specs.Check.{message_refusal, first_bad}
use Rattle.sample_checks.proofs.Checks.{Ends, ends, other-shape, message-refused, claim-fails, claims-hold}
use Rattle.sample_checks.proofs.check_samples.Goals as goal

pub returns-then-not-right_shape : goal.returns-then-not-right_shape
returns-then-not-right_shape c = other-shape _ (sym c.right_shape.ensures ∙ c.if-not-right_shape.true)

pub slice_bounds-message-count : goal.slice_bounds-message-count
slice_bounds-message-count c = let f : List ℕ = c.args.file.now in
    let shaped : shape f ≡ true = sym c.right_shape.ensures ∙ c.if-not-right_shape.false in
    let known : Ends f c.message_end-e.result = ends f (λ i. (c.type_inv.file i).fits) shaped c.message_end-e.result c.message_end-e.ensures in
    known.low

pub slice_bounds-message-start : goal.slice_bounds-message-start
slice_bounds-message-start c = let f : List ℕ = c.args.file.now in
    let shaped : shape f ≡ true = sym c.right_shape.ensures ∙ c.if-not-right_shape.false in
    let known : Ends f c.message_end-e.result = ends f (λ i. (c.type_inv.file i).fits) shaped c.message_end-e.result c.message_end-e.ensures in
    let k = known in search rules

pub slice_bounds-message-end : goal.slice_bounds-message-end
slice_bounds-message-end c = let f : List ℕ = c.args.file.now in
    let shaped : shape f ≡ true = sym c.right_shape.ensures ∙ c.if-not-right_shape.false in
    let known : Ends f c.message_end-e.result = ends f (λ i. (c.type_inv.file i).fits) shaped c.message_end-e.result c.message_end-e.ensures in
    let k = known in search rules

pub returns-then-kept-ne0 : goal.returns-then-kept-ne0
unfolding kept_of
returns-then-kept-ne0 c = let f : List ℕ = c.args.file.now in
    let shaped : shape f ≡ true = sym c.right_shape.ensures ∙ c.if-not-right_shape.false in
    let known : Ends f c.message_end-e.result = ends f (λ i. (c.type_inv.file i).fits) shaped c.message_end-e.result c.message_end-e.ensures in
    let kept : c.keep-kept.result ≡ kept_of (message_of f) = c.keep-kept.ensures ∙ ap kept_of known.part in
    let refusal : c.keep-kept.result.refusal ≡ message_refusal (message_of f) = ap (λ (k : Kept). k.refusal) kept in
    message-refused _ shaped _ refusal c.if-kept-ne0.true

pub returns-then-place-ne0 : goal.returns-then-place-ne0
unfolding kept_of
returns-then-place-ne0 c = let f : List ℕ = c.args.file.now in
    let shaped : shape f ≡ true = sym c.right_shape.ensures ∙ c.if-not-right_shape.false in
    let known : Ends f c.message_end-e.result = ends f (λ i. (c.type_inv.file i).fits) shaped c.message_end-e.result c.message_end-e.ensures in
    let kept : c.keep-kept.result ≡ kept_of (message_of f) = c.keep-kept.ensures ∙ ap kept_of known.part in
    let refusal : c.keep-kept.result.refusal ≡ message_refusal (message_of f) = ap (λ (k : Kept). k.refusal) kept in
    let none : message_refusal (message_of f) ≡ 0 = sym refusal ∙ c.if-kept-ne0.false in
    let bad : c.first_bad-place.result ≡ first_bad (message_of f) (points_of f) = c.first_bad-place.ensures ∙ ap (λ (m : List ℕ). first_bad m (points_of f)) known.part in
    claim-fails _ shaped none _ bad c.if-place-ne0.true

pub returns : goal.returns
unfolding kept_of
returns c = let f : List ℕ = c.args.file.now in
    let shaped : shape f ≡ true = sym c.right_shape.ensures ∙ c.if-not-right_shape.false in
    let known : Ends f c.message_end-e.result = ends f (λ i. (c.type_inv.file i).fits) shaped c.message_end-e.result c.message_end-e.ensures in
    let kept : c.keep-kept.result ≡ kept_of (message_of f) = c.keep-kept.ensures ∙ ap kept_of known.part in
    let refusal : c.keep-kept.result.refusal ≡ message_refusal (message_of f) = ap (λ (k : Kept). k.refusal) kept in
    let none : message_refusal (message_of f) ≡ 0 = sym refusal ∙ c.if-kept-ne0.false in
    let bad : c.first_bad-place.result ≡ first_bad (message_of f) (points_of f) = c.first_bad-place.ensures ∙ ap (λ (m : List ℕ). first_bad m (points_of f)) known.part in
    claims-hold _ shaped none _ bad c.if-place-ne0.false
