-- `layout_tables::decode_grid` meets its contract: each return is a case of the definition.
-- Assumes nothing.
use mathlib.Core.Path.{◌≡◌, ap, sym, ◌∙◌}
use mathlib.Core.List.{List, ◌++◌}
use Prim.Native.Nat.{ℕ, ◌+◌, ◌*◌, ◌≤◌}
use native.Mathlib.Omega.{arith}
use lib.ListN.{length, length-append}
use Rattle.arith.specs.Refusals.{outcome_number}
use Rattle.arith.proofs.Numbers.{passed, refused}
use Rattle.layout.specs.Layout.{total}
use Rattle.layout.specs.Inner.{refusal_of}
use Rattle.layout.proofs.Round.{total-append, accepted}
use Rattle.layout_tables.specs.Layouts.{points}
use Rattle.layout_tables.proofs.Parts.{length-points, total-points}
use Rattle.layout_tables.proofs.Decode.{not-decoded, no_place_lem, no_byte, decoded}
use borrow.Author.Rules.{rules}
use Rattle.layout_tables.proofs.decode_grid.Goals as goal

-- a grid message has 64 fields, and s holds them
fields : (head : List ℕ) → length head ≡ 11 → length (head ++ points) ≡ 64
fields head h = length-append head points ∙ omega (arith, length-points)

holds : (head s : List ℕ) (p : ℕ) → refusal_of (head ++ points) s ≡ 0 → total head ≡ p → p + 458 ≤ 8 * length s
holds head s p z e = let k = accepted (head ++ points) s z in omega (arith, k.sized, total-append head points, total-points)

pub returns-in_err-checked : goal.returns-in_err-checked
returns-in_err-checked c = let a = c.args in
    let same : c.from_residual.result ≡ a.checked = search rules in
    let p = not-decoded (a.head.now ++ points) a.s.now a.values.now a.present.now (outcome_number a.checked) c.requires.0 (refused c.in_err-checked.was) in record { answer = ap outcome_number same ∙ p.0; values = p.1.0; present = p.1.1 }

pub returns-then-values-lt64 : goal.returns-then-values-lt64
returns-then-values-lt64 c = let a = c.args in let p = no_place_lem (a.head.now ++ points) a.s.now a.values.now a.present.now (sym c.requires.0 ∙ passed c.in_ok-checked.was) (omega (arith, fields a.head.now c.requires.1.0)) in record { answer = p.0; values = p.1.0; present = p.1.1 }

pub returns-then-present-lt64 : goal.returns-then-present-lt64
returns-then-present-lt64 c = let a = c.args in
    let n = fields a.head.now c.requires.1.0 in let p = no_byte (a.head.now ++ points) a.s.now a.values.now a.present.now (sym c.requires.0 ∙ passed c.in_ok-checked.was) (omega arith) (omega arith) in record { answer = p.0; values = p.1.0; present = p.1.1 }

pub read_grid-requires : goal.read_grid-requires
read_grid-requires c = let a = c.args in
    let P = c.requires in
    (P.1, (holds a.head.now a.s.now a.p (sym P.0 ∙ passed c.in_ok-checked.was) P.1.1.0, (omega arith, omega arith)))

pub returns : goal.returns
returns c = let a = c.args in
    let n = fields a.head.now c.requires.1.0 in let p = decoded (a.head.now ++ points) a.s.now a.values.now a.present.now (sym c.requires.0 ∙ passed c.in_ok-checked.was) _ _ (omega arith) (omega arith)
    (rw n c.read_grid.ensures.values) (rw n c.read_grid.ensures.present) in record { answer = p.0; values = p.1.0; present = p.1.1 }
