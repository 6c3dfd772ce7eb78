-- `grid_rows::fill_run` meets its contract.
-- Assumes nothing.
use mathlib.Core.Path.{◌≡◌, ap, ◌∙◌, sym}
use mathlib.Core.List.{List}
use Prim.Native.Nat.{ℕ}
use lib.IntN.{ℤ, pos, ◌*ℤ◌}
use lib.ListN.{length}
use borrow.Author.Rules.{rules}
use mir.Syntax.{w64}
use mir.Val.{to_z, of_z}
use Rattle.arith.specs.Lists.{up_to}
use Rattle.arith.proofs.Machine.{Num, lit, result, mul, fits, is-back}
use Rattle.layout.specs.Layout.{value_in}
use Rattle.grid_cell.specs.declared.Corners.{Corners}
use Rattle.grid_fields.specs.Inner.{mean_says, cell_says}
use Rattle.grid_fields.specs.declared.Nodes.{Nodes}
use Rattle.grid_place.specs.declared.Located.{Located}
use Rattle.grid_counts.specs.Counts.{node_factor}
use Rattle.grid_counts.specs.Inner.{values_in}
use Rattle.grid_rows.specs.Private.{cell_counts}
use Rattle.grid_rows.proofs.Counts.{run_of}
use Rattle.grid_rows.proofs.fill_run.Goals as goal

pub fill_cell-requires : goal.fill_cell-requires
fill_cell-requires c = let m : List ℕ = c.args.message.now in
    let p : Located = c.args.p in
    let nodes : c.values_of.result ≡ values_in (cell_says m c.args.component p.row p.column) = c.values_of.ensures ∙ ap (λ (n : Nodes). values_in n) c.nodes_at-n.ensures in
    let mean : Num = mul (lit 100 tt)
    (result c.value_in-mean.result 16384 (c.value_in-mean.ensures ∙ ap value_in c.mean_at.ensures) c.requires.0.mean tt) tt in
    let factor : c.factor_of-factor.result ≡ node_factor c.args.number c.args.component = c.factor_of-factor.ensures ∙ ap (λ (z : ℤ). node_factor z c.args.component) (is-back c.ranges.number) in
    let b = c.requires in
    run_of b.0 c.args.number c.args.component c.args.step (length c.args.row.now) b.1 b.2 b.3 mean.held factor nodes

pub returns : goal.returns
returns c = let m : List ℕ = c.args.message.now in
    let p : Located = c.args.p in
    let nodes : c.values_of.result ≡ values_in (cell_says m c.args.component p.row p.column) = c.values_of.ensures ∙ ap (λ (n : Nodes). values_in n) c.nodes_at-n.ensures in
    let mean : Num = mul (lit 100 tt)
    (result c.value_in-mean.result 16384 (c.value_in-mean.ensures ∙ ap value_in c.mean_at.ensures) c.requires.0.mean tt) tt in
    let factor : c.factor_of-factor.result ≡ node_factor c.args.number c.args.component = c.factor_of-factor.ensures ∙ ap (λ (z : ℤ). node_factor z c.args.component) (is-back c.ranges.number) in
    let a = c.args in
    c.fill_cell.ensures
    ∙ (λ i. up_to (cell_counts (mean.held i) (factor i) a.p.height a.p.width a.p.north a.p.east a.step (nodes i)) (length a.row.now))

pub overflow_mul-mean : goal.overflow_mul-mean
overflow_mul-mean c =
    let mean : Num = mul (lit 100 tt)
    (result c.value_in-mean.result 16384 (c.value_in-mean.ensures ∙ ap value_in c.mean_at.ensures) c.requires.0.mean tt) tt in
    fits mean
