-- `grid_counts::cell_count` meets its contract: the mean, then one node after the other.
-- Assumes nothing.
use mathlib.Core.Path.{◌≡◌, refl, sym, ap, ◌∙◌}
use mathlib.Core.Bool.{true, false}
use native.Mathlib.Omega.{arith}
use mir.Syntax.{w64}
use mir.Val.{to_z, of_z}
use Rattle.arith.proofs.Back.{held}
use Rattle.arith.proofs.Machine.{is-back}
use Rattle.layout.specs.Layout.{value_in, available}
use Rattle.grid_bilinear.specs.Bilinear.{lacks}
use Rattle.grid_cell.specs.declared.Corners.{Corners}
use Rattle.grid_counts.specs.Inner.{values_in}
use Rattle.grid_counts.specs.Private.{asked}
use Rattle.grid_fields.specs.declared.Nodes.{Nodes}
use Rattle.grid_cell.specs.declared.Weights.{Weights}
use Rattle.grid_counts.proofs.Cells.{missing, given, mean-out, sw-out, se-out, nw-out, ne-out, all_in}
use Rattle.grid_counts.proofs.cell_count.Goals as goal

pub returns-in_default : goal.returns-in_default
returns-in_default c = let n : Nodes = c.args.n in
    let ws : Weights = c.args.k in
    mean-out c.args.number c.args.component c.args.mean n ws c.refused.result (ap available c.in_default.is) c.refused.ensures

pub returns-in_default-needed : goal.returns-in_default-needed
returns-in_default-needed c = let n : Nodes = c.args.n in
    let ws : Weights = c.args.k in
    let mean-has : available c.args.mean ≡ true = ap available c.in-Some.is in
    let sw-says : c.needed.result ≡ asked ws.sw n.sw = c.needed.ensures in
    sw-out c.args.number c.args.component c.args.mean n ws c.refused-in_default-needed.result
    mean-has (missing ws.sw n.sw sw-says c.in_default-needed.is)
    c.refused-in_default-needed.ensures

pub returns-in_default-needed-2 : goal.returns-in_default-needed-2
returns-in_default-needed-2 c = let n : Nodes = c.args.n in
    let ws : Weights = c.args.k in
    let mean-has : available c.args.mean ≡ true = ap available c.in-Some.is in
    let sw-says : c.needed.result ≡ asked ws.sw n.sw = c.needed.ensures in
    let sw-has : lacks ws.sw (available n.sw) ≡ false = (given ws.sw n.sw sw-says c.in-Some-needed.is).0 in
    let se-says : c.needed-2.result ≡ asked ws.se n.se = c.needed-2.ensures in
    se-out c.args.number c.args.component c.args.mean n ws c.refused-in_default-needed-2.result
    mean-has sw-has (missing ws.se n.se se-says c.in_default-needed-2.is)
    c.refused-in_default-needed-2.ensures

pub returns-in_default-needed-3 : goal.returns-in_default-needed-3
returns-in_default-needed-3 c = let n : Nodes = c.args.n in
    let ws : Weights = c.args.k in
    let mean-has : available c.args.mean ≡ true = ap available c.in-Some.is in
    let sw-says : c.needed.result ≡ asked ws.sw n.sw = c.needed.ensures in
    let sw-has : lacks ws.sw (available n.sw) ≡ false = (given ws.sw n.sw sw-says c.in-Some-needed.is).0 in
    let se-says : c.needed-2.result ≡ asked ws.se n.se = c.needed-2.ensures in
    let se-has : lacks ws.se (available n.se) ≡ false = (given ws.se n.se se-says c.in-Some-needed-2.is).0 in
    let nw-says : c.needed-3.result ≡ asked ws.nw n.nw = c.needed-3.ensures in
    nw-out c.args.number c.args.component c.args.mean n ws c.refused-in_default-needed-3.result
    mean-has sw-has se-has (missing ws.nw n.nw nw-says c.in_default-needed-3.is)
    c.refused-in_default-needed-3.ensures

pub returns-in_default-needed-4 : goal.returns-in_default-needed-4
returns-in_default-needed-4 c = let n : Nodes = c.args.n in
    let ws : Weights = c.args.k in
    let mean-has : available c.args.mean ≡ true = ap available c.in-Some.is in
    let sw-says : c.needed.result ≡ asked ws.sw n.sw = c.needed.ensures in
    let sw-has : lacks ws.sw (available n.sw) ≡ false = (given ws.sw n.sw sw-says c.in-Some-needed.is).0 in
    let se-says : c.needed-2.result ≡ asked ws.se n.se = c.needed-2.ensures in
    let se-has : lacks ws.se (available n.se) ≡ false = (given ws.se n.se se-says c.in-Some-needed-2.is).0 in
    let nw-says : c.needed-3.result ≡ asked ws.nw n.nw = c.needed-3.ensures in
    let nw-has : lacks ws.nw (available n.nw) ≡ false = (given ws.nw n.nw nw-says c.in-Some-needed-3.is).0 in
    let ne-says : c.needed-4.result ≡ asked ws.ne n.ne = c.needed-4.ensures in
    ne-out c.args.number c.args.component c.args.mean n ws c.refused-in_default-needed-4.result
    mean-has sw-has se-has nw-has (missing ws.ne n.ne ne-says c.in_default-needed-4.is)
    c.refused-in_default-needed-4.ensures

pub returns : goal.returns
returns c = let n : Nodes = c.args.n in
    let ws : Weights = c.args.k in
    let mean-has : available c.args.mean ≡ true = ap available c.in-Some.is in
    let mean-is : to_z w64 (of_z w64 c.in-Some.m) ≡ value_in c.args.mean = held c.in-Some.m (omega arith) ∙ sym (ap value_in c.in-Some.is) in
    let sw-says : c.needed.result ≡ asked ws.sw n.sw = c.needed.ensures in
    let sw-has : lacks ws.sw (available n.sw) ≡ false = (given ws.sw n.sw sw-says c.in-Some-needed.is).0 in
    let sw-is : to_z w64 (of_z w64 c.in-Some-needed.sw) ≡ value_in n.sw = held c.in-Some-needed.sw (omega arith)
    ∙ (given ws.sw n.sw sw-says c.in-Some-needed.is).1 in
    let se-says : c.needed-2.result ≡ asked ws.se n.se = c.needed-2.ensures in
    let se-has : lacks ws.se (available n.se) ≡ false = (given ws.se n.se se-says c.in-Some-needed-2.is).0 in
    let se-is : to_z w64 (of_z w64 c.in-Some-needed-2.se) ≡ value_in n.se = held c.in-Some-needed-2.se (omega arith)
    ∙ (given ws.se n.se se-says c.in-Some-needed-2.is).1 in
    let nw-says : c.needed-3.result ≡ asked ws.nw n.nw = c.needed-3.ensures in
    let nw-has : lacks ws.nw (available n.nw) ≡ false = (given ws.nw n.nw nw-says c.in-Some-needed-3.is).0 in
    let nw-is : to_z w64 (of_z w64 c.in-Some-needed-3.nw) ≡ value_in n.nw = held c.in-Some-needed-3.nw (omega arith)
    ∙ (given ws.nw n.nw nw-says c.in-Some-needed-3.is).1 in
    let ne-says : c.needed-4.result ≡ asked ws.ne n.ne = c.needed-4.ensures in
    let ne-has : lacks ws.ne (available n.ne) ≡ false = (given ws.ne n.ne ne-says c.in-Some-needed-4.is).0 in
    let ne-is : to_z w64 (of_z w64 c.in-Some-needed-4.ne) ≡ value_in n.ne = held c.in-Some-needed-4.ne (omega arith)
    ∙ (given ws.ne n.ne ne-says c.in-Some-needed-4.is).1 in
    let values : ◌≡◌ {A = Corners} (record { sw = to_z w64 (of_z w64 c.in-Some-needed.sw); se = to_z w64 (of_z w64 c.in-Some-needed-2.se); nw = to_z w64 (of_z w64 c.in-Some-needed-3.nw); ne = to_z w64 (of_z w64 c.in-Some-needed-4.ne) }) (values_in n) = λ i. record {
      sw = sw-is i;
      se = se-is i;
      nw = nw-is i;
      ne = ne-is i;
    } in
    let a = c.args in
    all_in a.number a.component a.mean a.n a.k _
    mean-has sw-has se-has nw-has ne-has
    refl (held c.count_in-count.result c.count_in-count.type_inv) c.count_in-count.ensures (is-back c.ranges.number) mean-is values
