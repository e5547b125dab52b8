use Rattle.std.proofs.Common.{◌∙◌, ℕ, List, ap, arith, get_or, rules}
use Rattle.std.proofs.lemmas.Bool.{eqb-true, eq-eqb}
use Rattle.elk_doc.specs.Level.{IsChild}
use Rattle.layout_check.proofs.sums.balances.Goals as goal

pub returns : goal.returns
returns c =
    let a = c.args.child in
    let r = c.requires in
    let at = λ (xs : List ℕ). get_or xs a 0 in
    let w = ap at c.as_slice-flow_in.ensures.value ∙ r.sums.flow_in.each a 0 r.child_in in
    let x = ap at c.as_slice-weight_out.ensures.value ∙ r.sums.weight_out.each a 0 r.child_in in
    let y = ap at c.as_slice-flow_out.ensures.value ∙ r.sums.flow_out.each a 0 r.child_in in
    let z = ap at c.as_slice-weight_in.ensures.value ∙ r.sums.weight_in.each a 0 r.child_in in
    let child : IsChild c.args.scene.now.doc.now c.args.node a = record { node_in = r.child_in; child = search rules } in (
      λ t _. let e = eqb-true _ _ t in omega (arith, w, x, y, z, e),
      λ h. let e = h child in eq-eqb _ _ (omega (arith, w, x, y, z, e)),
    )
