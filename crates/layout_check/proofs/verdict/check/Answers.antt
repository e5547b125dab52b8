use Rattle.std.proofs.Common.{subst}
use Rattle.elk_doc.specs.declared.drawing.Placed.{Placed}
use Rattle.elk_doc.specs.Document.{Document}
use Rattle.layout_check.specs.Verdicts.{IsVerdict}
use Rattle.layout_check.proofs.DrawnLaws.{exact}
use Rattle.layout_check.proofs.verdict.check.Goals as goal

pub returns-clause-verdict : goal.returns-clause-verdict
returns-clause-verdict c =
    let scene = c.scene_of-scene in
    let v = c.in_ok-verdict.verdict in
    let drawn = subst (λ (p : Placed). IsVerdict scene.result.doc.now p v) scene.ensures.placed c.in_ok-verdict.ensures in
    subst (λ (d : Document). IsVerdict d c.args.placed.now v) scene.ensures.doc drawn

pub returns-clause-exact : goal.returns-clause-exact
returns-clause-exact c =
    exact c.args.doc.now c.args.placed.now c.in_ok-verdict.verdict (returns-clause-verdict c)
