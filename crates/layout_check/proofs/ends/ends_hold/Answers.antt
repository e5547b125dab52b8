use Rattle.std.proofs.Common.{true, false, rules}
use Rattle.std.proofs.lemmas.Bool.{both_ways}
use Rattle.elk_doc.specs.Level.{IsEdge}
use Rattle.layout_check.specs.FirstPorts.{EndHolds}
use Rattle.layout_check.proofs.ends.ends_hold.Goals as goal
use Rattle.layout_check.proofs.SpotLaws.{both_ends}

pub returns-then-not-end_holds : goal.returns-then-not-end_holds
returns-then-not-end_holds c =
    let edge : IsEdge c.args.scene.now.doc.now c.args.node c.args.edge = search rules in
    (λ t. absurd (search rules), λ h. absurd (both_ways c.end_holds.result c.if-not-end_holds.true (c.end_holds.ensures.1 (λ m at. h edge m true at))))

pub returns : goal.returns
returns c =
    let edge : IsEdge c.args.scene.now.doc.now c.args.node c.args.edge = search rules in (
      λ t _ m u at. both_ends (EndHolds c.args.scene.now.doc.now c.args.scene.now.placed.now c.args.edge) (c.end_holds.ensures.0 c.if-not-end_holds.false) (c.end_holds-2.ensures.0 t) u m at,
      λ h. c.end_holds-2.ensures.1 (λ m at. h edge m false at),
    )
