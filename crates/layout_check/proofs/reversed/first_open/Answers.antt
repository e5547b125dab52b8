use Rattle.std.proofs.Common.{◌↔◌, IsTrue, below_more}
use Rattle.std.proofs.lemmas.Bool.{both_ways}
use Rattle.layout_check.specs.FirstLevels.{ClosesAt}
use Rattle.layout_check.proofs.reversed.first_open.Goals as goal

pub returns-then-not-closes : goal.returns-then-not-closes
returns-then-not-closes c =
    let says : IsTrue c.in_ok-closes.closes ↔ ClosesAt c.args.doc.now c.args.node c.args.certificate.now c.loop-edge.edge = c.in_ok-closes.ensures in
    record { fails = λ h. both_ways c.in_ok-closes.closes c.if-not-closes.true (says.1 h); before = c.loop-edge.invariant }

pub loop-edge-preserved : goal.loop-edge-preserved
loop-edge-preserved c =
    let says : IsTrue c.in_ok-closes.closes ↔ ClosesAt c.args.doc.now c.args.node c.args.certificate.now c.loop-edge.edge = c.in_ok-closes.ensures in
    below_more (ClosesAt c.args.doc.now c.args.node c.args.certificate.now) _ c.loop-edge.invariant (says.0 c.if-not-closes.false)
