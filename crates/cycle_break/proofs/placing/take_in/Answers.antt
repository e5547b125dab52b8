use Rattle.cycle_break.proofs.Keys.{key_some}
use Rattle.cycle_break.proofs.Reaching.{in_edge, first_in_live}
use Rattle.cycle_break.proofs.placing.take_in.Goals as goal

pub take_edge-tail-requires : goal.take_edge-tail-requires
take_edge-tail-requires c = first_in_live c.edges.work c.args.node.at c.in-Some.edge.at c.incidence.ensures (key_some _ c.in-Some.edge c.in-Some.ensures)

pub first_out-requires : goal.first_out-requires
first_out-requires c =
    let o = in_edge c.edges.work c.take_edge-tail.new.work c.args.node.at c.in-Some.edge.at c.take_edge-tail.result.at c.incidence.ensures (key_some _ c.in-Some.edge c.in-Some.ensures) c.take_edge-tail.ensures.removed c.take_edge-tail.ensures.tail in
    (o.1 c.take_edge-tail.result.at).1 o.0

pub edges-smaller-in-Continue-1 : goal.edges-smaller-in-Continue-1
edges-smaller-in-Continue-1 c =
    (in_edge c.edges.work c.take_edge-tail.new.work c.args.node.at c.in-Some.edge.at c.take_edge-tail.result.at c.incidence.ensures (key_some _ c.in-Some.edge c.in-Some.ensures) c.take_edge-tail.ensures.removed c.take_edge-tail.ensures.tail).2

pub edges-smaller : goal.edges-smaller
edges-smaller c =
    (in_edge c.edges.work c.take_edge-tail.new.work c.args.node.at c.in-Some.edge.at c.take_edge-tail.result.at c.incidence.ensures (key_some _ c.in-Some.edge c.in-Some.ensures) c.take_edge-tail.ensures.removed c.take_edge-tail.ensures.tail).2

pub edges-preserved-in-Continue-1 : goal.edges-preserved-in-Continue-1
edges-preserved-in-Continue-1 c =
    let o = in_edge c.edges.work c.take_edge-tail.new.work c.args.node.at c.in-Some.edge.at c.take_edge-tail.result.at c.incidence.ensures (key_some _ c.in-Some.edge c.in-Some.ensures) c.take_edge-tail.ensures.removed c.take_edge-tail.ensures.tail in
    record { live = (o.1 c.args.node.at).1 c.edges.invariant.live; same = λ v. (λ h. (c.edges.invariant.same v).0 ((o.1 v).0 h), λ h. (o.1 v).1 ((c.edges.invariant.same v).1 h)) }

pub edges-preserved : goal.edges-preserved
edges-preserved c =
    let o = in_edge c.edges.work c.take_edge-tail.new.work c.args.node.at c.in-Some.edge.at c.take_edge-tail.result.at c.incidence.ensures (key_some _ c.in-Some.edge c.in-Some.ensures) c.take_edge-tail.ensures.removed c.take_edge-tail.ensures.tail in
    record { live = (o.1 c.args.node.at).1 c.edges.invariant.live; same = λ v. (λ h. (c.edges.invariant.same v).0 ((o.1 v).0 h), λ h. (o.1 v).1 ((c.edges.invariant.same v).1 h)) }
