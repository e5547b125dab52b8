use Rattle.std.proofs.Common.{length}
use Rattle.flow_dual.specs.State.{marked}
use Rattle.flow_dual.specs.Queue.{waiting}
use Rattle.flow_dual.proofs.Offering.{drops_none, drops_more, takes_step, no_step, step_there, queue_falls}
use Rattle.flow_dual.proofs.steps.next_step.Goals as goal

pub loop-step-init : goal.loop-step-init
loop-step-init c = (c.requires.order, drops_none c.args.edges.now (marked c.args.marks.now.reached.items) (waiting c.args.steps.now))

pub bounds-edges-step : goal.bounds-edges-step
bounds-edges-step c =
    step_there c.args.edges.now (marked c.args.marks.now.reached.items) (length c.args.edges.now) (waiting c.args.steps.now) (waiting c.loop-step.steps) (waiting c.take_nearest.new.steps) c.in-Some.step c.loop-step.invariant.1 c.in-Some.ensures.some c.requires.in_range

pub crosses-requires-clause-tail : goal.crosses-requires-clause-tail
crosses-requires-clause-tail c =
    (c.requires.ends c.in-Some.step.edge (step_there c.args.edges.now (marked c.args.marks.now.reached.items) (length c.args.edges.now) (waiting c.args.steps.now) (waiting c.loop-step.steps) (waiting c.take_nearest.new.steps) c.in-Some.step c.loop-step.invariant.1 c.in-Some.ensures.some c.requires.in_range)).0

pub crosses-requires-clause-head : goal.crosses-requires-clause-head
crosses-requires-clause-head c =
    (c.requires.ends c.in-Some.step.edge (step_there c.args.edges.now (marked c.args.marks.now.reached.items) (length c.args.edges.now) (waiting c.args.steps.now) (waiting c.loop-step.steps) (waiting c.take_nearest.new.steps) c.in-Some.step c.loop-step.invariant.1 c.in-Some.ensures.some c.requires.in_range)).1

pub returns-then-crosses-clause-some : goal.returns-then-crosses-clause-some
returns-then-crosses-clause-some c =
    takes_step c.args.edges.now (marked c.args.marks.now.reached.items) (waiting c.args.steps.now) (waiting c.loop-step.steps) (waiting c.take_nearest.new.steps) c.in-Some.step c.loop-step.invariant.1 c.in-Some.ensures.some (c.crosses.ensures.0 c.if-crosses.true)

pub loop-step-preserved : goal.loop-step-preserved
loop-step-preserved c =
    (c.in-Some.ensures.order, drops_more c.args.edges.now (marked c.args.marks.now.reached.items) (waiting c.args.steps.now) (waiting c.loop-step.steps) (waiting c.take_nearest.new.steps) c.in-Some.step c.loop-step.invariant.1 c.in-Some.ensures.some (λ x. let yes = c.crosses.ensures.1 x in let not_so = c.if-crosses.false in cc))

pub loop-step-smaller : goal.loop-step-smaller
loop-step-smaller c = queue_falls (waiting c.loop-step.steps) (waiting c.take_nearest.new.steps) c.in-Some.step c.in-Some.ensures.some

pub returns-clause-none : goal.returns-clause-none
returns-clause-none c = no_step c.args.edges.now (marked c.args.marks.now.reached.items) (waiting c.args.steps.now) (waiting c.loop-step.steps) c.loop-step.invariant.1 c.in_default.ensures.none
