use Rattle.level_nets.specs.Reach.{parts_in}
use Rattle.level_draw.proofs.TraceLemmas.{traces_more}
use Rattle.level_draw.proofs.tracing.traces_in.Goals as goal

pub loop-edge-preserved : goal.loop-edge-preserved
loop-edge-preserved c =
    traces_more (parts_in c.args.sheet.now) c.args.routing.now c.args.boxes.now c.loop-edge.edge c.loop-edge.traces.items c.push.new.self.items c.in_ok-trace_of.field-0
    c.loop-edge.invariant c.in_ok-trace_of.ensures c.in_ok-push.ensures.items
