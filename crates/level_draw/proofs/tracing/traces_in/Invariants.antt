use Rattle.level_nets.specs.Reach.{parts_in}
use Rattle.level_draw.specs.Traced.{AreTraces, plain_traces}
use Rattle.level_draw.proofs.tracing.traces_in.Given as goal

abbrev pub invariant-loop-edge : goal.invariant-loop-edge
invariant-loop-edge l = AreTraces (parts_in l.sheet) l.routing l.boxes l.edge (plain_traces l.traces.items)
