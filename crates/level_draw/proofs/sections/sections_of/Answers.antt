use Rattle.std.proofs.Common.{sym, subst}
use Rattle.std.specs.List.{All}
use Rattle.drawing_types.specs.Ranges.{IsNear}
use Rattle.route_lines.specs.Points.{IsTrace, IsJoinOf}
use Rattle.level_model.specs.FromPlan.{PlainTrace}
use Rattle.level_nets.specs.Held.{plain_gaps}
use Rattle.level_draw.specs.Joined.{points_through}
use Rattle.level_draw.proofs.SectionLemmas.{trace_read, joined_more}
use Rattle.level_draw.proofs.sections.sections_of.Goals as goal

pub join-requires-clause-trace : goal.join-requires-clause-trace
join-requires-clause-trace c =
    subst (λ (t : PlainTrace). IsTrace (plain_gaps c.args.gaps.now) t.steps)
    (trace_read c.args.traces.now c.loop-trace.trace-index c.trace-item.result c.loop-trace-test.true c.trace-item.is)
    (c.requires.steps c.loop-trace.trace-index c.loop-trace-test.true)

pub join-requires-clause-points : goal.join-requires-clause-points
join-requires-clause-points c =
    subst (λ (t : PlainTrace). All IsNear (points_through (plain_gaps c.args.gaps.now) t))
    (trace_read c.args.traces.now c.loop-trace.trace-index c.trace-item.result c.loop-trace-test.true c.trace-item.is)
    (c.requires.points c.loop-trace.trace-index c.loop-trace-test.true)

pub loop-trace-preserved : goal.loop-trace-preserved
loop-trace-preserved c =
    joined_more c.args.gaps.now c.args.traces.now c.loop-trace.trace-index c.loop-trace.sections.items c.push.new.self.items c.in_ok-join.field-0 c.loop-trace.invariant
    (subst (λ (t : PlainTrace). IsJoinOf (points_through (plain_gaps c.args.gaps.now) t) c.in_ok-join.field-0)
    (sym (trace_read c.args.traces.now c.loop-trace.trace-index c.trace-item.result c.loop-trace-test.true c.trace-item.is)) c.in_ok-join.ensures)
    c.in_ok-push.ensures.items
