use Rattle.std.proofs.Common.{◌<◌, ◌∙◌, subst, sym}
use Rattle.level_model.specs.Conditions.{plain_level}
use Rattle.level_model.specs.Level.{edge_at}
use Rattle.dock_table.specs.Ends.{upright}
use Rattle.dock_table.proofs.LoopLemmas.{dock_kept, two_within, loop_counted, loop_ready, loops_start}
use Rattle.dock_table.proofs.loops.loop_lanes.Goals as goal

pub loop-e-init : goal.loop-e-init
loop-e-init c = loops_start (plain_level c.args.level.now) c.args.ends.now (upright c.args.north) c.in_ok-lanes.lanes (c.in_ok-lanes.ensures.counts ∙ c.len.ensures) (c.in_ok-lanes.ensures.places ∙ c.len-2.ensures) (λ k h. c.in_ok-lanes.ensures.zero k (subst (λ n. k < n) (sym c.len.ensures) h)) c.in_ok-lanes.ensures.few

pub count_loop-requires-clause-child : goal.count_loop-requires-clause-child
count_loop-requires-clause-child c = (loop_ready (plain_level c.args.level.now) c.args.ends.now (upright c.args.north) c.as_slice-edges.result.now c.loop-e.e _ c.loop-e.lanes c.as_slice-edges.ensures.value c.loop-e-test.true c.requires.level c.loop-e.invariant).0

pub count_loop-requires-clause-edge : goal.count_loop-requires-clause-edge
count_loop-requires-clause-edge c = (loop_ready (plain_level c.args.level.now) c.args.ends.now (upright c.args.north) c.as_slice-edges.result.now c.loop-e.e (edge_at (plain_level c.args.level.now) 0) c.loop-e.lanes c.as_slice-edges.ensures.value c.loop-e-test.true c.requires.level c.loop-e.invariant).1

pub count_loop-requires-clause-few : goal.count_loop-requires-clause-few
count_loop-requires-clause-few c = (loop_ready (plain_level c.args.level.now) c.args.ends.now (upright c.args.north) c.as_slice-edges.result.now c.loop-e.e _ c.loop-e.lanes c.as_slice-edges.ensures.value c.loop-e-test.true c.requires.level c.loop-e.invariant).2

pub loop-e-preserved : goal.loop-e-preserved
loop-e-preserved c =
    let twice = two_within (plain_level c.args.level.now) c.args.ends.now c.as_slice-edges.result.now c.loop-e.e c.as_slice-edges.ensures.value c.loop-e-test.true c.requires.ends in
    loop_counted (plain_level c.args.level.now) c.args.ends.now (upright c.args.north) c.as_slice-edges.result.now c.loop-e.e _ _ _ c.loop-e.lanes c.count_loop.new.lanes c.as_slice-edges.ensures.value c.loop-e-test.true c.requires.level
    (dock_kept c.args.ends.now _ _ twice.0) (dock_kept c.args.ends.now _ _ twice.1) c.count_loop.ensures c.loop-e.invariant
