use Rattle.std.proofs.Common.{◌==◌, ◌∙◌, ap, not}
use Rattle.level_model.specs.Conditions.{plain_level}
use Rattle.level_model.specs.declared.level.LevelEdge.{LevelEdge}
use Rattle.level_layout.specs.Marks.{node_of}
use Rattle.level_layout.proofs.GraphLemmas.{edge_read, marks_more}
use Rattle.level_layout.proofs.orienting.reversed_marks.Goals as goal

pub loop-e-preserved : goal.loop-e-preserved
loop-e-preserved c =
    let l = plain_level c.args.level.now in
    let read = edge_read l c.as_slice-edge-items.result.now c.loop-e.e _ c.as_slice-edge-items.ensures.value c.loop-e-test.true in
    marks_more l c.args.nodes.now c.args.keys.now c.args.arena.now c.loop-e.e c.loop-e.marks.items c.push.new.self.items c.runs_reversed.result c.loop-e.invariant
    (λ x ends. c.runs_reversed.ensures x ends ∙ ap (λ (y : LevelEdge). not (x.tail == node_of c.args.nodes.now y.source.child)) read.0) c.in_ok-push.ensures.items
