use Rattle.std.proofs.Common.{length}
use Rattle.level_model.specs.Conditions.{plain_level}
use Rattle.level_layout.specs.Marks.{AreEdges, AreNodes}
use Rattle.level_layout.proofs.orienting.add_edges.Given as goal

abbrev pub invariant-loop-edge : goal.invariant-loop-edge
invariant-loop-edge l = AreNodes l.arena (length l.level.children) l.nodes × AreEdges (plain_level l.level) l.nodes l.arena l.edge-index l.keys.items
