use Rattle.std.proofs.Common.{length}
use Rattle.flow_dual.specs.Queue.{waiting, AreInOrder}
use Rattle.flow_dual.specs.Rounds.{unreached}
use Rattle.flow_dual.specs.Searching.{IsSearching}
use Rattle.flow_dual.proofs.turns.search.Given as goal

abbrev pub invariant-turns : goal.invariant-turns
invariant-turns l =
    AreInOrder l.steps
    × IsSearching (length l.layer) l.net.edges.now l.layer l.flow l.source l.turn l.steps.now l.marks.reached.items l.marks.labels.items l.marks.dist.items l.marks.order.items (waiting l.steps)

abbrev pub decreases-turns : goal.decreases-turns
decreases-turns l = unreached l.marks.reached.items
