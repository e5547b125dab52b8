use Rattle.std.proofs.Common.{length}
use Rattle.network_laws.specs.Layering.{layer_of, natural}
use Rattle.flow_dual.specs.Augmented.{IsDraining}
use Rattle.flow_dual.proofs.augment.drain.Given as goal

abbrev pub invariant-loop-excess : goal.invariant-loop-excess
invariant-loop-excess l = IsDraining (length l.initial.layer) l.net.edges.now l.source l.initial.excess l.layer l.flow l.excess l.marks.reached.items l.marks.labels.items l.marks.dist.items

abbrev pub decreases-loop-excess : goal.decreases-loop-excess
decreases-loop-excess l = natural (layer_of l.excess l.source)
