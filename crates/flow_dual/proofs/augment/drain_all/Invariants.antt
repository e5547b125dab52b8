use Rattle.std.proofs.Common.{length}
use Rattle.flow_dual.specs.Augmented.{IsDrainingAll}
use Rattle.flow_dual.proofs.augment.drain_all.Given as goal

abbrev pub invariant-sources : goal.invariant-sources
invariant-sources l = IsDrainingAll (length l.initial.layer) l.net.edges.now l.sources.items l.layer l.flow l.excess l.marks.reached.items l.marks.labels.items l.marks.dist.items

abbrev pub decreases-sources : goal.decreases-sources
decreases-sources l = length l.sources.items
