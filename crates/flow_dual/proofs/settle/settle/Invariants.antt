use Rattle.flow_dual.specs.Searching.{IsSettled}
use Rattle.flow_dual.proofs.settle.settle.Given as goal

abbrev pub invariant-loop-x : goal.invariant-loop-x
invariant-loop-x l = IsSettled l.initial.layer l.initial.reached l.initial.labels l.dist l.now l.order l.x-index l.layer l.reached l.labels
