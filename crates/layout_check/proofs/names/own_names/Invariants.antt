use Rattle.layout_check.specs.Shapes.{Lists}
use Rattle.layout_check.proofs.names.own_names.Given as goal

abbrev pub invariant-loop-node : goal.invariant-loop-node
invariant-loop-node l = Lists (λ v. v) l.node l.names.items
