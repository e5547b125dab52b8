use Rattle.std.proofs.Common.{◌≡◌, pos, map, take}
use Rattle.flow_dual.proofs.start.as_layers.Given as goal

abbrev pub invariant-loop-sum : goal.invariant-loop-sum
invariant-loop-sum l = l.layer.items ≡ map pos (take l.sum-index l.sums)
