use Rattle.std.proofs.Common.{◌≡◌, map, take}
use Rattle.compound.specs.Work.{given_size}
use Rattle.compound.proofs.sizes.given_sizes.Given as goal

abbrev pub invariant-loop-node : goal.invariant-loop-node
invariant-loop-node l = l.sizes.items ≡ map given_size (take l.node-index l.nodes)
