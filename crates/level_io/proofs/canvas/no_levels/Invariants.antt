use Rattle.std.proofs.Common.{◌≡◌, map, take, None}
use Rattle.level_io.proofs.canvas.no_levels.Given as goal

abbrev pub invariant-loop-node : goal.invariant-loop-node
invariant-loop-node l = l.levels.items ≡ map (λ _. None) (take l._node-index l.nodes)
