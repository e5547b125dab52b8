use Rattle.std.proofs.Common.{◌≡◌, pos, map, take}
use Rattle.level_layout.proofs.certificates.layers_of.Given as goal

abbrev pub invariant-loop-layer : goal.invariant-loop-layer
invariant-loop-layer l = map pos l.found.items ≡ take l.layer-index l.layers
