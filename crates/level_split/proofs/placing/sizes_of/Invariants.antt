use Rattle.std.proofs.Common.{◌≡◌, map, take}
use Rattle.level_split.specs.Outlines.{outline_size}
use Rattle.level_split.proofs.placing.sizes_of.Given as goal

abbrev pub invariant-loop-outline : goal.invariant-loop-outline
invariant-loop-outline l = l.sizes.items ≡ map (outline_size l.way) (take l.outline-index l.outlines)
