use Rattle.std.proofs.Common.{◌≡◌, map, take}
use Rattle.level_parts.specs.Parts.{join}
use Rattle.level_parts.proofs.numbering.joins_of.Given as goal

abbrev pub invariant-loop-edge : goal.invariant-loop-edge
invariant-loop-edge l = l.found.items ≡ map join (take l.edge-index l.edges)
