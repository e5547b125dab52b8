use Rattle.std.proofs.Common.{◌≡◌, map, take}
use Rattle.level_parts.specs.Divided.{part_of_edge}
use Rattle.level_parts.proofs.numbering.edge_numbers.Given as goal

abbrev pub invariant-loop-edge : goal.invariant-loop-edge
invariant-loop-edge l = l.found.items ≡ map (part_of_edge l.numbers) (take l.edge-index l.level.edges)
