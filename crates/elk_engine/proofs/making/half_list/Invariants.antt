use Rattle.std.proofs.Common.{◌≡◌, ◌-◌, map}
use Rattle.std.specs.List.{range_with_len}
use Rattle.elk_engine.specs.DemoDocument.{half_edge}
use Rattle.elk_engine.proofs.making.half_list.Given as goal

abbrev pub invariant-loop-number : goal.invariant-loop-number
invariant-loop-number l = l.edges.items ≡ map half_edge (range_with_len 2 (l.number - 2))
