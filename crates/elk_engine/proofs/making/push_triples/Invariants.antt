use Rattle.std.proofs.Common.{◌≡◌, ◌-◌, ◌++◌, map}
use Rattle.std.specs.List.{range_with_len}
use Rattle.elk_engine.specs.DemoDocument.{triple_edge}
use Rattle.elk_engine.proofs.making.push_triples.Given as goal

abbrev pub invariant-loop-number : goal.invariant-loop-number
invariant-loop-number l = l.edges.items ≡ l.initial.edges.items ++ map (triple_edge l.nodes) (range_with_len 1 (l.number - 1))
