use Rattle.std.proofs.Common.{◌≡◌, ◌-◌, ◌∷◌, map}
use Rattle.std.specs.List.{range_with_len}
use Rattle.elk_engine.specs.DemoDocument.{demo_root, demo_leaf}
use Rattle.elk_engine.proofs.making.node_list.Given as goal

abbrev pub invariant-loop-number : goal.invariant-loop-number
invariant-loop-number l = l.list.items ≡ demo_root ∷ map demo_leaf (range_with_len 1 (l.number - 1))
