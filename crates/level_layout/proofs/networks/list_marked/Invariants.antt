use Rattle.std.proofs.Common.{◌≡◌}
use Rattle.layer_units.specs.Marks.{listed_to}
use Rattle.level_layout.proofs.networks.list_marked.Given as goal

abbrev pub invariant-loop-e : goal.invariant-loop-e
invariant-loop-e l = l.numbers.items ≡ listed_to l.marks l.e
