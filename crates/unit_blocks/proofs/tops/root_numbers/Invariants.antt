use Rattle.std.proofs.Common.{◌≡◌, length}
use Rattle.unit_blocks.specs.Phases.{AreRootNumbers}
use Rattle.unit_blocks.proofs.tops.root_numbers.Given as goal

abbrev pub invariant-loop-b : goal.invariant-loop-b
invariant-loop-b l = (length l.number.items ≡ l.count) × AreRootNumbers l.roots l.b l.number.items
