use Rattle.std.proofs.Common.{map}
use Rattle.level_model.specs.Conditions.{plain_level}
use Rattle.layer_units.specs.Levels.{AreRanksTo}
use Rattle.layer_units.specs.Ports.{plain_ranks}
use Rattle.layer_units.proofs.children.ranks_of_children.Given as goal

abbrev pub invariant-loop-c : goal.invariant-loop-c
invariant-loop-c l = AreRanksTo (plain_level l.level) l.marks l.c (map plain_ranks l.ranks.items)
