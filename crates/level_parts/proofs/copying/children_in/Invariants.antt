use Rattle.std.proofs.Common.{◌≡◌, map, take}
use Rattle.level_model.specs.Conditions.{plain_level}
use Rattle.level_model.specs.Level.{child_at}
use Rattle.level_parts.proofs.copying.children_in.Given as goal

abbrev pub invariant-loop-number : goal.invariant-loop-number
invariant-loop-number l = l.children.items ≡ map (child_at (plain_level l.level)) (take l.number-index l.row)
