use Rattle.std.proofs.Common.{◌≡◌, map, take}
use Rattle.level_model.specs.Conditions.{plain_level}
use Rattle.level_layout.specs.Chosen.{unit_key}
use Rattle.level_layout.proofs.keys.keys_of.Given as goal

abbrev pub invariant-loop-unit : goal.invariant-loop-unit
invariant-loop-unit l = l.keys.items ≡ map (unit_key (plain_level l.level)) (take l.unit-index l.units)
