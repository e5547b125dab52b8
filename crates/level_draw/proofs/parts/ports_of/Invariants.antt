use Rattle.std.proofs.Common.{◌≡◌}
use Rattle.level_draw.specs.Parts.{ports_in}
use Rattle.level_draw.proofs.parts.ports_of.Given as goal

abbrev pub invariant-loop-child : goal.invariant-loop-child
invariant-loop-child l = l.ports.items ≡ ports_in l.yielded
