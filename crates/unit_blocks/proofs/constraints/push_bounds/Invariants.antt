use Rattle.std.proofs.Common.{◌≡◌, ◌-◌, ◌++◌, drop}
use Rattle.elk_layers.specs.Layered.{plain}
use Rattle.unit_blocks.specs.Constraints.{bounds_along}
use Rattle.unit_blocks.specs.Phases.{distance_of}
use Rattle.unit_blocks.proofs.constraints.push_bounds.Given as goal

abbrev pub invariant-loop-i : goal.invariant-loop-i
invariant-loop-i l =
    l.bounds.items ++ bounds_along (distance_of (plain l.layered) l.outlines) l.blocks l.offsets (drop (l.i - 1) l.units)
    ≡ l.initial.bounds.items ++ bounds_along (distance_of (plain l.layered) l.outlines) l.blocks l.offsets l.units
