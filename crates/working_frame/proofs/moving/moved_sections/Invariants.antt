use Rattle.std.proofs.Common.{◌≡◌, map}
use Rattle.working_frame.specs.Moved as spec
use Rattle.working_frame.proofs.moving.moved_sections.Given as goal

abbrev pub invariant-loop-section : goal.invariant-loop-section
invariant-loop-section l = l.moved.items ≡ map (spec.moved_section l.by.x l.by.y) l.yielded
