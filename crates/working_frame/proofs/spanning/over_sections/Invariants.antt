use Rattle.std.proofs.Common.{◌≡◌, drop}
use Rattle.working_frame.specs.Reach.{points_of}
use Rattle.working_frame.specs.Walk.{reach_over}
use Rattle.working_frame.proofs.spanning.over_sections.Given as goal

abbrev pub invariant-loop-section : goal.invariant-loop-section
invariant-loop-section l = reach_over l.found (points_of (drop l.section-index l.sections)) ≡ reach_over l.initial.found (points_of l.sections)
