use Rattle.std.proofs.Common.{◌≡◌, drop}
use Rattle.working_frame.specs.Reach.{corners_of}
use Rattle.working_frame.specs.Walk.{reach_over}
use Rattle.working_frame.proofs.spanning.over_outlines.Given as goal

abbrev pub invariant-loop-outline : goal.invariant-loop-outline
invariant-loop-outline l = reach_over l.found (corners_of (drop l.outline-index l.outlines)) ≡ reach_over l.initial.found (corners_of l.outlines)
