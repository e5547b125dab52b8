use Rattle.std.proofs.Common.{length}
use Rattle.unit_blocks.specs.Phases.{AreFloorsSoFar}
use Rattle.unit_blocks.proofs.tops.lower_floors.Given as goal

abbrev pub invariant-loop-u : goal.invariant-loop-u
invariant-loop-u l = AreFloorsSoFar l.blocks l.offsets (length l.initial.floor) l.u l.floor
