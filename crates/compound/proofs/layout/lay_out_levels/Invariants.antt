use Rattle.std.proofs.Common.{◌≤◌, length}
use Rattle.level_io.specs.Canvas.{drawing_of}
use Rattle.compound.specs.Work.{IsWork}
use Rattle.compound.proofs.layout.lay_out_levels.Given as goal

abbrev pub invariant-loop-left : goal.invariant-loop-left
invariant-loop-left l = (l.left ≤ length l.doc.nodes) × IsWork l.doc (drawing_of l.work.canvas) l.work.sizes.items l.left

abbrev pub decreases-loop-left : goal.decreases-loop-left
decreases-loop-left l = l.left
