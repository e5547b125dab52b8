use Rattle.std.proofs.Common.{ℕ, ◌<◌, get_or}
use Rattle.drawing_types.specs.Shapes.{origin}
use Rattle.elk_doc.specs.Drawing.{points_of}
use Rattle.drawing_types.specs.Shapes.{point_rect}
use Rattle.layout_check.specs.FirstApart.{PartBeyond}
use Rattle.layout_check.specs.Levels.{at_level}
use Rattle.layout_check.proofs.beyond.section_clear.Given as goal

abbrev pub invariant-loop-t : goal.invariant-loop-t
invariant-loop-t l = (k : ℕ) → k < l.t → at_level PartBeyond l.level l.across (point_rect (get_or (points_of l.section) k origin)) l.j
