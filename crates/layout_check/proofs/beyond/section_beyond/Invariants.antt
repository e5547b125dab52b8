use Rattle.std.proofs.Common.{ℕ, ◌<◌, get_or}
use Rattle.drawing_types.specs.Shapes.{origin}
use Rattle.elk_doc.specs.Drawing.{points_of}
use Rattle.drawing_types.specs.Shapes.{point_rect}
use Rattle.layout_check.specs.FirstApart.{IsBeyond}
use Rattle.layout_check.proofs.beyond.section_beyond.Given as goal

abbrev pub invariant-loop-i : goal.invariant-loop-i
invariant-loop-i l = (k : ℕ) → k < l.i → IsBeyond l.across l.options.component l.options.direction l.r (point_rect (get_or (points_of l.section) k origin))
