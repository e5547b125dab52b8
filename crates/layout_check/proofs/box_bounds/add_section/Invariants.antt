use Rattle.std.proofs.Common.{ℕ, ◌<◌, get_or}
use Rattle.drawing_types.specs.Shapes.{origin}
use Rattle.elk_doc.specs.Drawing.{points_of}
use Rattle.drawing_types.specs.Shapes.{point_rect}
use Rattle.layout_check.specs.BoxBounds.{Held, Keeps}
use Rattle.layout_check.proofs.box_bounds.add_section.Given as goal

abbrev pub invariant-loop-i : goal.invariant-loop-i
invariant-loop-i l =
    record {
      kept : Keeps l.options l.fn.bounds l.bounds;
      held : (k : ℕ) → k < l.i → Held l.options l.bounds l.part (point_rect (get_or (points_of l.section) k origin));
    }
