-- A drawing that is held has small coordinates, and fits its document.
use Rattle.std.proofs.Common.{arith}
use Rattle.std.proofs.lemmas.Int.{ints}
use Rattle.std.proofs.lemmas.List.Elements.{All-weaker}
use Rattle.drawing_types.specs.declared.shape.Point.{Point}
use Rattle.drawing_types.specs.declared.section.Section.{Section}
use Rattle.elk_doc.specs.Fits.{FitsSection}
use Rattle.drawing_types.specs.Ranges.{IsNear}
use Rattle.drawing_laws.specs.Held.{HeldDrawingsAreSmall, HeldDrawingsFit, IsSmallPoint, IsSmallSection}
use Rattle.drawing_laws.proofs.BoxLemmas.{boxes_fit, boxes_small}
use Rattle.drawing_laws.proofs.PortLemmas.{ports_small}
use Rattle.drawing_laws.proofs.SectionLemmas.{sections_small}

near_point : (q : Point) → IsSmallPoint q → IsNear q
near_point q small = omega (arith, ints)

near_section : (s : Section) → IsSmallSection s → FitsSection s
near_section s small =
    record { start = near_point s.start small.start; bends = All-weaker IsSmallPoint IsNear near_point s.bends small.bends; end = near_point s.end small.end }

pub held_drawings_are_small : HeldDrawingsAreSmall
held_drawings_are_small d p sound held =
    record { boxes = boxes_small d p sound held; ports = ports_small d p sound held; sections = sections_small d p sound held }

pub held_drawings_fit : HeldDrawingsFit
held_drawings_fit d p sound held =
    record {
      counts = held.counts;
      root = held.root;
      range = record {
        boxes = boxes_fit d p sound held;
        ports = All-weaker IsSmallPoint IsNear near_point p.ports (ports_small d p sound held);
        sections = All-weaker IsSmallSection FitsSection near_section p.sections (sections_small d p sound held);
      };
      leaves = held.leaves;
      certificates = held.certificates;
    }
