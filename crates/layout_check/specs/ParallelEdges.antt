-- Two edges from node to node that keep apart.
use Rattle.std.specs.Prelude.{[], ◌∷◌, Some, None}
use Rattle.drawing_types.specs.declared.shape.Rect.{Rect}
use Rattle.elk_doc.specs.declared.document.PortRule.TheVariants.{Free}
use Rattle.elk_doc.specs.declared.document.Direction.TheVariants.{Right}
use Rattle.elk_doc.specs.declared.document.End.TheVariants.{Node as AtNode}
use Rattle.drawing_types.specs.declared.section.Section.{Section}
use Rattle.elk_doc.specs.declared.drawing.Certificate.{Certificate}
use Rattle.elk_doc.specs.declared.drawing.Placed.{Placed}
use Rattle.elk_doc.specs.Document.{Document}
use Rattle.elk_doc.specs.Examples.{rect, size, root, leaf, edge, options}
use Rattle.elk_doc.specs.Apart.{Apart}
use Rattle.elk_doc.specs.Sharing.{Sharing}
use Rattle.elk_doc.specs.Drawn.{Drawn}
use Rattle.layout_check.specs.RoundTrip.{at_xy}

abbrev pub parallel : Document
parallel =
    record {
      nodes = root Right ∷ leaf 1 Free (size 30 30) ∷ leaf 2 Free (size 30 30) ∷ [];
      ports = [];
      edges = edge (AtNode 1) (AtNode 2) ∷ edge (AtNode 1) (AtNode 2) ∷ [];
    }

abbrev pub two_edges : Certificate
two_edges = record { layers = 0 ∷ 1 ∷ []; reversed = []; flow = 1 ∷ 1 ∷ []; span = 2; parts = [] }

-- the drawing with this box of the second node and this section of the second edge
abbrev pub parallel_with : Rect → Section → Placed
parallel_with right second =
    record {
      boxes = rect 0 0 104 54 ∷ rect 12 12 30 30 ∷ right ∷ [];
      ports = [];
      sections = record { start = at_xy 42 22; bends = []; end = at_xy 62 22 } ∷ second ∷ [];
      levels = Some two_edges ∷ None ∷ None ∷ [];
    }

abbrev pub lower : Section
lower = record { start = at_xy 42 32; bends = []; end = at_xy 62 32 }

abbrev pub parallel_drawn : Placed
parallel_drawn = parallel_with (rect 62 12 30 30) lower

-- a way of the second edge that runs along the first for a while
abbrev pub joining : Section
joining = record lower { bends = at_xy 47 32 ∷ at_xy 47 22 ∷ at_xy 57 22 ∷ at_xy 57 32 ∷ [] }

-- One change each: the second node one nearer, and a second edge that runs along the first.
pub record ParallelEdges : Type 0 where
  pub drawn : Drawn parallel parallel_drawn
  pub near : Apart parallel (parallel_with (rect 61 12 30 30) lower) 0 (options Right) two_edges → ⊥
  pub joined : Sharing parallel (parallel_with (rect 62 12 30 30) joining) 0 1 → ⊥
