-- A level whose connected parts stand apart, with a pinned port, ports in a fixed order and a weighted edge.
use Rattle.std.specs.Prelude.{ℕ, pos, negsuc, [], ◌∷◌, Some, None, true}
use Rattle.drawing_types.specs.declared.shape.Point.{Point}
use Rattle.drawing_types.specs.declared.shape.Side.TheVariants.{North}
use Rattle.elk_doc.specs.declared.document.Id.TheVariants.{Whole}
use Rattle.elk_doc.specs.declared.document.PortRule.TheVariants.{Free, FixedOrder, FixedPos}
use Rattle.elk_doc.specs.declared.document.Direction.TheVariants.{Right}
use Rattle.elk_doc.specs.declared.document.End.TheVariants.{Node as AtNode, Port as AtPort}
use Rattle.elk_doc.specs.declared.document.LevelOptions.{LevelOptions}
use Rattle.elk_doc.specs.declared.document.Port.{Port}
use Rattle.elk_doc.specs.declared.drawing.Certificate.{Certificate}
use Rattle.elk_doc.specs.declared.drawing.Placed.{Placed}
use Rattle.elk_doc.specs.Document.{Document}
use Rattle.elk_doc.specs.Examples.{point, rect, size, root, leaf, edge, options}
use Rattle.elk_doc.specs.Apart.{Apart}
use Rattle.elk_doc.specs.PortsKept.{PortsKept}
use Rattle.elk_doc.specs.FlowProof.{FlowProof}
use Rattle.elk_doc.specs.Fitted.{Fitted}
use Rattle.elk_doc.specs.Drawn.{Drawn}
use Rattle.layout_check.specs.RoundTrip.{at_xy}

abbrev pub split_options : LevelOptions
split_options = record (options Right) { split = true }

-- a port of 10 by 10
abbrev pub small_port : Port
small_port = record { id = Whole (pos 4); node = 3; size = size 10 10; place = at_xy 0 0; side = Some North; index = pos 0 }

-- An edge of weight 2 from the pinned port of the first node to the second, and a third node by itself, whose second port
-- comes before the first.
abbrev pub split_level : Document
split_level =
    record {
      nodes = record (root Right) { level = Some split_options } ∷ leaf 1 FixedPos (size 30 30) ∷ leaf 2 Free (size 30 30) ∷
          leaf 3 FixedOrder (size 30 30) ∷ [];
      ports = record small_port { node = 1; place = at_xy 30 5; side = None } ∷ record small_port { index = pos 1 } ∷ small_port ∷ [];
      edges = record (edge (AtPort 0) (AtNode 2)) { weight = 2 } ∷ [];
    }

abbrev pub two_parts : Certificate
two_parts = record { layers = 0 ∷ 1 ∷ 0 ∷ []; reversed = []; flow = 2 ∷ []; span = 2; parts = 0 ∷ 0 ∷ 1 ∷ [] }

-- the drawing with the third node at this height, and these places of the ports
abbrev pub split_with : ℕ → Point → Point → Point → Placed
split_with low p q r =
    record {
      boxes = rect 0 0 114 119 ∷ rect 12 17 30 30 ∷ rect 72 12 30 30 ∷ rect 12 low 30 30 ∷ [];
      ports = p ∷ q ∷ r ∷ [];
      sections = record { start = at_xy 52 27; bends = []; end = at_xy 72 27 } ∷ [];
      levels = Some two_parts ∷ None ∷ None ∷ None ∷ [];
    }

-- a place above the third node
abbrev pub above_at : ℕ → Point
above_at a = point (pos a) (negsuc 9)

abbrev pub split_drawn : Placed
split_drawn = split_with 77 (at_xy 30 5) (above_at 15) (above_at 5)

pub record SplitLevelDrawn : Type 0 where
  pub drawn : Drawn split_level split_drawn
  pub fitted : Fitted split_level split_drawn

-- One change each: parts that stand too near, a part number left out, the pinned port moved along its side, the ordered
-- ports exchanged, and a flow that leaves the weight out.
pub record SplitLevelSpoilt : Type 0 where
  pub near : Apart split_level (split_with 76 (at_xy 30 5) (above_at 15) (above_at 5)) 0 split_options two_parts → ⊥
  pub number_left_out : Apart split_level split_drawn 0 split_options (record two_parts { parts = 0 ∷ 0 ∷ 2 ∷ [] }) → ⊥
  pub moved : PortsKept split_level (split_with 77 (at_xy 30 6) (above_at 15) (above_at 5)) 0 → ⊥
  pub exchanged : PortsKept split_level (split_with 77 (at_xy 30 5) (above_at 5) (above_at 15)) 0 → ⊥
  pub weightless : FlowProof split_level split_drawn 0 (record two_parts { flow = 1 ∷ [] }) → ⊥
