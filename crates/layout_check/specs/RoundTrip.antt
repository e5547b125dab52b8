-- Edges to and fro between a port and a node: a reversed edge, bends, a loop at one dock, and routes that share a piece.
use Rattle.std.specs.Prelude.{ℕ, pos, [], ◌∷◌, Some, None}
use Rattle.drawing_types.specs.declared.shape.Rect.{Rect}
use Rattle.drawing_types.specs.declared.shape.Point.{Point}
use Rattle.elk_doc.specs.declared.document.PortRule.TheVariants.{Free}
use Rattle.elk_doc.specs.declared.document.Direction.TheVariants.{Right}
use Rattle.elk_doc.specs.declared.document.End.TheVariants.{Node as AtNode, Port as AtPort}
use Rattle.drawing_types.specs.declared.section.Section.{Section}
use Rattle.elk_doc.specs.declared.drawing.Certificate.{Certificate}
use Rattle.elk_doc.specs.declared.drawing.Placed.{Placed}
use Rattle.elk_doc.specs.Document.{Document}
use Rattle.elk_doc.specs.Examples.{point, rect, size, root, leaf, edge, options}
use Rattle.elk_doc.specs.Inside.{Inside}
use Rattle.elk_doc.specs.PortsKept.{PortsKept}
use Rattle.elk_doc.specs.Route.{Route}
use Rattle.elk_doc.specs.Clear.{Clear}
use Rattle.elk_doc.specs.Reversed.{Reversed}
use Rattle.elk_doc.specs.Layering.{Layering}
use Rattle.elk_doc.specs.FlowProof.{FlowProof}
use Rattle.elk_doc.specs.Fitted.{Fitted}
use Rattle.elk_doc.specs.Drawing.{path_of}
use Rattle.elk_doc.specs.Sharing.{PathsShare}
use Rattle.elk_doc.specs.Drawn.{Drawn}

-- two edges from the port of the first node to the second node, one back, and one from the port to itself
abbrev pub round_trip : Document
round_trip =
    record {
      nodes = root Right ∷ leaf 1 Free (size 30 30) ∷ leaf 2 Free (size 30 30) ∷ [];
      ports = record {
        id = Rattle.elk_doc.specs.declared.document.Id.TheVariants.Whole (pos 3);
        node = 1;
        size = size 10 10;
        place = point (pos 0) (pos 0);
        side = None;
        index = pos 0;
      } ∷ [];
      edges = edge (AtPort 0) (AtNode 2) ∷ edge (AtPort 0) (AtNode 2) ∷ edge (AtNode 2) (AtPort 0) ∷ edge (AtPort 0) (AtPort 0) ∷ [];
    }

abbrev pub at_xy : ℕ → ℕ → Point
at_xy a b = point (pos a) (pos b)

-- the first edge rises in the gap, the second runs straight, the one back falls, and all begin or end at the port
abbrev pub rising : Section
rising = record { start = at_xy 52 27; bends = at_xy 62 27 ∷ at_xy 62 19 ∷ []; end = at_xy 72 19 }

abbrev pub straight : Section
straight = record { start = at_xy 52 27; bends = []; end = at_xy 72 27 }

abbrev pub falling : Section
falling = record { start = at_xy 72 34; bends = at_xy 62 34 ∷ at_xy 62 27 ∷ []; end = at_xy 52 27 }

abbrev pub staying : Section
staying = record { start = at_xy 52 27; bends = []; end = at_xy 52 27 }

-- the edge back is listed as reversed
abbrev pub one_back : Certificate
one_back = record { layers = 0 ∷ 1 ∷ []; reversed = 2 ∷ []; flow = 1 ∷ 1 ∷ 1 ∷ 0 ∷ []; span = 3; parts = [] }

-- the drawing with this box of the root, this place of the port, this section of the straight edge and this certificate
abbrev pub drawn_with : Rect → Point → Section → Certificate → Placed
drawn_with outer place second c =
    record {
      boxes = outer ∷ rect 12 12 30 30 ∷ rect 72 12 30 30 ∷ [];
      ports = place ∷ [];
      sections = rising ∷ second ∷ falling ∷ staying ∷ [];
      levels = Some c ∷ None ∷ None ∷ [];
    }

abbrev pub round_trip_drawn : Placed
round_trip_drawn = drawn_with (rect 0 0 114 54) (at_xy 30 10) straight one_back

-- it is drawn and has no more room than it needs, and the first two routes share a piece
pub record RoundTripDrawn : Type 0 where
  pub drawn : Drawn round_trip round_trip_drawn
  pub fitted : Fitted round_trip round_trip_drawn
  pub shared : PathsShare (path_of round_trip_drawn 0) (path_of round_trip_drawn 1)

-- One change each: a root that is one too narrow, a port that stands off its node, an edge that ends within its node, a
-- list without the edge back, both nodes in one layer, a span that is one too small, and a flow that misses an edge.
pub record RoundTripSpoilt : Type 0 where
  pub narrow : Inside round_trip (drawn_with (rect 0 0 113 54) (at_xy 30 10) straight one_back) 0 (options Right) → ⊥
  pub standing_off : PortsKept round_trip (drawn_with (rect 0 0 114 54) (at_xy 31 10) straight one_back) 0 → ⊥
  pub slanting : Route round_trip (drawn_with (rect 0 0 114 54) (at_xy 30 10) (record straight { end = at_xy 72 28 }) one_back) 1 → ⊥
  pub entering : Clear round_trip (drawn_with (rect 0 0 114 54) (at_xy 30 10) (record straight { end = at_xy 82 27 }) one_back) 1 2 → ⊥
  pub unlisted : Reversed round_trip 0 (record one_back { reversed = [] }) → ⊥
  pub one_layer : Layering round_trip round_trip_drawn 0 (record one_back { layers = 0 ∷ 0 ∷ [] }) → ⊥
  pub small_span : Layering round_trip round_trip_drawn 0 (record one_back { span = 2 }) → ⊥
  pub missing_flow : FlowProof round_trip round_trip_drawn 0 (record one_back { flow = 1 ∷ 1 ∷ 0 ∷ 0 ∷ [] }) → ⊥
