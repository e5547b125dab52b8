-- Ports and ends of edges as they stand on the sides of their nodes.
use Rattle.std.specs.Prelude.{◌≡◌, ◌≢◌, ℕ, ◌<◌, Bool, true, false, not, pos, ◌<ℤ◌, length, IsTrue}
use Rattle.drawing_types.specs.declared.shape.Point.{Point}
use Rattle.drawing_types.specs.declared.shape.Size.{Size}
use Rattle.drawing_types.specs.declared.shape.Rect.{Rect}
use Rattle.drawing_types.specs.declared.shape.Side.{Side}
use Rattle.elk_doc.specs.declared.document.End.{End}
use Rattle.elk_doc.specs.declared.document.End.TheVariants.{Node as AtNode, Port as AtPort}
use Rattle.elk_doc.specs.declared.drawing.Placed.{Placed}
use Rattle.elk_doc.specs.Document.{Document, node_of_port}
use Rattle.elk_doc.specs.Drawing.{box_of}
use Rattle.elk_doc.specs.Places.{dock_of}
use Rattle.elk_doc.specs.PortsKept.{Spot, a_port, an_end, across, flush, is_pinned, port_offset, side_length, spread_count}
use Rattle.elk_doc.specs.Sides.{end_node, end_of, side_of_end, side_of_port}
use Rattle.elk_doc.specs.Sound.{along}
use Rattle.drawing_types.specs.Ranges.{IsWithin}
use Rattle.layout_check.specs.declared.spots.SideSpot.{SideSpot}

-- whether an end stands at a node itself
abbrev pub is_implicit : End → Bool
is_implicit (AtNode n) = true
is_implicit (AtPort k) = false

-- a port, and an end of an edge, as it stands on a side of its node
abbrev pub port_spot : Document → Placed → ℕ → SideSpot
port_spot d p k =
    record { node = node_of_port d k; side = side_of_port d p k; offset = port_offset d p k; spread = not (is_pinned d k) }

abbrev pub end_spot : Document → Placed → ℕ → Bool → SideSpot
end_spot d p e at_source =
    record {
      node = end_node d e at_source;
      side = side_of_end d p e at_source;
      offset = (dock_of d p e at_source).offset;
      spread = is_implicit (end_of d e at_source);
    }

abbrev pub spot_of : Document → Placed → Spot → SideSpot
spot_of d p (a_port k) = port_spot d p k
spot_of d p (an_end e at_source) = end_spot d p e at_source

-- the number of a spot's port or edge is there
abbrev pub IsSpotIn : Document → Spot → Type 0
IsSpotIn d (a_port k) = k < length d.ports
IsSpotIn d (an_end e at_source) = e < length d.edges

-- a side is longer than the number of its spread spots
abbrev pub IsRoomy : Document → Placed → ℕ → Side → Type 0
IsRoomy d p m s = pos (spread_count d p m s) <ℤ side_length s (box_of p m)

-- two spread spots of one side have different offsets, where there is room
abbrev pub KeepApart : Bool → SideSpot → SideSpot → Type 0
KeepApart roomy x y =
    IsTrue roomy → IsTrue x.spread → IsTrue y.spread → x.node ≡ y.node → x.side ≡ y.side → x.offset ≢ y.offset

-- the offset of a spot that is asked to lie on its side of this rectangle
abbrev pub LiesOn : Bool → Rect → SideSpot → Type 0
LiesOn asked outer x = IsTrue asked → IsWithin (pos 0) (side_length x.side outer) x.offset

-- two places that are asked to agree along a side, or across it, and one that is asked to be flush
abbrev pub AgreeAlong : Bool → Side → Point → Point → Type 0
AgreeAlong asked side a b = IsTrue asked → along side a ≡ along side b

abbrev pub AgreeAcross : Bool → Side → Point → Point → Type 0
AgreeAcross asked side a b = IsTrue asked → across side a ≡ across side b

abbrev pub StandsFlush : Bool → Side → Rect → Point → Size → Type 0
StandsFlush asked side outer place size = IsTrue asked → across side place ≡ flush side outer size
