-- The size that a node needs round the drawing of its level.
use Rattle.std.specs.Prelude.{◌≡◌, ◌≢◌, ℕ, ◌<◌, ◌⊎◌, Bool, true, false, cond, List, length, ℤ, ◌+ℤ◌, Option, None, Some, IsTrue}
use Rattle.std.specs.Prelude.{slice_index_or, slice_set}
use Rattle.std.specs.Int.{int_max}
use Rattle.drawing_types.specs.declared.shape.Point.{Point}
use Rattle.drawing_types.specs.declared.shape.Size.{Size}
use Rattle.drawing_types.specs.declared.shape.Rect.{Rect}
use Rattle.drawing_types.specs.declared.shape.Side.{Side}
use Rattle.drawing_types.specs.declared.shape.Side.TheVariants.{North, East, South, West}
use Rattle.elk_doc.specs.declared.document.PortRule.{PortRule}
use Rattle.elk_doc.specs.declared.document.PortRule.TheVariants.{Free, FixedSide, FixedOrder, FixedPos}
use Rattle.elk_doc.specs.declared.document.LevelOptions.{LevelOptions}
use Rattle.elk_doc.specs.declared.drawing.Placed.{Placed}
use Rattle.elk_doc.specs.Document.{Document, node_at, port_at, node_of_port}
use Rattle.elk_doc.specs.Level.{edges_of, IsChild}
use Rattle.elk_doc.specs.Drawing.{box_of, no_rect, port_place}
use Rattle.elk_doc.specs.Fits.{IsSolid}
use Rattle.elk_doc.specs.Fitted.{IsGreatestOf}
use Rattle.elk_doc.specs.PortsKept.{is_pinned}
use Rattle.drawing_types.specs.Shapes.{rect_at}
use Rattle.elk_doc.specs.Sides.{side_of_port}
use Rattle.elk_doc.specs.Sound.{along}
use Rattle.level_model.specs.FromPlan.{LevelDrawing}
use Rattle.working_frame.specs.Kept.{AgreeAt}
use Rattle.working_frame.specs.Numbered.{IsPortOf}
use Rattle.working_frame.specs.Rotated.{box_size, rotated_size}
use Rattle.rotated_levels.specs.Framed.{IsFramed, start_of}
use Rattle.level_io.specs.Changed.{number_at}
use Rattle.level_io.specs.Canvas.{IsDrawingOf}

-- the side on which a port of a compound node is pinned: the side that it asks for, where positions are fixed
abbrev pub pinned_under : PortRule → Option Side → Option Side
pinned_under Free asked = None
pinned_under FixedSide asked = None
pinned_under FixedOrder asked = None
pinned_under FixedPos asked = asked

-- where a port with this place and size ends that lies on North or South, and where one ends that lies on East or West
abbrev pub end_across : Option Side → Point → Size → Option ℤ
end_across None q s = None
end_across (Some North) q s = Some (q.x +ℤ s.width)
end_across (Some East) q s = None
end_across (Some South) q s = Some (q.x +ℤ s.width)
end_across (Some West) q s = None

abbrev pub end_down : Option Side → Point → Size → Option ℤ
end_down None q s = None
end_down (Some North) q s = None
end_down (Some East) q s = Some (q.y +ℤ s.height)
end_down (Some South) q s = None
end_down (Some West) q s = Some (q.y +ℤ s.height)

abbrev pub pinned_side : Document → ℕ → Option Side
pinned_side d k = pinned_under (node_at d (node_of_port d k)).rule (port_at d k).side

-- the end of a pinned port of a compound node by its given place, across or down
abbrev pub end_of : Document → Bool → ℕ → Option ℤ
end_of d across k =
    cond across (end_across (pinned_side d k) (port_at d k).place (port_at d k).size)
    (end_down (pinned_side d k) (port_at d k).place (port_at d k).size)

-- the greater of a length and of an end, where there is one
abbrev pub raised : ℤ → Option ℤ → ℤ
raised z None = z
raised z (Some end) = int_max z end

-- a length that is asked for: that of the padded content, or the end of one of the first ports of a list
abbrev pub AsksListed : Document → Bool → ℤ → List ℕ → ℕ → ℤ → Type 0
AsksListed d across base ports count z =
    (z ≡ base) ⊎ ((i : ℕ) × (i < count) × (end_of d across (number_at ports i) ≡ Some z))

-- a length that the node n asks for: that of the padded content, or the end of a pinned port
abbrev pub Asks : Document → Bool → ℤ → ℕ → ℤ → Type 0
Asks d across base n z = (z ≡ base) ⊎ ((k : ℕ) × IsPortOf d n k × (end_of d across k ≡ Some z))

-- content of this extent in the frame with the padding on both sides
abbrev pub padded_width : LevelOptions → Size → ℤ
padded_width o extent = (o.padding.left +ℤ (rotated_size o.direction extent).width) +ℤ o.padding.right

abbrev pub padded_height : LevelOptions → Size → ℤ
padded_height o extent = (o.padding.top +ℤ (rotated_size o.direction extent).height) +ℤ o.padding.bottom

-- a size round content of this extent and these ports
pub record IsSizeListed (d : Document) (ports : List ℕ) (o : LevelOptions) (extent s : Size) : Type 0 where
  pub width : IsGreatestOf (AsksListed d true (padded_width o extent) ports (length ports)) s.width
  pub height : IsGreatestOf (AsksListed d false (padded_height o extent) ports (length ports)) s.height

-- the size of the node n round content of this extent: the greatest width and height that are asked for
pub record IsSizeRound (d : Document) (n : ℕ) (o : LevelOptions) (extent s : Size) : Type 0 where
  pub width : IsGreatestOf (Asks d true (padded_width o extent) n) s.width
  pub height : IsGreatestOf (Asks d false (padded_height o extent) n) s.height

-- boxes, with another size for that of n
abbrev pub resized : List Rect → ℕ → Size → List Rect
resized boxes n s =
    slice_set boxes n (rect_at (record { x = (slice_index_or boxes n no_rect).x; y = (slice_index_or boxes n no_rect).y }) s)

-- The node n has the size that it needs, at the place where it was. All else stays, so that each level is drawn as before in
-- which n is no child.
pub record IsNodeFramed (d : Document) (n : ℕ) (o : LevelOptions) (extent : Size) (old now : Placed) : Type 0 where
  pub size : IsSizeRound d n o extent (box_size now n)
  pub x : (box_of now n).x ≡ (box_of old n).x
  pub y : (box_of now n).y ≡ (box_of old n).y
  pub boxes : (m : ℕ) → m ≢ n → box_of now m ≡ box_of old m
  pub ports : now.ports ≡ old.ports
  pub sections : now.sections ≡ old.sections
  pub levels : now.levels ≡ old.levels
  pub agree : (m : ℕ) → (IsChild d m n → ⊥) → AgreeAt d old now m
  pub complete : IsDrawingOf d now

-- the pinned ports of the node n keep their given places along their sides
abbrev pub KeepsPinned : Document → Placed → ℕ → Type 0
KeepsPinned d p n =
    (k : ℕ) → IsPortOf d n k → IsTrue (is_pinned d k)
    → along (side_of_port d p k) (port_place p k) ≡ along (side_of_port d p k) (port_at d k).place

-- A node of that size is framed round the drawing of its level in each drawing that keeps its pinned ports.
abbrev pub SizesFrame : Type 0
SizesFrame =
    (d : Document) (p : Placed) (n : ℕ) (o : LevelOptions) (v : LevelDrawing)
    → (node_at d n).level ≡ Some o → length v.sections ≡ length (edges_of d n)
    → ((c : ℕ) → IsChild d n c → IsSolid (box_of p c))
    → KeepsPinned d p n → IsSizeRound d n o v.extent (box_size p n)
    → IsFramed d p n o v (start_of o.direction o.padding v.extent)
