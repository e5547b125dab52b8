-- The definitions of a good drawing, said in the frame of a direction.
use Rattle.std.specs.Prelude.{◌≡◌, ◌↔◌, ◌⊎◌, ℕ, ◌≤◌, List, map, length, ℤ, ◌-ℤ◌, neg_ℤ}
use Rattle.drawing_types.specs.declared.shape.Point.{Point}
use Rattle.drawing_types.specs.declared.shape.Rect.{Rect}
use Rattle.drawing_types.specs.declared.shape.Side.{Side}
use Rattle.drawing_types.specs.declared.shape.Side.TheVariants.{North, East, South, West}
use Rattle.drawing_types.specs.declared.shape.Dock.{Dock}
use Rattle.elk_doc.specs.declared.document.Direction.{Direction}
use Rattle.elk_doc.specs.declared.document.Direction.TheVariants.{Right, Left, Down, Up}
use Rattle.elk_doc.specs.declared.document.Padding.{Padding}
use Rattle.elk_doc.specs.declared.document.LevelOptions.{LevelOptions}
use Rattle.elk_doc.specs.declared.drawing.Placed.{Placed}
use Rattle.elk_doc.specs.Document.{Document}
use Rattle.elk_doc.specs.Drawing.{box_of}
use Rattle.elk_doc.specs.Shapes.{rotated}
use Rattle.drawing_types.specs.Shapes.{right_of, bottom_of}
use Rattle.drawing_types.specs.Segments.{IsOnSegment}
use Rattle.elk_doc.specs.Places.{outline_of, offset_on}
use Rattle.elk_doc.specs.Content.{EachShape}
use Rattle.elk_doc.specs.Apart.{BoxesApart}
use Rattle.drawing_types.specs.Clearance.{StandsClear}
use Rattle.elk_doc.specs.Inside.{Inside, IsWithinPadding}
use Rattle.elk_doc.specs.Route.{IsOrthogonal}
use Rattle.elk_doc.specs.Clear.{IsClear}
use Rattle.elk_doc.specs.Sharing.{PathsShare}
use Rattle.drawing_laws.specs.Rotating.{rotated_point, rotated_side}

-- ---- the way back from the frame of a direction

abbrev pub point_back : Direction → Point → Point
point_back Up p = record { x = p.y; y = neg_ℤ p.x }
point_back way p = rotated_point way p

abbrev pub rect_back : Direction → Rect → Rect
rect_back Up r = record { x = r.y; y = neg_ℤ (right_of r); width = r.height; height = r.width }
rect_back way r = rotated way r

abbrev pub side_back : Direction → Side → Side
side_back Up North = West
side_back Up East = North
side_back Up South = East
side_back Up West = South
side_back Down North = West
side_back Down East = South
side_back Down South = East
side_back Down West = North
side_back way s = rotated_side way s

-- there and back is where it was, in either order
pub record RotatesBack : Type 0 where
  pub point : (way : Direction) (p : Point) → (point_back way (rotated_point way p) ≡ p) × (rotated_point way (point_back way p) ≡ p)
  pub rect : (way : Direction) (r : Rect) → (rect_back way (rotated way r) ≡ r) × (rotated way (rect_back way r) ≡ r)
  pub side : (way : Direction) (s : Side) → (side_back way (rotated_side way s) ≡ s) × (rotated_side way (side_back way s) ≡ s)

-- ---- docks

-- An offset along a side of a box, measured in the frame: from its other end where the side lies across the mirrored axis.
abbrev pub rotated_offset : Direction → Side → Rect → ℤ → ℤ
rotated_offset Left North r z = r.width -ℤ z
rotated_offset Left South r z = r.width -ℤ z
rotated_offset Up East r z = r.height -ℤ z
rotated_offset Up West r z = r.height -ℤ z
rotated_offset way s r z = z

-- a dock at a node with this box, in the frame
abbrev pub rotated_dock : Direction → Rect → Dock → Dock
rotated_dock way r k = record { node = k.node; side = rotated_side way k.side; offset = rotated_offset way k.side r k.offset }

-- offsets in the frame are those of the rotated boxes and points, and docks are the same in either frame
pub record DocksRotate : Type 0 where
  pub offset : (way : Direction) (s : Side) (r : Rect) (a : Point)
      → offset_on (rotated_side way s) (rotated way r) (rotated_point way a) ≡ rotated_offset way s r (offset_on s r a)
  pub dock : (way : Direction) (box : ℕ → Rect) (k l : Dock) → (k ≡ l) ↔ (rotated_dock way (box k.node) k ≡ rotated_dock way (box l.node) l)

-- ---- Route, Clear and Sharing

-- A path of two points or more is orthogonal, keeps clear of a child and shares a piece with another one in the frame exactly
-- where it does.
pub record PathsRotate : Type 0 where
  pub orthogonal : (way : Direction) (path : List Point) (source target : Side) → 2 ≤ length path
      → IsOrthogonal path source target ↔ IsOrthogonal (map (rotated_point way) path) (rotated_side way source) (rotated_side way target)
  pub clear : (way : Direction) (path : List Point) (source target c : ℕ) (outline box : Rect)
      → IsClear path source target c outline box
      ↔ IsClear (map (rotated_point way) path) source target c (rotated way outline) (rotated way box)
  pub on_segment : (way : Direction) (a b q : Point)
      → IsOnSegment a b q ↔ IsOnSegment (rotated_point way a) (rotated_point way b) (rotated_point way q)
  pub sharing : (way : Direction) (path other : List Point)
      → PathsShare path other ↔ PathsShare (map (rotated_point way) path) (map (rotated_point way) other)

-- ---- Inside and Apart

-- the padding of a box, by its sides in the frame
abbrev pub rotated_padding : Direction → Padding → Padding
rotated_padding Right m = m
rotated_padding Left m = record { top = m.top; left = m.right; bottom = m.bottom; right = m.left }
rotated_padding Down m = record { top = m.left; left = m.top; bottom = m.right; right = m.bottom }
rotated_padding Up m = record { top = m.left; left = m.bottom; bottom = m.right; right = m.top }

-- a rectangle that is given relative to a box, in the frame and relative to the rotated box
abbrev pub rotated_within : Direction → Rect → Rect → Rect
rotated_within Right outer r = r
rotated_within Left outer r = record { x = outer.width -ℤ right_of r; y = r.y; width = r.width; height = r.height }
rotated_within Down outer r = record { x = r.y; y = r.x; width = r.height; height = r.width }
rotated_within Up outer r = record { x = outer.height -ℤ bottom_of r; y = r.x; width = r.height; height = r.width }

-- every outline and every point of a route of the level of n lies within the padding in the frame
abbrev pub InsideIn : Direction → Document → Placed → ℕ → LevelOptions → Type 0
InsideIn way d p n o =
    EachShape d p n (λ r. IsWithinPadding (rotated way (box_of p n)) (rotated_padding way o.padding) (rotated_within way (box_of p n) r))

-- two children of a level of boxes are apart in the frame
abbrev pub BoxesApartIn : Direction → Document → Placed → LevelOptions → ℕ → ℕ → Type 0
BoxesApartIn way d p o a b =
    StandsClear o.spacing.node_node (rotated way (outline_of d p a)) (rotated way (outline_of d p b))
    ⊎ StandsClear o.spacing.node_node (rotated way (outline_of d p b)) (rotated way (outline_of d p a))

-- Content is inside, and boxes are apart, in the one frame exactly where they are in the other. Every other distance of
-- children is stated in the frame of the direction itself.
pub record DistancesRotate : Type 0 where
  pub inside : (way : Direction) (d : Document) (p : Placed) (n : ℕ) (o : LevelOptions) → Inside d p n o ↔ InsideIn way d p n o
  pub boxes : (way : Direction) (d : Document) (p : Placed) (o : LevelOptions) (a b : ℕ) → BoxesApart d p o a b ↔ BoxesApartIn way d p o a b
