-- The content of a level lies within its node's padding, and its node is as large as it needs to be.
use Rattle.std.specs.Prelude.{◌≡◌, ℕ, ◌⊎◌, ℤ, ◌+ℤ◌, neg_ℤ, map, length}
use Rattle.std.specs.List.{range_with_len}
use Rattle.drawing_types.specs.declared.shape.Point.{Point}
use Rattle.drawing_types.specs.declared.shape.Size.{Size}
use Rattle.drawing_types.specs.declared.shape.Side.TheVariants.{North, East, South, West}
use Rattle.elk_doc.specs.declared.document.Direction.{Direction}
use Rattle.elk_doc.specs.declared.document.Direction.TheVariants.{Right, Left, Down, Up}
use Rattle.elk_doc.specs.declared.document.Padding.{Padding}
use Rattle.elk_doc.specs.declared.document.LevelOptions.{LevelOptions}
use Rattle.elk_doc.specs.declared.drawing.Placed.{Placed}
use Rattle.elk_doc.specs.Document.{Document, port_at}
use Rattle.drawing_types.specs.Shapes.{origin}
use Rattle.elk_doc.specs.Level.{IsChild, edges_of}
use Rattle.elk_doc.specs.Drawing.{box_of, port_place}
use Rattle.elk_doc.specs.Content.{SomeShape}
use Rattle.elk_doc.specs.Inside.{Inside}
use Rattle.elk_doc.specs.Fits.{IsSolid}
use Rattle.elk_doc.specs.Fitted.{HasNoChild, IsGreatestOf, IsLeastOf, IsPinnedOn, NeedsHeight, NeedsWidth}
use Rattle.elk_doc.specs.Sound.{IsSound}
use Rattle.level_model.specs.Level.{PlainLevel}
use Rattle.level_model.specs.FromPlan.{LevelDrawing}
use Rattle.level_model.specs.Apart.{drawn_outline}
use Rattle.working_frame.specs.Reach.{IsReach, reached}
use Rattle.working_frame.specs.Rotated.{level_of, rotated_size}
use Rattle.working_frame.specs.Drawing.{IsRotatedDrawing}

-- the outlines and routes of a level's drawing reach from 0 to its extent
abbrev pub FillsExtent : PlainLevel → LevelDrawing → Type 0
FillsExtent l v =
    IsReach (reached (map (drawn_outline l v) (range_with_len 0 (length l.children))) v.sections)
    (record { low = origin; high = record { x = v.extent.width; y = v.extent.height } })

-- How far the drawing of a level with this extent is moved in the frame, so that in the document it begins at the padding.
abbrev pub start_of : Direction → Padding → Size → Point
start_of Right m e = record { x = m.left; y = m.top }
start_of Left m e = record { x = neg_ℤ (m.left +ℤ e.width); y = m.top }
start_of Down m e = record { x = m.top; y = m.left }
start_of Up m e = record { x = neg_ℤ (m.top +ℤ e.width); y = m.left }

-- A width that the node n needs round content of this size: that of the content with the padding on both sides, or that of a
-- pinned port on North or South. Likewise a height.
abbrev pub AsksWidth : Document → Placed → ℕ → LevelOptions → Size → ℤ → Type 0
AsksWidth d p n o content w =
    (w ≡ (o.padding.left +ℤ content.width) +ℤ o.padding.right)
    ⊎ ((k : ℕ) × IsPinnedOn d p n North South k × (w ≡ (port_place p k).x +ℤ (port_at d k).size.width))

abbrev pub AsksHeight : Document → Placed → ℕ → LevelOptions → Size → ℤ → Type 0
AsksHeight d p n o content h =
    (h ≡ (o.padding.top +ℤ content.height) +ℤ o.padding.bottom)
    ⊎ ((k : ℕ) × IsPinnedOn d p n East West k × (h ≡ (port_place p k).y +ℤ (port_at d k).size.height))

-- The box of n is framed round a drawing of its level: the drawing has a section for each edge, is moved to begin at the
-- padding, and the box has the greatest of the widths and heights that are needed. The boxes of the children have no negative
-- sizes.
pub record IsFramed (d : Document) (p : Placed) (n : ℕ) (o : LevelOptions) (v : LevelDrawing) (by : Point) : Type 0 where
  pub section_count : length v.sections ≡ length (edges_of d n)
  pub move : by ≡ start_of o.direction o.padding v.extent
  pub width : IsGreatestOf (AsksWidth d p n o (rotated_size o.direction v.extent)) (box_of p n).width
  pub height : IsGreatestOf (AsksHeight d p n o (rotated_size o.direction v.extent)) (box_of p n).height
  pub solid : (c : ℕ) → IsChild d n c → IsSolid (box_of p c)

-- the content lies within the padding and begins there, and the box is as large as it needs to be
pub record IsFittedBox (d : Document) (p : Placed) (n : ℕ) (o : LevelOptions) : Type 0 where
  pub inside : Inside d p n o
  pub left : (HasNoChild d n → ⊥) → IsLeastOf (λ z. SomeShape d p n (λ r. z ≡ r.x)) o.padding.left
  pub top : (HasNoChild d n → ⊥) → IsLeastOf (λ z. SomeShape d p n (λ r. z ≡ r.y)) o.padding.top
  pub width : IsGreatestOf (NeedsWidth d p n o) (box_of p n).width
  pub height : IsGreatestOf (NeedsHeight d p n o) (box_of p n).height

abbrev pub FramedBoxesFit : Type 0
FramedBoxesFit =
    (d : Document) (p : Placed) (n : ℕ) (o : LevelOptions) (v : LevelDrawing) (by : Point)
    → IsSound d → IsRotatedDrawing d p n o.direction v by → FillsExtent (level_of d p n o) v → IsFramed d p n o v by → IsFittedBox d p n o
