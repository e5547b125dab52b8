-- The layout of a level of boxes.
use Rattle.std.specs.Prelude.{◌≡◌, ℕ, ◌<◌, List, [], length, map}
use Rattle.std.specs.List.{All}
use Rattle.drawing_types.specs.declared.shape.Rect.{Rect}
use Rattle.elk_doc.specs.declared.document.Direction.{Direction}
use Rattle.level_model.specs.declared.level.LevelIn.{LevelIn}
use Rattle.level_model.specs.FromPlan.{point_or}
use Rattle.level_draw.specs.declared.drawing.LevelOut.{LevelOut}
use Rattle.level_layout.specs.Layout.{IsLaidOut}
use Rattle.working_frame.specs.Ranges.{IsFarPoint}
use Rattle.working_frame.specs.Rotated.{rotated_size}
use Rattle.box_pack.specs.declared.squarest.Squarest.{Squarest}
use Rattle.box_pack.specs.Boxes.{point_at}
use Rattle.box_pack.specs.Squareness.{IsSquarest}
use Rattle.level_split.specs.declared.boxes_layout.BoxesOut.{BoxesOut}
use Rattle.level_split.specs.Outlines.{AreOutlines, outline_size, rect_in}
use Rattle.level_split.specs.Placing.{IsBroad, StandsRotated}

-- a level without its edges
abbrev pub alone : LevelIn → LevelIn
alone l = record { children = l.children; edges = []; spacing = l.spacing; fixed = l.fixed; placing = l.placing; choices = l.choices }

-- Ports stand as in a layout of the level without its edges. Outlines, rotated back into the document, stand in the squarest rows
-- of their sizes there, in the order of the children and with the gap between nodes. In the frame they and the extent are those
-- of the document's content, rotated.
pub record IsBoxesLayout (level : LevelIn) (way : Direction) (v : BoxesOut) : Type 0 where
  pub out : LevelOut
  pub laid_out : IsLaidOut (alone level) out
  pub ports : v.ports ≡ out.ports
  pub outlines : List Rect
  pub are_outlines : AreOutlines level.children v.ports (length level.children) outlines
  pub squarest : Squarest
  pub is_squarest : IsSquarest (map (outline_size way) outlines) level.spacing.node_node squarest
  pub box_count : length v.boxes ≡ length level.children
  pub boxes : (i : ℕ) → i < length level.children
      → StandsRotated way squarest.rows.extent (point_at squarest.rows.at i) (rect_in outlines i) (point_or v.boxes i)
  pub extent : v.extent ≡ rotated_size way squarest.rows.extent

-- the boxes and the extent leave room for moving
pub record HasRoom (v : BoxesOut) : Type 0 where
  pub boxes : All IsFarPoint v.boxes
  pub extent : IsBroad v.extent
