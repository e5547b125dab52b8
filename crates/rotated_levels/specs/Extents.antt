-- How large the drawing of a level can be.
use Rattle.std.specs.Prelude.{ℕ, ◌+◌, ◌*◌, ◌^◌, map, ℤ, pos, ◌+ℤ◌, ◌≤ℤ◌, length}
use Rattle.drawing_types.specs.declared.shape.Rect.{Rect}
use Rattle.drawing_types.specs.Ranges.{IsWithin}
use Rattle.level_model.specs.declared.level.LevelIn.{LevelIn}
use Rattle.level_model.specs.Conditions.{plain_level, sum_of_ints}
use Rattle.level_model.specs.FromPlan.{LevelDrawing}
use Rattle.level_model.specs.Level.{PlainLevel}
use Rattle.level_draw.specs.declared.drawing.LevelOut.{LevelOut}
use Rattle.level_draw.specs.Drawing.{drawn_in, outlines_in}
use Rattle.level_layout.specs.Layout.{IsLaidOut}

-- the widths, and the heights, of all outlines together
abbrev pub outline_widths : PlainLevel → LevelDrawing → ℤ
outline_widths l d = sum_of_ints (map (λ (r : Rect). r.width) (outlines_in l d))

abbrev pub outline_heights : PlainLevel → LevelDrawing → ℤ
outline_heights l d = sum_of_ints (map (λ (r : Rect). r.height) (outlines_in l d))

-- the room for all distances, slots and lanes: 2^22 for each child, each edge, each child with each edge, and once more
abbrev pub room_between : PlainLevel → ℕ
room_between l = 2 ^ 22 * (length l.children + length l.edges + length l.children * length l.edges + 1)

-- Neither side of a drawing is longer than all outlines in that direction together and the room for what lies between.
pub record IsBounded (l : PlainLevel) (d : LevelDrawing) : Type 0 where
  pub width : d.extent.width ≤ℤ (outline_widths l d +ℤ pos (room_between l))
  pub height : d.extent.height ≤ℤ (outline_heights l d +ℤ pos (room_between l))

-- So it is with each level that is laid out, however far its drawing was moved.
abbrev pub ExtentsAreBounded : Type 0
ExtentsAreBounded =
    (level : LevelIn) (v : LevelOut) (left top : ℤ) → IsLaidOut level v → IsBounded (plain_level level) (drawn_in v left top)

-- The sides of every level that is laid out are from 0 to 2^48.
pub record IsSmall (v : LevelOut) : Type 0 where
  pub width : IsWithin (pos 0) (pos (2 ^ 48)) v.extent.width
  pub height : IsWithin (pos 0) (pos (2 ^ 48)) v.extent.height

abbrev pub ExtentsAreSmall : Type 0
ExtentsAreSmall = (level : LevelIn) (v : LevelOut) → IsLaidOut level v → IsSmall v
