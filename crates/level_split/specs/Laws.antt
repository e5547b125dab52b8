-- A level that is laid out part by part keeps every rule.
use Rattle.std.specs.Prelude.{◌≡◌, ◌≢◌, ◌⊎◌, ◌+◌, ◌*◌, ◌^◌, ◌<◌, ◌+ℤ◌, ◌≤ℤ◌, ℕ, ℤ, [], pos, length, slice_index, slice_index_or}
use Rattle.drawing_types.specs.declared.shape.Rect.{Rect}
use Rattle.drawing_types.specs.Clearance.{StandsClear}
use Rattle.drawing_types.specs.Shapes.{Holds, point_rect}
use Rattle.elk_doc.specs.Sound.{IsDistance}
use Rattle.drawing_types.specs.Ranges.{IsWithin}
use Rattle.rotated_levels.specs.Extents.{outline_heights, outline_widths}
use Rattle.rotated_levels.specs.Joined.{KeepsRules}
use Rattle.level_model.specs.declared.level.LevelIn.{LevelIn}
use Rattle.level_model.specs.Conditions.{plain_level}
use Rattle.level_model.specs.Level.{PlainLevel, child_at}
use Rattle.plan_laws.specs.Routes.{route_count, route_point}
use Rattle.level_model.specs.Apart.{ChildrenApart, drawn_outline}
use Rattle.level_parts.specs.Divided.{edge_keys}
use Rattle.level_parts.specs.Parts.{AreParts}
use Rattle.rotated_levels.specs.Certified.{IsProofOf}
use Rattle.level_split.specs.declared.layout.PartsOut.{PartsOut}
use Rattle.level_split.specs.Parts.{IsPartsLayout, whole_drawing}

-- The drawing has a place for each port, keeps the rules of ports and routes, begins at 0 and has a tight extent. What
-- belongs to a part lies in a rectangle of
-- its own, and these stand clear of one another by the gap `component`; within a part children keep their distances. The certificate
-- proves of the whole what those of the parts prove of them.
pub record IsPartedDrawing (l : PlainLevel) (component : ℤ) (v : PartsOut) : Type 0 where
  pub numbered : AreParts l v.parts
  pub rules : KeepsRules l v.certificate.reversed (whole_drawing v)
  pub rect : ℕ → Rect
  pub outlines : (c : ℕ) → c < length l.children → Holds (rect (slice_index v.parts c)) (drawn_outline l (whole_drawing v) c)
  pub points : (e i : ℕ) → e < length l.edges → i < route_count (whole_drawing v) e
      → Holds (rect (slice_index (edge_keys l v.parts) e)) (point_rect (route_point (whole_drawing v) e i))
  pub clear : (b c : ℕ) → b < length l.children → c < length l.children → slice_index v.parts b ≢ slice_index v.parts c
      → StandsClear component (rect (slice_index v.parts b)) (rect (slice_index v.parts c))
      ⊎ StandsClear component (rect (slice_index v.parts c)) (rect (slice_index v.parts b))
  pub children : (b c : ℕ) → b < length l.children → c < length l.children → b ≢ c
      → slice_index v.parts b ≡ slice_index v.parts c → ChildrenApart l (whole_drawing v) v.certificate.layers b c
  pub ports : (c : ℕ) → c < length l.children → length (slice_index_or v.ports c []) ≡ length (child_at l c).ports
  pub proof : IsProofOf l v.certificate
  pub parts : v.certificate.parts ≡ v.parts

abbrev pub PartsAreDrawn : Type 0
PartsAreDrawn =
    (level : LevelIn) (component : ℤ) (v : PartsOut) → pos 1 ≤ℤ component → IsPartsLayout level component v
    → IsPartedDrawing (plain_level level) component v

-- the room for all distances, slots and lanes, and between parts: 2^22 for each child three times, each edge, each child with each
-- edge, and once more
abbrev pub room_apart : PlainLevel → ℕ
room_apart l = 2 ^ 22 * (3 * length l.children + length l.edges + length l.children * length l.edges + 1)

-- The sides are lengths of at most 2^59, and neither is longer than all outlines in that direction together and the room for what
-- lies between.
pub record IsBoundedApart (l : PlainLevel) (v : PartsOut) : Type 0 where
  pub wide : IsWithin (pos 0) (pos (2 ^ 59)) v.extent.width
  pub high : IsWithin (pos 0) (pos (2 ^ 59)) v.extent.height
  pub width : v.extent.width ≤ℤ (outline_widths l (whole_drawing v) +ℤ pos (room_apart l))
  pub height : v.extent.height ≤ℤ (outline_heights l (whole_drawing v) +ℤ pos (room_apart l))

abbrev pub PartsAreBounded : Type 0
PartsAreBounded =
    (level : LevelIn) (component : ℤ) (v : PartsOut) → IsDistance component → IsPartsLayout level component v
    → IsBoundedApart (plain_level level) v
