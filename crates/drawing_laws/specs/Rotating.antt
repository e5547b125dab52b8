-- Points and sides in the frame in which a direction runs to the right, and what stays the same there.
use Rattle.std.specs.Prelude.{◌≡◌, ◌↔◌, neg_ℤ}
use Rattle.drawing_types.specs.declared.shape.Point.{Point}
use Rattle.drawing_types.specs.declared.shape.Rect.{Rect}
use Rattle.drawing_types.specs.declared.shape.Side.{Side}
use Rattle.drawing_types.specs.declared.shape.Side.TheVariants.{North, East, South, West}
use Rattle.elk_doc.specs.declared.document.Direction.{Direction}
use Rattle.elk_doc.specs.declared.document.Direction.TheVariants.{Right, Left, Down, Up}
use Rattle.elk_doc.specs.Shapes.{rotated}
use Rattle.drawing_types.specs.Shapes.{point_rect, Holds}
use Rattle.drawing_types.specs.Segments.{MeetsRect, EntersRect}
use Rattle.elk_doc.specs.Sides.{ahead, behind}
use Rattle.elk_doc.specs.Route.{IsStep, IsTurn, LeavesOutward}

-- a point in the frame of a direction: under Left x is mirrored, under Down x and y are exchanged, under Up they are
-- exchanged and then x is mirrored
abbrev pub rotated_point : Direction → Point → Point
rotated_point Right p = p
rotated_point Left p = record { x = neg_ℤ p.x; y = p.y }
rotated_point Down p = record { x = p.y; y = p.x }
rotated_point Up p = record { x = neg_ℤ p.y; y = p.x }

-- a side in the frame of a direction
abbrev pub rotated_side : Direction → Side → Side
rotated_side Right s = s
rotated_side Left North = North
rotated_side Left East = West
rotated_side Left South = South
rotated_side Left West = East
rotated_side Down North = West
rotated_side Down East = South
rotated_side Down South = East
rotated_side Down West = North
rotated_side Up North = East
rotated_side Up East = South
rotated_side Up South = West
rotated_side Up West = North

-- the direction runs to the east there, and leaving outward is the same in either frame
pub record SidesRotate : Type 0 where
  pub ahead : (way : Direction) → rotated_side way (ahead way) ≡ East
  pub behind : (way : Direction) → rotated_side way (behind way) ≡ West
  pub outward : (way : Direction) (s : Side) (a b : Point)
      → LeavesOutward s a b ↔ LeavesOutward (rotated_side way s) (rotated_point way a) (rotated_point way b)

-- steps and turns of routes are the same in either frame
pub record RoutesRotate : Type 0 where
  pub step : (way : Direction) (a b : Point) → IsStep a b ↔ IsStep (rotated_point way a) (rotated_point way b)
  pub rotate : (way : Direction) (a b c : Point) → IsTurn a b c ↔ IsTurn (rotated_point way a) (rotated_point way b) (rotated_point way c)

-- what holds, meets or enters a rectangle is the same in either frame
pub record BoxesRotate : Type 0 where
  pub point : (way : Direction) (p : Point) → rotated way (point_rect p) ≡ point_rect (rotated_point way p)
  pub holds : (way : Direction) (r s : Rect) → Holds r s ↔ Holds (rotated way r) (rotated way s)
  pub meets : (way : Direction) (a b : Point) (r : Rect)
      → MeetsRect a b r ↔ MeetsRect (rotated_point way a) (rotated_point way b) (rotated way r)
  pub enters : (way : Direction) (a b : Point) (r : Rect)
      → EntersRect a b r ↔ EntersRect (rotated_point way a) (rotated_point way b) (rotated way r)
