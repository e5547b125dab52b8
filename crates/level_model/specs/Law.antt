-- The law of the pieces of routes: before it is tidied, each piece of a route is of one of four kinds.
use Rattle.std.specs.Prelude.{◌≡◌, ◌≢◌, ◌⊎◌, ℕ, ◌<◌, Bool, true, false, List, ℤ, ◌≤ℤ◌, length}
use Rattle.drawing_types.specs.declared.shape.Point.{Point}
use Rattle.drawing_types.specs.declared.shape.Side.{Side}
use Rattle.drawing_types.specs.declared.shape.Side.TheVariants.{North, East, South, West}
use Rattle.drawing_types.specs.Shapes.{right_of, bottom_of}
use Rattle.drawing_types.specs.Segments.{IsBetween}
use Rattle.elk_doc.specs.Route.{IsOrthogonal}
use Rattle.elk_doc.specs.Clear.{IsClear}
use Rattle.elk_doc.specs.Sharing.{DocksShare, PathsShare}
use Rattle.net_routes.specs.Pieces.{Corner, corners, net_at, route_at, IsPieceOf, IsStraightPiece, IsAbscissa}
use Rattle.route_lines.specs.Points.{gap_in as gap_at, stand, point_at}
use Rattle.route_lines.specs.Tidied.{StartsAt, EndsAt, IsTidied, EachSegment, Heading, up, down, left, right, opposite, Runs}
use Rattle.level_model.specs.Stage.{Stage, Line, anchor_line, InUse, unit_of_line, IsLane, ChildStands, Stands}

abbrev pub IsNorthOrSouth : Side → Type 0
IsNorthOrSouth side = (side ≡ North) ⊎ (side ≡ South)

abbrev pub IsEastOrWest : Side → Type 0
IsEastOrWest side = (side ≡ East) ⊎ (side ≡ West)

-- 1: An upright piece from an anchor on the north or south side to a height in the unit that is still outside the box: to
-- the lane of the dock or of the self-loop, or to the other anchor of a self-loop at one dock.
pub record IsStub (s : Stage) (e : ℕ) (a b : Point) : Type 0 where
  pub edge_in : e < s.edges
  pub at_source : Bool
  pub upright : IsNorthOrSouth (s.dock e at_source).side
  pub reach : ℤ
  pub reach_top : s.top (s.unit_of (s.dock e at_source).node) ≤ℤ reach
  pub reach_bottom : reach ≤ℤ s.bottom (s.unit_of (s.dock e at_source).node)
  pub outside_north : (s.dock e at_source).side ≡ North → reach ≤ℤ (s.box (s.dock e at_source).node).y
  pub outside_south : (s.dock e at_source).side ≡ South → bottom_of (s.box (s.dock e at_source).node) ≤ℤ reach
  pub a_x : a.x ≡ (s.anchor e at_source).x
  pub b_x : b.x ≡ (s.anchor e at_source).x
  pub a_y : IsBetween (s.anchor e at_source).y reach a.y
  pub b_y : IsBetween (s.anchor e at_source).y reach b.y

-- 2: a part of a lane across its column
pub record IsLanePart (s : Stage) (e : ℕ) (a b : Point) : Type 0 where
  pub lane : Line
  pub in_use : InUse s e lane
  pub is_lane : IsLane lane
  pub a_y : a.y ≡ s.height lane
  pub b_y : b.y ≡ s.height lane
  pub a_x : IsBetween (s.col_left (s.layer (unit_of_line s lane))) (s.col_right (s.layer (unit_of_line s lane))) a.x
  pub b_x : IsBetween (s.col_left (s.layer (unit_of_line s lane))) (s.col_right (s.layer (unit_of_line s lane))) b.x

-- 3: A level piece from an anchor on the east or west side to an x in the column that is still outside the box: to the
-- border of the column, or to the other anchor of a self-loop at one dock.
pub record IsBorderPart (s : Stage) (e : ℕ) (a b : Point) : Type 0 where
  pub edge_in : e < s.edges
  pub at_source : Bool
  pub in_use : InUse s e (anchor_line (s.dock e at_source))
  pub height : s.height (anchor_line (s.dock e at_source)) ≡ (s.anchor e at_source).y
  pub level : IsEastOrWest (s.dock e at_source).side
  pub reach : ℤ
  pub reach_left : s.col_left (s.layer (s.unit_of (s.dock e at_source).node)) ≤ℤ reach
  pub reach_right : reach ≤ℤ s.col_right (s.layer (s.unit_of (s.dock e at_source).node))
  pub outside_east : (s.dock e at_source).side ≡ East → right_of (s.box (s.dock e at_source).node) ≤ℤ reach
  pub outside_west : (s.dock e at_source).side ≡ West → reach ≤ℤ (s.box (s.dock e at_source).node).x
  pub a_y : a.y ≡ (s.anchor e at_source).y
  pub b_y : b.y ≡ (s.anchor e at_source).y
  pub a_x : IsBetween (s.anchor e at_source).x reach a.x
  pub b_x : IsBetween (s.anchor e at_source).x reach b.x

-- 4: a piece of a net of the edge in its gap
pub record IsNetPart (s : Stage) (e : ℕ) (a b : Point) : Type 0 where
  pub gap : ℕ
  pub net : ℕ
  pub from : Corner
  pub to : Corner
  pub gap_there : gap < length s.gaps
  pub net_there : net < length (gap_at s.gaps gap).nets
  pub owner : s.net_edge gap net ≡ e
  pub piece : IsPieceOf (corners (net_at (gap_at s.gaps gap).nets net) (route_at (gap_at s.gaps gap).routes net)) from to
  pub straight : IsStraightPiece from to
  pub from_in : IsAbscissa (gap_at s.gaps gap).count from.at
  pub to_in : IsAbscissa (gap_at s.gaps gap).count to.at
  pub a_is : a ≡ point_at (stand (gap_at s.gaps gap) from.at) from.height
  pub b_is : b ≡ point_at (stand (gap_at s.gaps gap) to.at) to.height

-- a piece of a route of e
pub data IsPart (s : Stage) (e : ℕ) (a b : Point) : Type 0 where
  stub : IsStub s e a b → IsPart s e a b
  lane_part : IsLanePart s e a b → IsPart s e a b
  border_part : IsBorderPart s e a b → IsPart s e a b
  net_part : IsNetPart s e a b → IsPart s e a b

-- the heading that leaves a box outward from a side
abbrev pub outward : Side → Heading
outward North = up
outward East = right
outward South = down
outward West = left

-- a self-loop at one single dock
abbrev pub IsPointLoop : Stage → ℕ → Type 0
IsPointLoop s e = s.dock e true ≡ s.dock e false

-- The route of e, given by its points, is a path of such pieces, tidied. Before it is tidied the path leaves the source
-- outward, comes to the target against its outward heading, and never turns right back.
pub record IsLawful (s : Stage) (e : ℕ) (points : List Point) : Type 0 where
  pub fine : List Point
  pub parts : EachSegment (IsPart s e) fine
  pub tidied : IsTidied fine points
  pub starts : StartsAt (s.anchor e true) fine
  pub ends : EndsAt (s.anchor e false) fine
  pub runs : (IsPointLoop s e → ⊥) → Runs (outward (s.dock e true).side) (opposite (outward (s.dock e false).side)) fine

-- routes share a piece only where their edges share a dock
abbrev pub SharingLaw : Type 0
SharingLaw =
    (s : Stage) (e f : ℕ) (ps qs : List Point) → Stands s → IsLawful s e ps → IsLawful s f qs
    → e ≢ f → PathsShare ps qs → DocksShare (s.dock e) (s.dock f)

-- routes keep clear of children
abbrev pub ClearLaw : Type 0
ClearLaw =
    (s : Stage) (e c : ℕ) (ps : List Point) → Stands s → IsLawful s e ps → ChildStands s c
    → IsClear ps (s.dock e true).node (s.dock e false).node c (s.outline c) (s.box c)

-- A route leads from the source's anchor to the target's. But for a self-loop at one dock it is orthogonal.
pub record IsRouted (s : Stage) (e : ℕ) (points : List Point) : Type 0 where
  pub starts : StartsAt (s.anchor e true) points
  pub ends : EndsAt (s.anchor e false) points
  pub orthogonal : (IsPointLoop s e → ⊥) → IsOrthogonal points (s.dock e true).side (s.dock e false).side

abbrev pub RouteLaw : Type 0
RouteLaw = (s : Stage) (e : ℕ) (ps : List Point) → IsLawful s e ps → IsRouted s e ps
