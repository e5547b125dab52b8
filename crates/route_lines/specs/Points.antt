-- The points of a trace.
use Rattle.std.specs.Prelude.{◌≡◌, ℕ, ◌<◌, Bool, true, false, List, [], ◌∷◌, ◌++◌, ◌^◌, ℤ, pos, neg_ℤ, ◌+ℤ◌, ◌*ℤ◌, length, reverse}
use Rattle.std.specs.Prelude.{slice_index_or}
use Rattle.std.specs.List.{All}
use Rattle.drawing_types.specs.declared.shape.Point.{Point}
use Rattle.net_routes.specs.declared.Net.{Net}
use Rattle.net_routes.specs.declared.NetRoute.{NetRoute}
use Rattle.net_routes.specs.declared.NetRoute.TheVariants.{Straight, One, Two}
use Rattle.net_routes.specs.Pieces.{Abscissa, left_border, slot, right_border, Corner, corners, net_at, route_at}
use Rattle.drawing_types.specs.declared.section.Section.{Section}
use Rattle.drawing_types.specs.Ranges.{IsWithin}
use Rattle.route_lines.specs.Tidied.{IsTidied, IsSectionOf}
use Rattle.route_lines.specs.declared.Gap.{Gap}
use Rattle.route_lines.specs.declared.Step.{Step}
use Rattle.route_lines.specs.declared.Step.TheVariants.{Lane, Leg}

-- a gap as plain data
pub record PlainGap : Type 0 where
  pub left : ℤ
  pub first : ℤ
  pub step : ℤ
  pub right : ℤ
  pub nets : List Net
  pub count : ℕ
  pub routes : List NetRoute

abbrev pub plain_gap : Gap → PlainGap
plain_gap g =
    record {
      left = g.left;
      first = g.first;
      step = g.step;
      right = g.right;
      nets = g.nets.items;
      count = g.slots.count;
      routes = g.slots.routes.items;
    }

abbrev pub gap_in : List PlainGap → ℕ → PlainGap
gap_in gaps g =
    slice_index_or gaps g (record { left = pos 0; first = pos 0; step = pos 0; right = pos 0; nets = []; count = 0; routes = [] })

-- the x of an abscissa of the gap
abbrev pub stand : PlainGap → Abscissa → ℤ
stand g left_border = g.left
stand g (slot s) = g.first +ℤ (pos s *ℤ g.step)
stand g right_border = g.right

abbrev pub point_at : ℤ → ℤ → Point
point_at x y = record { x = x; y = y }

-- the points of a leg from the height before to the height after, by the net's route
abbrev pub leg_points : PlainGap → NetRoute → Bool → ℤ → ℤ → List Point
leg_points g Straight from_a before after = []
leg_points g (One s) from_a before after = point_at (stand g (slot s)) before ∷ point_at (stand g (slot s)) after ∷ []
leg_points g (Two s h t) true before after =
    point_at (stand g (slot s)) before ∷ point_at (stand g (slot s)) h ∷ point_at (stand g (slot t)) h
    ∷ point_at (stand g (slot t)) after ∷ []
leg_points g (Two s h t) false before after =
    point_at (stand g (slot t)) before ∷ point_at (stand g (slot t)) h ∷ point_at (stand g (slot s)) h
    ∷ point_at (stand g (slot s)) after ∷ []

-- the points of a leg along a net, by its gap and its place there
abbrev pub net_leg : List PlainGap → ℕ → ℕ → Bool → ℤ → ℤ → List Point
net_leg gaps g n from_a before after = leg_points (gap_in gaps g) (route_at (gap_in gaps g).routes n) from_a before after

-- the height at which the next step begins: that of a lane, and the end's where no step follows
abbrev pub height_next : Point → List Step → ℤ
height_next end [] = end.y
height_next end (Lane h ∷ steps) = h
height_next end (Leg g n from_a ∷ steps) = end.y

-- a lane gives a point at the start where it is the first step, and one at the end where it is the last
abbrev pub last_point : Point → ℤ → List Step → List Point
last_point end h [] = point_at end.x h ∷ []
last_point end h (s ∷ steps) = []

-- the points of the steps behind the first one
abbrev pub points_on : List PlainGap → Point → ℤ → List Step → List Point
points_on gaps end before [] = []
points_on gaps end before (Lane h ∷ steps) = last_point end h steps ++ points_on gaps end h steps
points_on gaps end before (Leg g n from_a ∷ steps) =
    net_leg gaps g n from_a before (height_next end steps) ++ points_on gaps end (height_next end steps) steps

-- the points of all steps
abbrev pub step_points : List PlainGap → Point → List Step → Point → List Point
step_points gaps start (Lane h ∷ steps) end = point_at start.x h ∷ points_on gaps end h (Lane h ∷ steps)
step_points gaps start steps end = points_on gaps end start.y steps

-- the points of a trace
abbrev pub trace_points : List PlainGap → Point → List Step → Point → List Point
trace_points gaps start steps end = start ∷ (step_points gaps start steps end ++ end ∷ [])

-- lanes and legs alternate
pub data Alternates : List Step → Type 0 where
  none : Alternates []
  one : (s : Step) → Alternates (s ∷ [])
  lane_leg : (h : ℤ) (g n : ℕ) (from_a : Bool) (steps : List Step) → Alternates (Leg g n from_a ∷ steps)
      → Alternates (Lane h ∷ Leg g n from_a ∷ steps)
  leg_lane : (h : ℤ) (g n : ℕ) (from_a : Bool) (steps : List Step) → Alternates (Lane h ∷ steps)
      → Alternates (Leg g n from_a ∷ Lane h ∷ steps)

-- each leg names a net of a gap
abbrev pub IsStepIn : List PlainGap → Step → Type 0
IsStepIn gaps (Lane h) = Unit {0}
IsStepIn gaps (Leg g n from_a) =
    (g < length gaps) × (n < length (gap_in gaps g).nets) × (length (gap_in gaps g).routes ≡ length (gap_in gaps g).nets)

pub record IsTrace (gaps : List PlainGap) (steps : List Step) : Type 0 where
  pub alternates : Alternates steps
  pub in_range : All (IsStepIn gaps) steps

-- a coordinate lies from -2^53 to 2^53
abbrev pub IsInRange : ℤ → Type 0
IsInRange z = IsWithin (neg_ℤ (pos (2 ^ 53))) (pos (2 ^ 53)) z

abbrev pub IsGapInRange : Gap → Type 0
IsGapInRange g = IsInRange g.first

-- the section has these points, tidied
pub record IsJoinOf (ps : List Point) (s : Section) : Type 0 where
  pub points : List Point
  pub tidied : IsTidied ps points
  pub section : IsSectionOf points s

-- the points of a net of a gap, pins included, from one pin to the other
abbrev pub corner_points : PlainGap → List Corner → List Point
corner_points g [] = []
corner_points g (c ∷ cs) = point_at (stand g c.at) c.height ∷ corner_points g cs

abbrev pub net_points : PlainGap → ℕ → Bool → List Point
net_points g n true = corner_points g (corners (net_at g.nets n) (route_at g.routes n))
net_points g n false = reverse (corner_points g (corners (net_at g.nets n) (route_at g.routes n)))

-- The points of a trace with the points at which it passes a border of a column: those of its nets, pins included, and
-- those at which it comes to its first lane and leaves its last.
abbrev pub fine_on : List PlainGap → Point → List Step → List Point
fine_on gaps end [] = []
fine_on gaps end (Lane h ∷ steps) = last_point end h steps ++ fine_on gaps end steps
fine_on gaps end (Leg g n from_a ∷ steps) = net_points (gap_in gaps g) n from_a ++ fine_on gaps end steps

abbrev pub fine_steps : List PlainGap → Point → List Step → Point → List Point
fine_steps gaps start (Lane h ∷ steps) end = point_at start.x h ∷ fine_on gaps end (Lane h ∷ steps)
fine_steps gaps start steps end = fine_on gaps end steps

abbrev pub fine_points : List PlainGap → Point → List Step → Point → List Point
fine_points gaps start steps end = start ∷ (fine_steps gaps start steps end ++ end ∷ [])
