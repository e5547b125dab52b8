-- The lanes and gaps of self-loops, by the sides of their two docks.
use Rattle.std.specs.Prelude.{Bool, true, false, ◌&&◌, not, List, [], ◌∷◌, ◌++◌, map}
use Rattle.std.specs.List.{filter, list_any}
use Rattle.std.specs.Ordering.{int_eq}
use Rattle.drawing_types.specs.declared.shape.Side.{Side}
use Rattle.drawing_types.specs.declared.shape.Side.TheVariants.{North, East, South, West}
use Rattle.drawing_types.specs.Shapes.{is_side}
use Rattle.self_loops.specs.declared.lanes.LoopEnds.{LoopEnds}
use Rattle.self_loops.specs.declared.lanes.LoopLane.{LoopLane}

-- whether a side is north or south
abbrev pub is_upright : Side → Bool
is_upright North = true
is_upright East = false
is_upright South = true
is_upright West = false

-- The way of a loop from a dock on one side of its child to a dock on another: along its lanes above (north) and below
-- (south) the child, and through the gaps on the left (west) and the right (east).
abbrev pub way : Side → Side → List Side
way North North = North ∷ []
way North East = North ∷ East ∷ []
way North South = North ∷ East ∷ South ∷ []
way North West = North ∷ West ∷ []
way East North = East ∷ North ∷ []
way East East = East ∷ []
way East South = East ∷ South ∷ []
way East West = East ∷ North ∷ West ∷ []
way South North = South ∷ East ∷ North ∷ []
way South East = South ∷ East ∷ []
way South South = South ∷ []
way South West = South ∷ West ∷ []
way West North = West ∷ North ∷ []
way West East = West ∷ North ∷ East ∷ []
way West South = West ∷ South ∷ []
way West West = West ∷ []

-- whether a loop between two different docks on these sides passes a side of its child
abbrev pub passes : Side → Side → Side → Bool
passes s t side = list_any (is_side side) (way s t)

-- the lanes of a loop between two different docks, that in the north first
abbrev pub sides_of_pair : Side → Side → List Side
sides_of_pair s t = filter (passes s t) (North ∷ South ∷ [])

-- a loop whose two ends have one dock has no lane
abbrev pub sides_of_lanes : Side → Side → Bool → List Side
sides_of_lanes s t true = []
sides_of_lanes s t false = sides_of_pair s t

-- the gaps on the left and the right that a loop passes; none where its two ends have one dock
abbrev pub passes_left : Side → Side → Bool → Bool
passes_left s t one_dock = not one_dock && passes s t West

abbrev pub passes_right : Side → Side → Bool → Bool
passes_right s t one_dock = not one_dock && passes s t East

-- whether the two ends have one dock
abbrev pub has_one_dock : LoopEnds → Bool
has_one_dock l = is_side l.source l.target && int_eq l.source_at l.target_at

abbrev pub lanes_of : LoopEnds → List LoopLane
lanes_of l = map (λ s. record { edge = l.edge; side = s }) (sides_of_lanes l.source l.target (has_one_dock l))

-- the lanes of all loops, in the order of the loops
abbrev pub lanes_of_all : List LoopEnds → List LoopLane
lanes_of_all [] = []
lanes_of_all (l ∷ ls) = lanes_of l ++ lanes_of_all ls
