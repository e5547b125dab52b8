-- The side of a spot in the working frame, and the directions that mirror a side there.
use Rattle.std.specs.Prelude.{ℕ, Bool, true, false, not, ◌&&◌, List, [], ◌∷◌, pos, ◌+ℤ◌, int_lt, Option, None, Some, if◌then◌else◌}
use Rattle.std.specs.Ordering.{int_eq}
use Rattle.drawing_types.specs.declared.shape.Point.{Point}
use Rattle.drawing_types.specs.declared.shape.Size.{Size}
use Rattle.drawing_types.specs.declared.shape.Side.{Side}
use Rattle.drawing_types.specs.declared.shape.Side.TheVariants.{North, East, South, West}
use Rattle.elk_doc.specs.declared.document.Direction.{Direction}
use Rattle.elk_doc.specs.declared.document.Direction.TheVariants.{Right, Left, Down, Up}
use Rattle.elk_doc.specs.Sides.{side_from}
use Rattle.elk_doc.specs.PortsKept.{runs_forward}
use Rattle.drawing_laws.specs.Rotating.{rotated_side}
use Rattle.port_order.specs.declared.children.Child.{Child}
use Rattle.port_order.specs.declared.spots.Spot.{Spot}
use Rattle.port_order.specs.Child.{port_at}

-- whether the document's offsets along a working side run from the right
abbrev pub is_mirrored : Direction → Side → Bool
is_mirrored Left North = true
is_mirrored Left South = true
is_mirrored Up North = true
is_mirrored Up South = true
is_mirrored _ _ = false

-- whether the document's clockwise runs from the left or the top along a working side; a direction that mirrors the plane
-- turns it round
abbrev pub is_forward : Direction → Side → Bool
is_forward Right s = runs_forward s
is_forward Left s = not (runs_forward s)
is_forward Down s = not (runs_forward s)
is_forward Up s = runs_forward s

-- whether a port sticks out of a box on a side, and whether it touches the side from within
abbrev pub sticks_out : Size → Point → Size → Side → Bool
sticks_out box place size North = int_lt place.y (pos 0)
sticks_out box place size East = int_lt box.width (place.x +ℤ size.width)
sticks_out box place size South = int_lt box.height (place.y +ℤ size.height)
sticks_out box place size West = int_lt place.x (pos 0)

abbrev pub touches : Size → Point → Size → Side → Bool
touches box place size North = int_eq place.y (pos 0)
touches box place size East = int_eq (place.x +ℤ size.width) box.width
touches box place size South = int_eq (place.y +ℤ size.height) box.height
touches box place size West = int_eq place.x (pos 0)

-- the first side of a list that passes a test, or what stands otherwise
abbrev pub first_side : (Side → Bool) → List Side → Option Side → Option Side
first_side passes [] otherwise = otherwise
first_side passes (s ∷ ss) otherwise = if passes s then Some s else first_side passes ss otherwise

-- the sides in the order in which they are tried: the document's west, east, north and south
abbrev pub tried_sides : Direction → List Side
tried_sides d = rotated_side d West ∷ rotated_side d East ∷ rotated_side d North ∷ rotated_side d South ∷ []

-- the side of the place that a port is given: the first on which it sticks out, else the first that it touches
abbrev pub side_of_place : Direction → Size → Point → Size → Option Side
side_of_place d box place size =
    first_side (sticks_out box place size) (tried_sides d) (first_side (touches box place size) (tried_sides d) None)

-- the side that a port is given by its rule, if any
abbrev pub given_side : Child → ℕ → Option Side
given_side c k =
    side_from c.rule (port_at c k).side (not c.compound) (side_of_place c.direction c.size (port_at c k).place (port_at c k).size)

-- the side that a spot is given; an implicit end has none
abbrev pub given_to : Child → Option ℕ → Option Side
given_to c None = None
given_to c (Some k) = given_side c k

-- the side by the flow of edges: west where they only enter, east otherwise
abbrev pub side_by_flow : Bool → Side
side_by_flow true = West
side_by_flow false = East

abbrev pub side_else : Option Side → Bool → Side
side_else (Some s) only_enters = s
side_else None only_enters = side_by_flow only_enters

-- the side of a spot: the given one, else that of the flow of its edges
abbrev pub side_of : Child → Spot → Side
side_of c s = side_else (given_to c s.port) (s.enters && not s.leaves)
