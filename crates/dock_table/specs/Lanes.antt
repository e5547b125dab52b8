-- The lanes of a child's docks, by the numbers of its spots.
use Rattle.std.specs.Prelude.{◌≡◌, ◌≢◌, ℕ, ◌+◌, ◌<◌, ◌≤◌, ◌^◌, ◌==◌, cond, Bool, true, false, ◌&&◌, List, [], ◌∷◌, ℤ, pos}
use Rattle.std.specs.Prelude.{Option, None, Some, length, slice_index, slice_index_or, slice_set, unwrap_or}
use Rattle.std.specs.List.{filter, list_any, range_with_len}
use Rattle.std.specs.Ordering.{int_eq}
use Rattle.drawing_types.specs.declared.shape.Side.{Side}
use Rattle.drawing_types.specs.declared.shape.Side.TheVariants.{North, South}
use Rattle.drawing_types.specs.declared.shape.Dock.{Dock}
use Rattle.elk_doc.specs.declared.document.Spacing.{Spacing}
use Rattle.drawing_types.specs.Shapes.{is_side}
use Rattle.port_order.specs.declared.spots.Spot.{Spot}
use Rattle.port_order.specs.Child.{spot_at}
use Rattle.self_loops.specs.Loops.{sides_of_lanes}
use Rattle.level_model.specs.Level.{first_or}
use Rattle.level_model.specs.Lanes.{asks_lane, side_by, height_by}
use Rattle.dock_table.specs.declared.lanes.DockLanes.{DockLanes}
use Rattle.dock_table.specs.Outlines.{dock_in}

-- docks of one child that are the same
abbrev pub same_dock : Dock → Dock → Bool
same_dock d k = is_side d.side k.side && int_eq d.offset k.offset

-- the first spot with the dock of a spot
abbrev pub first_same : List Dock → ℕ → ℕ
first_same docks i = first_or (filter (λ m. same_dock (dock_in docks m) (dock_in docks i)) (range_with_len 0 i)) i

-- a spot on a side with this offset, and the first of some spots
abbrev pub seen_test : List Dock → Side → ℤ → ℕ → Bool
seen_test docks side z m = is_side (dock_in docks m).side side && int_eq (dock_in docks m).offset z

abbrev pub first_some : List ℕ → Option ℕ
first_some [] = None
first_some (n ∷ ns) = Some n

-- a spot on a side is noted with the first one that was seen at its offset, and seen there from now on
pub record NotesFirstSpot (dock : Dock) (side : Side) (number : ℕ) (old new : List ℕ) (seen seen_now : ℤ → Option ℕ) : Type 0 where
  pub noted : dock.side ≡ side → new ≡ slice_set old number (unwrap_or (seen dock.offset) number)
  pub there : dock.side ≡ side → seen_now dock.offset ≡ Some (unwrap_or (seen dock.offset) number)
  pub elsewhere : dock.side ≡ side → (z : ℤ) → z ≢ dock.offset → seen_now z ≡ seen z
  pub beside : dock.side ≢ side → new ≡ old
  pub unseen : dock.side ≢ side → (z : ℤ) → seen_now z ≡ seen z

pub record AreFirstSpots (docks : List Dock) (firsts : List ℕ) : Type 0 where
  pub as_long : length firsts ≡ length docks
  pub first_is : (i : ℕ) → i < length docks → slice_index firsts i ≡ first_same docks i

-- one of the first spots asks for a lane at the dock of a spot
abbrev pub asked : List Dock → List Spot → ℕ → ℕ → Bool
asked docks spots bound j =
    list_any
    (λ m. same_dock (dock_in docks m) (dock_in docks j)
    && asks_lane (dock_in docks j).side (spot_at spots m).leaves (spot_at spots m).enters)
    (range_with_len 0 bound)

-- by first spot, whether one of the first spots asks for a lane at its dock
pub record AreAsked (docks : List Dock) (spots : List Spot) (bound : ℕ) (marks : List Bool) : Type 0 where
  pub as_long : length marks ≡ length docks
  pub mark_is : (j : ℕ) → j < length docks → first_same docks j ≡ j → slice_index_or marks j false ≡ asked docks spots bound j

-- the side of the lane of the dock that stands first at a spot, where it has one
abbrev pub lane_at : ℤ → List Dock → List Spot → ℕ → Option Side
lane_at height docks spots j =
    cond ((first_same docks j == j) && asked docks spots (length docks) j)
    (Some (side_by height (dock_in docks j).side (dock_in docks j).offset)) None

abbrev pub lane_in : List (Option Side) → ℕ → Option Side
lane_in sides j = slice_index_or sides j None

pub record AreLaneSides (height : ℤ) (docks : List Dock) (spots : List Spot) (sides : List (Option Side)) : Type 0 where
  pub as_long : length sides ≡ length docks
  pub side_is : (j : ℕ) → j < length docks → lane_in sides j ≡ lane_at height docks spots j

abbrev pub is_on : Side → Option Side → Bool
is_on side None = false
is_on side (Some s) = is_side s side

-- how many lanes on a side stand at the first spots
abbrev pub lanes_to : Side → List (Option Side) → ℕ → ℕ
lanes_to side sides j = length (filter (λ m. is_on side (lane_in sides m)) (range_with_len 0 j))

-- the lanes on a side are numbered from a start on
pub record NumbersLanes (side : Side) (sides : List (Option Side)) (start bound : ℕ) (old new : List ℕ) : Type 0 where
  pub as_long : length new ≡ length old
  pub numbered : (j : ℕ) → j < bound → is_on side (lane_in sides j) ≡ true → slice_index new j ≡ start + lanes_to side sides j
  pub kept : (j : ℕ) → is_on side (lane_in sides j) ≡ false → slice_index new j ≡ slice_index old j

-- so are those on the north and the south side
pub record AreLanePlaces (sides : List (Option Side)) (north south : ℕ) (places : List ℕ) : Type 0 where
  pub as_long : length places ≡ length sides
  pub on_north : (j : ℕ) → j < length sides → is_on North (lane_in sides j) ≡ true → slice_index places j ≡ north + lanes_to North sides j
  pub on_south : (j : ℕ) → j < length sides → is_on South (lane_in sides j) ≡ true → slice_index places j ≡ south + lanes_to South sides j
  pub few : (j : ℕ) → slice_index places j ≤ 2 ^ 17

-- the lanes of a child's docks as plain data
pub record PlainLanes : Type 0 where
  pub firsts : List ℕ
  pub sides : List (Option Side)
  pub places : List ℕ
  pub north : ℕ
  pub south : ℕ

abbrev pub plain_lanes : DockLanes → PlainLanes
plain_lanes v = record { firsts = v.firsts.items; sides = v.sides.items; places = v.places.items; north = v.north; south = v.south }

abbrev pub lanes_at : List PlainLanes → ℕ → PlainLanes
lanes_at vs c = slice_index_or vs c (record { firsts = []; sides = []; places = []; north = 0; south = 0 })

-- The lanes of a child's docks, at a box of this height, behind so many lanes of self-loops to the north and south.
pub record AreDockLanes (height : ℤ) (docks : List Dock) (spots : List Spot) (north south : ℕ) (v : PlainLanes) : Type 0 where
  pub firsts : AreFirstSpots docks v.firsts
  pub sides : AreLaneSides height docks spots v.sides
  pub places : AreLanePlaces v.sides north south v.places
  pub north_is : v.north ≡ north + lanes_to North v.sides (length docks)
  pub south_is : v.south ≡ south + lanes_to South v.sides (length docks)

-- lanes that can be read by the numbers of this many spots
pub record AreReadable (v : PlainLanes) (count : ℕ) : Type 0 where
  pub firsts_long : length v.firsts ≡ count
  pub sides_long : length v.sides ≡ count
  pub places_long : length v.places ≡ count
  pub first_in : (i : ℕ) → i < count → slice_index v.firsts i < count
  pub few : (j : ℕ) → slice_index v.places j ≤ 2 ^ 17

-- the side and the place of the lane of a spot's dock
abbrev pub lane_side_in : PlainLanes → ℕ → Option Side
lane_side_in v i = lane_in v.sides (slice_index v.firsts i)

abbrev pub lane_place_in : PlainLanes → ℕ → ℕ
lane_place_in v i = slice_index v.places (slice_index v.firsts i)

-- whether a self-loop between these docks has a lane on a side
abbrev pub loop_lane_on : Dock → Dock → Side → Bool
loop_lane_on source target side = list_any (is_side side) (sides_of_lanes source.side target.side (same_dock source target))

-- the height of the lane of a spot's dock, or 0 where it has none
abbrev pub height_or : Spacing → ℕ → ℤ → Option Side → ℕ → ℤ
height_or s north height None i = pos 0
height_or s north height (Some side) i = height_by s north height side i
