-- Whether edges leave a port and enter it, as it is read off a level's edges and off marks of those that are reversed.
use Rattle.std.specs.Prelude.{◌≡◌, ℕ, ◌<◌, ◌==◌, cond, Bool, true, false, not, ◌&&◌, ◌||◌, List, Option, None, Some, length, map}
use Rattle.std.specs.Prelude.{slice_index_or, slice_set}
use Rattle.std.specs.List.{list_any, range_with_len}
use Rattle.port_order.specs.declared.spots.Spot.{Spot}
use Rattle.port_order.specs.Child.{spot_at}
use Rattle.level_model.specs.declared.level.EdgeEnd.{EdgeEnd}
use Rattle.level_model.specs.declared.level.LevelEdge.{LevelEdge}
use Rattle.level_model.specs.Level.{PlainLevel, child_at, is_port}
use Rattle.dock_table.specs.Rows.{lists_of, row_at}
use Rattle.layer_units.specs.declared.passing.PortSpots.{PortSpots}
use Rattle.layer_units.specs.Reading.{mark_at}

-- an end at a port, of an edge that is no self-loop, that enters or leaves its child as is asked
abbrev pub meets : EdgeEnd → Bool → Bool → ℕ → ℕ → Bool
meets s looped as_asked c k = ((s.child == c) && is_port s.port k) && (not looped && as_asked)

abbrev pub as_asked : Bool → Bool → Bool
as_asked entering enters = cond enters entering (not entering)

-- an edge that enters a port, or leaves it
unfoldable pub passes : LevelEdge → Bool → ℕ → ℕ → Bool → Bool
passes e is_reversed c k enters =
    meets e.source (e.source.child == e.target.child) (as_asked is_reversed enters) c k
    || meets e.target (e.source.child == e.target.child) (as_asked (not is_reversed) enters) c k

abbrev pub level_edge : List LevelEdge → ℕ → LevelEdge
level_edge edges e = slice_index_or edges e (record {
  source = record { child = 0; port = None };
  target = record { child = 0; port = None };
  weight = 0;
})

-- one of the first n edges does
abbrev pub is_passed : List LevelEdge → List Bool → ℕ → ℕ → ℕ → Bool → Bool
is_passed edges marks n c k enters =
    list_any (λ e. passes (level_edge edges e) (mark_at marks e) c k enters) (range_with_len 0 n)

-- the spot of a port by the first n edges, and by all, without a mean
abbrev pub spot_to : List LevelEdge → List Bool → ℕ → ℕ → ℕ → Spot
spot_to edges marks n c k =
    record {
      port = Some k;
      number = k;
      leaves = is_passed edges marks n c k false;
      enters = is_passed edges marks n c k true;
      mean = None;
    }

abbrev pub seen_spot : List LevelEdge → List Bool → ℕ → ℕ → Spot
seen_spot edges marks c k = spot_to edges marks (length edges) c k

-- a spot that one more edge enters, or leaves, and a child's spots with it
abbrev pub with_flow : Bool → Spot → Spot
with_flow enters s =
    record {
      port = s.port;
      number = s.number;
      leaves = s.leaves || not enters;
      enters = s.enters || enters;
      mean = s.mean;
    }

abbrev pub row_with : Option ℕ → Bool → List Spot → List Spot
row_with None enters row = row
row_with (Some k) enters row = slice_set row k (with_flow enters (spot_at row k))

abbrev pub spot_lists : PortSpots → List (List Spot)
spot_lists v = lists_of v.lists.items

-- by child, the spots of its ports, each of which a function gives by its child and its number
pub record AreSpotsBy (l : PlainLevel) (f : ℕ → ℕ → Spot) (rows : List (List Spot)) : Type 0 where
  pub as_many : length rows ≡ length l.children
  pub row_is : (c : ℕ) → c < length l.children → row_at rows c ≡ map (f c) (range_with_len 0 (length (child_at l c).ports))

-- the same by the first n edges
abbrev pub ArePassed : PlainLevel → List Bool → ℕ → List (List Spot) → Type 0
ArePassed l marks n rows = AreSpotsBy l (spot_to l.edges marks n) rows
