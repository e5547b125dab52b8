-- The spots of children, as they grow end by end in document order.
use Rattle.std.specs.Prelude.{◌≡◌, ℕ, ◌+◌, ◌*◌, ◌<◌, ◌≤◌, ◌^◌, ◌==◌, cond, Bool, true, false, not, ◌&&◌, ◌||◌, List, [], ◌∷◌, ◌++◌, map}
use Rattle.std.specs.Prelude.{Option, None, Some, Vec, length, slice_index, slice_index_or, slice_set, is_none, IfSome}
use Rattle.std.specs.List.{filter, range_with_len}
use Rattle.std.specs.declared.alloc.Global.{Global}
use Rattle.port_order.specs.declared.spots.Mean.{Mean}
use Rattle.port_order.specs.declared.spots.Spot.{Spot}
use Rattle.port_order.specs.Child.{spot_at}
use Rattle.level_model.specs.declared.level.EdgeEnd.{EdgeEnd}
use Rattle.level_model.specs.Level.{PlainLevel, PlainPlan, End, end_at, child_at, spoke, is_port, ends_of_edges, spot, spot_of}
use Rattle.level_model.specs.Level as level
use Rattle.port_order.specs.Conditions.{AreSpots}
use Rattle.dock_table.specs.declared.courses.Course.{Course}
use Rattle.dock_table.specs.declared.spots.Told.{Told}
use Rattle.dock_table.specs.declared.spots.Rows.{Rows}
use Rattle.dock_table.specs.declared.spots.Spots.{Spots}
use Rattle.dock_table.specs.Courses.{AreCourses}

-- what an end tells its spot: whether its edge is a self-loop, whether the edge enters, and the place of the unit at the far end
abbrev pub told_by : Course → Bool → Told
told_by f at_source =
    record {
      looped = f.looped;
      enters = cond at_source f.is_reversed (not f.is_reversed);
      place = cond (cond at_source f.is_reversed (not f.is_reversed)) f.before f.after;
    }

abbrev pub more_mean : Option Mean → ℕ → Mean
more_mean None place = record { sum = place; count = 1 }
more_mean (Some m) place = record { sum = m.sum + place; count = m.count + 1 }

-- a spot with one more link
abbrev pub with_link : Told → Spot → Spot
with_link t s =
    record {
      port = s.port;
      number = s.number;
      leaves = s.leaves || not t.enters;
      enters = s.enters || t.enters;
      mean = Some (more_mean s.mean t.place);
    }

-- a spot with one more end, which has a link unless its edge is a self-loop
abbrev pub with_end : Told → Spot → Spot
with_end t s = cond t.looped s (with_link t s)

-- a spot without ends
abbrev pub bare : Option ℕ → ℕ → Spot
bare port number = record { port = port; number = number; leaves = false; enters = false; mean = None }

-- a child's spots with one more end, at a port or implicit, and the number of its spot
abbrev pub row_with : Option ℕ → Told → List Spot → List Spot
row_with None t row = row ++ with_end t (bare None (length row)) ∷ []
row_with (Some k) t row = slice_set row k (with_end t (spot_at row k))

abbrev pub number_in : Option ℕ → List Spot → ℕ
number_in None row = length row
number_in (Some k) row = k

-- no more ends have been told of than this
abbrev pub IsCounted : ℕ → Option Mean → Type 0
IsCounted most mean = IfSome mean (λ m. (m.count ≤ most) × (m.sum ≤ most * 2 ^ 24))

-- a row that takes one more end: its port is there, and neither the row nor a mean is too long
pub record HasPlace (port : Option ℕ) (row : List Spot) : Type 0 where
  pub port_in : IfSome port (λ k. k < length row)
  pub short : length row ≤ 2 ^ 16
  pub counted : (k : ℕ) → k < length row → IsCounted (2 ^ 16) (spot_at row k).mean

abbrev pub lists_of : List (Vec Spot Global) → List (List Spot)
lists_of rows = map (λ v. v.items) rows

abbrev pub row_lists : Rows → List (List Spot)
row_lists rows = lists_of rows.lists.items

abbrev pub row_at : List (List Spot) → ℕ → List Spot
row_at rows c = slice_index_or rows c []

-- ---- in the words of the level

abbrev pub at_port : PlainLevel → ℕ → ℕ → End → Bool
at_port l c k n = ((spoke l n).child == c) && is_port (spoke l n).port k

abbrev pub at_child : PlainLevel → ℕ → End → Bool
at_child l c n = ((spoke l n).child == c) && is_none (spoke l n).port

-- the spots of implicit ends, numbered from i on
abbrev pub implicit_spots : PlainLevel → PlainPlan → ℕ → List End → List Spot
implicit_spots l p i [] = []
implicit_spots l p i (n ∷ ns) = spot l p None i (n ∷ []) ∷ implicit_spots l p (i + 1) ns

-- the spots of a child by these ends alone
abbrev pub port_spots_of : PlainLevel → PlainPlan → ℕ → List End → List Spot
port_spots_of l p c ns =
    map (λ k. spot l p (Some k) k (filter (at_port l c k) ns)) (range_with_len 0 (length (child_at l c).ports))

abbrev pub row_of : PlainLevel → PlainPlan → ℕ → List End → List Spot
row_of l p c ns = port_spots_of l p c ns ++ implicit_spots l p (length (child_at l c).ports) (filter (at_child l c) ns)

pub record AreRowsOf (l : PlainLevel) (p : PlainPlan) (ns : List End) (rows : List (List Spot)) : Type 0 where
  pub as_many : length rows ≡ length l.children
  pub row_is : (c : ℕ) → c < length l.children → row_at rows c ≡ row_of l p c ns

-- the spots of the first children's ports, without ends
pub record ArePortRows (l : PlainLevel) (count : ℕ) (rows : List (List Spot)) : Type 0 where
  pub as_many : length rows ≡ count
  pub row_is : (c : ℕ) → c < count → row_at rows c ≡ map (λ k. bare (Some k) k) (range_with_len 0 (length (child_at l c).ports))

-- the ends of the first edges, and those before an end
abbrev pub ends_to : ℕ → List End
ends_to e = ends_of_edges (range_with_len 0 e)

abbrev pub ends_before : ℕ → Bool → List End
ends_before e true = ends_to e
ends_before e false = ends_to e ++ end_at e true ∷ []

-- the number of an end's spot: its port's, or one for each implicit end of its child behind the ports
abbrev pub number_by : PlainLevel → EdgeEnd → List End → ℕ
number_by l s ns = number_from s.port (length (child_at l s.child).ports + length (filter (at_child l s.child) ns))
  where
    number_from : Option ℕ → ℕ → ℕ
    number_from None n = n
    number_from (Some k) n = k

abbrev pub number_of : PlainLevel → ℕ → Bool → ℕ
number_of l e at_source = number_by l (spoke l (end_at e at_source)) (ends_before e at_source)

-- a spot's number is its place in its row
abbrev pub AreCounted : List Spot → Type 0
AreCounted row = (k : ℕ) → k < length row → (spot_at row k).number ≡ k

-- the number of an end's spot
pub record HasNumber (l : PlainLevel) (p : PlainPlan) (n : End) (number : ℕ) : Type 0 where
  pub within : number < length (level.spots l p (spoke l n).child)
  pub spot_is : spot_at (level.spots l p (spoke l n).child) number ≡ spot_of l p n

-- the numbers of the spots of the first edges' ends
pub record AreNumbers (l : PlainLevel) (count : ℕ) (numbers : List ℕ) : Type 0 where
  pub as_long : length numbers ≡ 2 * count
  pub source : (e : ℕ) → e < count → slice_index numbers (2 * e) ≡ number_of l e true
  pub target : (e : ℕ) → e < count → slice_index numbers (2 * e + 1) ≡ number_of l e false

-- the spots of a level by the ends of its first edges, whatever plan the edges' flows were read from
pub record AreSpotsTo (l : PlainLevel) (courses : List Course) (count : ℕ) (spots : Spots) : Type 0 where
  pub rows : (p : PlainPlan) → AreCourses l p (length l.edges) courses → AreRowsOf l p (ends_to count) (row_lists spots.rows)
  pub counted : (c k : ℕ) → IsCounted (2 * count) (spot_at (row_at (row_lists spots.rows) c) k).mean
  pub numbers : AreNumbers l count spots.numbers.items

-- the spots of a level: those of each child, each numbered by its place, and for each end the number of its spot
pub record AreSpotsOf (l : PlainLevel) (p : PlainPlan) (spots : Spots) : Type 0 where
  pub as_many : length (row_lists spots.rows) ≡ length l.children
  pub row_is : (c : ℕ) → c < length l.children → row_at (row_lists spots.rows) c ≡ level.spots l p c
  pub few : (c : ℕ) → c < length l.children → length (level.spots l p c) ≤ 2 ^ 16
  pub numbered : (c : ℕ) → c < length l.children → AreCounted (level.spots l p c)
  pub sound : (c : ℕ) → c < length l.children → AreSpots (child_at l c) (level.spots l p c)
  pub two_each : length spots.numbers.items ≡ 2 * length l.edges
  pub sources : (e : ℕ) → e < length l.edges → HasNumber l p (end_at e true) (slice_index spots.numbers.items (2 * e))
  pub targets : (e : ℕ) → e < length l.edges → HasNumber l p (end_at e false) (slice_index spots.numbers.items (2 * e + 1))
