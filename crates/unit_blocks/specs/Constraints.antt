-- The blocks as places under floors and bounds.
use Rattle.std.specs.Prelude.{◌≡◌, ℕ, ◌+◌, ◌<◌, ◌≤◌, ◌^◌, ℤ, pos, ◌+ℤ◌, ◌-ℤ◌, ◌≤ℤ◌, List, [], ◌∷◌, ◌++◌, length, slice_index}
use Rattle.std.specs.Prelude.{slice_index_or, ◌⊎◌, Option}
use Rattle.std.specs.List.{filter}
use Rattle.std.specs.Int.{int_max}
use Rattle.elk_layers.specs.declared.units.Unit.{Unit as LayerUnit}
use Rattle.elk_layers.specs.Layered.{Plain, IsSound, AreRows, unit_at, row_at, layer_of, is_child}
use Rattle.elk_layers.specs.Lines.{room, body_room, top_of, AreLines}
use Rattle.separation.specs.declared.bounds.Bound.{Bound}
use Rattle.separation.specs.Lines.{value_at, Settled, IsSolvable}
use Rattle.unit_blocks.specs.Blocks.{IsEntered}
use Rattle.elk_layers.specs.Straight.{chosen_link, AreStraight}

abbrev pub block_at : List ℕ → ℕ → ℕ
block_at blocks u = slice_index blocks u

abbrev pub offset_at : List ℤ → ℕ → ℤ
offset_at offsets u = slice_index_or offsets u (pos 0)

-- along the list, the number of each unit's block is below that of the next one's
abbrev pub Rises : List ℕ → List ℕ → Type 0
Rises blocks units =
    (i : ℕ) → i + 1 < length units → block_at blocks (slice_index units i) < block_at blocks (slice_index units (i + 1))

-- each unit's block by number, and each block's leftmost unit
pub record AreBlocks (l : Plain) (rows : List (List ℕ)) (chosen blocks roots : List ℕ) : Type 0 where
  pub as_many : length blocks ≡ length l.units
  pub numbers : (u : ℕ) → u < length l.units → block_at blocks u < length roots
  pub roots_in_range : (b : ℕ) → b < length roots → slice_index roots b < length l.units
  pub of_roots : (b : ℕ) → b < length roots → block_at blocks (slice_index roots b) ≡ b
  pub leftmost : (u : ℕ) → u < length l.units → layer_of l (slice_index roots (block_at blocks u)) ≤ layer_of l u
  pub first : (u : ℕ) → u < length l.units → (slice_index roots (block_at blocks u) ≡ u) ⊎ IsEntered l chosen u
  pub joined : (j : ℕ) → j < length chosen → block_at blocks (chosen_link l chosen j).tail ≡ block_at blocks (chosen_link l chosen j).head
  pub one_in_layer : (u v : ℕ) → u < length l.units → v < length l.units → layer_of l u ≡ layer_of l v
      → block_at blocks u ≡ block_at blocks v → u ≡ v
  pub rising : (r : ℕ) → r < length rows → Rises blocks (row_at rows r)
  pub children_rising : (r : ℕ) → r < length rows → Rises blocks (filter (is_child l) (row_at rows r))

-- how far below its block's leftmost unit each unit stands, so that chosen links are horizontal
pub record AreOffsets (l : Plain) (chosen roots : List ℕ) (offsets : List ℤ) : Type 0 where
  pub as_many : length offsets ≡ length l.units
  pub at_roots : (b : ℕ) → b < length roots → offset_at offsets (slice_index roots b) ≡ pos 0
  pub horizontal : (j : ℕ) → j < length chosen
      → offset_at offsets (chosen_link l chosen j).tail +ℤ (chosen_link l chosen j).tail_at
      ≡ offset_at offsets (chosen_link l chosen j).head +ℤ (chosen_link l chosen j).head_at

-- a unit of the block stands at 0 when the block stands at its floor
pub record IsHeldBy (l : Plain) (blocks : List ℕ) (offsets floor : List ℤ) (b : ℕ) : Type 0 where
  pub unit : ℕ
  pub in_range : unit < length l.units
  pub in_block : block_at blocks unit ≡ b
  pub at_zero : value_at floor b +ℤ offset_at offsets unit ≡ pos 0

-- the least values at which no unit of the block stands above 0
pub record AreFloors (l : Plain) (blocks roots : List ℕ) (offsets floor : List ℤ) : Type 0 where
  pub as_many : length floor ≡ length roots
  pub from_zero : (u : ℕ) → u < length l.units → pos 0 ≤ℤ (value_at floor (block_at blocks u) +ℤ offset_at offsets u)
  pub held : (b : ℕ) → b < length roots → IsHeldBy l blocks offsets floor b

-- the distances of a list's units, as bounds on their blocks
abbrev pub bounds_along : (ℕ → ℕ → ℤ) → List ℕ → List ℤ → List ℕ → List Bound
bounds_along distance blocks offsets [] = []
bounds_along distance blocks offsets (u ∷ []) = []
bounds_along distance blocks offsets (u ∷ v ∷ units) =
    record {
      before = block_at blocks u;
      after = block_at blocks v;
      gap = offset_at offsets u +ℤ distance u v -ℤ offset_at offsets v;
    } ∷ bounds_along distance blocks offsets (v ∷ units)

abbrev pub row_bounds : Plain → List ℕ → List ℤ → List ℕ → List Bound
row_bounds l blocks offsets row =
    bounds_along (room l) blocks offsets row ++ bounds_along (body_room l) blocks offsets (filter (is_child l) row)

abbrev pub all_bounds : Plain → List ℕ → List ℤ → List (List ℕ) → List Bound
all_bounds l blocks offsets [] = []
all_bounds l blocks offsets (row ∷ rows) = row_bounds l blocks offsets row ++ all_bounds l blocks offsets rows

-- the least lines of chosen links, as a question about blocks
pub record IsPosed (l : Plain) (rows : List (List ℕ)) (chosen blocks roots : List ℕ) (offsets floor : List ℤ)
    (bounds : List Bound) : Type 0 where
  pub blocks_are : AreBlocks l rows chosen blocks roots
  pub offsets_are : AreOffsets l chosen roots offsets
  pub floors_are : AreFloors l blocks roots offsets floor
  pub bounds_are : bounds ≡ all_bounds l blocks offsets rows

-- each unit stands at its block's value, lowered by its offset
pub record AreTops (l : Plain) (blocks : List ℕ) (offsets values tops : List ℤ) : Type 0 where
  pub as_many : length tops ≡ length l.units
  pub top_is : (u : ℕ) → u < length l.units → top_of tops u ≡ value_at values (block_at blocks u) +ℤ offset_at offsets u

-- lines of these links of which no top is above that of any others
pub record AreLeast (l : Plain) (rows : List (List ℕ)) (chosen : List ℕ) (tops : List ℤ) : Type 0 where
  pub are_lines : AreLines l rows chosen tops
  pub least : (other : List ℤ) → AreLines l rows chosen other → (u : ℕ) → u < length l.units → top_of tops u ≤ℤ top_of other u

abbrev pub greatest_spacing : Plain → ℤ
greatest_spacing l = int_max (int_max l.node_node l.edge_node) l.edge_edge

-- the sum of all heights and, for each unit, of a spacing
abbrev pub stacked_height : ℤ → List LayerUnit → ℤ
stacked_height spacing [] = pos 0
stacked_height spacing (u ∷ units) = u.height +ℤ spacing +ℤ stacked_height spacing units

-- no unit ends below all heights and spacings together
abbrev pub EndsWithinStack : Plain → List ℤ → Type 0
EndsWithinStack l tops =
    (u : ℕ) → u < length l.units
    → (top_of tops u +ℤ (unit_at l.units u).height) ≤ℤ stacked_height (greatest_spacing l) l.units

-- least values of the blocks are least lines of the units
abbrev pub LeastValuesGiveLeastLines : Type 0
LeastValuesGiveLeastLines =
    (l : Plain) (rows : List (List ℕ)) (chosen blocks roots : List ℕ) (offsets floor values tops : List ℤ) (bounds : List Bound)
    (holds : List (Option ℕ))
    → IsSound l → AreRows l rows → AreStraight l rows chosen → IsPosed l rows chosen blocks roots offsets floor bounds
    → Settled floor bounds values holds → AreTops l blocks offsets values tops → AreLeast l rows chosen tops

-- a list that counts from 0
pub record Counts (order : List ℕ) (count : ℕ) : Type 0 where
  pub as_long : length order ≡ count
  pub number_is : (b : ℕ) → b < count → slice_index order b ≡ b

-- the question about the blocks has an answer, and the lines that it gives end within the stack
pub record CanBePlaced (l : Plain) (blocks : List ℕ) (offsets floor : List ℤ) (bounds : List Bound) (order : List ℕ) : Type 0 where
  pub solvable : IsSolvable order floor bounds
  pub within : (values tops : List ℤ) (holds : List (Option ℕ)) → Settled floor bounds values holds
      → AreTops l blocks offsets values tops → EndsWithinStack l tops

abbrev pub BlocksCanBePlaced : Type 0
BlocksCanBePlaced =
    (l : Plain) (rows : List (List ℕ)) (chosen blocks roots order : List ℕ) (offsets floor : List ℤ) (bounds : List Bound)
    → IsSound l → AreRows l rows → AreStraight l rows chosen → IsPosed l rows chosen blocks roots offsets floor bounds
    → Counts order (length roots) → length bounds < 2 ^ 32 → CanBePlaced l blocks offsets floor bounds order
