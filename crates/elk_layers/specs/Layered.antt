-- Units and links by number, rows as lists of units, and the keys of a link's ends.
use Rattle.std.specs.Prelude.{◌≡◌, ◌≢◌, ℕ, ◌<◌, ◌≤◌, ◌^◌, ◌≤ℤ◌, ◌<ℤ◌, length, ◌+◌, ◌*◌, ◌==◌, cond, pos, ◌+ℤ◌, ℤ, List, [], ◌∷◌, map, None}
use Rattle.std.specs.Prelude.{slice_index, slice_index_or, is_some, Bool, true, not}
use Rattle.std.specs.List.{count_by}
use Rattle.elk_layers.specs.declared.units.Unit.{Unit as LayerUnit}
use Rattle.elk_layers.specs.declared.units.Link.{Link}
use Rattle.elk_layers.specs.declared.units.Layered.{Layered}
use Rattle.elk_layers.specs.declared.units.Order.{Order}

-- a `Layered` as plain data
pub record Plain : Type 0 where
  pub layers : ℕ
  pub units : List LayerUnit
  pub links : List Link
  pub node_node : ℤ
  pub edge_node : ℤ
  pub edge_edge : ℤ

abbrev pub plain : Layered → Plain
plain l =
    record {
      layers = l.layers;
      units = l.units.items;
      links = l.links.items;
      node_node = l.node_node;
      edge_node = l.edge_node;
      edge_edge = l.edge_edge;
    }

abbrev pub unit_at : List LayerUnit → ℕ → LayerUnit
unit_at units u =
    slice_index_or units u (record { layer = 0; child = None; height = pos 0; body_top = pos 0; body_height = pos 0; north = 0; south = 0 })

abbrev pub link_at : List Link → ℕ → Link
link_at links k =
    slice_index_or links k (record { edge = 0; tail = 0; head = 0; tail_rank = 0; head_rank = 0; tail_at = pos 0; head_at = pos 0 })

-- the rows of an order, as lists of units
abbrev pub rows_of : Order → List (List ℕ)
rows_of order = map (λ row. row.items) order.rows.items

abbrev pub row_at : List (List ℕ) → ℕ → List ℕ
row_at rows r = slice_index_or rows r []

-- a unit's place in its row, from 0
abbrev pub place_in : List ℕ → ℕ → ℕ
place_in [] u = 0
place_in (v ∷ row) u = cond (v == u) 0 (1 + place_in row u)

abbrev pub layer_of : Plain → ℕ → ℕ
layer_of layered u = (unit_at layered.units u).layer

abbrev pub place_of : Plain → List (List ℕ) → ℕ → ℕ
place_of layered rows u = place_in (row_at rows (layer_of layered u)) u

-- a link lies in the gap after its tail's layer
abbrev pub gap_of : Plain → Link → ℕ
gap_of layered l = layer_of layered l.tail

abbrev pub tail_key : Plain → List (List ℕ) → Link → ℕ
tail_key layered rows l = place_of layered rows l.tail * 65536 + l.tail_rank

abbrev pub head_key : Plain → List (List ℕ) → Link → ℕ
head_key layered rows l = place_of layered rows l.head * 65536 + l.head_rank

abbrev pub is_child : Plain → ℕ → Bool
is_child layered u = is_some (unit_at layered.units u).child

abbrev pub is_lane : Plain → ℕ → Bool
is_lane layered u = not (is_child layered u)

-- a number from 0 to a bound
abbrev pub IsFromZero : ℤ → ℤ → Type 0
IsFromZero z bound = (pos 0 ≤ℤ z) × (z ≤ℤ bound)

-- the heights of these units together
abbrev pub total_height : List LayerUnit → ℤ
total_height [] = pos 0
total_height (u ∷ us) = u.height +ℤ total_height us

-- a child's outline lies within its unit
pub record HasBodyWithin (unit : LayerUnit) : Type 0 where
  pub top : pos 0 ≤ℤ unit.body_top
  pub height : pos 0 ≤ℤ unit.body_height
  pub bottom : (unit.body_top +ℤ unit.body_height) ≤ℤ unit.height

-- a link joins units of neighbouring layers, at pins within them
pub record IsSoundLink (l : Plain) (link : Link) : Type 0 where
  pub tail : link.tail < length l.units
  pub head : link.head < length l.units
  pub next_layer : layer_of l link.head ≡ layer_of l link.tail + 1
  pub tail_rank : link.tail_rank < 65536
  pub head_rank : link.head_rank < 65536
  pub tail_at : IsFromZero link.tail_at (unit_at l.units link.tail).height
  pub head_at : IsFromZero link.head_at (unit_at l.units link.head).height

-- a spacing is from 1 to 2 ^ 20
pub record IsSpacing (z : ℤ) : Type 0 where
  pub low : pos 1 ≤ℤ z
  pub high : z ≤ℤ pos (2 ^ 20)

-- what every call asks of a drawing in layers
pub record IsSound (l : Plain) : Type 0 where
  pub node_node_is : IsSpacing l.node_node
  pub edge_node_is : IsSpacing l.edge_node
  pub edge_edge_is : IsSpacing l.edge_edge
  pub few_units : length l.units ≤ 2 ^ 24
  pub few_links : length l.links ≤ 2 ^ 24
  pub layers_are : (u : ℕ) → u < length l.units → layer_of l u < l.layers
  pub few_in_layer : (g : ℕ) → count_by (λ (u : LayerUnit). u.layer == g) l.units ≤ 4096
  pub links_are : (k : ℕ) → k < length l.links → IsSoundLink l (link_at l.links k)
  pub heights : (u : ℕ) → u < length l.units → pos 0 ≤ℤ (unit_at l.units u).height
  pub together : total_height l.units <ℤ pos (2 ^ 56)
  pub lanes_are_flat : (u : ℕ) → u < length l.units → is_lane l u ≡ true → (unit_at l.units u).height ≡ pos 0
  pub bodies : (u : ℕ) → u < length l.units → is_child l u ≡ true → HasBodyWithin (unit_at l.units u)

-- a row has this unit at some place
pub record HasUnit (row : List ℕ) (u : ℕ) : Type 0 where
  pub place : ℕ
  pub within : place < length row
  pub unit_is : slice_index row place ≡ u

-- each row holds its layer's units, each once
pub record AreRows (l : Plain) (rows : List (List ℕ)) : Type 0 where
  pub as_many : length rows ≡ l.layers
  pub in_range : (r : ℕ) → r < length rows → (i : ℕ) → i < length (row_at rows r) → slice_index (row_at rows r) i < length l.units
  pub in_layer : (r : ℕ) → r < length rows → (i : ℕ) → i < length (row_at rows r) → layer_of l (slice_index (row_at rows r) i) ≡ r
  pub complete : (u : ℕ) → u < length l.units → HasUnit (row_at rows (layer_of l u)) u
  pub once : (r : ℕ) → r < length rows → (i j : ℕ) → i < j → j < length (row_at rows r)
      → slice_index (row_at rows r) i ≢ slice_index (row_at rows r) j
