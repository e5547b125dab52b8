-- Distances of units, and the least lines of a sweep.
use Rattle.std.specs.Prelude.{◌≡◌, ℕ, ◌+◌, ◌<◌, ◌==◌, cond, ℤ, pos, ◌+ℤ◌, ◌-ℤ◌, ◌≤ℤ◌, List, [], ◌∷◌, length, Bool, is_some, ◌&&◌, ◌||◌, not}
use Rattle.std.specs.Prelude.{slice_index, slice_index_or}
use Rattle.std.specs.List.{All, filter}
use Rattle.std.specs.Int.{int_max}
use Rattle.elk_layers.specs.declared.units.Unit.{Unit as LayerUnit}
use Rattle.drawing_types.specs.declared.sweep.Sweep.{Sweep}
use Rattle.elk_layers.specs.Layered.{Plain, unit_at, link_at, row_at, is_child}
use Rattle.elk_layers.specs.Alignment.{aligned}

-- whether a lane, and no outline, is what a unit shows above, and below
abbrev pub shows_lane : LayerUnit → ℕ → Bool
shows_lane unit lanes = not (is_some unit.child) || not (lanes == 0)

abbrev pub lane_above : Plain → ℕ → Bool
lane_above layered u = shows_lane (unit_at layered.units u) (unit_at layered.units u).north

abbrev pub lane_below : Plain → ℕ → Bool
lane_below layered u = shows_lane (unit_at layered.units u) (unit_at layered.units u).south

-- the distance of what faces one another
abbrev pub facing : Plain → Bool → Bool → ℤ
facing layered upper lower =
    cond (upper && lower) layered.edge_edge (cond (upper || lower) layered.edge_node layered.node_node)

-- from top to top of two neighbours
abbrev pub room : Plain → ℕ → ℕ → ℤ
room layered upper lower =
    (unit_at layered.units upper).height +ℤ facing layered (lane_below layered upper) (lane_above layered lower)

-- from top to top of two children, so that their outlines are apart
abbrev pub body_room : Plain → ℕ → ℕ → ℤ
body_room layered upper lower =
    let a = unit_at layered.units upper in
    let b = unit_at layered.units lower in
    (a.body_top +ℤ a.body_height +ℤ layered.node_node) -ℤ b.body_top

abbrev pub top_of : List ℤ → ℕ → ℤ
top_of tops u = slice_index_or tops u (pos 0)

-- each unit of a list and the next are this far apart
abbrev pub Keeps : (ℕ → ℕ → ℤ) → List ℤ → List ℕ → Type 0
Keeps distance tops row =
    (i : ℕ) → i + 1 < length row
    → (top_of tops (slice_index row i) +ℤ distance (slice_index row i) (slice_index row (i + 1))) ≤ℤ top_of tops (slice_index row (i + 1))

-- the ends of a link are horizontal
abbrev pub IsHorizontal : Plain → List ℤ → ℕ → Type 0
IsHorizontal layered tops k =
    let l = link_at layered.links k in
    top_of tops l.tail +ℤ l.tail_at ≡ top_of tops l.head +ℤ l.head_at

-- tops from 0 that keep all distances
pub record AreApart (layered : Plain) (rows : List (List ℕ)) (tops : List ℤ) : Type 0 where
  pub as_many : length tops ≡ length layered.units
  pub from_zero : (u : ℕ) → u < length layered.units → pos 0 ≤ℤ top_of tops u
  pub room : (r : ℕ) → r < length rows → Keeps (room layered) tops (row_at rows r)
  pub body_room : (r : ℕ) → r < length rows → Keeps (body_room layered) tops (filter (is_child layered) (row_at rows r))

-- besides, the chosen links are horizontal
pub record AreLines (layered : Plain) (rows : List (List ℕ)) (links : List ℕ) (tops : List ℤ) : Type 0 where
  pub apart : AreApart layered rows tops
  pub horizontal : All (IsHorizontal layered tops) links

-- and no top is above that of any such lines
pub record AreLeastLines (layered : Plain) (rows : List (List ℕ)) (sweep : Sweep) (tops : List ℤ) : Type 0 where
  pub are_lines : AreLines layered rows (aligned layered rows sweep) tops
  pub least : (other : List ℤ) → AreLines layered rows (aligned layered rows sweep) other
      → (u : ℕ) → u < length layered.units → top_of tops u ≤ℤ top_of other u

-- the greatest sum of a unit's top and height, 0 without units
abbrev pub extent_from : List LayerUnit → List ℤ → ℤ
extent_from [] tops = pos 0
extent_from (u ∷ us) [] = pos 0
extent_from (u ∷ us) (t ∷ ts) = int_max (t +ℤ u.height) (extent_from us ts)

abbrev pub extent : Plain → List ℤ → ℤ
extent layered tops = extent_from layered.units tops
