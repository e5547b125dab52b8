-- Gaps that no unit reaches over, closed from the top down.
use Rattle.std.specs.Prelude.{◌≡◌, ℕ, ◌+◌, ◌<◌, ◌≤◌, ◌⊎◌, ℤ, pos, ◌+ℤ◌, List, length, slice_index, slice_index_or, take}
use Rattle.std.specs.List.{sum_by}
use Rattle.elk_layers.specs.declared.units.Unit.{Unit as LayerUnit}
use Rattle.elk_layers.specs.Layered.{unit_at}
use Rattle.network_laws.specs.Layering.{layer_of}
use Rattle.ns_place.specs.declared.closing.Standing.{Standing}

abbrev pub standing_at : List Standing → ℕ → Standing
standing_at all i = slice_index_or all i (record { top = 0; span = 0; unit = 0 })

-- the new top of the unit that stands at this place
abbrev pub closed_at : List Standing → List ℕ → ℕ → ℕ
closed_at all closed i = slice_index closed (standing_at all i).unit

-- two units, of which the first stands no lower: their distance doesn't grow, and where it falls, the second
-- is still out of the first one's reach
pub record StaysApart (top span top' closed closed' : ℕ) : Type 0 where
  pub no_wider : closed' + top ≤ closed + top'
  pub kept : (closed + top' ≤ closed' + top) ⊎ (closed + span ≤ closed')

-- the first units in order of their tops are closed up: the last of them stood at `last` and is moved up by
-- `shift`, and all of them reach as far as `reach`
pub record IsClosedTo (all : List Standing) (i last shift reach : ℕ) (closed : List ℕ) : Type 0 where
  pub in_order : (j : ℕ) → j < i → (standing_at all j).top ≤ last
  pub within_reach : (j : ℕ) → j < i → closed_at all closed j + (standing_at all j).span ≤ reach
  pub shifted : (j : ℕ) → j < i → (standing_at all j).top ≤ shift + closed_at all closed j
  pub held : (j : ℕ) → j < i
      → (closed_at all closed j + shift ≤ (standing_at all j).top) ⊎ (closed_at all closed j + (standing_at all j).span + shift ≤ last)
  pub apart : (j k : ℕ) → j ≤ k → k < i
      → StaysApart (standing_at all j).top (standing_at all j).span (standing_at all k).top (closed_at all closed j)
      (closed_at all closed k)
  pub shift_small : shift ≤ last
  pub reach_small : reach ≤ sum_by (λ (s : Standing). s.span) (take i all)

-- the places are the numbers of the units
abbrev pub StandByNumber : List Standing → Type 0
StandByNumber all = (u : ℕ) → u < length all → (standing_at all u).unit ≡ u

-- a unit with its layer as top, and its height and a spacing as span
pub record StandsFor (units : List LayerUnit) (layers : List ℤ) (spacing : ℤ) (u : ℕ) (s : Standing) : Type 0 where
  pub top_is : pos s.top ≡ layer_of layers u
  pub span_is : pos s.span ≡ (unit_at units u).height +ℤ spacing
  pub unit_is : s.unit ≡ u

-- the units by number
pub record AreStandings (units : List LayerUnit) (layers : List ℤ) (spacing : ℤ) (all : List Standing) : Type 0 where
  pub as_many : length all ≡ length units
  pub stands : (u : ℕ) → u < length units → StandsFor units layers spacing u (standing_at all u)

-- the units by number, closed up
pub record IsClosedUp (all : List Standing) (closed : List ℕ) : Type 0 where
  pub as_many : length closed ≡ length all
  pub apart : (u v : ℕ) → u < length all → v < length all → (standing_at all u).top ≤ (standing_at all v).top
      → StaysApart (standing_at all u).top (standing_at all u).span (standing_at all v).top (slice_index closed u) (slice_index closed v)
  pub within : (u : ℕ) → u < length all → slice_index closed u + (standing_at all u).span ≤ sum_by (λ (s : Standing). s.span) all
