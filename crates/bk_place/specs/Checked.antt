-- What a check of units, links and rows finds out before their places are asked for.
use Rattle.std.specs.Prelude.{◌≡◌, ◌≢◌, ℕ, ◌+◌, ◌<◌, ◌^◌, List, pos, length, slice_index, is_some, IsTrue, IsFalse}
use Rattle.elk_layers.specs.declared.units.Unit.{Unit as LayerUnit}
use Rattle.elk_layers.specs.declared.units.Link.{Link}
use Rattle.elk_layers.specs.Layered.{IsFromZero, HasBodyWithin, HasUnit, unit_at, link_at, row_at}

-- a unit in range: of height 0 where it is a lane, and with its outline within it where it is a child
pub record IsGoodUnit (layers : ℕ) (u : LayerUnit) : Type 0 where
  pub layer : u.layer < layers
  pub height : IsFromZero u.height (pos (2 ^ 20))
  pub flat : IsFalse (is_some u.child) → u.height ≡ pos 0
  pub body : IsTrue (is_some u.child) → HasBodyWithin u

abbrev pub AreGoodUnits : ℕ → List LayerUnit → Type 0
AreGoodUnits layers units = (i : ℕ) → i < length units → IsGoodUnit layers (unit_at units i)

-- a link joins units of neighbouring layers, at pins within them
pub record IsGoodLink (units : List LayerUnit) (link : Link) : Type 0 where
  pub tail : link.tail < length units
  pub head : link.head < length units
  pub next_layer : (unit_at units link.head).layer ≡ (unit_at units link.tail).layer + 1
  pub tail_rank : link.tail_rank < 65536
  pub head_rank : link.head_rank < 65536
  pub tail_at : IsFromZero link.tail_at (unit_at units link.tail).height
  pub head_at : IsFromZero link.head_at (unit_at units link.head).height

abbrev pub AreGoodLinks : List LayerUnit → List Link → Type 0
AreGoodLinks units links = (i : ℕ) → i < length links → IsGoodLink units (link_at links i)

-- the unit at this place of a row is in range and of the row's layer, and stands at no place before
pub record IsGoodPlace (units : List LayerUnit) (r : ℕ) (row : List ℕ) (j : ℕ) : Type 0 where
  pub in_range : slice_index row j < length units
  pub in_layer : (unit_at units (slice_index row j)).layer ≡ r
  pub new : (i : ℕ) → i < j → slice_index row i ≢ slice_index row j

abbrev pub IsGoodRow : List LayerUnit → ℕ → List ℕ → Type 0
IsGoodRow units r row = (j : ℕ) → j < length row → IsGoodPlace units r row j

abbrev pub AreGoodRows : List LayerUnit → List (List ℕ) → Type 0
AreGoodRows units rows = (r : ℕ) → r < length rows → IsGoodRow units r (row_at rows r)

-- each unit stands in the row of its layer
abbrev pub AreFound : List LayerUnit → List (List ℕ) → Type 0
AreFound units rows = (u : ℕ) → u < length units → HasUnit (row_at rows (unit_at units u).layer) u
