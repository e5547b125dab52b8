-- What the steps of a placement hand on.
use Rattle.std.specs.Prelude.{◌≡◌, ℕ, ◌<◌, ◌^◌, ℤ, pos, ◌+ℤ◌, ◌≤ℤ◌, ◌<ℤ◌, ◌-ℤ◌, ◌⊎◌, slice_set, cond, List, length, slice_index, Bool, true}
use Rattle.elk_layers.specs.Layered.{Plain, is_child}
use Rattle.elk_layers.specs.Lines.{room, body_room}
use Rattle.separation.specs.Lines.{value_at}
use Rattle.separation.specs.declared.bounds.Bound.{Bound}
use Rattle.unit_blocks.specs.Constraints.{offset_at, block_at, all_bounds, Counts}

-- from -2 ^ 56 to 2 ^ 56
pub record IsSmall (z : ℤ) : Type 0 where
  pub low : pos 0 ≤ℤ (z +ℤ pos (2 ^ 56))
  pub high : z ≤ℤ pos (2 ^ 56)

abbrev pub AreSmall : List ℤ → Type 0
AreSmall offsets = (u : ℕ) → IsSmall (offset_at offsets u)

-- the distance of two outlines, or of two units
abbrev pub distance_of : Plain → Bool → ℕ → ℕ → ℤ
distance_of l outlines u v = cond outlines (body_room l u v) (room l u v)

-- units in range, and children where their outlines are to be apart
abbrev pub CanBeApart : Plain → Bool → ℕ → Type 0
CanBeApart l outlines u = (u < length l.units) × (outlines ≡ true → is_child l u ≡ true)

-- the floor after a unit of the block was looked at: kept where the unit stands at 0 or below, else lowered to it
abbrev pub IsLowered : List ℤ → ℕ → ℤ → List ℤ → Type 0
IsLowered floor b offset floor' =
    ((pos 0 ≤ℤ (value_at floor b +ℤ offset)) × (floor' ≡ floor))
    ⊎ (((value_at floor b +ℤ offset) <ℤ pos 0) × (floor' ≡ slice_set floor b (pos 0 -ℤ offset)))

-- what the floors hold after the first units
pub record AreFloorsSoFar (blocks : List ℕ) (offsets : List ℤ) (count done : ℕ) (floor : List ℤ) : Type 0 where
  pub as_many : length floor ≡ count
  pub from_zero : (u : ℕ) → u < done → pos 0 ≤ℤ (value_at floor (block_at blocks u) +ℤ offset_at offsets u)
  pub held : (b : ℕ) → b < count
      → (value_at floor b ≡ pos 0) ⊎ ((u : ℕ) × (u < done) × (block_at blocks u ≡ b) × (value_at floor b +ℤ offset_at offsets u ≡ pos 0))

-- the number of each root
pub record AreRootNumbers (roots : List ℕ) (done : ℕ) (numbers : List ℕ) : Type 0 where
  pub number_is : (b : ℕ) → b < done → slice_index numbers (slice_index roots b) ≡ b

-- the constraints on blocks whose numbers go forward
pub record AreConstraints (l : Plain) (rows : List (List ℕ)) (blocks roots : List ℕ) (offsets : List ℤ) (order : List ℕ)
    (floor : List ℤ) (bounds : List Bound) : Type 0 where
  pub counts : Counts order (length roots)
  pub floors : AreFloorsSoFar blocks offsets (length roots) (length l.units) floor
  pub bounds_are : bounds ≡ all_bounds l blocks offsets rows
