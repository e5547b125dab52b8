-- The squarest rows.
use Rattle.std.specs.Prelude.{ℕ, List, ℤ, pos, ◌≤ℤ◌, ◌<ℤ◌}
use Rattle.drawing_types.specs.declared.shape.Point.{Point}
use Rattle.drawing_types.specs.declared.shape.Size.{Size}
use Rattle.box_pack.specs.declared.squarest.Squarest.{Squarest}
use Rattle.box_pack.specs.Boxes.{IsPacked, HasExtent, long_side}
use Rattle.box_pack.specs.Packed.{AreRows}

-- no whole limit gives rows with a smaller long side than this one, and every smaller limit gives a greater one
pub record IsLeastLong (sizes : List Size) (gap limit long : ℤ) : Type 0 where
  pub whole : pos 0 ≤ℤ limit
  pub no_smaller : (k : ℕ) (at : List Point) (extent : Size) → IsPacked sizes gap (pos k) at → HasExtent sizes at extent
      → long ≤ℤ long_side extent
  pub least : (k : ℕ) (at : List Point) (extent : Size) → (pos k <ℤ limit) → IsPacked sizes gap (pos k) at
      → HasExtent sizes at extent → long <ℤ long_side extent

-- the rows of the least limit that gives the smallest long side
pub record IsSquarest (sizes : List Size) (gap : ℤ) (squarest : Squarest) : Type 0 where
  pub rows : AreRows sizes gap squarest.limit squarest.rows
  pub long : IsLeastLong sizes gap squarest.limit (long_side squarest.rows.extent)
