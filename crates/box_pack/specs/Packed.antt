-- Rows as an answer.
use Rattle.std.specs.Prelude.{List, ℤ}
use Rattle.drawing_types.specs.declared.shape.Size.{Size}
use Rattle.box_pack.specs.declared.packing.Rows.{Rows}
use Rattle.box_pack.specs.Boxes.{IsPacked, HasExtent}

-- the rows of these boxes, with this gap and this limit
pub record AreRows (sizes : List Size) (gap limit : ℤ) (rows : Rows) : Type 0 where
  pub places : IsPacked sizes gap limit rows.at
  pub extent : HasExtent sizes rows.at rows.extent
