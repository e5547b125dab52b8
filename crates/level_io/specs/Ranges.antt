-- Numbers that stay machine numbers when a level is rotated back.
use Rattle.std.specs.Prelude.{◌^◌, ℤ, pos}
use Rattle.drawing_types.specs.declared.shape.Size.{Size}
use Rattle.drawing_types.specs.declared.shape.Rect.{Rect}
use Rattle.drawing_types.specs.Ranges.{IsWithin}

-- a length from 0 to 2^59
abbrev pub IsLong : ℤ → Type 0
IsLong z = IsWithin (pos 0) (pos (2 ^ 59)) z

pub record IsLongSize (s : Size) : Type 0 where
  pub width : IsLong s.width
  pub height : IsLong s.height

pub record IsLongBox (r : Rect) : Type 0 where
  pub width : IsLong r.width
  pub height : IsLong r.height
