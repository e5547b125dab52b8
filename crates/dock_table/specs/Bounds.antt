-- How far the numbers of a table reach.
use Rattle.std.specs.Prelude.{ℕ, ◌<◌, ◌^◌, length, ℤ, pos, neg_ℤ}
use Rattle.drawing_types.specs.Ranges.{IsWithin, IsPlaceWithin}
use Rattle.level_model.specs.declared.table.ChildAt.{ChildAt}
use Rattle.level_model.specs.declared.table.EndAt.{EndAt}
use Rattle.level_model.specs.declared.table.LoopAt.{LoopAt}
use Rattle.level_model.specs.declared.table.Table.{Table}
use Rattle.level_model.specs.Table.{child_in, end_in, loop_in}

abbrev pub IsIn : ℤ → Type 0
IsIn z = IsWithin (neg_ℤ (pos (2 ^ 49))) (pos (2 ^ 49)) z

abbrev pub IsLengthIn : ℤ → Type 0
IsLengthIn z = IsWithin (pos 0) (pos (2 ^ 49)) z

pub record IsChildIn (v : ChildAt) : Type 0 where
  pub x : IsIn v.outline.x
  pub y : IsIn v.outline.y
  pub width : IsLengthIn v.outline.width
  pub height : IsLengthIn v.outline.height

pub record IsEndIn (v : EndAt) : Type 0 where
  pub anchor : IsPlaceWithin (2 ^ 49) v.anchor
  pub lane : IsIn v.lane

pub record IsLoopIn (v : LoopAt) : Type 0 where
  pub north : IsIn v.north
  pub south : IsIn v.south

-- all numbers of the table, whether they count or not, are at most 2^49 from 0
pub record AreNumbersIn (t : Table) : Type 0 where
  pub children : (c : ℕ) → c < length t.children → IsChildIn (child_in t.children c)
  pub ends : (i : ℕ) → i < length t.ends → IsEndIn (end_in t.ends i)
  pub loops : (e : ℕ) → e < length t.loops → IsLoopIn (loop_in t.loops e)
