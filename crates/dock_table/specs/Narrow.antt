-- Children whose sizes and given places are small enough to be added up, and how far their parts reach.
use Rattle.std.specs.Prelude.{ℕ, ◌+◌, ◌-◌, ◌<◌, ◌≤◌, ◌^◌, length, ℤ, pos, neg_ℤ, ◌+ℤ◌, ◌≤ℤ◌}
use Rattle.drawing_types.specs.declared.shape.Rect.{Rect}
use Rattle.drawing_types.specs.Ranges.{IsWithin}
use Rattle.port_order.specs.declared.children.Child.{Child}
use Rattle.port_order.specs.Child.{port_at}
use Rattle.port_order.specs.Conditions.{IsChild}
use Rattle.level_model.specs.Conditions.{IsNearPort}

-- a child of a level: it has few ports, and its sizes are at most 2^46
pub record IsNarrow (c : Child) : Type 0 where
  pub child : IsChild c
  pub few : length c.ports ≤ 2 ^ 16
  pub near : (k : ℕ) → k < length c.ports → IsNearPort c k
  pub width : c.size.width ≤ℤ pos (2 ^ 46)
  pub height : c.size.height ≤ℤ pos (2 ^ 46)
  pub port_width : (k : ℕ) → k < length c.ports → (port_at c k).size.width ≤ℤ pos (2 ^ 46)
  pub port_height : (k : ℕ) → k < length c.ports → (port_at c k).size.height ≤ℤ pos (2 ^ 46)

-- how far offsets along a side, and faces across it, reach
abbrev pub IsOffset : ℤ → Type 0
IsOffset z = IsWithin (neg_ℤ (pos (2 ^ 47 + 2 ^ 21))) (pos (2 ^ 47 + 2 ^ 21)) z

-- how far the borders of ports and outlines reach
pub record IsNearSpan (low size : ℤ) : Type 0 where
  pub low_end : IsWithin (neg_ℤ (pos (2 ^ 48 - 2 ^ 41))) (pos (2 ^ 48 - 2 ^ 41)) low
  pub high_end : IsWithin (neg_ℤ (pos (2 ^ 48 - 2 ^ 41))) (pos (2 ^ 48 - 2 ^ 41)) (low +ℤ size)
  pub solid : pos 0 ≤ℤ size

pub record IsNearRect (r : Rect) : Type 0 where
  pub across : IsNearSpan r.x r.width
  pub along : IsNearSpan r.y r.height
