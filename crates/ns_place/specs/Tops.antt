-- Tops that stand as layers of a network do, with gaps closed.
use Rattle.std.specs.Prelude.{◌≡◌, ℕ, ◌<◌, ◌≤◌, ℤ, pos, ◌+ℤ◌, ◌≤ℤ◌, List, length}
use Rattle.elk_layers.specs.declared.units.Link.{Link}
use Rattle.elk_layers.specs.Layered.{Plain, unit_at, IsFromZero}
use Rattle.elk_layers.specs.Lines.{top_of}
use Rattle.unit_blocks.specs.Constraints.{greatest_spacing, EndsWithinStack}
use Rattle.ns_place.specs.Heights.{link_height}

-- units are as far apart as they were, up to the height of the upper one and a spacing; no link gets higher
pub record AreClosedTops (l : Plain) (layers tops : List ℤ) : Type 0 where
  pub as_many : length tops ≡ length l.units
  pub from_zero : (u : ℕ) → u < length l.units → pos 0 ≤ℤ top_of tops u
  pub apart : (u v : ℕ) (far : ℤ) → u < length l.units → v < length l.units → far ≤ℤ ((unit_at l.units u).height +ℤ greatest_spacing l)
      → (top_of layers u +ℤ far) ≤ℤ top_of layers v → (top_of tops u +ℤ far) ≤ℤ top_of tops v
  pub not_higher : (k : Link) → k.tail < length l.units → k.head < length l.units → IsFromZero k.tail_at (unit_at l.units k.tail).height
      → IsFromZero k.head_at (unit_at l.units k.head).height → link_height tops k ≤ link_height layers k
  pub within : EndsWithinStack l tops
