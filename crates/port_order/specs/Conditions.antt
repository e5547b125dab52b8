-- What is true of every child and of its spots.
use Rattle.std.specs.Prelude.{◌≡◌, ℕ, ◌<◌, ◌≤◌, ◌^◌, ◌&&◌, false, List, pos, length, IfSome, IsSomeAnd, IsNone, IsFalse}
use Rattle.drawing_types.specs.declared.shape.Size.{Size}
use Rattle.elk_doc.specs.declared.document.PortRule.TheVariants.{FixedPos}
use Rattle.elk_doc.specs.Sound.{IsOutside}
use Rattle.drawing_types.specs.Ranges.{IsWithin, IsPlaceWithin}
use Rattle.elk_doc.specs.PortsKept.{size_along}
use Rattle.port_order.specs.declared.children.Child.{Child}
use Rattle.port_order.specs.declared.spots.Spot.{Spot}
use Rattle.port_order.specs.Child.{port_at, spot_at}
use Rattle.port_order.specs.Sides.{given_side, side_else}

-- sizes from 0 to 2^47
pub record IsSmall (s : Size) : Type 0 where
  pub width : IsWithin (pos 0) (pos (2 ^ 47)) s.width
  pub height : IsWithin (pos 0) (pos (2 ^ 47)) s.height

-- A port of a child. Its anchor lies within its length along its side, which is its height where its side is left to the
-- flow of edges. Under fixed positions a port of a leaf has a side, and its outer face is not strictly inside the leaf.
pub record IsChildPort (c : Child) (k : ℕ) : Type 0 where
  pub size : IsSmall (port_at c k).size
  pub place : IsPlaceWithin (2 ^ 54) (port_at c k).place
  pub half : IsWithin (pos 0) (size_along (side_else (given_side c k) false) (port_at c k).size) (port_at c k).half
  pub outside : IsFalse c.compound → c.rule ≡ FixedPos
      → IsSomeAnd (given_side c k) (IsOutside c.size (port_at c k).place (port_at c k).size)

pub record IsChild (c : Child) : Type 0 where
  pub size : IsSmall c.size
  pub ports : (k : ℕ) → k < length c.ports → IsChildPort c k

-- a spot of a child: its port is there, its mean counts something, and no implicit end both leaves and enters
pub record IsSpot (c : Child) (s : Spot) : Type 0 where
  pub port : IfSome s.port (λ k. k < length c.ports)
  pub mean : IfSome s.mean (λ m. 1 ≤ m.count)
  pub implicit : IsNone s.port → IsFalse (s.leaves && s.enters)

-- spots of a child, whose numbers differ
pub record AreSpots (c : Child) (spots : List Spot) : Type 0 where
  pub each : (i : ℕ) → i < length spots → IsSpot c (spot_at spots i)
  pub differ : (i j : ℕ) → i < length spots → j < length spots → (spot_at spots i).number ≡ (spot_at spots j).number → i ≡ j
