-- The spots of a child as its ports are ranked: a list of spots begins with those of the ports.
use Rattle.std.specs.Prelude.{◌≡◌, ℕ, ◌<◌, ◌≤◌, List, None, Some, length}
use Rattle.port_order.specs.declared.children.Child.{Child}
use Rattle.port_order.specs.declared.spots.Spot.{Spot}
use Rattle.port_order.specs.Child.{spot_at}
use Rattle.port_order.specs.Conditions.{AreSpots}
use Rattle.port_order.specs.Sides.{side_of}

-- spots of a child, first those of its ports by number, then those of implicit ends
pub record HavePorts (c : Child) (spots : List Spot) : Type 0 where
  pub sound : AreSpots c spots
  pub long : length c.ports ≤ length spots
  pub port_is : (k : ℕ) → k < length c.ports → (spot_at spots k).port ≡ Some k
  pub number_is : (k : ℕ) → k < length c.ports → (spot_at spots k).number ≡ k
  pub behind : (k : ℕ) → length c.ports ≤ k → k < length spots → (spot_at spots k).port ≡ None

-- ports lie on the same sides
abbrev pub SamePorts : Child → List Spot → List Spot → Type 0
SamePorts c s t = (k : ℕ) → k < length c.ports → side_of c (spot_at s k) ≡ side_of c (spot_at t k)

-- so do all spots, which are the same but for their means
pub record SameSpots (c : Child) (s t : List Spot) : Type 0 where
  pub as_many : length s ≡ length t
  pub port_is : (k : ℕ) → k < length s → (spot_at s k).port ≡ (spot_at t k).port
  pub number_is : (k : ℕ) → k < length s → (spot_at s k).number ≡ (spot_at t k).number
  pub side_is : (k : ℕ) → k < length s → side_of c (spot_at s k) ≡ side_of c (spot_at t k)
