-- Numbers of the heights at which nets have pins on the left, and links between them.
use Rattle.std.specs.Prelude.{◌≡◌, ℕ, ◌+◌, ◌<◌, ◌≤◌, true, false, List, ℤ, length, Some, IsSome, unwrap_or}
use Rattle.std.specs.Ordering.{int_cmp}
use Rattle.std.specs.BTreeMap.{BTreeMap, get}
use Rattle.route_slots.specs.declared.links.Link.{Link}
use Rattle.route_slots.specs.Links.{link_at}
use Rattle.net_routes.specs.declared.Pin.{Pin}
use Rattle.net_routes.specs.declared.Net.{Net}
use Rattle.route_slots.specs.declared.heights.Heights.{Heights}
use Rattle.net_routes.specs.Pieces.{net_at}
use Rattle.net_routes.specs.GapFree.{HasPin, IsStraightNet}

-- the net is not straight and has a pin on the left at this height
pub record HasLeftAt (n : Net) (h : ℤ) : Type 0 where
  pub bent : IsStraightNet n → ⊥
  pub pin : Pin
  pub has_pin : HasPin n pin
  pub on_left : pin.on_left ≡ true
  pub at_height : pin.height ≡ h

-- no two heights have one number, and numbers begin at 2
pub record AreNumbers (heights : Heights) : Type 0 where
  pub from_two : (h : ℤ) (x : ℕ) → get int_cmp heights.numbers h ≡ Some x → 2 ≤ x
  pub below : (h : ℤ) (x : ℕ) → get int_cmp heights.numbers h ≡ Some x → x < heights.bound
  pub alone : (g h : ℤ) (x : ℕ) → get int_cmp heights.numbers g ≡ Some x → get int_cmp heights.numbers h ≡ Some x → g ≡ h

-- the heights of these nets' pins on the left have numbers, and no others
pub record AreHeightNumbers (nets : List Net) (n : ℕ) (heights : Heights) : Type 0 where
  pub numbers : AreNumbers heights
  pub least : 2 ≤ heights.bound
  pub few : heights.bound ≤ 2 + (n + n)
  pub each : (k : ℕ) (p : Pin) → k < n → (IsStraightNet (net_at nets k) → ⊥) → HasPin (net_at nets k) p → p.on_left ≡ true
      → IsSome (get int_cmp heights.numbers p.height)
  pub held : (h : ℤ) (x : ℕ) → get int_cmp heights.numbers h ≡ Some x → (k : ℕ) × (k < n) × HasLeftAt (net_at nets k) h

-- the pins of a net that leads across the gap and is not straight
pub record AreSides (n : Net) (p q : Pin) : Type 0 where
  pub bent : IsStraightNet n → ⊥
  pub has_left : HasPin n p
  pub has_right : HasPin n q
  pub on_left : p.on_left ≡ true
  pub on_right : q.on_left ≡ false
  pub no_other_left : (r : Pin) → HasPin n r → r.on_left ≡ true → r ≡ p
  pub no_other_right : (r : Pin) → HasPin n r → r.on_left ≡ false → r ≡ q

abbrev pub HasNoSides : Net → Type 0
HasNoSides n = (IsStraightNet n → ⊥) → (p q : Pin) → HasPin n p → HasPin n q → p.on_left ≡ true → q.on_left ≡ false → ⊥

-- A net that leads across is a link from its height on the left to that on the right; 1 stands for heights without a number.
-- Every other net is a link from 0 to 1.
pub data IsLinkOf (m : BTreeMap ℤ ℕ) (n : Net) (l : Link) : Type 0 where
  idle : HasNoSides n → l.tail ≡ 0 → l.head ≡ 1 → IsLinkOf m n l
  across : (p q : Pin) → AreSides n p q → l.tail ≡ unwrap_or (get int_cmp m p.height) 0
      → l.head ≡ unwrap_or (get int_cmp m q.height) 1 → IsLinkOf m n l

pub record AreLinks (m : BTreeMap ℤ ℕ) (nets : List Net) (links : List Link) (n : ℕ) : Type 0 where
  pub len : length links ≡ n
  pub each : (k : ℕ) → k < n → IsLinkOf m (net_at nets k) (link_at links k)
