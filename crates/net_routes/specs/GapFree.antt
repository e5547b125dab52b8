-- The nets of a gap keep apart: where pieces of two of them overlap, they have a pin in common.
use Rattle.std.specs.Prelude.{◌≡◌, ◌≢◌, ◌↔◌, ◌⊎◌, ℕ, ◌<◌, ◌^◌, List, ℤ, pos, neg_ℤ, ◌+ℤ◌, ◌≤ℤ◌, length}
use Rattle.std.specs.Int.{int_min, int_max}
use Rattle.net_routes.specs.declared.Pin.{Pin}
use Rattle.net_routes.specs.declared.Net.{Net}
use Rattle.net_routes.specs.declared.NetRoute.{NetRoute}
use Rattle.net_routes.specs.declared.NetRoute.TheVariants.{Straight, One, Two}
use Rattle.net_routes.specs.Pieces.{corners, net_at, route_at, RoutesOverlap}

-- one of a net's two pins is this one
abbrev pub HasPin : Net → Pin → Type 0
HasPin n p = (n.a ≡ p) ⊎ (n.b ≡ p)

pub record CommonPin (m n : Net) : Type 0 where
  pub pin : Pin
  pub in_first : HasPin m pin
  pub in_second : HasPin n pin

-- no net has both pins on one side at one height
abbrev pub IsNet : Net → Type 0
IsNet n = n.a ≢ n.b

-- heights lie within -2^50 to 2^50
pub record IsHeight (h : ℤ) : Type 0 where
  pub low : neg_ℤ (pos (2 ^ 50)) ≤ℤ h
  pub high : h ≤ℤ pos (2 ^ 50)

pub record AreHeights (n : Net) : Type 0 where
  pub a : IsHeight n.a.height
  pub b : IsHeight n.b.height

-- the pins are on both sides at one height
abbrev pub IsStraightNet : Net → Type 0
IsStraightNet n = (n.a.on_left ≢ n.b.on_left) × (n.a.height ≡ n.b.height)

-- the route stands in this slot
abbrev pub StandsIn : NetRoute → ℕ → Type 0
StandsIn Straight s = ⊥
StandsIn (One t) s = t ≡ s
StandsIn (Two t h u) s = (t ≡ s) ⊎ (u ≡ s)

abbrev pub IsAtHeight : Net → ℤ → Type 0
IsAtHeight n h = (n.a.height ≡ h) ⊎ (n.b.height ≡ h)

-- h is at least some pin's height, and at most some pin's height plus the number of nets
pub record IsNearPins (nets : List Net) (h : ℤ) : Type 0 where
  pub i : ℕ
  pub j : ℕ
  pub i_in : i < length nets
  pub j_in : j < length nets
  pub low : int_min (net_at nets i).a.height (net_at nets i).b.height ≤ℤ h
  pub high : h ≤ℤ (int_max (net_at nets j).a.height (net_at nets j).b.height +ℤ pos (length nets))

-- the height between the two slots of a split net is that of no pin and of no other split net
pub record IsFresh (nets : List Net) (routes : List NetRoute) (k s : ℕ) (h : ℤ) (t : ℕ) : Type 0 where
  pub differ : s ≢ t
  pub no_pin : (j : ℕ) → j < length nets → IsAtHeight (net_at nets j) h → ⊥
  pub no_other : (j s' : ℕ) (h' : ℤ) (t' : ℕ) → j < length nets → j ≢ k → route_at routes j ≡ Two s' h' t' → h ≢ h'
  pub near : IsNearPins nets h

pub record GapFree (nets : List Net) (count : ℕ) (routes : List NetRoute) : Type 0 where
  pub as_many : length routes ≡ length nets
  pub slots_in : (k s : ℕ) → k < length nets → StandsIn (route_at routes k) s → s < count
  pub slots_used : (s : ℕ) → s < count → (k : ℕ) × (k < length nets) × StandsIn (route_at routes k) s
  pub straight : (k : ℕ) → k < length nets → (route_at routes k ≡ Straight) ↔ IsStraightNet (net_at nets k)
  pub fresh : (k s : ℕ) (h : ℤ) (t : ℕ) → k < length nets → route_at routes k ≡ Two s h t → IsFresh nets routes k s h t
  pub free : (j k : ℕ) → j < length nets → k < length nets → j ≢ k
      → RoutesOverlap count (corners (net_at nets j) (route_at routes j)) (corners (net_at nets k) (route_at routes k))
      → CommonPin (net_at nets j) (net_at nets k)
