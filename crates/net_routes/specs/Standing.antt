-- Where the pieces of a net stand.
use Rattle.std.specs.Prelude.{◌≡◌, ◌≢◌, ◌⊎◌, ℕ, ◌<◌, ◌≤◌, true, false, List, ℤ, ◌<ℤ◌, length}
use Rattle.std.specs.Int.{int_min, int_max}
use Rattle.net_routes.specs.declared.Pin.{Pin}
use Rattle.net_routes.specs.declared.Net.{Net}
use Rattle.net_routes.specs.declared.NetRoute.{NetRoute}
use Rattle.net_routes.specs.declared.NetRoute.TheVariants.{Straight, One, Two}
use Rattle.net_routes.specs.Pieces.{net_at, route_at}
use Rattle.net_routes.specs.GapFree.{HasPin}

-- the upright piece at this pin of the net stands in this slot
abbrev pub StandsAt : Net → NetRoute → Pin → ℕ → Type 0
StandsAt n Straight p s = ⊥
StandsAt n (One t) p s = HasPin n p × (t ≡ s)
StandsAt n (Two t h u) p s = ((n.a ≡ p) × (t ≡ s)) ⊎ ((n.b ≡ p) × (u ≡ s))

-- an upright piece of the net stands in this slot between these heights
abbrev pub IsUpright : Net → NetRoute → ℕ → ℤ → ℤ → Type 0
IsUpright n Straight s x y = ⊥
IsUpright n (One t) s x y = (t ≡ s) × (n.a.height ≡ x) × (n.b.height ≡ y)
IsUpright n (Two t h u) s x y = ((t ≡ s) × (n.a.height ≡ x) × (h ≡ y)) ⊎ ((u ≡ s) × (h ≡ x) × (n.b.height ≡ y))

-- the stretches between x and y and between z and w have a piece in common
abbrev pub StretchesOverlap : ℤ → ℤ → ℤ → ℤ → Type 0
StretchesOverlap x y z w = int_max (int_min x y) (int_min z w) <ℤ int_min (int_max x y) (int_max z w)

-- Where one net has a pin on the left at the height of another's on the right, the former's piece does not stand behind the
-- latter's; and upright pieces of two nets in one slot keep apart.
pub record AreApart (nets : List Net) (routes : List NetRoute) : Type 0 where
  pub order : (j k : ℕ) (p q : Pin) (s t : ℕ) → j < length nets → k < length nets → j ≢ k
      → StandsAt (net_at nets j) (route_at routes j) p s → StandsAt (net_at nets k) (route_at routes k) q t
      → p.on_left ≡ true → q.on_left ≡ false → p.height ≡ q.height → s ≤ t
  pub uprights : (j k s : ℕ) (x y z w : ℤ) → j < length nets → k < length nets → j ≢ k
      → IsUpright (net_at nets j) (route_at routes j) s x y → IsUpright (net_at nets k) (route_at routes k) s z w
      → StretchesOverlap x y z w → ⊥
