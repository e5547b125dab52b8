-- Two neighbouring slots are exchanged as a whole.
use Rattle.std.specs.Prelude.{◌≡◌, ℕ, ◌+◌, ◌<◌, ◌≤◌, Bool, true, false, List, ◌==◌, ◌&&◌, ◌||◌, length, if◌then◌else◌}
use Rattle.std.specs.Ordering.{int_eq}
use Rattle.net_routes.specs.declared.Pin.{Pin}
use Rattle.net_routes.specs.declared.Net.{Net}
use Rattle.net_routes.specs.declared.NetRoute.{NetRoute}
use Rattle.net_routes.specs.declared.NetRoute.TheVariants.{Straight, One, Two}
use Rattle.net_routes.specs.Pieces.{net_at, route_at}
use Rattle.net_routes.specs.GapFree.{GapFree}
use Rattle.net_routes.specs.Conflicts.{SplitsOnCycles}
use Rattle.net_routes.specs.Standing.{StandsAt, AreApart}
use Rattle.net_routes.specs.Crossings.{cut, crossings, sum_to}
use Rattle.net_routes.specs.Limits.{exchange_limit}
use Rattle.net_routes.specs.Exchanges.{exchanged, AreExchanged, NoBetterAt, NoBetterExchange}

-- the routes are free, their segments keep apart, and only nets on cycles are split
pub record AreLaid (nets : List Net) (count : ℕ) (routes : List NetRoute) : Type 0 where
  pub free : GapFree nets count routes
  pub apart : AreApart nets routes
  pub splits : SplitsOnCycles nets routes

-- and in a gap of at most `exchange_limit` nets no exchange of two neighbouring slots lessens the crossings
pub record AreSettled (nets : List Net) (count : ℕ) (routes : List NetRoute) : Type 0 where
  pub laid : AreLaid nets count routes
  pub none : length nets ≤ exchange_limit → NoBetterExchange nets count routes

-- the net has a segment in slot s or the next
unfoldable pub is_near : ℕ → ℕ → Bool
is_near s t = if t == s then true else t == s + 1

unfoldable pub touches : ℕ → NetRoute → Bool
touches s Straight = false
touches s (One t) = is_near s t
touches s (Two t h u) = if is_near s t then true else is_near s u

-- crossings of two nets before and after the exchange, counted where the second has a segment in the two slots
unfoldable pub near_before : Net → NetRoute → Net → NetRoute → ℕ → ℕ
near_before m r n q s = if touches s q then cut m r n q else 0

unfoldable pub near_after : Net → NetRoute → Net → NetRoute → ℕ → ℕ
near_after m r n q s = if touches s q then cut m (exchanged s r) n (exchanged s q) else 0

abbrev pub row_before : List Net → List NetRoute → ℕ → ℕ → ℕ → ℕ
row_before nets routes s j n = sum_to (λ k. near_before (net_at nets j) (route_at routes j) (net_at nets k) (route_at routes k) s) n

abbrev pub row_after : List Net → List NetRoute → ℕ → ℕ → ℕ → ℕ
row_after nets routes s j n = sum_to (λ k. near_after (net_at nets j) (route_at routes j) (net_at nets k) (route_at routes k) s) n

-- and where both have
abbrev pub all_before : List Net → List NetRoute → ℕ → ℕ → ℕ
all_before nets routes s n = sum_to (λ j. if touches s (route_at routes j) then row_before nets routes s j (length nets) else 0) n

abbrev pub all_after : List Net → List NetRoute → ℕ → ℕ → ℕ
all_after nets routes s n = sum_to (λ j. if touches s (route_at routes j) then row_after nets routes s j (length nets) else 0) n

-- the first net has a pin on the left in slot s at a height where the second has one on the right in the next
pub record Blocks (m : Net) (r : NetRoute) (n : Net) (q : NetRoute) (s : ℕ) : Type 0 where
  pub left : Pin
  pub right : Pin
  pub first : StandsAt m r left s
  pub second : StandsAt n q right (s + 1)
  pub on_left : left.on_left ≡ true
  pub on_right : right.on_left ≡ false
  pub one_height : left.height ≡ right.height

-- the segment at the net's pin stands in the slot
unfoldable pub at_a : NetRoute → ℕ → Bool
at_a Straight s = false
at_a (One t) s = t == s
at_a (Two t h u) s = t == s

unfoldable pub at_b : NetRoute → ℕ → Bool
at_b Straight s = false
at_b (One t) s = t == s
at_b (Two t h u) s = u == s

-- the first pin is on the left and the second on the right at one height
unfoldable pub meets : Pin → Pin → Bool
meets p q = if p.on_left then (if q.on_left then false else int_eq p.height q.height) else false

-- the pin meets one of the net's whose segments stand in the slot
unfoldable pub meets_in : Pin → Net → NetRoute → ℕ → Bool
meets_in p n q t = (at_a q t && meets p n.a) || (at_b q t && meets p n.b)

unfoldable pub blocks : Net → NetRoute → Net → NetRoute → ℕ → Bool
blocks m r n q s = (at_a r s && meets_in m.a n q (s + 1)) || (at_b r s && meets_in m.b n q (s + 1))

unfoldable pub holds_back : List Net → List NetRoute → ℕ → ℕ → ℕ → Bool
holds_back nets routes s j k = if j == k then false else blocks (net_at nets j) (route_at routes j) (net_at nets k) (route_at routes k) s

-- the exchange lessens the crossings, and segments still keep apart
abbrev pub IsBetterAt : List Net → List NetRoute → ℕ → Type 0
IsBetterAt nets routes s =
    (others : List NetRoute) → AreExchanged s routes others
    → (crossings nets others < crossings nets routes) × (AreApart nets routes → AreApart nets others)

-- what a try of one exchange does
pub record IsStep (nets : List Net) (count s : ℕ) (old new : List NetRoute) (changed : Bool) : Type 0 where
  pub laid : AreLaid nets count new
  pub fewer : changed ≡ true → crossings nets new < crossings nets old
  pub same : changed ≡ false → new ≡ old
  pub none : changed ≡ false → NoBetterAt nets old s

-- what tries below a slot do
pub record AreSteps (nets : List Net) (count s : ℕ) (old new : List NetRoute) (changed : Bool) : Type 0 where
  pub laid : AreLaid nets count new
  pub most : crossings nets new ≤ crossings nets old
  pub fewer : changed ≡ true → crossings nets new < crossings nets old
  pub none : changed ≡ false → (t : ℕ) → t + 1 < s → NoBetterAt nets new t
