-- Two neighbouring slots are exchanged as a whole.
use Rattle.std.specs.Prelude.{◌≡◌, ℕ, ◌+◌, ◌<◌, ◌≤◌, List, ◌==◌, length, if◌then◌else◌}
use Rattle.net_routes.specs.declared.Net.{Net}
use Rattle.net_routes.specs.declared.NetRoute.{NetRoute}
use Rattle.net_routes.specs.declared.NetRoute.TheVariants.{Straight, One, Two}
use Rattle.net_routes.specs.Pieces.{route_at}
use Rattle.net_routes.specs.Standing.{AreApart}
use Rattle.net_routes.specs.Crossings.{crossings}

-- slot s becomes the next one, and that one s
unfoldable pub swapped : ℕ → ℕ → ℕ
swapped s t = if t == s then s + 1 else (if t == s + 1 then s else t)

unfoldable pub exchanged : ℕ → NetRoute → NetRoute
exchanged s Straight = Straight
exchanged s (One t) = One (swapped s t)
exchanged s (Two t h u) = Two (swapped s t) h (swapped s u)

-- the second routes are the first with slot s and the next exchanged
pub record AreExchanged (s : ℕ) (old new : List NetRoute) : Type 0 where
  pub len : length new ≡ length old
  pub each : (k : ℕ) → k < length old → route_at new k ≡ exchanged s (route_at old k)

-- where pieces still keep apart, the exchange of slot s and the next does not lessen the crossings
abbrev pub NoBetterAt : List Net → List NetRoute → ℕ → Type 0
NoBetterAt nets routes s =
    (others : List NetRoute) → AreExchanged s routes others → AreApart nets others → crossings nets routes ≤ crossings nets others

-- no exchange of two neighbouring slots lessens the crossings
abbrev pub NoBetterExchange : List Net → ℕ → List NetRoute → Type 0
NoBetterExchange nets count routes = (s : ℕ) → s + 1 < count → NoBetterAt nets routes s
