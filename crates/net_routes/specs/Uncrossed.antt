-- How often two nets of a gap have to cross, and orders of the nets in which they cross no more.
use Rattle.std.specs.Prelude.{◌≡◌, ◌≢◌, ◌⊎◌, ℕ, ◌+◌, ◌<◌, Bool, true, false, List, ◌&&◌, ◌||◌, int_lt, length, if◌then◌else◌}
use Rattle.net_routes.specs.declared.Pin.{Pin}
use Rattle.net_routes.specs.declared.Net.{Net}
use Rattle.net_routes.specs.declared.NetRoute.{NetRoute}
use Rattle.net_routes.specs.declared.NetRoute.TheVariants.{One}
use Rattle.net_routes.specs.Pieces.{net_at}
use Rattle.net_routes.specs.GapFree.{IsStraightNet}
use Rattle.net_routes.specs.Conflicts.{Conflict}
use Rattle.net_routes.specs.Crossings.{one, cut, cut_at}

-- the first pin comes before the second on the way round: along the left border by rising heights, then along the right one by
-- falling heights
unfoldable pub is_before : Pin → Pin → Bool
is_before p q =
    if p.on_left then (if q.on_left then int_lt p.height q.height else true) else (if q.on_left then false else int_lt q.height p.height)

-- the net's two pins by that way
unfoldable pub first_pin : Net → Pin
first_pin n = if is_before n.a n.b then n.a else n.b

unfoldable pub last_pin : Net → Pin
last_pin n = if is_before n.a n.b then n.b else n.a

-- on that way pins of the one net and the other come by turns, the first net's first
unfoldable pub take_turns : Net → Net → Bool
take_turns m n = (is_before (first_pin m) (first_pin n) && is_before (first_pin n) (last_pin m)) && is_before (last_pin m) (last_pin n)

-- The pins of the two nets alternate round the border. Nets with a common pin do not.
unfoldable pub alternate : Net → Net → Bool
alternate m n = take_turns m n || take_turns n m

-- how often two nets have to cross: once where their pins alternate
unfoldable pub asked : Net → Net → ℕ
asked m n = one (alternate m n)

-- how often two nets cross whose upright pieces stand in two slots, that of the first net in the former
unfoldable pub in_order : Net → Net → ℕ
in_order m n = cut m (One 0) n (One 1) + cut n (One 1) m (One 0)

-- with k before j the two would cross more often than they have to
pub record CrossMore (nets : List Net) (j k : ℕ) : Type 0 where
  pub j_in : j < length nets
  pub k_in : k < length nets
  pub two : j ≢ k
  pub j_bent : IsStraightNet (net_at nets j) → ⊥
  pub k_bent : IsStraightNet (net_at nets k) → ⊥
  pub more : asked (net_at nets j) (net_at nets k) < in_order (net_at nets k) (net_at nets j)

-- with k before j the two would overlap, or cross more often than they have to
abbrev pub Precedes : List Net → ℕ → ℕ → Type 0
Precedes nets j k = Conflict nets j k ⊎ CrossMore nets j k

-- the nets can be ranked so that each ranks behind those that precede it
pub record IsOrderable (nets : List Net) : Type 0 where
  pub rank : ℕ → ℕ
  pub behind : (j k : ℕ) → Precedes nets j k → rank j < rank k

-- how often two nets of the gap cross
abbrev pub crossed : List Net → List NetRoute → ℕ → ℕ → ℕ
crossed nets routes j k = cut_at nets routes j k + cut_at nets routes k j

-- each two nets cross once where their pins alternate, and not at all where they don't
abbrev pub CrossAsAsked : List Net → List NetRoute → Type 0
CrossAsAsked nets routes =
    (j k : ℕ) → j < length nets → k < length nets → j ≢ k → crossed nets routes j k ≡ asked (net_at nets j) (net_at nets k)
