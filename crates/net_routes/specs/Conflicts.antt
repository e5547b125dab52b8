-- Conflicts of nets at heights, and cycles of them.
use Rattle.std.specs.Prelude.{◌≡◌, ◌≢◌, ℕ, ◌<◌, true, false, List, [], ◌∷◌, ℤ, length}
use Rattle.net_routes.specs.declared.Pin.{Pin}
use Rattle.net_routes.specs.declared.Net.{Net}
use Rattle.net_routes.specs.declared.NetRoute.{NetRoute}
use Rattle.net_routes.specs.declared.NetRoute.TheVariants.{Two}
use Rattle.net_routes.specs.Pieces.{net_at, route_at}
use Rattle.net_routes.specs.GapFree.{HasPin, IsStraightNet}

-- The first net has a pin on the left at a height where the second has one on the right: the first one's piece must come
-- first. Straight nets have no pieces.
pub record Conflict (nets : List Net) (j k : ℕ) : Type 0 where
  pub j_in : j < length nets
  pub k_in : k < length nets
  pub two : j ≢ k
  pub j_bent : IsStraightNet (net_at nets j) → ⊥
  pub k_bent : IsStraightNet (net_at nets k) → ⊥
  pub left : Pin
  pub right : Pin
  pub has_left : HasPin (net_at nets j) left
  pub has_right : HasPin (net_at nets k) right
  pub on_left : left.on_left ≡ true
  pub on_right : right.on_left ≡ false
  pub one_height : left.height ≡ right.height

-- each net of the list conflicts with the next, j with the first and the last with k
abbrev pub AreInConflict : List Net → ℕ → List ℕ → ℕ → Type 0
AreInConflict nets j [] k = Conflict nets j k
AreInConflict nets j (i ∷ is) k = Conflict nets j i × AreInConflict nets i is k

-- conflicts lead from the net back to itself
pub record LiesOnCycle (nets : List Net) (k : ℕ) : Type 0 where
  pub others : List ℕ
  pub round : AreInConflict nets k others k

abbrev pub HasNoConflict : List Net → Type 0
HasNoConflict nets = (j k : ℕ) → Conflict nets j k → ⊥

-- at most one net conflicts, with one other
abbrev pub HasAtMostOneConflict : List Net → Type 0
HasAtMostOneConflict nets = (j k m n : ℕ) → Conflict nets j k → Conflict nets m n → (j ≡ m) × (k ≡ n)

-- each net that is split lies on a cycle of conflicts
abbrev pub SplitsOnCycles : List Net → List NetRoute → Type 0
SplitsOnCycles nets routes = (k s : ℕ) (h : ℤ) (t : ℕ) → k < length nets → route_at routes k ≡ Two s h t → LiesOnCycle nets k
