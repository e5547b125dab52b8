-- Nets of a gap that are ranked one after another, each once none without a rank precedes it.
use Rattle.std.specs.Prelude.{◌≡◌, ◌⊎◌, ℕ, ◌+◌, ◌<◌, List, ◌==◌, length}
use Rattle.net_routes.specs.declared.Net.{Net}
use Rattle.net_routes.specs.Crossings.{one, sum_to}
use Rattle.route_slots.specs.NetDepths.{net_depth}
use Rattle.net_routes.specs.Uncrossed.{Precedes}

-- in place of the depth of a net without a rank
abbrev pub no_rank : ℕ
no_rank = 4294967295

-- 1 for a net without a rank
abbrev pub waits : List ℕ → ℕ → ℕ
waits depths k = one (net_depth depths k == no_rank)

-- The nets have ranks below the next one, or none; those that have one rank behind all that precede them.
pub record AreRanks (nets : List Net) (depths : List ℕ) (next : ℕ) : Type 0 where
  pub len : length depths ≡ length nets
  pub below : (k : ℕ) → k < length nets → (net_depth depths k ≡ no_rank) ⊎ (net_depth depths k < next)
  pub behind : (j k : ℕ) → Precedes nets j k → net_depth depths k < next → net_depth depths j < net_depth depths k
  pub left : next + sum_to (waits depths) (length nets) ≡ length nets

-- a net without a rank precedes this one
pub record IsHeldBack (nets : List Net) (depths : List ℕ) (k : ℕ) : Type 0 where
  pub by : ℕ
  pub waits : net_depth depths by ≡ no_rank
  pub ahead : Precedes nets by k

-- all nets without a rank below this number are held back
abbrev pub AreHeldBack : List Net → List ℕ → ℕ → Type 0
AreHeldBack nets depths n = (k : ℕ) → k < n → net_depth depths k ≡ no_rank → IsHeldBack nets depths k
