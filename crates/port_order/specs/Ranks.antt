-- Where a spot stands among those of its side, as a key.
use Rattle.std.specs.Prelude.{ℕ, ◌*◌, ◌/◌, ◌^◌, Bool, not, ◌&&◌, List, pos, ◌+ℤ◌, Option, None, Some, map, length, ◌<◌, ◌≤◌, IfSome, IsTrue}
use Rattle.std.specs.List.{filter}
use Rattle.drawing_types.specs.declared.shape.Side.{Side}
use Rattle.drawing_types.specs.declared.shape.Side.TheVariants.{North, East, South, West}
use Rattle.elk_doc.specs.declared.document.PortRule.{PortRule}
use Rattle.elk_doc.specs.declared.document.PortRule.TheVariants.{Free, FixedSide, FixedOrder, FixedPos}
use Rattle.elk_doc.specs.Sound.{along}
use Rattle.elk_doc.specs.PortsKept.{counted}
use Rattle.drawing_types.specs.Shapes.{is_side}
use Rattle.port_order.specs.declared.children.Child.{Child}
use Rattle.port_order.specs.declared.spots.Mean.{Mean}
use Rattle.port_order.specs.declared.spots.Spot.{Spot}
use Rattle.port_order.specs.declared.ranks.Rank.{Rank}
use Rattle.port_order.specs.Child.{port_at, spot_at, is_pinned_spot}
use Rattle.port_order.specs.Sides.{side_of, is_forward}
use Rattle.port_order.specs.Order.{flow_class}

-- a mean in units of which 2^64 make 1, rounded down
abbrev pub fine_mean : Mean → ℕ
fine_mean m = (m.sum * 2 ^ 64) / m.count

abbrev pub flow_rank : Spot → Rank
flow_rank s = record { group = flow_class s.leaves s.enters; index = pos 0; given = pos 0; mean = 0; tie = pos s.number; number = s.number }

-- spots with links before those without
abbrev pub mean_rank : Option Mean → ℕ → Rank
mean_rank (Some m) n = record { group = 1; index = pos 0; given = pos 0; mean = fine_mean m; tie = pos n; number = n }
mean_rank None n = record { group = 2; index = pos 0; given = pos 0; mean = 0; tie = pos n; number = n }

abbrev pub port_rank : Bool → Child → Side → ℕ → ℕ → Rank
port_rank forward c side k n =
    record {
      group = 0;
      index = counted forward (port_at c k).index;
      given = along side (port_at c k).place +ℤ (port_at c k).half;
      mean = 0;
      tie = counted forward (pos n);
      number = n;
    }

-- under a fixed order ports stand before implicit ends
abbrev pub fixed_rank : Child → Side → Spot → Option ℕ → Rank
fixed_rank c side s (Some k) = port_rank (is_forward c.direction side) c side k s.number
fixed_rank c side s None = mean_rank s.mean s.number

abbrev pub free_rank : Side → Spot → Rank
free_rank North s = flow_rank s
free_rank East s = mean_rank s.mean s.number
free_rank South s = flow_rank s
free_rank West s = mean_rank s.mean s.number

abbrev pub rank_under : PortRule → Child → Side → Spot → Rank
rank_under FixedOrder c side s = fixed_rank c side s s.port
rank_under Free c side s = free_rank side s
rank_under FixedSide c side s = free_rank side s
rank_under FixedPos c side s = free_rank side s

abbrev pub rank_of : Child → Side → Spot → Rank
rank_of c side s = rank_under c.rule c side s

abbrev pub is_spread_on : Child → Side → Spot → Bool
is_spread_on c side s = not (is_pinned_spot c s) && is_side (side_of c s) side

abbrev pub ranks_of : Child → Side → List Spot → List Rank
ranks_of c side spots = map (rank_of c side) (filter (is_spread_on c side) spots)

-- a mean counts something, and no more than a number of 32 bits holds
abbrev pub IsCounted : Option Mean → Type 0
IsCounted mean = IfSome mean (λ m. (1 ≤ m.count) × (m.count < 2 ^ 32))

-- the means of a side's spread spots do
abbrev pub HaveCounts : Child → Side → List Spot → Type 0
HaveCounts c side spots = (k : ℕ) → k < length spots → IsTrue (is_spread_on c side (spot_at spots k)) → IsCounted (spot_at spots k).mean
