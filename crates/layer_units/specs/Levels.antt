-- The ranks of the ports of a level's children.
use Rattle.std.specs.Prelude.{◌≡◌, ℕ, ◌<◌, Bool, true, List, map, length}
use Rattle.std.specs.List.{range_with_len}
use Rattle.port_order.specs.declared.spots.Spot.{Spot}
use Rattle.level_model.specs.Level.{PlainLevel, child_at}
use Rattle.level_model.specs.Units.{is_fixed}
use Rattle.layer_units.specs.Passing.{seen_spot}
use Rattle.layer_units.specs.Ports.{AreRanksOf, PlainRanks}
use Rattle.layer_units.specs.RankReading.{ranks_at}

-- the spots of a child's ports
abbrev pub seen_spots : PlainLevel → List Bool → ℕ → List Spot
seen_spots l marks c = map (seen_spot l.edges marks c) (range_with_len 0 (length (child_at l c).ports))

-- a child's ports are ranked under a fixed order and at fixed positions
abbrev pub IsRankedChild : PlainLevel → List Bool → ℕ → PlainRanks → Type 0
IsRankedChild l marks c v = is_fixed (child_at l c).rule ≡ true → AreRanksOf (child_at l c) (seen_spots l marks c) v

-- the ranks of the ports of the first n children
pub record AreRanksTo (l : PlainLevel) (marks : List Bool) (n : ℕ) (vs : List PlainRanks) : Type 0 where
  pub as_many : length vs ≡ n
  pub each : (c : ℕ) → c < n → IsRankedChild l marks c (ranks_at vs c)
