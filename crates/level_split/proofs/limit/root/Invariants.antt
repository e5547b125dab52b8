use Rattle.std.proofs.Common.{◌≤◌, ◌<◌, ◌*◌, ◌^◌, ◌-◌}
use Rattle.level_split.proofs.limit.root.Given as goal

abbrev pub invariant-halves : goal.invariant-halves
invariant-halves l = record { low : l.low * l.low ≤ l.area; high : l.area < l.high * l.high; order : l.low < l.high; small : l.high ≤ 2 ^ 55 }

abbrev pub decreases-halves : goal.decreases-halves
decreases-halves l = l.high - l.low
