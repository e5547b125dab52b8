use Rattle.std.proofs.Common.{◌-◌, length}
use Rattle.route_slots.specs.Ranks.{AreRanks}
use Rattle.route_slots.proofs.ranks.rank_all.Given as goal

abbrev pub invariant-sweeps : goal.invariant-sweeps
invariant-sweeps l = AreRanks l.nets l.depths l.next

abbrev pub decreases-sweeps : goal.decreases-sweeps
decreases-sweeps l = length l.nets - l.next
