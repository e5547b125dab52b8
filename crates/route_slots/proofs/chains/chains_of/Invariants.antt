use Rattle.std.proofs.Common.{◌≤◌, length}
use Rattle.route_slots.specs.Chains.{AreFirsts, AreNexts}
use Rattle.route_slots.proofs.chains.chains_of.Given as goal

abbrev pub invariant-links : goal.invariant-links
invariant-links l =
    record {
      firsts : AreFirsts l.nodes l.links l.number l.chains.first.items;
      nexts : AreNexts l.links l.number l.chains.next.items;
      within : l.number ≤ length l.links;
    }

abbrev pub decreases-links : goal.decreases-links
decreases-links l = l.number
