use Rattle.std.proofs.Common.{◌≡◌, ◌≤◌}
use Rattle.route_slots.specs.Ranks.{AreRanks, AreHeldBack}
use Rattle.route_slots.proofs.ranks.sweep.Given as goal

abbrev pub invariant-nets : goal.invariant-nets
invariant-nets l =
    record {
      ranks : AreRanks l.nets l.depths l.then;
      more : l.next ≤ l.then;
      none : l.then ≡ l.next → AreHeldBack l.nets l.depths l.number;
    }
