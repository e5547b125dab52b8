use Rattle.std.proofs.Common.{◌≢◌}
use Rattle.route_slots.specs.declared.walking.Place.TheVariants.{New}
use Rattle.route_slots.specs.Walks.{IsWalk, KeepsDone, place_in, to_do}
use Rattle.route_slots.proofs.walking.go_through.Given as goal

abbrev pub invariant-walk : goal.invariant-walk
invariant-walk l =
    record {
      walk : IsWalk l.links l.walk;
      done : KeepsDone l.fn.walk l.walk;
      seen : place_in l.walk.places.items l.root ≢ New;
    }

abbrev pub decreases-walk : goal.decreases-walk
decreases-walk l = to_do l.links l.walk
