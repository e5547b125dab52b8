use Rattle.std.proofs.Common.{◌≡◌, ℕ, ◌<◌, [], length}
use Rattle.route_slots.specs.declared.walking.Place.TheVariants.{Done}
use Rattle.route_slots.specs.Walks.{IsWalk, place_in}
use Rattle.route_slots.proofs.cutting.walk_all.Given as goal

abbrev pub invariant-roots : goal.invariant-roots
invariant-roots l =
    record {
      walk : IsWalk l.links l.walk;
      as_many : length l.walk.ahead.items ≡ l.nodes;
      none : l.walk.way.items ≡ [];
      all_done : (v : ℕ) → v < l.root → place_in l.walk.places.items v ≡ Done;
    }
