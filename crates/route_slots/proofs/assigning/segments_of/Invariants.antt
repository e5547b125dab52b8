use Rattle.std.proofs.Common.{◌≡◌, ℕ, ◌+◌, ◌<◌, length}
use Rattle.net_routes.specs.Pieces.{net_at}
use Rattle.route_slots.specs.Slotting.{segment_at}
use Rattle.route_slots.specs.Marks.{mark_at, segment_a, segment_b, height_of}
use Rattle.route_slots.proofs.assigning.segments_of.Given as goal

abbrev pub invariant-nets : goal.invariant-nets
invariant-nets l =
    record {
      len : length l.segments.items ≡ l.number + l.number;
      at_a : (k : ℕ) → k < l.number → segment_at l.segments.items (k + k) ≡ segment_a (mark_at l.marks k) (net_at l.nets k) (height_of l.middles k);
      at_b : (k : ℕ) → k < l.number → segment_at l.segments.items (k + k + 1) ≡ segment_b (mark_at l.marks k) (net_at l.nets k) (height_of l.middles k);
    }
