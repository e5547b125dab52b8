use Rattle.std.specs.BTreeSet.{btree_set_len}
use Rattle.route_slots.proofs.Taking.{AreSlotted}
use Rattle.route_slots.proofs.slotting.slots_of.Given as goal

abbrev pub invariant-segments : goal.invariant-segments
invariant-segments l = AreSlotted l.segments l.slots.items l.waiting l.row

abbrev pub decreases-segments : goal.decreases-segments
decreases-segments l = btree_set_len l.waiting
