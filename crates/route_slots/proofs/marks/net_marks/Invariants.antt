use Rattle.route_slots.specs.Depths.{depth}
use Rattle.route_slots.specs.Marks.{AreMarked}
use Rattle.route_slots.proofs.marks.net_marks.Given as goal

abbrev pub invariant-nets : goal.invariant-nets
invariant-nets l = AreMarked l.nets l.depths.splits.items (depth l.depths) l.marks.items l.number
