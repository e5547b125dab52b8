use Rattle.route_slots.specs.NetDepths.{AreDepthMarks}
use Rattle.route_slots.proofs.uncrossing.depth_marks.Given as goal

abbrev pub invariant-nets : goal.invariant-nets
invariant-nets l = AreDepthMarks l.nets l.depths l.marks.items l.k
