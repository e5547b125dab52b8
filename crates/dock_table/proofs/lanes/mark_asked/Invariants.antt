use Rattle.dock_table.specs.Lanes.{AreAsked}
use Rattle.dock_table.proofs.lanes.mark_asked.Given as goal

abbrev pub invariant-loop-i : goal.invariant-loop-i
invariant-loop-i l = AreAsked l.docks l.spots l.i l.marks
