use Rattle.std.proofs.Common.{get_or}
use Rattle.net_simplex.proofs.Stepping.{IsShifted}
use Rattle.net_simplex.proofs.chain.shift.Given as goal

abbrev pub invariant-loop-i : goal.invariant-loop-i
invariant-loop-i l = IsShifted l.tree.place.items (get_or l.tree.place.items l.child 0) l.by l.initial.layers l.i l.layers
