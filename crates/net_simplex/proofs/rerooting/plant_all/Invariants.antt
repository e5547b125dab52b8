use Rattle.net_simplex.specs.Rerooting.{Plants}
use Rattle.net_simplex.proofs.rerooting.plant_all.Given as goal

abbrev pub invariant-loop-i : goal.invariant-loop-i
invariant-loop-i l = Plants l.order l.low l.i l.at l.initial.next l.initial.place l.next l.place
