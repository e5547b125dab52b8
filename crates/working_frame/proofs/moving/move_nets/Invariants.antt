use Rattle.std.proofs.Common.{◌≡◌}
use Rattle.working_frame.specs.Moved as spec
use Rattle.working_frame.proofs.MapLemmas.{changed}
use Rattle.working_frame.proofs.moving.move_nets.Given as goal

abbrev pub invariant-loop-i : goal.invariant-loop-i
invariant-loop-i l = l.nets ≡ changed (spec.moved_net l.by.y) l.initial.nets l.i
