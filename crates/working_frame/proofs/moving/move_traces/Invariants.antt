use Rattle.std.proofs.Common.{◌≡◌, map}
use Rattle.working_frame.specs.Ranges.{plain_trace}
use Rattle.working_frame.specs.Moved as spec
use Rattle.working_frame.proofs.MapLemmas.{changed}
use Rattle.working_frame.proofs.moving.move_traces.Given as goal

abbrev pub invariant-loop-i : goal.invariant-loop-i
invariant-loop-i l = map plain_trace l.traces ≡ changed (spec.moved_trace l.by.x l.by.y) (map plain_trace l.initial.traces) l.i
