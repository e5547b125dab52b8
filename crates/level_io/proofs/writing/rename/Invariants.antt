use Rattle.std.proofs.Common.{◌≡◌}
use Rattle.working_frame.proofs.MapLemmas.{changed}
use Rattle.level_io.specs.Changed.{number_at}
use Rattle.level_io.proofs.writing.rename.Given as goal

abbrev pub invariant-loop-i : goal.invariant-loop-i
invariant-loop-i l = l.places ≡ changed (number_at l.numbers) l.initial.places l.i
