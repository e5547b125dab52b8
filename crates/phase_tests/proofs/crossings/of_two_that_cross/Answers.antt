use Rattle.elk_layers.specs.Layered.{plain, rows_of}
use Rattle.elk_layers.specs.Examples.{two_rows}
use Rattle.cross_reduce.proofs.ExampleLemmas.{two_joined, crossing_sound, two_are_rows, sound_from, are_rows_from}
use Rattle.phase_tests.proofs.crossings.of_two_that_cross.Goals as goal

pub before_and_after-requires-clause-sound : goal.before_and_after-requires-clause-sound
before_and_after-requires-clause-sound c = sound_from (plain c.in_ok-crossing.crossing) (two_joined 3 2) c.in_ok-crossing.ensures crossing_sound

pub before_and_after-requires-clause-rows : goal.before_and_after-requires-clause-rows
before_and_after-requires-clause-rows c =
    are_rows_from (plain c.in_ok-crossing.crossing) (two_joined 3 2) (rows_of c.in_ok-crossing_rows.crossing_rows) two_rows c.in_ok-crossing.ensures c.in_ok-crossing_rows.ensures (two_are_rows 3 2)
