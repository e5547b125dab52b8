use Rattle.elk_layers.specs.Layered.{plain, rows_of}
use Rattle.elk_layers.specs.Examples.{two_rows}
use Rattle.cross_reduce.proofs.ExampleLemmas.{two_joined, straight_sound, two_are_rows, sound_from, are_rows_from}
use Rattle.phase_tests.proofs.crossings.kept_order.Goals as goal

pub reduce-requires-clause-sound : goal.reduce-requires-clause-sound
reduce-requires-clause-sound c = sound_from (plain c.in_ok-straight.straight) (two_joined 2 3) c.in_ok-straight.ensures straight_sound

pub reduce-requires-clause-rows : goal.reduce-requires-clause-rows
reduce-requires-clause-rows c =
    are_rows_from (plain c.in_ok-straight.straight) (two_joined 2 3) (rows_of c.in_ok-straight_rows.straight_rows) two_rows c.in_ok-straight.ensures c.in_ok-straight_rows.ensures (two_are_rows 2 3)
