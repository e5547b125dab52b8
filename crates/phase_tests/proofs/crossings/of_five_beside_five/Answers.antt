use Rattle.elk_layers.specs.Layered.{plain, rows_of}
use Rattle.elk_layers.specs.Examples.{five_by_five, five_rows}
use Rattle.cross_reduce.proofs.ExampleLemmas.{five_sound, five_are_rows, sound_from, are_rows_from}
use Rattle.phase_tests.proofs.crossings.of_five_beside_five.Goals as goal

pub before_and_after-requires-clause-sound : goal.before_and_after-requires-clause-sound
before_and_after-requires-clause-sound c = sound_from (plain c.in_ok-layered.layered) five_by_five c.in_ok-layered.ensures five_sound

pub before_and_after-requires-clause-rows : goal.before_and_after-requires-clause-rows
before_and_after-requires-clause-rows c =
    are_rows_from (plain c.in_ok-layered.layered) five_by_five (rows_of c.in_ok-rows.rows) five_rows c.in_ok-layered.ensures c.in_ok-rows.ensures five_are_rows
