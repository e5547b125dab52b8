use Rattle.elk_layers.specs.Layered.{plain, rows_of}
use Rattle.elk_layers.proofs.ForkLemmas.{is_sound, are_rows}
use Rattle.phase_tests.proofs.sweeps.placed.Goals as goal

pub place-requires-clause-sound : goal.place-requires-clause-sound
place-requires-clause-sound c = is_sound (plain c.in_ok-layered.layered) c.in_ok-layered.ensures

pub place-requires-clause-rows : goal.place-requires-clause-rows
place-requires-clause-rows c = are_rows (plain c.in_ok-layered.layered) (rows_of c.in_ok-rows.rows) c.in_ok-layered.ensures c.in_ok-rows.ensures
