use Rattle.elk_layers.specs.Layered.{plain, rows_of}
use Rattle.elk_layers.proofs.ForkLemmas.{is_sound, are_rows}
use Rattle.phase_tests.proofs.horizontal.horizontal_links.Goals as goal

pub align-requires-clause-sound : goal.align-requires-clause-sound
align-requires-clause-sound c = is_sound (plain c.in_ok-layered.layered) c.in_ok-layered.ensures

pub align-requires-clause-rows : goal.align-requires-clause-rows
align-requires-clause-rows c = are_rows (plain c.in_ok-layered.layered) (rows_of c.in_ok-rows.rows) c.in_ok-layered.ensures c.in_ok-rows.ensures
