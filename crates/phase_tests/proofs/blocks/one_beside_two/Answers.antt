use Rattle.elk_layers.specs.Layered.{plain, rows_of}
use Rattle.elk_layers.proofs.ForkLemmas.{is_sound, are_rows}
use Rattle.phase_tests.proofs.blocks.one_beside_two.Goals as goal

pub place_links-requires-clause-sound : goal.place_links-requires-clause-sound
place_links-requires-clause-sound g c = is_sound (plain c.in_ok-layered.layered) c.in_ok-layered.ensures

pub place_links-requires-clause-rows : goal.place_links-requires-clause-rows
place_links-requires-clause-rows g c = are_rows (plain c.in_ok-layered.layered) (rows_of c.in_ok-rows.rows) c.in_ok-layered.ensures c.in_ok-rows.ensures
