use Rattle.layer_units.proofs.AlikeLemmas.{no_heights}
use Rattle.layer_units.proofs.tables.tables_read_no_heights.Goals as goal

pub returns : goal.returns
returns c = no_heights
