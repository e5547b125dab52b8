use Rattle.dock_table.proofs.TopLemmas.{no_tops}
use Rattle.dock_table.proofs.laws.tables_read_no_tops.Goals as goal

pub returns : goal.returns
returns c = no_tops
