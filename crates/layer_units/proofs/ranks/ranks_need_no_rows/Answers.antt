use Rattle.layer_units.proofs.AgreeLemmas.{need_no_rows}
use Rattle.layer_units.proofs.ranks.ranks_need_no_rows.Goals as goal

pub returns : goal.returns
returns c = need_no_rows
