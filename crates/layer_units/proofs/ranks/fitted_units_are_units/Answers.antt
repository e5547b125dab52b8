use Rattle.layer_units.proofs.UnitLemmas.{make_units}
use Rattle.layer_units.proofs.ranks.fitted_units_are_units.Goals as goal

pub returns : goal.returns
returns c = make_units
