use Rattle.network_laws.proofs.Tightness.{solved}
use Rattle.network_laws.proofs.laws.done_solves.Goals as goal

pub returns : goal.returns
returns c = solved
