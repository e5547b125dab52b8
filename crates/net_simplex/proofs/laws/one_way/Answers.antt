use Rattle.net_simplex.proofs.ChainEnds.{one_way}
use Rattle.net_simplex.proofs.laws.one_way.Goals as goal

pub returns : goal.returns
returns c = one_way
