use Rattle.crossing_laws.proofs.CrossedNets as lemmas
use Rattle.crossing_laws.proofs.laws.drawn_nets_cross.Goals as goal

pub returns : goal.returns
returns c = lemmas.drawn_nets_cross
