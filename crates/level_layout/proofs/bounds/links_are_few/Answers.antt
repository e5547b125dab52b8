use Rattle.level_layout.proofs.LinkLemmas.{links_few}
use Rattle.level_layout.proofs.bounds.links_are_few.Goals as goal

pub returns : goal.returns
returns c = links_few
