use Rattle.compound.proofs.WholeLemmas.{documents_are_drawn}
use Rattle.compound.proofs.drawings.documents_are_drawn.Goals as goal

pub returns : goal.returns
returns c = documents_are_drawn
