use Rattle.level_split.proofs.WholeLemmas.{parts_are_drawn}
use Rattle.level_split.proofs.laws.parts_are_drawn.Goals as goal

pub returns : goal.returns
returns c = parts_are_drawn
