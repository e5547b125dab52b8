use Rattle.level_split.proofs.BoundLemmas.{parts_are_bounded}
use Rattle.level_split.proofs.laws.parts_are_bounded.Goals as goal

pub returns : goal.returns
returns c = parts_are_bounded
