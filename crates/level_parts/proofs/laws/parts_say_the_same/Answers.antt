use Rattle.level_parts.proofs.SameLemmas.{says_the_same}
use Rattle.level_parts.proofs.laws.parts_say_the_same.Goals as goal

pub returns : goal.returns
returns c = says_the_same
