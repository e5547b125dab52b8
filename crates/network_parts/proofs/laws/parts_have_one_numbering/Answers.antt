use Rattle.network_parts.proofs.NumberLemmas.{one_numbering}
use Rattle.network_parts.proofs.laws.parts_have_one_numbering.Goals as goal

pub returns : goal.returns
returns c = one_numbering
