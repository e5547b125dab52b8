use Rattle.std.proofs.Common.{arith}
use Rattle.std.proofs.lemmas.Int.{ints}
use Rattle.layout_check.proofs.bounds.ends_before.Goals as goal

pub returns : goal.returns
returns c = λ _. omega (arith, ints)
