use Rattle.std.proofs.Common.{arith, rules}
use Rattle.std.proofs.lemmas.Int.{ints, clamps}
use Rattle.route_lines.proofs.tidying.is_between.Goals as goal

pub returns : goal.returns
returns c = (λ h. (omega (arith, ints, clamps), omega (arith, ints, clamps)), λ m. search rules)
