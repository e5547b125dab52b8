use Rattle.std.proofs.Common.{arith, rules}
use Rattle.std.proofs.lemmas.Int.{to_z-of_z}
use Rattle.route_lines.proofs.tidying.is_middle.Goals as goal

pub returns : goal.returns
returns c = (λ h. record { line = search rules; between = record { across = grind (arith, to_z-of_z); along = grind (arith, to_z-of_z) } }, λ m. grind (arith, to_z-of_z))
