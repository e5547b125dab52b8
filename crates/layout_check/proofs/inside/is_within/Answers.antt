use Rattle.std.proofs.Common.{arith}
use Rattle.std.proofs.lemmas.Int.{to_z-of_z}
use Rattle.layout_check.proofs.inside.is_within.Goals as goal

pub returns-then-not-ends_before : goal.returns-then-not-ends_before
returns-then-not-ends_before c = (λ h. grind (arith, to_z-of_z), λ m. grind (arith, to_z-of_z))

pub returns : goal.returns
returns c = (λ h. grind (arith, to_z-of_z), λ m. grind (arith, to_z-of_z))
