use Rattle.std.proofs.Common.{arith, rules, refl}
use Rattle.std.proofs.lemmas.Int.{ints}
use Rattle.layout_check.proofs.inside.ends_before.Goals as goal

pub returns-then-end-most : goal.returns-then-end-most
returns-then-end-most c = (λ h. absurd (search rules), λ m. absurd (omega (arith, ints)))

pub returns : goal.returns
returns c = (λ h. omega (arith, ints), λ m. refl)
