use Rattle.std.proofs.Common.{arith, rules, refl}
use Rattle.std.proofs.lemmas.Int.{ints}
use Rattle.layout_check.proofs.distances.is_left_by.Goals as goal

pub returns-then-end-start : goal.returns-then-end-start
returns-then-end-start c = (λ h. absurd (search rules), λ m. absurd (omega (arith, ints)))

pub returns : goal.returns
returns c = (λ h. omega (arith, ints), λ m. refl)
