use Rattle.std.proofs.Common.{arith, refl}
use Rattle.layout_check.proofs.sharing.are_free.Goals as goal

pub returns : goal.returns
returns c = (λ _ i h. c.loop-i.invariant i (omega arith), λ _. refl)
