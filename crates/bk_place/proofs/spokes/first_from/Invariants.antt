use Rattle.std.proofs.Common.{◌*◌, ◌<◌, ◌^◌, ℕ, get_or}
use Rattle.bk_place.specs.declared.spokes.Spoke.{Spoke}
use Rattle.bk_place.proofs.spokes.first_from.Given as goal

abbrev pub invariant-loop-at : goal.invariant-loop-at
invariant-loop-at l = (j : ℕ) (d : Spoke) → j < l.at → (get_or l.spokes j d).key < l.unit * 2 ^ 80
