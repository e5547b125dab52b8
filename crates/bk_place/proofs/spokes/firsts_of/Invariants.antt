use Rattle.std.proofs.Common.{◌≡◌, ◌*◌, ◌<◌, ◌≤◌, ◌^◌, ℕ, get_or, length}
use Rattle.bk_place.specs.declared.spokes.Spoke.{Spoke}
use Rattle.bk_place.specs.Spokes.{IsFirst}
use Rattle.bk_place.proofs.spokes.firsts_of.Given as goal

abbrev pub invariant-loop-unit : goal.invariant-loop-unit
invariant-loop-unit l =
    (length l.firsts.items ≡ l.unit) × ((u : ℕ) → u < l.unit → IsFirst l.spokes u (get_or l.firsts.items u 0))
    × (l.at ≤ length l.spokes) × ((j : ℕ) (d : Spoke) → j < l.at → (get_or l.spokes j d).key < l.unit * 2 ^ 80)
