use Rattle.std.proofs.Common.{◌≡◌, drop}
use Rattle.layer_units.specs.Ranked.{has_ranks}
use Rattle.layer_units.proofs.ranking.has_ranks.Given as goal

abbrev pub invariant-loop-child : goal.invariant-loop-child
invariant-loop-child l = has_ranks l.children ≡ has_ranks (drop l.child-index l.children)
