use Rattle.layer_units.specs.Ranked.{AreBareLinks}
use Rattle.layer_units.proofs.ranking.clear_ranks.Given as goal

abbrev pub invariant-loop-k : goal.invariant-loop-k
invariant-loop-k l = AreBareLinks l.initial.links l.k l.links
