use Rattle.std.proofs.Common.{ℕ, ◌<◌}
use Rattle.layout_check.specs.FirstApart.{LayersHold}
use Rattle.layout_check.specs.Levels.{at_level}
use Rattle.layout_check.proofs.pairs.first_near.Given as goal

abbrev pub invariant-loop-other : goal.invariant-loop-other
invariant-loop-other l = (k : ℕ) → k < l.other → at_level LayersHold l.level l.one k
