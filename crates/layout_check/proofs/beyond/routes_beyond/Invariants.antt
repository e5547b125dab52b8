use Rattle.std.proofs.Common.{ℕ, ◌<◌}
use Rattle.layout_check.specs.FirstApart.{RouteBeyond}
use Rattle.layout_check.specs.Levels.{at_level}
use Rattle.layout_check.proofs.beyond.routes_beyond.Given as goal

abbrev pub invariant-loop-edge : goal.invariant-loop-edge
invariant-loop-edge l = (k : ℕ) → k < l.edge → at_level RouteBeyond l.level l.across l.r l.j k
