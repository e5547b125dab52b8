use Rattle.std.proofs.Common.{subst, sym}
use Rattle.level_model.specs.Conditions.{IsLevel}
use Rattle.level_nets.proofs.WorkedLemmas.{parallel_given}
use Rattle.level_tests.proofs.layouts.parallel_drawn.Goals as goal

pub layout_level-requires : goal.layout_level-requires
layout_level-requires c = subst IsLevel (sym c.in_ok-level.ensures) parallel_given.plan.planned.ready.level
