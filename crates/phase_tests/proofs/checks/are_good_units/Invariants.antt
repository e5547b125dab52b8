use Rattle.std.proofs.Common.{ℕ, ◌<◌}
use Rattle.elk_layers.specs.Layered.{unit_at}
use Rattle.bk_place.specs.Checked.{IsGoodUnit}
use Rattle.phase_tests.proofs.checks.are_good_units.Given as goal

abbrev pub invariant-loop-unit : goal.invariant-loop-unit
invariant-loop-unit l = (j : ℕ) → j < l.unit-index → IsGoodUnit l.layers (unit_at l.units j)
