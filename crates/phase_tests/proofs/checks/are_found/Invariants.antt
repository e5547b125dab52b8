use Rattle.std.proofs.Common.{ℕ, ◌<◌}
use Rattle.elk_layers.specs.Layered.{unit_at, row_at, rows_of, HasUnit}
use Rattle.phase_tests.proofs.checks.are_found.Given as goal

abbrev pub invariant-loop-u : goal.invariant-loop-u
invariant-loop-u l = (v : ℕ) → v < l.u → HasUnit (row_at (rows_of l.order) (unit_at l.units v).layer) v
