use Rattle.std.proofs.Common.{length}
use Rattle.layer_units.specs.Started.{AreAscending, plain_rows}
use Rattle.layer_units.proofs.rows.fill_rows.Given as goal

abbrev pub invariant-loop-unit : goal.invariant-loop-unit
invariant-loop-unit l = AreAscending l.units (length l.initial.rows) l.unit (plain_rows l.rows)
