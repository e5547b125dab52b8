use Rattle.elk_layers.specs.declared.units.Unit.{Unit as LayerUnit}
use Rattle.std.proofs.Common.{List}
use Rattle.layer_units.specs.Started.{AreAscending, plain_rows}
use Rattle.layer_units.proofs.rows.empty_rows.Given as goal

abbrev pub invariant-loop : goal.invariant-loop
invariant-loop l = (units : List LayerUnit) → AreAscending units l.counter 0 (plain_rows l.rows.items)
