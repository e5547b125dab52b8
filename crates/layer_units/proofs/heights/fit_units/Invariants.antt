use Rattle.layer_units.specs.Reading.{AreFittedUnits}
use Rattle.layer_units.proofs.heights.fit_units.Given as goal

abbrev pub invariant-loop-u : goal.invariant-loop-u
invariant-loop-u l = AreFittedUnits l.fitting.level.now.spacing l.fitting.table.now.children l.initial.units l.u l.units
