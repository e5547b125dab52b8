use Rattle.layer_units.specs.Reading.{AreFittedLinks}
use Rattle.layer_units.proofs.pins.fit_links.Given as goal

abbrev pub invariant-loop-k : goal.invariant-loop-k
invariant-loop-k l = AreFittedLinks l.fitting.level.now.spacing l.fitting.table.now l.units l.fitting.marks.now l.initial.links l.k l.links
