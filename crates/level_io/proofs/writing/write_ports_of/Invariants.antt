use Rattle.drawing_types.specs.Shapes.{origin}
use Rattle.level_io.specs.Changed.{AreChangedTo}
use Rattle.level_io.specs.Written.{port_change}
use Rattle.level_io.proofs.writing.write_ports_of.Given as goal

abbrev pub invariant-loop-j : goal.invariant-loop-j
invariant-loop-j l = AreChangedTo l.j l.numbers (port_change l.doc l.way l.outer l.numbers l.places) origin l.initial.ports l.ports
