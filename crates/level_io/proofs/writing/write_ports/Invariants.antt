use Rattle.level_io.specs.Written.{ArePortsWritten}
use Rattle.level_io.proofs.writing.write_ports.Given as goal

abbrev pub invariant-loop-i : goal.invariant-loop-i
invariant-loop-i l = ArePortsWritten l.i l.doc l.way l.numbers.children.now l.boxes l.places l.initial.ports l.ports
