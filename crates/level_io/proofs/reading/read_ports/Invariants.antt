use Rattle.std.proofs.Common.{◌≡◌, map, take}
use Rattle.working_frame.specs.Rotated.{level_port}
use Rattle.level_io.proofs.reading.read_ports.Given as goal

abbrev pub invariant-loop-port : goal.invariant-loop-port
invariant-loop-port l = l.ports.items ≡ map (level_port l.doc l.way l.outer) (take l.port-index l.numbers)
