use Rattle.std.proofs.Common.{◌≡◌, map, take}
use Rattle.drawing_types.specs.Shapes.{origin}
use Rattle.level_io.proofs.canvas.blank_ports.Given as goal

abbrev pub invariant-loop-port : goal.invariant-loop-port
invariant-loop-port l = l.places.items ≡ map (λ _. origin) (take l._port-index l.ports)
