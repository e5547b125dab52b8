use Rattle.std.proofs.Common.{◌≡◌, map, take}
use Rattle.elk_layers.specs.Layered.{plain}
use Rattle.cross_reduce.specs.Pins.{pin_from}
use Rattle.cross_reduce.proofs.counting.sorted_pins.Given as goal

abbrev pub invariant-loop-link : goal.invariant-loop-link
invariant-loop-link l = l.pins.items ≡ map (pin_from (plain l.layered) l.place) (take l.link-index (plain l.layered).links)
