use Rattle.std.proofs.Common.{◌≡◌, map, take}
use Rattle.bk_place.specs.Marks.{mirrored}
use Rattle.bk_place.proofs.reaching.mirrored_pins.Given as goal

abbrev pub invariant-loop-pin : goal.invariant-loop-pin
invariant-loop-pin l = l.found.items ≡ map mirrored (take l.pin-index l.pins)
