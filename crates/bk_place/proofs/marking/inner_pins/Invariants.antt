use Rattle.std.proofs.Common.{◌≡◌, map, take}
use Rattle.std.specs.List.{All, filter}
use Rattle.elk_layers.specs.Layered.{plain}
use Rattle.elk_layers.specs.Alignment.{is_inner}
use Rattle.bk_place.specs.Marks.{pin_of, IsLow}
use Rattle.bk_place.proofs.marking.inner_pins.Given as goal

abbrev pub invariant-loop-link : goal.invariant-loop-link
invariant-loop-link l =
    (l.pins.items ≡ map (pin_of (plain l.layered) l.place) (filter (is_inner (plain l.layered)) (take l.link-index (plain l.layered).links)))
    × All IsLow l.pins.items
