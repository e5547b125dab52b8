use Rattle.std.proofs.Common.{◌≡◌, ◌<◌, [], take, length}
use Rattle.std.specs.List.{All}
use Rattle.elk_layers.specs.Layered.{plain, rows_of}
use Rattle.elk_layers.specs.Alignment.{chosen_after, visits}
use Rattle.bk_place.specs.Choosing.{AreLast}
use Rattle.bk_place.proofs.choosing.visit_all.Given as goal

abbrev pub invariant-loop-unit : goal.invariant-loop-unit
invariant-loop-unit l =
    (l.chosen.items ≡ chosen_after (plain l.layered) (rows_of l.fn.order) l.sweep [] (take l.unit-index (visits l.sweep (rows_of l.fn.order))))
    × AreLast (plain l.layered) (rows_of l.fn.order) l.sweep l.chosen.items l.last
    × All (λ k. k < length (plain l.layered).links) l.chosen.items
