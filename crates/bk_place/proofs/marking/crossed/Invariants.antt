use Rattle.std.proofs.Common.{◌≡◌, map, take}
use Rattle.elk_layers.specs.Layered.{plain}
use Rattle.bk_place.specs.Marks.{is_crossed}
use Rattle.bk_place.proofs.marking.crossed.Given as goal

abbrev pub invariant-loop-link : goal.invariant-loop-link
invariant-loop-link l = l.marked.items ≡ map (is_crossed (plain l.layered) l.place) (take l.link-index (plain l.layered).links)
