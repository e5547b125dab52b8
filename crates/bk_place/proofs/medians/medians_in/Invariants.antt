use Rattle.std.proofs.Common.{◌≡◌, map}
use Rattle.std.specs.List.{range_with_len}
use Rattle.elk_layers.specs.Layered.{plain}
use Rattle.bk_place.specs.Medians.{medians_at}
use Rattle.bk_place.proofs.medians.medians_in.Given as goal

abbrev pub invariant-loop-unit : goal.invariant-loop-unit
invariant-loop-unit l = l.table.items ≡ map (medians_at (plain l.layered) l.sweep l.known.place.items l.known.marked.items l.spokes) (range_with_len 0 l.unit)
