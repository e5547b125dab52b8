use Rattle.std.proofs.Common.{◌≡◌, ◌++◌, map}
use Rattle.std.specs.List.{filter, range_with_len}
use Rattle.elk_layers.specs.Layered.{plain}
use Rattle.bk_place.specs.Spokes.{spoke_of, is_at}
use Rattle.bk_place.proofs.spokes.push_spokes.Given as goal

abbrev pub invariant-loop-k : goal.invariant-loop-k
invariant-loop-k l =
    l.spokes.items ≡ l.initial.spokes.items ++ filter (is_at (plain l.layered) l.sweep l.lanes) (map (spoke_of (plain l.layered) l.sweep l.place) (range_with_len 0 l.k))
