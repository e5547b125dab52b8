use Rattle.std.proofs.Common.{◌≡◌, take}
use Rattle.std.specs.List.{filter}
use Rattle.elk_layers.specs.Layered.{plain, is_child}
use Rattle.elk_layers.proofs.rows.children_of.Given as goal

abbrev pub invariant-loop-u : goal.invariant-loop-u
invariant-loop-u l = l.found.items ≡ filter (is_child (plain l.layered)) (take l.u-index l.row)
