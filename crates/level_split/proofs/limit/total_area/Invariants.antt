use Rattle.std.proofs.Common.{◌≡◌, ◌≤◌, ◌*◌, ◌^◌}
use Rattle.level_split.specs.Limits.{area_to}
use Rattle.level_split.proofs.limit.total_area.Given as goal

abbrev pub invariant-loop-size : goal.invariant-loop-size
invariant-loop-size l = (l.total ≡ area_to l.sizes l.gap l.size-index) × (l.total ≤ l.size-index * 2 ^ 98)
