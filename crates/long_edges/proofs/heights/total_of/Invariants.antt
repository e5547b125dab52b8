use Rattle.std.proofs.Common.{◌≡◌, ◌-◌, take, sum_by}
use Rattle.long_edges.proofs.heights.total_of.Given as goal

abbrev pub invariant-loop-height : goal.invariant-loop-height
invariant-loop-height l = l.total ≡ sum_by (λ h. h - l.less) (take l.height-index l.heights)
