use Rattle.box_pack.specs.Boxes.{IsGreatest}
use Rattle.level_split.specs.Limits.{width_at}
use Rattle.level_split.proofs.limit.widest.Given as goal

abbrev pub invariant-loop-size : goal.invariant-loop-size
invariant-loop-size l = IsGreatest l.size-index (width_at l.sizes) l.widest
