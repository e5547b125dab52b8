use Rattle.std.proofs.Common.{take}
use Rattle.cross_reduce.specs.Fans.{AreFans, fan_lists}
use Rattle.cross_reduce.proofs.fans.fans_towards.Given as goal

abbrev pub invariant-loop-link : goal.invariant-loop-link
invariant-loop-link l = AreFans l.towards (take l.link-index l.links) l.count (fan_lists l.fans)
