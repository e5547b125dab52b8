use Rattle.std.proofs.Common.{◌≡◌, take}
use Rattle.cross_reduce.specs.Fans.{far_keys}
use Rattle.cross_reduce.proofs.exchanging.keys.Given as goal

abbrev pub invariant-loop-far : goal.invariant-loop-far
invariant-loop-far l = l.keys.items ≡ far_keys l.place (take l.far-index l.fan)
