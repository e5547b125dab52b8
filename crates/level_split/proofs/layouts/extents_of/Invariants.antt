use Rattle.std.proofs.Common.{◌≡◌, take}
use Rattle.level_split.specs.Gathered.{extents_of}
use Rattle.level_split.proofs.layouts.extents_of.Given as goal

abbrev pub invariant-loop-out : goal.invariant-loop-out
invariant-loop-out l = l.sizes.items ≡ extents_of (take l.out-index l.outs)
