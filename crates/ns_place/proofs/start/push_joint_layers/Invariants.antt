use Rattle.std.proofs.Common.{◌≡◌, ◌++◌, map, take}
use Rattle.ns_place.specs.Start.{joint_layer}
use Rattle.ns_place.proofs.start.push_joint_layers.Given as goal

abbrev pub invariant-loop-link : goal.invariant-loop-link
invariant-loop-link l = l.all.items ≡ l.initial.all.items ++ map (joint_layer l.top) (take l.link-index l.links)
