use Rattle.std.proofs.Common.{◌≡◌, map, take}
use Rattle.ns_place.specs.Straight.{weight_for}
use Rattle.ns_place.proofs.straight.weigh_straight.Given as goal

abbrev pub invariant-loop-link : goal.invariant-loop-link
invariant-loop-link l = l.weights.items ≡ map (weight_for l.straightness l.top) (take l.link-index l.links)
