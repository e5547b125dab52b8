use Rattle.std.proofs.Common.{◌≡◌, ◌<◌, ◌≤◌, ◌-◌, length}
use Rattle.network_laws.specs.Network.{edge_at}
use Rattle.network_laws.specs.Links.{end_of}
use Rattle.flow_dual.specs.State.{marked}
use Rattle.flow_dual.specs.Queue.{waiting, AreInOrder, Offers}
use Rattle.flow_dual.proofs.steps.offer.Given as goal

abbrev pub invariant-loop-k : goal.invariant-loop-k
invariant-loop-k l =
    (l.k ≤ length l.net.edges.now)
    × (l.k < length l.net.edges.now → end_of l.end (edge_at l.net.edges.now l.k) ≡ l.v)
    × AreInOrder l.steps
    × (l.steps.now ≡ l.initial.steps.now)
    × Offers l.net.edges.now l.layer l.flow (marked l.marks.reached.items) l.end l.v l.initial.steps.now l.k (waiting l.initial.steps) (waiting l.steps)

abbrev pub decreases-loop-k : goal.decreases-loop-k
decreases-loop-k l = length l.net.edges.now - l.k
