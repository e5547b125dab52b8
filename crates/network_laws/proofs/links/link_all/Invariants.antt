use Rattle.std.proofs.Common.{◌≡◌, ◌≤◌, length}
use Rattle.network_laws.specs.Links.{AreLinksFrom}
use Rattle.network_laws.proofs.links.link_all.Given as goal

abbrev pub invariant-loop-left : goal.invariant-loop-left
invariant-loop-left l =
    (l.left ≤ length l.edges)
    × (length l.first ≡ length l.initial.first)
    × AreLinksFrom (length l.initial.first) l.edges l.end l.left l.first l.next

abbrev pub decreases-loop-left : goal.decreases-loop-left
decreases-loop-left l = l.left
