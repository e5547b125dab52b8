use Rattle.network_laws.specs.Network.{edge_at}
use Rattle.net_simplex.specs.Pivots.{slack, leads_back, least_of}
use Rattle.net_simplex.specs.Rooted.{part_from}
use Rattle.net_simplex.specs.Walks.{part}
use Rattle.net_simplex.specs.Chosen.{Tells}
use Rattle.net_simplex.proofs.entering.entering.Given as goal

abbrev pub invariant-loop-k : goal.invariant-loop-k
invariant-loop-k l =
    Tells (λ k. slack l.layers (edge_at l.edges k)) (least_of (λ k. leads_back (part_from l.root_in (part l.tree.place.items l.walk.size.items l.child)) (edge_at l.edges k)) (λ k. slack l.layers (edge_at l.edges k)) l.k) l.best
