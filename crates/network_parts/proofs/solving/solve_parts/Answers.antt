use Rattle.std.proofs.Common.{List, subst, sym}
use Rattle.network_laws.specs.declared.network.Network.{Network}
use Rattle.network_parts.specs.Dividing.{HoldEdges, HoldNodes, rows_of, sizes_of}
use Rattle.network_parts.proofs.solving.solve_parts.Goals as goal

pub solve_in-requires-clause-nodes : goal.solve_in-requires-clause-nodes
solve_in-requires-clause-nodes c =
    subst (λ (networks : List Network). HoldNodes c.as_slice-2.result.now 0 (sizes_of networks)) (sym c.as_mut_slice.ensures.value) (c.in_ok-networks.ensures.nodes c.as_slice-2.result.now)

pub solve_in-requires-clause-edges : goal.solve_in-requires-clause-edges
solve_in-requires-clause-edges c =
    subst (λ (networks : List Network). HoldEdges c.as_slice-2.result.now c.as_slice-3.result.now 0 (rows_of networks)) (sym c.as_mut_slice.ensures.value) (c.in_ok-networks.ensures.edges c.as_slice-2.result.now c.as_slice-3.result.now)
