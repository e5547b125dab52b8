use Rattle.std.proofs.Common.{◌≡◌, map}
use Rattle.level_model.specs.Conditions.{plain_level}
use Rattle.level_layout.specs.Certificate.{links_to, network_edge}
use Rattle.layer_units.specs.Marks.{listed}
use Rattle.level_layout.proofs.networks.network_edges.Given as goal

abbrev pub invariant-loop-e : goal.invariant-loop-e
invariant-loop-e l = l.edges.items ≡ map (network_edge (plain_level l.level) (listed l.marks)) (links_to (plain_level l.level) l.e)
