use Rattle.std.proofs.Common.{List, subst, sym}
use Rattle.network_laws.specs.declared.network.NetEdge.{NetEdge}
use Rattle.network_laws.specs.Network.{IsNetwork}
use Rattle.level_model.specs.Conditions.{plain_level}
use Rattle.level_layout.specs.Certificate.{network}
use Rattle.layer_units.specs.Marks.{listed}
use Rattle.level_layout.proofs.NetLemmas.{is_network}
use Rattle.level_layout.proofs.networks.network_of.Goals as goal

pub returns-clause-network : goal.returns-clause-network
returns-clause-network c =
    let l = plain_level c.args.level.now in
    let rs = listed c.args.marks.now in
    subst (λ (es : List NetEdge). IsNetwork c.len-nodes.result es) (sym c.in_ok-edges.ensures)
    (subst (λ n. IsNetwork n (network l rs)) (sym c.len-nodes.ensures) (is_network l rs c.requires.level c.requires.reversed))
