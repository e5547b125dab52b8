use Rattle.network_parts.proofs.FillLemmas.{row_written, sizes_kept}
use Rattle.network_parts.proofs.dividing.add_edge.Goals as goal

pub returns-clause-sizes : goal.returns-clause-sizes
returns-clause-sizes c = sizes_kept c.args.networks.now c.args.part c.index-networks-part.result c.push.new.self c.requires

pub returns-clause-edges : goal.returns-clause-edges
returns-clause-edges c =
    row_written c.args.networks.now c.args.part _ c.index-networks-part.result c.args.edge c.push.new.self c.requires c.in_ok-push.ensures.items
