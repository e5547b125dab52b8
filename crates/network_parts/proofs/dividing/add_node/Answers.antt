use Rattle.network_parts.proofs.FillLemmas.{rows_kept, size_written}
use Rattle.network_parts.proofs.dividing.add_node.Goals as goal

pub returns-clause-sizes : goal.returns-clause-sizes
returns-clause-sizes c = size_written c.args.networks.now c.args.part c.index-networks-part.result _ c.requires.there

pub returns-clause-edges : goal.returns-clause-edges
returns-clause-edges c = rows_kept c.args.networks.now c.args.part _ c.index-networks-part-2.result c.requires.there
