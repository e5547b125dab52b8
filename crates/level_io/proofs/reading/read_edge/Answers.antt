use Rattle.level_io.proofs.ReadLemmas.{edge_same}
use Rattle.level_io.proofs.reading.read_edge.Goals as goal

pub returns : goal.returns
returns c =
    λ n is.
    edge_same c.args.source.now.doc.now n c.args.edge c.edge-found.result.now c.read_spoke.result c.read_spoke-2.result c.edge-found.ensures.sound is c.edge-found.ensures.value
    (c.read_spoke.ensures n) (c.read_spoke-2.ensures n)
