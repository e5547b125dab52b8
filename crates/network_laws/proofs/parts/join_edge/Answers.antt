use Rattle.std.proofs.Common.{get_or, refl}
use Rattle.network_laws.specs.Network.{edge_at}
use Rattle.network_laws.proofs.Naming.{part_join, part_back, part_edge, joined_at}
use Rattle.network_laws.proofs.parts.join_edge.Goals as goal

pub returns-then-tail-head : goal.returns-then-tail-head
returns-then-tail-head c =
    let edges = c.args.edges.now in
    let k = c.args.k in
    let old = c.args.names.now in
    let e = edge_at edges k in
    let b = c.requires.ends k c.requires.there in
    joined_at edges k old c.lower_name.new.names e.head (get_or old e.tail 0) (get_or old e.head 0) c.requires.there c.requires.names b.1 refl c.if-tail-head.true
    (part_join edges (get_or old e.tail 0) e.tail e.head (c.requires.names.in_part e.tail b.0) (part_edge edges k c.requires.there))
    c.lower_name.ensures

pub returns-then-head-tail : goal.returns-then-head-tail
returns-then-head-tail c =
    let edges = c.args.edges.now in
    let k = c.args.k in
    let old = c.args.names.now in
    let e = edge_at edges k in
    let b = c.requires.ends k c.requires.there in
    joined_at edges k old c.lower_name-then-head-tail.new.names e.tail (get_or old e.head 0) (get_or old e.tail 0) c.requires.there c.requires.names b.0 refl c.if-head-tail.true
    (part_join edges (get_or old e.head 0) e.head e.tail (c.requires.names.in_part e.head b.1) (part_back edges e.tail e.head (part_edge edges k c.requires.there)))
    c.lower_name-then-head-tail.ensures
