use Rattle.std.proofs.Common.{◌∙◌}
use Rattle.level_io.proofs.ReadLemmas.{child_numbers, edge_numbers, level_same}
use Rattle.level_io.proofs.reading.level_in.Goals as goal

pub read_children-requires-clause-children : goal.read_children-requires-clause-children
read_children-requires-clause-children c =
    λ i h. (child_numbers c.args.doc.now c.args.node c.row-numbers.result.now (c.row-numbers.ensures ∙ c.requires.index.children.each c.args.node c.requires.node) i h).node_in

pub read_children-requires-clause-small : goal.read_children-requires-clause-small
read_children-requires-clause-small c =
    λ i h. c.requires.sizes.small _ (child_numbers c.args.doc.now c.args.node c.row-numbers.result.now (c.row-numbers.ensures ∙ c.requires.index.children.each c.args.node c.requires.node) i h)

pub read_edges-requires-clause-edges : goal.read_edges-requires-clause-edges
read_edges-requires-clause-edges c =
    λ i h. (edge_numbers c.args.doc.now c.args.node c.row.result.now (c.row.ensures ∙ c.requires.index.edges.each c.args.node c.requires.node) i h).edge_in

pub returns-clause-level : goal.returns-clause-level
returns-clause-level c =
    λ p has.
    let children = c.row-numbers.ensures ∙ c.requires.index.children.each c.args.node c.requires.node in
    let edges = c.row.ensures ∙ c.requires.index.edges.each c.args.node c.requires.node in
    level_same c.args.doc.now p c.args.node c.args.options.now c.args.sizes.now c.row-numbers.result.now c.row.result.now c.from_vec.result c.from_vec-2.result children edges
    (c.from_vec.ensures ∙ c.in_ok-children.ensures)
    (c.from_vec-2.ensures ∙ c.in_ok-edges.ensures c.args.node (edge_numbers c.args.doc.now c.args.node c.row.result.now edges)) has
