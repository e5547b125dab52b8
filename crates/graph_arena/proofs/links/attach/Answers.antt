use Rattle.std.proofs.Common.{arith, subst}
use Rattle.graph_arena.specs.declared.slots.EdgeList.{EdgeList}
use Rattle.graph_arena.specs.Flanks.{row_in, Sets}
use Rattle.graph_arena.proofs.Moves.{last_live, row_count, attached}
use Rattle.graph_arena.proofs.links.attach.Goals as goal

pub set_next-requires : goal.set_next-requires
set_next-requires c = last_live c.args.flank c.args.nodes.now c.args.edges.now c.args.node c.row_at-row.result c.requires.flank c.row_at-row.ensures

pub push_row-requires : goal.push_row-requires
push_row-requires c = let b = row_count c.args.flank c.args.nodes.now c.args.edges.now c.args.node c.row_at-row.result c.requires.flank c.row_at-row.ensures in omega (arith, b, c.requires.small)

pub returns : goal.returns
returns c =
    attached c.args.flank c.args.node c.args.edge c.args.nodes.now c.set_row.new.nodes c.args.edges.now c.set_next.new.edges c.set_place.new.edges c.row_at-row.result
    c.requires.flank c.row_at-row.ensures c.requires.loose c.set_next.ensures c.set_place.ensures
    (subst (λ (r : EdgeList). Sets row_in c.args.flank c.args.node r c.args.nodes.now c.set_row.new.nodes) c.push_row.ensures c.set_row.ensures)
