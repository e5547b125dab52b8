use Rattle.std.proofs.Common.{refl}
use Rattle.graph_arena.proofs.Moves.{owner_is_node, prev_live, next_live, row_has, detached}
use Rattle.graph_arena.proofs.links.detach.Goals as goal

pub row_at-row-requires : goal.row_at-row-requires
row_at-row-requires c = owner_is_node c.args.flank c.args.nodes.now c.args.edges.now c.args.node c.args.edge c.requires.flank c.requires.owned

pub set_next-requires : goal.set_next-requires
set_next-requires c = prev_live c.args.flank c.args.nodes.now c.args.edges.now c.args.node c.args.edge c.place_at-place.result c.requires.flank c.requires.owned c.place_at-place.ensures

pub set_prev-requires : goal.set_prev-requires
set_prev-requires c = next_live c.args.flank c.args.nodes.now c.args.edges.now c.set_next.new.edges c.args.node c.args.edge c.place_at-place.result c.requires.flank c.requires.owned c.place_at-place.ensures c.set_next.ensures.kept

pub overflow_sub-shorter : goal.overflow_sub-shorter
overflow_sub-shorter c = row_has c.args.flank c.args.nodes.now c.args.edges.now c.args.node c.args.edge c.row_at-row.result c.requires.flank c.row_at-row.ensures c.requires.owned

pub returns-clause-moved : goal.returns-clause-moved
returns-clause-moved c =
    detached c.args.flank c.args.node c.args.edge c.args.nodes.now c.set_row.new.nodes c.args.edges.now c.set_next.new.edges c.set_prev.new.edges c.set_place.new.edges c.row_at-row.result _ c.place_at-place.result
    c.requires.flank c.row_at-row.ensures c.requires.owned c.place_at-place.ensures c.set_next.ensures c.set_prev.ensures c.set_place.ensures
    c.replaced.ensures.moved c.replaced.ensures.kept c.replaced-2.ensures.moved c.replaced-2.ensures.kept refl c.set_row.ensures
