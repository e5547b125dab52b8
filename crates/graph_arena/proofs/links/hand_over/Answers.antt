use Rattle.std.proofs.Common.{refl}
use Rattle.graph_arena.proofs.Moves.{owner_is_node, prev_live, next_live, handed_over}
use Rattle.graph_arena.proofs.links.hand_over.Goals as goal

pub row_at-row-requires : goal.row_at-row-requires
row_at-row-requires c = owner_is_node c.args.flank c.args.nodes.now c.args.edges.now c.args.node c.args.edge c.requires.flank c.requires.owned

pub set_next-requires : goal.set_next-requires
set_next-requires c = prev_live c.args.flank c.args.nodes.now c.args.edges.now c.args.node c.args.edge c.place_at-place.result c.requires.flank c.requires.owned c.place_at-place.ensures

pub set_prev-requires : goal.set_prev-requires
set_prev-requires c = next_live c.args.flank c.args.nodes.now c.args.edges.now c.set_next.new.edges c.args.node c.args.edge c.place_at-place.result c.requires.flank c.requires.owned c.place_at-place.ensures c.set_next.ensures.kept

pub returns : goal.returns
returns c =
    handed_over c.args.flank c.args.node c.args.edge c.args.by c.args.nodes.now c.set_row.new.nodes c.args.edges.now c.set_next.new.edges c.set_prev.new.edges c.set_place.new.edges c.set_place-2.new.edges c.row_at-row.result _ c.place_at-place.result
    c.requires.flank c.row_at-row.ensures c.requires.owned c.requires.loose c.place_at-place.ensures c.set_next.ensures c.set_prev.ensures c.set_place.ensures c.set_place-2.ensures
    c.replaced.ensures.moved c.replaced.ensures.kept c.replaced-2.ensures.moved c.replaced-2.ensures.kept refl c.set_row.ensures
