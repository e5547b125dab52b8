use Rattle.std.proofs.Common.{◌≡◌, ap, sym, ◌∙◌, subst}
use Rattle.graph_arena.specs.declared.slots.Flank.TheVariants.{Outward}
use Rattle.graph_arena.specs.Graph.{Graph, edge_key, front, out_list}
use Rattle.graph_arena.proofs.Views.{outs_are}
use Rattle.graph_arena.proofs.Readers.{first_is}
use Rattle.graph_arena.proofs.arena.Arena.first_out.Goals as goal

pub returns : goal.returns
returns c =
    subst (λ (g : Graph). c.key_of.result ≡ edge_key (front (out_list g c.args.node.at))) c.self.view_is
    (c.key_of.ensures ∙ ap edge_key (sym (ap front (outs_are c.self.inside.nodes c.self.inside.edges c.args.node.at) ∙ first_is Outward c.self.inside.nodes c.self.inside.edges c.args.node.at c.row_at.result (c.self.invariant.flanks Outward) c.row_at.ensures)))
