use Rattle.std.proofs.Common.{◌≡◌, ℕ, List, Some, ap, sym, ◌∙◌, subst}
use Rattle.graph_arena.specs.declared.slots.Flank.TheVariants.{Outward}
use Rattle.graph_arena.specs.Graph.{Graph, Ends, edge_key, after, out_list, ends_at, tail_in}
use Rattle.graph_arena.specs.Flanks.{next_in}
use Rattle.graph_arena.proofs.Views.{outs_are, tail_is}
use Rattle.graph_arena.proofs.Readers.{next_is}
use Rattle.graph_arena.proofs.arena.Arena.next_out.Goals as goal

pub returns : goal.returns
returns c =
    subst (λ (g : Graph). (x : Ends) → ends_at g c.args.edge.at ≡ Some x → c.key_of.result ≡ edge_key (after (out_list g x.tail) c.args.edge.at)) c.self.view_is
    (λ x is.
    let n = next_is Outward c.self.inside.nodes c.self.inside.edges x.tail c.args.edge.at (c.self.invariant.flanks Outward) (sym (tail_is c.self.inside.nodes c.self.inside.edges c.args.edge.at c.self.invariant) ∙ ap tail_in is) in
    c.key_of.ensures ∙ ap edge_key (sym (ap (λ (l : List ℕ). after l c.args.edge.at) (outs_are c.self.inside.nodes c.self.inside.edges x.tail) ∙ (n ∙ ap next_in c.place_at.ensures))))
