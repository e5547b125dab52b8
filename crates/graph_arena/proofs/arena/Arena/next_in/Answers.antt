use Rattle.std.proofs.Common.{◌≡◌, ℕ, List, Some, ap, sym, ◌∙◌, subst}
use Rattle.graph_arena.specs.declared.slots.Flank.TheVariants.{Inward}
use Rattle.graph_arena.specs.Graph.{Graph, Ends, edge_key, after, in_list, ends_at, head_in}
use Rattle.graph_arena.specs.Flanks.{next_in}
use Rattle.graph_arena.proofs.Views.{ins_are, head_is}
use Rattle.graph_arena.proofs.Readers.{next_is}
use Rattle.graph_arena.proofs.arena.Arena.next_in.Goals as goal

pub returns : goal.returns
returns c =
    subst (λ (g : Graph). (x : Ends) → ends_at g c.args.edge.at ≡ Some x → c.key_of.result ≡ edge_key (after (in_list g x.head) c.args.edge.at)) c.self.view_is
    (λ x is.
    let n = next_is Inward c.self.inside.nodes c.self.inside.edges x.head c.args.edge.at (c.self.invariant.flanks Inward) (sym (head_is c.self.inside.nodes c.self.inside.edges c.args.edge.at c.self.invariant) ∙ ap head_in is) in
    c.key_of.ensures ∙ ap edge_key (sym (ap (λ (l : List ℕ). after l c.args.edge.at) (ins_are c.self.inside.nodes c.self.inside.edges x.head) ∙ (n ∙ ap next_in c.place_at.ensures))))
