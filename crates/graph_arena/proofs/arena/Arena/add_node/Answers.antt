use Rattle.std.proofs.Common.{subst, ap, ◌∙◌, Some, refl}
use Rattle.graph_arena.specs.Graph.{Graph}
use Rattle.graph_arena.specs.Changes.{AddsNode}
use Rattle.graph_arena.specs.Flanks.{graph_of}
use Rattle.graph_arena.proofs.Rooms.{roomy_sound}
use Rattle.graph_arena.proofs.Whole.{node_sound, node_added}
use Rattle.graph_arena.proofs.arena.Arena.add_node.Goals as goal

pub invariant_of-self : goal.invariant_of-self
invariant_of-self c = roomy_sound c.self.inside.nodes c.insert.new.self c.self.inside.edges c.self.inside.edges c.in_err-at.ensures.err refl c.self.invariant

pub invariant_of-self-2 : goal.invariant_of-self-2
invariant_of-self-2 c =
    node_sound c.self.inside.nodes c.insert.new.self c.self.inside.edges c.in_ok-at.at c.in_ok-at.ensures.was_vacant (c.in_ok-at.ensures.updates.changed ∙ ap Some c.new_node.ensures) c.in_ok-at.ensures.updates.others c.self.invariant

pub returns-clause-added : goal.returns-clause-added
returns-clause-added c =
    subst (λ (g : Graph). AddsNode g (graph_of c.insert.new.self c.self.inside.edges) c.in_ok-at.at) c.self.view_is
    (node_added c.self.inside.nodes c.insert.new.self c.self.inside.edges c.in_ok-at.at c.in_ok-at.ensures.was_vacant (c.in_ok-at.ensures.updates.changed ∙ ap Some c.new_node.ensures) c.in_ok-at.ensures.updates.others)
