use Rattle.std.proofs.Common.{◌≡◌, subst}
use Rattle.graph_arena.specs.Graph.{Graph}
use Rattle.graph_arena.specs.Changes.{IsSame}
use Rattle.graph_arena.specs.Flanks.{graph_of}
use Rattle.graph_arena.proofs.Copies.{same_slots, copy_sound, copy_same}
use Rattle.graph_arena.proofs.arena.Arena.copy.Goals as goal
use Rattle.graph_arena.proofs.arena.Arena.copy.Goals.{In_ok-clone-2}

nodes_are : (c : In_ok-clone-2) → c.in_ok-clone.field-0.slots ≡ c.self.inside.nodes.slots
nodes_are c = same_slots _ (λ x y h. h) _ _ c.in_ok-clone.ensures.cases.slots

edges_are : (c : In_ok-clone-2) → c.in_ok-clone-2.field-0.slots ≡ c.self.inside.edges.slots
edges_are c = same_slots _ (λ x y h. h) _ _ c.in_ok-clone-2.ensures.cases.slots

pub invariant_of-result : goal.invariant_of-result
invariant_of-result c = copy_sound c.self.inside.nodes c.in_ok-clone.field-0 c.self.inside.edges c.in_ok-clone-2.field-0 (nodes_are c) (edges_are c) c.self.invariant

pub returns : goal.returns
returns c =
    subst (λ (g : Graph). IsSame g (graph_of c.in_ok-clone.field-0 c.in_ok-clone-2.field-0)) c.self.view_is
    (copy_same c.self.inside.nodes c.in_ok-clone.field-0 c.self.inside.edges c.in_ok-clone-2.field-0 (nodes_are c) (edges_are c))
