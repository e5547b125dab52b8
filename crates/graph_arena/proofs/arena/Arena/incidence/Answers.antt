use Rattle.std.proofs.Common.{subst}
use Rattle.graph_arena.specs.Graph.{Graph, IsIncidence}
use Rattle.graph_arena.proofs.Views.{incidence_of}
use Rattle.graph_arena.proofs.arena.Arena.incidence.Goals as goal

pub returns : goal.returns
returns c = subst (λ (g : Graph). IsIncidence g) c.self.view_is (incidence_of c.self.inside.nodes c.self.inside.edges c.self.invariant)
