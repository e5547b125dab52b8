-- What is answered for a network, and for each of its parts.
use Rattle.std.specs.Prelude.{◌≡◌, ◌<◌, ◌+◌, ◌*◌, ◌⊎◌, ℕ, ℤ, List, length, slice_index}
use Rattle.network_laws.specs.declared.network.NetEdge.{NetEdge}
use Rattle.network_laws.specs.Layering.{IsSolution}
use Rattle.network_laws.specs.Parts.{ArePartNumbers}
use Rattle.net_simplex.specs.Answer.{EndsInTime, RunsOut}
use Rattle.network_parts.specs.Divided.{part_edges, part_flow, part_layers, part_nodes}

-- 64 pivots for each node and each edge
abbrev pub budget : ℕ → List NetEdge → ℕ
budget nodes edges = 64 * (nodes + length edges)

-- a solution that the chain of pivots gives within the budget, or any one where the budget runs out
pub record IsSolved (nodes : ℕ) (edges : List NetEdge) (layers : List ℤ) (flow : List ℕ) (total : ℕ) : Type 0 where
  pub solves : IsSolution nodes edges layers flow total
  pub way : ((pivots : ℕ) × EndsInTime nodes edges (budget nodes edges) pivots layers flow) ⊎ RunsOut nodes edges (budget nodes edges)

-- part k is solved as a network of its own
abbrev pub IsPartSolved : List ℕ → List NetEdge → List ℤ → List ℕ → ℕ → Type 0
IsPartSolved numbers edges layers flow k =
    (total : ℕ)
    × IsSolved (part_nodes numbers k) (part_edges numbers edges k) (part_layers numbers layers k) (part_flow numbers edges flow k) total

-- so is each connected part, that of each node, where the parts have their numbers
pub record IsSolvedByParts (nodes : ℕ) (edges : List NetEdge) (layers : List ℤ) (flow : List ℕ) : Type 0 where
  pub numbers : List ℕ
  pub are_parts : ArePartNumbers nodes edges numbers
  pub each : (v : ℕ) → v < nodes → IsPartSolved numbers edges layers flow (slice_index numbers v)

-- a network has one numbering of its parts
abbrev pub OneNumbering : Type 0
OneNumbering =
    (nodes : ℕ) (edges : List NetEdge) (numbers others : List ℕ) → ArePartNumbers nodes edges numbers
    → ArePartNumbers nodes edges others → numbers ≡ others
