-- A directed network: its edges, walks and parts.
use Rattle.std.specs.Prelude.{◌≡◌, ℕ, zero, suc, ◌<◌, ◌≤◌, ◌^◌, ◌⊎◌, List, length, slice_index_or}
use Rattle.std.specs.List.{sum_by}
use Rattle.network_laws.specs.declared.network.NetEdge.{NetEdge}

abbrev pub edge_at : List NetEdge → ℕ → NetEdge
edge_at edges k = slice_index_or edges k (record { tail = 0; head = 0; least = 0; weight = 0 })

-- an edge leads from a to b
pub record HasEdge (edges : List NetEdge) (a b : ℕ) : Type 0 where
  pub number : ℕ
  pub is_there : number < length edges
  pub from_is : (edge_at edges number).tail ≡ a
  pub to_is : (edge_at edges number).head ≡ b

-- a walk of n edges
abbrev pub Walk : List NetEdge → ℕ → ℕ → ℕ → Type 0
Walk edges a b zero = a ≡ b
Walk edges a b (suc n) = (c : ℕ) × Walk edges a c n × HasEdge edges c b

-- a walk of n edges, each in either direction
abbrev pub Joined : List NetEdge → ℕ → ℕ → ℕ → Type 0
Joined edges a b zero = a ≡ b
Joined edges a b (suc n) = (c : ℕ) × Joined edges a c n × (HasEdge edges c b ⊎ HasEdge edges b c)

abbrev pub InOnePart : List NetEdge → ℕ → ℕ → Type 0
InOnePart edges a b = (n : ℕ) × Joined edges a b n

-- the ends are nodes
abbrev pub EndsBelow : ℕ → List NetEdge → Type 0
EndsBelow nodes edges =
    (k : ℕ) → k < length edges → ((edge_at edges k).tail < nodes) × ((edge_at edges k).head < nodes)

abbrev pub IsAcyclic : List NetEdge → Type 0
IsAcyclic edges = (a n : ℕ) → Walk edges a a (suc n) → ⊥

-- what every call asks of a network
pub record IsNetwork (nodes : ℕ) (edges : List NetEdge) : Type 0 where
  pub few_nodes : nodes ≤ 2 ^ 23
  pub few_edges : length edges ≤ 2 ^ 24
  pub ends : EndsBelow nodes edges
  pub acyclic : IsAcyclic edges
  pub least_fits : sum_by (λ (e : NetEdge). e.least) edges < 2 ^ 62
  pub weight_fits : sum_by (λ (e : NetEdge). e.weight) edges < 2 ^ 62
