-- Nodes that marked edges join, and names of the parts.
use Rattle.std.specs.Prelude.{◌≡◌, ℕ, zero, suc, ◌<◌, ◌==◌, cond, Bool, true, false, ◌⊎◌, List, [], ◌∷◌, length, map, slice_index_or}
use Rattle.network_laws.specs.declared.network.NetEdge.{NetEdge}
use Rattle.network_laws.specs.Network.{edge_at}

-- edges by number, marked or not
abbrev pub is_marked : List Bool → ℕ → Bool
is_marked marks k = slice_index_or marks k false

-- a marked edge leads from a to b
pub record HasMarked (edges : List NetEdge) (marks : List Bool) (a b : ℕ) : Type 0 where
  pub number : ℕ
  pub is_there : number < length edges
  pub has_mark : is_marked marks number ≡ true
  pub from_is : (edge_at edges number).tail ≡ a
  pub to_is : (edge_at edges number).head ≡ b

-- a walk of n marked edges, each in either direction
abbrev pub LinkedBy : List NetEdge → List Bool → ℕ → ℕ → ℕ → Type 0
LinkedBy edges marks a b zero = a ≡ b
LinkedBy edges marks a b (suc n) = (c : ℕ) × LinkedBy edges marks a c n × (HasMarked edges marks c b ⊎ HasMarked edges marks b c)

abbrev pub Linked : List NetEdge → List Bool → ℕ → ℕ → Type 0
Linked edges marks a b = (n : ℕ) × LinkedBy edges marks a b n

-- a name for each node
abbrev pub name_of : List ℕ → ℕ → ℕ
name_of names v = slice_index_or names v 0

abbrev pub renamed : ℕ → ℕ → List ℕ → List ℕ
renamed from to names = map (λ n. cond (n == from) to n) names

-- the names after each marked edge, in turn, has given its tail's name to its head's part
abbrev pub merged : List NetEdge → List Bool → List ℕ → List ℕ
merged [] marks names = names
merged (e ∷ es) [] names = names
merged (e ∷ es) (false ∷ ms) names = merged es ms names
merged (e ∷ es) (true ∷ ms) names = merged es ms (renamed (name_of names e.head) (name_of names e.tail) names)

abbrev pub same_name : List ℕ → ℕ → ℕ → Bool
same_name names a b = name_of names a == name_of names b
