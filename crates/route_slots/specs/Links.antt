-- A directed graph by its links, and what it means that a link closes a cycle.
use Rattle.std.specs.Prelude.{◌≡◌, ◌⊎◌, ℕ, ◌+◌, ◌<◌, ◌^◌, Bool, true, false, List, [], ◌∷◌, length, slice_index_or}
use Rattle.route_slots.specs.declared.links.Link.{Link}

-- Cycles are cut in graphs of at most this many links.
abbrev pub link_limit : ℕ
link_limit = 2 ^ 24

abbrev pub link_at : List Link → ℕ → Link
link_at links k = slice_index_or links k (record { tail = 0; head = 0 })

-- all links are between nodes below this number
pub record EndsBelow (nodes : ℕ) (links : List Link) : Type 0 where
  pub tails : (k : ℕ) → k < length links → (link_at links k).tail < nodes
  pub heads : (k : ℕ) → k < length links → (link_at links k).head < nodes

-- these links, one after the other, lead from u to v
abbrev pub Leads : List Link → ℕ → List ℕ → ℕ → Type 0
Leads links u [] v = u ≡ v
Leads links u (k ∷ ks) v = (k < length links) × ((link_at links k).tail ≡ u) × Leads links (link_at links k).head ks v

-- links lead from the link's head back to its tail
pub record ClosesCycle (links : List Link) (k : ℕ) : Type 0 where
  pub way : List ℕ
  pub back : Leads links (link_at links k).head way (link_at links k).tail

abbrev pub is_marked : List Bool → ℕ → Bool
is_marked marks k = slice_index_or marks k false

abbrev pub number_at : List ℕ → ℕ → ℕ
number_at ns v = slice_index_or ns v 0

-- each marked link closes a cycle
abbrev pub CutsOnCycles : List Link → List Bool → Type 0
CutsOnCycles links marks = (k : ℕ) → k < length links → is_marked marks k ≡ true → ClosesCycle links k

-- each link that is not marked leads to a node that lies less deep
abbrev pub LeadsLessDeep : List Link → List Bool → List ℕ → Type 0
LeadsLessDeep links marks depths =
    (k : ℕ) → k < length links → is_marked marks k ≡ false
    → number_at depths (link_at links k).head < number_at depths (link_at links k).tail

-- a link that is not marked leads from the node to one that lies one less deep
pub record IsHeld (links : List Link) (marks : List Bool) (depths : List ℕ) (v : ℕ) : Type 0 where
  pub number : ℕ
  pub is_there : number < length links
  pub kept : is_marked marks number ≡ false
  pub tail_is : (link_at links number).tail ≡ v
  pub one_more : number_at depths v ≡ number_at depths (link_at links number).head + 1

-- no node lies deeper than its links ask for
abbrev pub AreLeast : ℕ → List Link → List Bool → List ℕ → Type 0
AreLeast nodes links marks depths = (v : ℕ) → v < nodes → (number_at depths v ≡ 0) ⊎ IsHeld links marks depths v
