-- Doubly linked lists of keys, whose links are functions of the key.
use Rattle.std.specs.Prelude.{◌≡◌, ℕ, zero, suc, List, [], ◌∷◌, length, Option, Some, None}
use Rattle.graph_arena.specs.declared.slots.EdgeList.{EdgeList}
use Rattle.graph_arena.specs.Graph.{occurs, if_end}

-- the first n keys from `at` on
abbrev pub follow : (ℕ → Option ℕ) → ℕ → Option ℕ → List ℕ
follow next zero at = []
follow next (suc n) None = []
follow next (suc n) (Some k) = k ∷ follow next n (next k)

-- the keys from `at` on are these, each link back is right, and the last key, or what came before, is `last`
abbrev pub IsChain : (ℕ → Option ℕ) → (ℕ → Option ℕ) → Option ℕ → Option ℕ → List ℕ → Option ℕ → Type 0
IsChain next prev before at [] last = (at ≡ None) × (last ≡ before)
IsChain next prev before at (k ∷ ks) last =
    (at ≡ Some k) × (prev k ≡ before) × IsChain next prev (Some k) (next k) ks last

abbrev pub row_keys : (ℕ → Option ℕ) → Option EdgeList → List ℕ
row_keys next None = []
row_keys next (Some r) = follow next r.count r.first

-- the links agree with a list that is as long as the count
pub record IsRow (next prev : ℕ → Option ℕ) (r : EdgeList) : Type 0 where
  pub counted : length (follow next r.count r.first) ≡ r.count
  pub chain : IsChain next prev None r.first (follow next r.count r.first) r.last

-- one side of an arena, the lists out or the lists in: each edge stands once in its owner's list and nowhere else
pub record IsFlank (row : ℕ → Option EdgeList) (next prev owner : ℕ → Option ℕ) : Type 0 where
  pub rows : (v : ℕ) (r : EdgeList) → row v ≡ Some r → IsRow next prev r
  pub once : (v e : ℕ) → occurs e (row_keys next (row v)) ≡ if_end (owner e) v
