-- An order of the nodes in which each edge leads forward.
use Rattle.std.specs.Prelude.{◌≡◌, ℕ, suc, ◌<◌, ◌==◌, cond, List, [], ◌∷◌, Some, is_some}
use Rattle.graph_arena.specs.Graph.{Graph, Ends, lists_at, ends_at, occurs}

-- where the key stands first
abbrev pub place : List ℕ → ℕ → ℕ
place [] v = 0
place (x ∷ xs) v = cond (x == v) 0 (suc (place xs v))

-- each node stands once, no other key stands, and tails stand before heads
pub record IsTopological (g : Graph) (order : List ℕ) : Type 0 where
  pub once : (v : ℕ) → occurs v order ≡ cond (is_some (lists_at g v)) 1 0
  pub forward : (e : ℕ) (x : Ends) → ends_at g e ≡ Some x → place order x.tail < place order x.head
