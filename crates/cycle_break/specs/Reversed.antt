-- Each reversed edge closes a cycle, and no cycle is left.
use Rattle.std.specs.Prelude.{◌≡◌, ◌≢◌, ◌≤◌, ◌<◌, ◌+◌, ℕ, List, filter, ◌==◌, Bool, false, nat_lt, Option, Some, None, slice_index_or, ◌↔◌}
use Rattle.cycle_break.specs.Ways.{Step}
use Rattle.graph_arena.specs.Graph.{Graph, Ends, ends_at, out_list, in_list, occurs, IsNode}
use Rattle.graph_arena.specs.Paths.{Reaches}

-- an edge that is not listed and no self-loop leads from a to b
pub record UnlistedStep (g : Graph) (listed : List ℕ) (a b : ℕ) : Type 0 where
  pub edge : ℕ
  pub ends : ends_at g edge ≡ Some (record { tail = a; head = b })
  pub unlisted : occurs edge listed ≡ 0
  pub no_loop : a ≢ b

-- From the head of each listed edge unlisted edges lead back to its tail; unlisted edges never lead round. Listed are
-- edges, each once, and no self-loops.
pub record IsReversed (g : Graph) (listed : List ℕ) : Type 0 where
  pub edges : (e : ℕ) → 0 < occurs e listed
      → (x : Ends) × (ends_at g e ≡ Some x) × (x.tail ≢ x.head) × Reaches (UnlistedStep g listed) x.head x.tail
  pub once : (e : ℕ) → occurs e listed ≤ 1
  pub acyclic : (a b : ℕ) → UnlistedStep g listed a b → Reaches (UnlistedStep g listed) b a → ⊥

-- just the listed edges are reversed
pub record ReversesListed (old new : Graph) (listed : List ℕ) : Type 0 where
  pub is_reversed : (e : ℕ) (x : Ends) → 0 < occurs e listed → ends_at old e ≡ Some x
      → ends_at new e ≡ Some (record { tail = x.head; head = x.tail })
  pub others : (e : ℕ) → occurs e listed ≡ 0 → ends_at new e ≡ ends_at old e
  pub same_nodes : (v : ℕ) → IsNode new v ↔ IsNode old v
  pub outs : (v : ℕ) → filter (λ e. occurs e listed == 0) (out_list new v) ≡ filter (λ e. occurs e listed == 0) (out_list old v)
  pub ins : (v : ℕ) → filter (λ e. occurs e listed == 0) (in_list new v) ≡ filter (λ e. occurs e listed == 0) (in_list old v)

-- an edge that is neither chosen nor in the rest, and no self-loop, leads from a to b
pub record FreeStep (g : Graph) (chosen rest : List ℕ) (a b : ℕ) : Type 0 where
  pub edge : ℕ
  pub ends : ends_at g edge ≡ Some (record { tail = a; head = b })
  pub not_chosen : occurs edge chosen ≡ 0
  pub not_rest : occurs edge rest ≡ 0
  pub no_loop : a ≢ b

-- The chosen edges close cycles with the kept ones, which have none themselves; the rest has not been looked at.
pub record Settled (g kept : Graph) (chosen rest : List ℕ) : Type 0 where
  pub same_nodes : (v : ℕ) → IsNode kept v ↔ IsNode g v
  pub sub : (a b : ℕ) → Step kept a b → FreeStep g chosen rest a b
  pub whole : (a b : ℕ) → FreeStep g chosen rest a b → Step kept a b
  pub acyclic : (a b : ℕ) → Step kept a b → Reaches (Step kept) b a → ⊥
  pub closes : (e : ℕ) → 0 < occurs e chosen → (x : Ends) × (ends_at g e ≡ Some x) × Reaches (Step kept) x.head x.tail
  pub no_loops : (e : ℕ) → 0 < occurs e chosen + occurs e rest → (x : Ends) × (ends_at g e ≡ Some x) × (x.tail ≢ x.head)
  pub once : (e : ℕ) → occurs e chosen + occurs e rest ≤ 1

-- the place of the tail is before that of the head
abbrev pub places_before : Option ℕ → Option ℕ → Bool
places_before None q = false
places_before (Some p) None = false
places_before (Some p) (Some q) = nat_lt p q

abbrev pub before : List (Option ℕ) → ℕ → ℕ → Bool
before places a b = places_before (slice_index_or places a None) (slice_index_or places b None)
