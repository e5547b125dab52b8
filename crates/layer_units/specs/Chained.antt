-- The chains that a level's edges were split into, by edge.
use Rattle.std.specs.Prelude.{◌≡◌, ◌≢◌, ℕ, ◌<◌, List, [], Option, None, Some, length, slice_index_or}
use Rattle.graph_arena.specs.declared.keys.EdgeKey.{EdgeKey}
use Rattle.long_edges.specs.Chains.{Table, chain_at}
use Rattle.layer_units.specs.Layering.{Layering}
use Rattle.layer_units.specs.Numbered.{gaps_of}

abbrev pub key_in : List (Option EdgeKey) → ℕ → Option EdgeKey
key_in keys e = slice_index_or keys e None

-- the chain under a key has so many edges, and without a key there are none
abbrev pub IsLength : Table → Option EdgeKey → ℕ → Type 0
IsLength chains None n = n ≡ 0
IsLength chains (Some k) n = (chain_at chains k.at ≢ []) × (length (chain_at chains k.at) ≡ n)

-- each edge has one edge of its chain for each gap between the layers of its ends
pub record AreChained (s : Layering) (keys : List (Option EdgeKey)) (chains : Table) : Type 0 where
  pub as_many : length keys ≡ length s.level.edges
  pub each : (e : ℕ) → e < length s.level.edges → IsLength chains (key_in keys e) (gaps_of s e)
