-- All chains in one list, and where each stands in it.
use Rattle.std.specs.Prelude.{ℕ, ◌≤◌, List, All, length, map, slice_range}
use Rattle.graph_arena.specs.declared.keys.EdgeKey.{EdgeKey}
use Rattle.long_edges.specs.declared.chains.Lane.{Lane}
use Rattle.long_edges.specs.declared.chains.Span.{Span}
use Rattle.long_edges.specs.Chains.{Table, edge_keys}

abbrev pub part_of : List EdgeKey → Span → List ℕ
part_of edges s = edge_keys (slice_range edges s.start s.end)

abbrev pub table_of : List Lane → List EdgeKey → List Span → Table
table_of lanes edges spans = record { lanes = lanes; chains = map (part_of edges) spans }

-- each span lies within the list
pub record IsWithin (edges : List EdgeKey) (s : Span) : Type 0 where
  pub ordered : s.start ≤ s.end
  pub inside : s.end ≤ length edges

abbrev pub AreWithin : List EdgeKey → List Span → Type 0
AreWithin edges spans = All (IsWithin edges) spans
