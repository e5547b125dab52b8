-- The children and edges of each part of a level, and the part as a level of its own.
use Rattle.std.specs.Prelude.{ℕ, List, map, slice_index}
use Rattle.level_model.specs.declared.level.LevelEdge.{LevelEdge}
use Rattle.level_model.specs.Level.{PlainLevel, child_at, edge_at}
use Rattle.network_parts.specs.Divided.{nodes_of, place_of}

-- the numbers whose key is k, in ascending order, and the i-th of them
abbrev pub members : List ℕ → ℕ → List ℕ
members keys k = nodes_of keys k

abbrev pub member_at : List ℕ → ℕ → ℕ → ℕ
member_at keys k i = slice_index (members keys k) i

-- the part of each edge is that of its source; both ends of an edge lie in one part
abbrev pub part_of_edge : List ℕ → LevelEdge → ℕ
part_of_edge numbers e = slice_index numbers e.source.child

abbrev pub edge_keys : PlainLevel → List ℕ → List ℕ
edge_keys l numbers = map (part_of_edge numbers) l.edges

-- an edge whose children are told by these places
abbrev pub placed_at : (ℕ → ℕ) → LevelEdge → LevelEdge
placed_at place e =
    record {
      source = record { child = place e.source.child; port = e.source.port };
      target = record { child = place e.target.child; port = e.target.port };
      weight = e.weight;
    }

-- the children and the edges of part k by their numbers in the level, where `numbers` has the part of each child
abbrev pub child_number : List ℕ → ℕ → ℕ → ℕ
child_number numbers k i = member_at numbers k i

abbrev pub edge_number : PlainLevel → List ℕ → ℕ → ℕ → ℕ
edge_number l numbers k j = member_at (edge_keys l numbers) k j

-- part k as a level of its own: its children and its edges in the order that they have in the level
abbrev pub part_level : PlainLevel → List ℕ → ℕ → PlainLevel
part_level l numbers k =
    record {
      children = map (child_at l) (members numbers k);
      edges = map (λ e. placed_at (place_of numbers) (edge_at l e)) (members (edge_keys l numbers) k);
      spacing = l.spacing;
      choices = l.choices;
    }
