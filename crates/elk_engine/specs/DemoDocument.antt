-- The document of `demo n`: n leaves, a tree of edges over their numbers, and an edge from each number to three times it.
use Rattle.std.specs.Prelude.{◌≡◌, ℕ, ◌+◌, ◌-◌, ◌*◌, ◌/◌, ◌%◌, ◌++◌, ◌<◌, pos, List, [], ◌∷◌, map, sum, sum_by, length, Some, None, IsFalse}
use Rattle.std.specs.List.{range_with_len}
use Rattle.elk_doc.specs.declared.document.Id.TheVariants.{Whole}
use Rattle.elk_doc.specs.declared.document.PortRule.TheVariants.{Free}
use Rattle.elk_doc.specs.declared.document.Direction.TheVariants.{Right}
use Rattle.elk_doc.specs.declared.document.Placing.TheVariants.{BrandesKoepf}
use Rattle.elk_doc.specs.declared.document.LevelOptions.{LevelOptions}
use Rattle.elk_doc.specs.declared.document.Node.{Node}
use Rattle.elk_doc.specs.declared.document.Edge.{Edge}
use Rattle.elk_doc.specs.declared.document.End.TheVariants.{Node as AtNode}
use Rattle.elk_doc.specs.Defaults.{default_options}
use Rattle.elk_doc.specs.Document.{Document}
use Rattle.drawing_types.specs.Shapes.{no_size}
use Rattle.elk_doc.specs.Level.{level_of_edge, source_node, target_node}

-- the root, which has no id
abbrev pub demo_root : Node
demo_root = record { id = None; parent = None; size = no_size; rule = Free; position = None; level = Some (default_options Right) }

-- the leaf i, with its number as its id: 30 wide, and 20, 30, 40 or 50 high in turn
abbrev pub demo_leaf : ℕ → Node
demo_leaf i =
    record {
      id = Some (Whole (pos i));
      parent = Some 0;
      size = record { width = pos 30; height = pos (20 + 10 * (i % 4)) };
      rule = Free;
      position = None;
      level = None;
    }

-- the edge to the leaf i from the leaf of half its number
abbrev pub half_edge : ℕ → Edge
half_edge i = record { id = Whole (pos i); source = AtNode (i / 2); target = AtNode i; weight = 1 }

-- the weight of the edge from the leaf j to the leaf of three times its number: 1, 2, 3 or 4 in turn
abbrev pub triple_weight : ℕ → ℕ
triple_weight j = 1 + j % 4

-- that edge, in the document of n leaves
abbrev pub triple_edge : ℕ → ℕ → Edge
triple_edge n j = record { id = Whole (pos (n + j)); source = AtNode j; target = AtNode (3 * j); weight = triple_weight j }

-- the root, and the leaves 1 to n as its children
abbrev pub demo_nodes : ℕ → List Node
demo_nodes n = demo_root ∷ map demo_leaf (range_with_len 1 n)

-- the edges to the leaves 2 to n
abbrev pub half_edges : ℕ → List Edge
half_edges n = map half_edge (range_with_len 2 (n - 1))

-- the edges from those leaves of which three times the number is one too
abbrev pub triple_edges : ℕ → List Edge
triple_edges n = map (triple_edge n) (range_with_len 1 (n / 3))

-- the document of `demo n`
abbrev pub demo_document : ℕ → Document
demo_document n = record { nodes = demo_nodes n; ports = []; edges = half_edges n ++ triple_edges n }

-- how many edges it has
abbrev pub edge_count : ℕ → ℕ
edge_count n = n - 1 + n / 3

-- the sum of the weights of its edges
abbrev pub total_weight : ℕ → ℕ
total_weight n = n - 1 + sum (map triple_weight (range_with_len 1 (n / 3)))

-- the counts say how many edges the document has, and what their weights sum up to
pub record IsCounted (n : ℕ) : Type 0 where
  pub nodes : length (demo_document n).nodes ≡ n + 1
  pub edges : length (demo_document n).edges ≡ edge_count n
  pub weight : sum_by (λ e. e.weight) (demo_document n).edges ≡ total_weight n

-- the edge e belongs to the root's level, and leads to a leaf of a greater number
pub record LeadsOn (d : Document) (e : ℕ) : Type 0 where
  pub level : level_of_edge d e ≡ 0
  pub onward : source_node d e < target_node d e

-- a level that is whole, layered and placed by alignment
pub record IsPlainLevel (o : LevelOptions) : Type 0 where
  pub whole : IsFalse o.split
  pub layered : IsFalse o.boxes
  pub aligned : o.placing ≡ BrandesKoepf
