-- A level split into its parts.
use Rattle.std.specs.Prelude.{◌≡◌, ◌<◌, ℕ, List, [], pos, None, length, map, slice_index, slice_index_or}
use Rattle.elk_doc.specs.declared.document.Placing.TheVariants.{BrandesKoepf}
use Rattle.elk_doc.specs.Defaults.{default_choices}
use Rattle.level_model.specs.Conditions.{plain_level}
use Rattle.level_model.specs.Level.{child_at, edge_at}
use Rattle.level_model.specs.declared.level.LevelIn.{LevelIn}
use Rattle.network_parts.specs.Dividing.{AreCounted, ArePlaces}
use Rattle.level_parts.specs.declared.levels.PartLevel.{PartLevel}
use Rattle.level_parts.specs.declared.levels.PartLevels.{PartLevels}
use Rattle.level_parts.specs.declared.levels.Seats.{Seats}
use Rattle.level_parts.specs.Divided.{edge_keys, members, part_level, placed_at}
use Rattle.level_parts.specs.Parts.{AreParts}

-- a level without children, which stands past the end of a list of parts
abbrev pub no_level : LevelIn
no_level =
    record {
      children = [];
      edges = [];
      spacing = record {
        node_node = pos 1;
        edge_node = pos 1;
        edge_edge = pos 1;
        node_layers = pos 1;
        edge_node_layers = pos 1;
        edge_edge_layers = pos 1;
      };
      fixed = None;
      placing = BrandesKoepf;
      choices = default_choices;
    }

abbrev pub part_at : List PartLevel → ℕ → PartLevel
part_at parts k = slice_index_or parts k (record { level = no_level; children = []; edges = [] })

-- a part of the level from the numbers of its children and edges, and the places of children
pub record IsPartFrom (level : LevelIn) (places children edges : List ℕ) (v : PartLevel) : Type 0 where
  pub children_are : v.children ≡ children
  pub edges_are : v.edges ≡ edges
  pub has_children : v.level.children ≡ map (child_at (plain_level level)) children
  pub has_edges : v.level.edges ≡ map (λ e. placed_at (slice_index places) (edge_at (plain_level level) e)) edges
  pub spacing : v.level.spacing ≡ level.spacing
  pub fixed : v.level.fixed ≡ level.fixed
  pub placing : v.level.placing ≡ level.placing
  pub choices : v.level.choices ≡ level.choices

-- part k of the level, with the options of the whole
abbrev pub part_in : LevelIn → List ℕ → ℕ → LevelIn
part_in level numbers k =
    record {
      children = (part_level (plain_level level) numbers k).children;
      edges = (part_level (plain_level level) numbers k).edges;
      spacing = level.spacing;
      fixed = level.fixed;
      placing = level.placing;
      choices = level.choices;
    }

-- the numbers of the part's children and edges, and the part
pub record IsPartLevel (level : LevelIn) (numbers : List ℕ) (k : ℕ) (v : PartLevel) : Type 0 where
  pub children : v.children ≡ members numbers k
  pub edges : v.edges ≡ members (edge_keys (plain_level level) numbers) k
  pub level_is : v.level ≡ part_in level numbers k

-- the first n parts of the level
pub record ArePartLevels (level : LevelIn) (numbers : List ℕ) (n : ℕ) (parts : List PartLevel) : Type 0 where
  pub as_many : length parts ≡ n
  pub each : (k : ℕ) → k < n → IsPartLevel level numbers k (part_at parts k)

-- these are the parts of things, and their places there
pub record AreSeats (keys : List ℕ) (v : Seats) : Type 0 where
  pub parts : v.parts ≡ keys
  pub places : ArePlaces keys (length keys) v.places

-- The parts of a level: the part of each child and each edge, its place there, and each part as a level of its own.
pub record IsSplit (level : LevelIn) (v : PartLevels) : Type 0 where
  pub numbers : AreParts (plain_level level) v.children.parts
  pub count : AreCounted v.children.parts (length v.children.parts) (length v.parts)
  pub children : AreSeats v.children.parts v.children
  pub edges : AreSeats (edge_keys (plain_level level) v.children.parts) v.edges
  pub parts : ArePartLevels level v.children.parts (length v.parts) v.parts
