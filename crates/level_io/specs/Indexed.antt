-- The index of a document.
use Rattle.std.specs.Prelude.{◌≡◌, ℕ, ◌<◌, List, Option, length, slice_index}
use Rattle.elk_doc.specs.Document.{Document}
use Rattle.elk_doc.specs.Level.{children, edges_of, IsChild, IsEdge, place_of_child, place_of_edge}
use Rattle.working_frame.specs.Rotated.{ports_of, place_of_port}
use Rattle.level_io.specs.declared.grouping.Groups.{Groups}
use Rattle.level_io.specs.declared.index.Index.{Index}
use Rattle.level_io.specs.Grouping.{key_at, row_at, rows_in}

-- a key for each number below n
pub record AreKeys (key : ℕ → Option ℕ) (n : ℕ) (keys : List (Option ℕ)) : Type 0 where
  pub as_many : length keys ≡ n
  pub each : (i : ℕ) → i < n → key_at keys i ≡ key i

-- so many groups of these numbers, and a place for each of so many
pub record HasRows (count : ℕ) (numbers : ℕ → List ℕ) (many : ℕ) (g : Groups) : Type 0 where
  pub as_many : length g.rows.items ≡ count
  pub each : (n : ℕ) → n < count → row_at (rows_in g.rows.items) n ≡ numbers n
  pub places : length g.places.items ≡ many

-- the place of a number by a grouping
abbrev pub place_in : Groups → ℕ → ℕ
place_in g i = slice_index g.places.items i

-- for each node its children, the edges of its level and its ports, and for each of these its place
pub record IsIndex (d : Document) (x : Index) : Type 0 where
  pub children : HasRows (length d.nodes) (children d) (length d.nodes) x.children
  pub edges : HasRows (length d.nodes) (edges_of d) (length d.edges) x.edges
  pub ports : HasRows (length d.nodes) (ports_of d) (length d.ports) x.ports
  pub child_place : (n c : ℕ) → IsChild d n c → place_in x.children c ≡ place_of_child d n c
  pub edge_place : (n e : ℕ) → IsEdge d n e → place_in x.edges e ≡ place_of_edge d n e
  pub port_place : (k : ℕ) → k < length d.ports → place_in x.ports k ≡ place_of_port d k
