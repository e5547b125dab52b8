-- The numbers of a level's children, edges and ports, and their places in its lists.
use Rattle.std.specs.Prelude.{◌≡◌, ℕ, ◌<◌, List, length, slice_index_or}
use Rattle.elk_doc.specs.declared.document.End.{End}
use Rattle.elk_doc.specs.declared.document.LevelOptions.{LevelOptions}
use Rattle.elk_doc.specs.declared.drawing.Placed.{Placed}
use Rattle.elk_doc.specs.Document.{Document, node_of_port}
use Rattle.elk_doc.specs.Level.{children, edges_of, IsChild, IsEdge, place_of_child, place_of_edge, node_of_end, source_node, target_node}
use Rattle.elk_doc.specs.Level.{is_loop}
use Rattle.elk_doc.specs.Sound.{IsSound}
use Rattle.port_order.specs.Child as laid
use Rattle.level_model.specs.Level as plan
use Rattle.working_frame.specs.Rotated.{child_number, edge_number, ports_of, port_number, place_of_port, box_size, level_port, level_child}
use Rattle.working_frame.specs.Rotated.{level_edge, level_of, spoke_of}

-- A list of numbers with a place for each: the numbers are those that are meant, each once, and each stands at its place.
pub record AreNumbersOf (Meant : ℕ → Type 0) (place : ℕ → ℕ) (numbers : List ℕ) : Type 0 where
  pub meant : (i : ℕ) → i < length numbers → Meant (slice_index_or numbers i 0)
  pub place_at : (i : ℕ) → i < length numbers → place (slice_index_or numbers i 0) ≡ i
  pub place_in : (m : ℕ) → Meant m → place m < length numbers
  pub found : (m : ℕ) → Meant m → slice_index_or numbers (place m) 0 ≡ m

-- the port k belongs to the node n
pub record IsPortOf (d : Document) (n k : ℕ) : Type 0 where
  pub port_in : k < length d.ports
  pub of_node : node_of_port d k ≡ n

-- children, edges and ports stand at their places
pub record NumbersMatch (d : Document) (n : ℕ) : Type 0 where
  pub children : AreNumbersOf (IsChild d n) (place_of_child d n) (children d n)
  pub edges : AreNumbersOf (IsEdge d n) (place_of_edge d n) (edges_of d n)
  pub ports : AreNumbersOf (IsPortOf d n) (place_of_port d) (ports_of d n)

abbrev pub NumbersAlwaysMatch : Type 0
NumbersAlwaysMatch = (d : Document) (n : ℕ) → NumbersMatch d n

-- the parts of a level are those of the document, by their numbers
pub record IsListed (d : Document) (p : Placed) (n : ℕ) (o : LevelOptions) : Type 0 where
  pub child_count : length (level_of d p n o).children ≡ length (children d n)
  pub child : (i : ℕ) → i < length (children d n) → plan.child_at (level_of d p n o) i ≡ level_child d p o.direction (child_number d n i)
  pub port_count : (i : ℕ) → i < length (children d n)
      → length (plan.child_at (level_of d p n o) i).ports ≡ length (ports_of d (child_number d n i))
  pub port : (i j : ℕ) → i < length (children d n) → j < length (ports_of d (child_number d n i))
      → laid.port_at (plan.child_at (level_of d p n o) i) j
      ≡ level_port d o.direction (box_size p (child_number d n i)) (port_number d (child_number d n i) j)
  pub edge_count : length (level_of d p n o).edges ≡ length (edges_of d n)
  pub edge : (i : ℕ) → i < length (edges_of d n) → plan.edge_at (level_of d p n o) i ≡ level_edge d n (edge_number d n i)
  pub loop : (i : ℕ) → IsSound d → i < length (edges_of d n) → plan.is_loop (level_of d p n o) i ≡ is_loop d (edge_number d n i)

abbrev pub LevelsAreListed : Type 0
LevelsAreListed = (d : Document) (p : Placed) (n : ℕ) (o : LevelOptions) → IsListed d p n o

-- an edge of the level of n stands at children of n, and an end of it names the place of its child
pub record EndsMatch (d : Document) (n e : ℕ) : Type 0 where
  pub source : IsChild d n (source_node d e)
  pub target : IsChild d n (target_node d e)
  pub spoke : (x : End) → (spoke_of d n x).child ≡ place_of_child d n (node_of_end d x)

abbrev pub EndsAlwaysMatch : Type 0
EndsAlwaysMatch = (d : Document) (n e : ℕ) → IsSound d → IsEdge d n e → EndsMatch d n e
