-- Names of the parts of a level: each node has the name of a node to which edges lead, whatever their direction.
use Rattle.std.specs.Prelude.{◌≡◌, ℕ, ◌<◌, ◌≤◌, ◌==◌, List, length, slice_index, if◌then◌else◌}
use Rattle.elk_doc.specs.Document.{Document}
use Rattle.elk_doc.specs.Level.{IsEdge, source_node, target_node}
use Rattle.elk_doc.specs.Apart.{InOnePart}

abbrev pub name_of : List ℕ → ℕ → ℕ
name_of names v = slice_index names v

-- names by which the edges of the level below m join their ends: the name of a node stands no later than the node, is its
-- own name, and lies in one part with the node
pub record AreNamesBelow (d : Document) (n m : ℕ) (names : List ℕ) : Type 0 where
  pub count : length names ≡ length d.nodes
  pub low : (v : ℕ) → v < length d.nodes → name_of names v ≤ v
  pub fixed : (v : ℕ) → v < length d.nodes → name_of names (name_of names v) ≡ name_of names v
  pub joined : (e : ℕ) → e < m → IsEdge d n e → name_of names (source_node d e) ≡ name_of names (target_node d e)
  pub linked : (v : ℕ) → v < length d.nodes → InOnePart d n v (name_of names v)

abbrev pub AreNames : Document → ℕ → List ℕ → Type 0
AreNames d n names = AreNamesBelow d n (length d.edges) names

-- all names that were `from` are `to`
pub record Renames (old : List ℕ) (from to : ℕ) (new : List ℕ) : Type 0 where
  pub count : length new ≡ length old
  pub each : (v : ℕ) → v < length old → name_of new v ≡ (if name_of old v == from then to else name_of old v)
