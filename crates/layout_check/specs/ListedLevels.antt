-- The level of a node in a document and its drawing, and what is written of it, by node.
use Rattle.std.specs.Prelude.{◌≡◌, ℕ, ◌<◌, List, length, Some}
use Rattle.elk_doc.specs.declared.document.LevelOptions.{LevelOptions}
use Rattle.elk_doc.specs.declared.drawing.Certificate.{Certificate}
use Rattle.elk_doc.specs.declared.drawing.Placed.{Placed}
use Rattle.elk_doc.specs.Document.{Document, node_at}
use Rattle.elk_doc.specs.Drawing.{certificate_of, layer_in, part_in}
use Rattle.layout_check.specs.Shapes.{Lists}

-- the node n has a level with these options and this certificate
pub record IsLevel (d : Document) (p : Placed) (n : ℕ) (o : LevelOptions) (c : Certificate) : Type 0 where
  pub node_in : n < length d.nodes
  pub options : (node_at d n).level ≡ Some o
  pub certificate : certificate_of p n ≡ Some c

-- the written layers and parts of all nodes, as those of a level
abbrev pub AreLayers : Document → ℕ → Certificate → List ℕ → Type 0
AreLayers d n c xs = Lists (layer_in d n c) (length d.nodes) xs

abbrev pub AreParts : Document → ℕ → Certificate → List ℕ → Type 0
AreParts d n c xs = Lists (part_in d n c) (length d.nodes) xs
