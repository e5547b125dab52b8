-- A level that is judged.
use Rattle.std.specs.Prelude.{ℕ, ◌<◌, length}
use Rattle.elk_doc.specs.declared.document.LevelOptions.{LevelOptions}
use Rattle.elk_doc.specs.declared.drawing.Certificate.{Certificate}
use Rattle.elk_doc.specs.declared.drawing.Placed.{Placed}
use Rattle.elk_doc.specs.Document.{Document}
use Rattle.layout_check.specs.Scenes.{IsScene}
use Rattle.layout_check.specs.declared.level.Level.{Level}
use Rattle.layout_check.specs.ListedLevels.{AreLayers, AreParts}
use Rattle.layout_check.specs.FirstApart.{PartHolds}

abbrev pub doc_of : Level → Document
doc_of l = l.scene.now.doc.now

-- what is said of a document, a drawing, and a node with its options and its certificate, said of a level
abbrev pub at_level : {A : Type 1} → (Document → Placed → ℕ → LevelOptions → Certificate → A) → Level → A
at_level f l = f (doc_of l) l.scene.now.placed.now l.node l.options.now l.certificate.now

-- the level is one of a drawing that fits its document, and the lists are those of its certificate
pub record IsReadLevel (l : Level) : Type 0 where
  pub scene : IsScene l.scene.now
  pub node_in : l.node < length (doc_of l).nodes
  pub layers : AreLayers (doc_of l) l.node l.certificate.now l.layers.now
  pub parts : AreParts (doc_of l) l.node l.certificate.now l.parts.now

-- the written parts of all children are right
abbrev pub AreNumbered : Level → Type 0
AreNumbered l = (a : ℕ) → PartHolds (doc_of l) l.node l.options.now l.certificate.now a
