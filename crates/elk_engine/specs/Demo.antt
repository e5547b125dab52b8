-- What `demo` writes.
use Rattle.std.specs.Prelude.{◌≡◌, ℕ, ℤ, pos, ◌≤ℤ◌, List, [], ◌++◌, codes}
use Rattle.std.specs.Fmt.{decimal}
use Rattle.elk_doc.specs.declared.drawing.Placed.{Placed}
use Rattle.elk_doc.specs.Document.{Document}
use Rattle.elk_doc.specs.Layering.{IsLayering, span_of}
use Rattle.elk_engine.specs.DemoDocument.{demo_document, edge_count, total_weight}

-- a drawing with nothing in it, by which every edge is oriented as it is given
abbrev pub no_drawing : Placed
no_drawing = record { boxes = []; ports = []; sections = []; levels = [] }

-- The least span of the level of n, with its edges as they are given: a layering has it, and none has less.
pub record IsLeastSpan (d : Document) (n span : ℕ) : Type 0 where
  pub layer : ℕ → ℤ
  pub layering : IsLayering d no_drawing n layer
  pub itself : span_of d no_drawing n layer ≡ pos span
  pub least : (other : ℕ → ℤ) → IsLayering d no_drawing n other → pos span ≤ℤ span_of d no_drawing n other

-- the line of a demo with this many leaves, edges, this sum of their weights and this span
abbrev pub demo_text : ℕ → ℕ → ℕ → ℕ → List ℕ
demo_text leaves edges weight span =
    codes "nodes " ++ decimal leaves ++ codes " edges " ++ decimal edges ++ codes " weight " ++ decimal weight ++ codes " span "
    ++ decimal span ++ codes "\n"

-- The text is the line of the document of this many leaves: how many leaves and edges it has, the sum of the weights of its
-- edges, and the least span of the root's level.
pub record IsDemoLine (leaves : ℕ) (text : List ℕ) : Type 0 where
  pub span : ℕ
  pub least : IsLeastSpan (demo_document leaves) 0 span
  pub text_is : text ≡ demo_text leaves (edge_count leaves) (total_weight leaves) span
