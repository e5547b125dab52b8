-- A level of boxes in rows.
use Rattle.std.specs.Prelude.{ℕ, [], ◌∷◌, Some, None, true}
use Rattle.elk_doc.specs.declared.document.PortRule.TheVariants.{Free}
use Rattle.elk_doc.specs.declared.document.Direction.TheVariants.{Right}
use Rattle.elk_doc.specs.declared.document.LevelOptions.{LevelOptions}
use Rattle.elk_doc.specs.declared.drawing.Certificate.{Certificate}
use Rattle.elk_doc.specs.declared.drawing.Placed.{Placed}
use Rattle.elk_doc.specs.Document.{Document}
use Rattle.elk_doc.specs.Examples.{rect, size, root, leaf, options}
use Rattle.elk_doc.specs.Apart.{Apart}
use Rattle.elk_doc.specs.Fitted.{Fitted}
use Rattle.elk_doc.specs.Drawn.{Drawn}

abbrev pub box_options : LevelOptions
box_options = record (options Right) { boxes = true }

-- a wide box, and two small ones
abbrev pub box_level : Document
box_level =
    record {
      nodes = record (root Right) { level = Some box_options } ∷ leaf 1 Free (size 100 20) ∷ leaf 2 Free (size 30 30) ∷ leaf 3
          Free (size 30 30) ∷ [];
      ports = [];
      edges = [];
    }

abbrev pub no_layers : Certificate
no_layers = record { layers = 0 ∷ 0 ∷ 0 ∷ []; reversed = []; flow = []; span = 0; parts = [] }

-- the wide box in a row of its own, and the small ones in a row below, of which the last stands here
abbrev pub boxes_with : ℕ → Placed
boxes_with right =
    record {
      boxes = rect 0 0 124 94 ∷ rect 12 12 100 20 ∷ rect 12 52 30 30 ∷ rect right 52 30 30 ∷ [];
      ports = [];
      sections = [];
      levels = Some no_layers ∷ None ∷ None ∷ None ∷ [];
    }

abbrev pub boxes_drawn : Placed
boxes_drawn = boxes_with 62

pub record BoxLevelDrawn : Type 0 where
  pub drawn : Drawn box_level boxes_drawn
  pub fitted : Fitted box_level boxes_drawn

-- the last box one nearer to its neighbour
pub record BoxLevelSpoilt : Type 0 where
  pub near : Apart box_level (boxes_with 61) 0 box_options no_layers → ⊥
