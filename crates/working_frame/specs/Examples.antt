-- The level of a small document that runs down, and that of its mirror image.
use Rattle.std.specs.Prelude.{◌≡◌, ℕ, pos, [], ◌∷◌, Some, None, false}
use Rattle.drawing_types.specs.declared.shape.Point.{Point}
use Rattle.drawing_types.specs.declared.shape.Size.{Size}
use Rattle.drawing_types.specs.declared.shape.Side.{Side}
use Rattle.drawing_types.specs.declared.shape.Side.TheVariants.{North, East, West}
use Rattle.elk_doc.specs.declared.document.Id.TheVariants.{Whole}
use Rattle.elk_doc.specs.declared.document.PortRule.TheVariants.{Free, FixedSide}
use Rattle.elk_doc.specs.declared.document.Direction.{Direction}
use Rattle.elk_doc.specs.declared.document.Direction.TheVariants.{Right, Left, Down, Up}
use Rattle.elk_doc.specs.declared.document.End.TheVariants.{Node as AtNode, Port as AtPort}
use Rattle.elk_doc.specs.declared.drawing.Placed.{Placed}
use Rattle.elk_doc.specs.Document.{Document}
use Rattle.elk_doc.specs.Examples.{point, rect, size, root, leaf, options}
use Rattle.port_order.specs.declared.children.ChildPort.{ChildPort}
use Rattle.level_model.specs.Level.{PlainLevel}
use Rattle.working_frame.specs.Rotated.{level_of}

-- a leaf with a port of 10 by 7 on its west side, from which an edge of weight 3 leads to a smaller leaf
abbrev pub document_in : Direction → Document
document_in way =
    record {
      nodes = root way ∷ leaf 1 FixedSide (size 30 50) ∷ leaf 2 Free (size 20 40) ∷ [];
      ports = record {
        id = Whole (pos 3);
        node = 1;
        size = size 10 7;
        place = point (pos 1) (pos 2);
        side = Some West;
        index = pos 5;
      } ∷ [];
      edges = record { id = Whole (pos 4); source = AtPort 0; target = AtNode 2; weight = 3 } ∷ [];
    }

abbrev pub boxes_only : Placed
boxes_only = record { boxes = rect 0 0 99 99 ∷ rect 12 12 30 50 ∷ rect 12 82 20 40 ∷ []; ports = []; sections = []; levels = [] }

-- its level: children of these sizes, and the port with its place, its anchor within it and its side
abbrev pub level_with : Direction → Size → Size → ChildPort → PlainLevel
level_with way first second port =
    record {
      children =
          record { size = first; compound = false; rule = FixedSide; direction = way; position = None; ports = port ∷ [] }
          ∷ record { size = second; compound = false; rule = Free; direction = way; position = None; ports = [] }
          ∷ [];
      edges = record { source = record { child = 0; port = Some 0 }; target = record { child = 1; port = None }; weight = 3 } ∷ [];
      spacing = (options way).spacing;
      choices = (options way).choices;
    }

abbrev pub port_with : Size → Point → ℕ → Side → ChildPort
port_with s q half side = record { size = s; place = q; half = pos half; side = Some side; index = pos 5 }

abbrev pub LevelIs : Direction → PlainLevel → Type 0
LevelIs way l = level_of (document_in way) boxes_only 0 (options way) ≡ l

-- The port lies east under a level that runs to the left, and north under one that runs down or up. Its anchor is 3 below
-- the port's top in the document, so 4 from the left where up is rotated to the right.
pub record LevelsRotate : Type 0 where
  pub right : LevelIs Right (level_with Right (size 30 50) (size 20 40) (port_with (size 10 7) (point (pos 1) (pos 2)) 3 West))
  pub left : LevelIs Left (level_with Left (size 30 50) (size 20 40) (port_with (size 10 7) (point (pos 19) (pos 2)) 3 East))
  pub down : LevelIs Down (level_with Down (size 50 30) (size 40 20) (port_with (size 7 10) (point (pos 2) (pos 1)) 3 North))
  pub up : LevelIs Up (level_with Up (size 50 30) (size 40 20) (port_with (size 7 10) (point (pos 41) (pos 1)) 4 North))
