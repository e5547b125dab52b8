-- The drawing of a level, as one of layers or of boxes.
use Rattle.std.specs.Prelude.{◌≡◌, ℕ, List, [], map, IsFalse, IsTrue}
use Rattle.drawing_types.specs.declared.shape.Point.{Point}
use Rattle.elk_doc.specs.declared.document.LevelOptions.{LevelOptions}
use Rattle.elk_doc.specs.declared.drawing.Certificate.{Certificate}
use Rattle.level_model.specs.declared.level.LevelIn.{LevelIn}
use Rattle.level_draw.specs.declared.drawing.LevelOut.{LevelOut}
use Rattle.level_layout.specs.Layout.{IsLaidOut}
use Rattle.level_split.specs.declared.boxes_layout.BoxesOut.{BoxesOut}
use Rattle.level_split.specs.Boxes.{HasRoom, IsBoxesLayout}
use Rattle.level_split.specs.declared.layout.PartsOut.{PartsOut}
use Rattle.level_split.specs.Parts.{IsPartsLayout}
use Rattle.level_io.specs.declared.figure.LevelFigure.{LevelFigure}
use Rattle.level_io.specs.Figure.{figure_of}

-- a layer for each box, and nothing reversed
abbrev pub layers_for : List Point → List ℕ
layers_for boxes = map (λ _. 0) boxes

abbrev pub flat_certificate : List Point → Certificate
flat_certificate boxes = record { layers = layers_for boxes; reversed = []; flow = []; span = 0; parts = [] }

-- the drawing of a level of boxes
abbrev pub figure_of_boxes : BoxesOut → LevelFigure
figure_of_boxes v = record { boxes = v.boxes; ports = v.ports; sections = []; certificate = flat_certificate v.boxes; extent = v.extent }

-- what is left of a layout
pub record IsLayered (level : LevelIn) (v : LevelFigure) : Type 0 where
  pub out : LevelOut
  pub laid_out : IsLaidOut level out
  pub is : v ≡ figure_of out

-- what is left of a layout as boxes
pub record IsBoxed (level : LevelIn) (o : LevelOptions) (v : LevelFigure) : Type 0 where
  pub out : BoxesOut
  pub layout : IsBoxesLayout level o.direction out
  pub room : HasRoom out
  pub is : v ≡ figure_of_boxes out

-- the drawing of a level whose parts stand apart
abbrev pub figure_of_parts : PartsOut → LevelFigure
figure_of_parts v = record { boxes = v.boxes; ports = v.ports; sections = v.sections; certificate = v.certificate; extent = v.extent }

-- what is left of a layout part by part
pub record IsParted (level : LevelIn) (o : LevelOptions) (v : LevelFigure) : Type 0 where
  pub out : PartsOut
  pub laid_out : IsPartsLayout level o.component out
  pub is : v ≡ figure_of_parts out

-- a level of boxes is laid out as one, a level that is split part by part, and each other level in layers
pub record IsFigureIn (level : LevelIn) (o : LevelOptions) (v : LevelFigure) : Type 0 where
  pub layered : IsFalse o.boxes → IsFalse o.split → IsLayered level v
  pub parted : IsFalse o.boxes → IsTrue o.split → IsParted level o v
  pub boxed : IsTrue o.boxes → IsBoxed level o v
