-- A drawing that is judged.
use Rattle.std.specs.Prelude.{true, false}
use Rattle.elk_doc.specs.Fits.{Fits}
use Rattle.layout_check.specs.declared.scene.Scene.{Scene}
use Rattle.layout_check.specs.Shapes.{AreDocks, AreHeads, AreOutlines, AreSides, AreTails, AreWeights}

-- the drawing fits the document, and the lists are those of the two
pub record IsScene (s : Scene) : Type 0 where
  pub fits : Fits s.doc.now s.placed.now
  pub outlines : AreOutlines s.doc.now s.placed.now s.outlines.now
  pub sides : AreSides s.doc.now s.placed.now s.sides.now
  pub sources : AreDocks s.doc.now s.placed.now true s.sources.now
  pub targets : AreDocks s.doc.now s.placed.now false s.targets.now
  pub heads : AreHeads s.doc.now s.placed.now s.heads.now
  pub tails : AreTails s.doc.now s.placed.now s.tails.now
  pub weights : AreWeights s.doc.now s.weights.now
