-- What the tests of single levels are given, and what they say.
use Rattle.std.specs.Prelude.{ℕ, true, false, Option, MatchOption}
use Rattle.elk_doc.specs.declared.document.LevelOptions.{LevelOptions}
use Rattle.elk_doc.specs.declared.drawing.Certificate.{Certificate}
use Rattle.elk_doc.specs.declared.drawing.Placed.{Placed}
use Rattle.elk_doc.specs.Document.{Document}
use Rattle.layout_check.specs.declared.fault.Fault.{Fault}
use Rattle.layout_check.specs.Shapes.{AreOutlines, AreSides, AreDocks, AreHeads, AreTails, AreWeights}
use Rattle.layout_check.specs.Bounds.{AreRouteBounds}
use Rattle.layout_check.specs.Ends.{AreEnds}
use Rattle.layout_check.specs.declared.definition.Definition.{Definition}
use Rattle.layout_check.specs.declared.definition.Definition.TheVariants.{Route, Clear, Sharing}
use Rattle.layout_check.specs.declared.shapes.Extents.{Extents}
use Rattle.layout_check.specs.declared.shapes.Shapes.{Shapes}
use Rattle.layout_check.specs.Definitions.{Holds, FirstPlaces, Everywhere}

-- the lists are those of the drawing
pub record AreShapes (d : Document) (p : Placed) (s : Shapes) : Type 0 where
  pub outlines : AreOutlines d p s.outlines.items
  pub sides : AreSides d p s.sides.items
  pub sources : AreDocks d p true s.sources.items
  pub targets : AreDocks d p false s.targets.items
  pub heads : AreHeads d p s.heads.items
  pub tails : AreTails d p s.tails.items
  pub weights : AreWeights d s.weights.items

pub record AreExtents (d : Document) (p : Placed) (x : Extents) : Type 0 where
  pub bounds : AreRouteBounds d p x.bounds.items
  pub ends : AreEnds d p x.ends

-- what a definition needs of those before it: routes keep clear and share only where they are routes
abbrev pub Needs : Definition → Document → Placed → Type 0
Needs Clear d p = Everywhere Route d p
Needs Sharing d p = Everywhere Route d p
Needs _ d p = Unit {0}

-- the definition fails at the level of n, first at these places
pub record Fails (t : Definition) (d : Document) (p : Placed) (n : ℕ) (o : LevelOptions) (c : Certificate) (x : Fault) : Type 0 where
  pub breaks : Holds t d p n o c → ⊥
  pub places : FirstPlaces t d p n o c x

-- no fault where the definition holds at the level of n, and else the first places at which it fails
abbrev pub Judges : Definition → Document → Placed → ℕ → LevelOptions → Certificate → Option Fault → Type 0
Judges t d p n o c fault = MatchOption fault (Holds t d p n o c) (Fails t d p n o c)
