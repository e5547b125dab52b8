-- The definitions of a good drawing: where each holds, and where it fails first.
use Rattle.std.specs.Prelude.{◌≢◌, ℕ, ◌<◌, List, [], ◌∷◌, slice_index_or}
use Rattle.elk_doc.specs.declared.document.LevelOptions.{LevelOptions}
use Rattle.elk_doc.specs.declared.drawing.Certificate.{Certificate}
use Rattle.elk_doc.specs.declared.drawing.Placed.{Placed}
use Rattle.elk_doc.specs.Document.{Document}
use Rattle.elk_doc.specs.Level.{IsChild, IsEdge}
use Rattle.elk_doc.specs.Apart as apart
use Rattle.elk_doc.specs.Inside as inside
use Rattle.elk_doc.specs.PortsKept as ports
use Rattle.elk_doc.specs.Route as route
use Rattle.elk_doc.specs.Clear as clear
use Rattle.elk_doc.specs.Sharing as sharing
use Rattle.elk_doc.specs.Reversed as reversed
use Rattle.elk_doc.specs.Layering as layering
use Rattle.elk_doc.specs.FlowProof as flow
use Rattle.layout_check.specs.declared.fault.Fault.{Fault}
use Rattle.layout_check.specs.ListedLevels.{IsLevel}
use Rattle.layout_check.specs.FirstApart.{FirstApart}
use Rattle.layout_check.specs.FirstInside.{FirstInside}
use Rattle.layout_check.specs.FirstPorts.{FirstPorts}
use Rattle.layout_check.specs.FirstRoutes.{FirstRoute, FirstClear, FirstSharing}
use Rattle.layout_check.specs.FirstLevels.{FirstReversed, FirstLayering, FirstFlow}
use Rattle.layout_check.specs.declared.definition.Definition.{Definition}
use Rattle.layout_check.specs.declared.definition.Definition.TheVariants.{Apart, Inside, PortsKept, Route, Clear, Sharing, Reversed}
use Rattle.layout_check.specs.declared.definition.Definition.TheVariants.{Layering, FlowProof}

-- the definitions in the order of their numbers, which begin at 6
abbrev pub definitions : List Definition
definitions = Apart ∷ Inside ∷ PortsKept ∷ Route ∷ Clear ∷ Sharing ∷ Reversed ∷ Layering ∷ FlowProof ∷ []

abbrev pub definition_at : ℕ → Definition
definition_at place = slice_index_or definitions place Apart

-- the definition holds at the level of n, with its options and its certificate
abbrev pub Holds : Definition → Document → Placed → ℕ → LevelOptions → Certificate → Type 0
Holds Apart d p n o c = apart.Apart d p n o c
Holds Inside d p n o c = inside.Inside d p n o
Holds PortsKept d p n o c = ports.PortsKept d p n
Holds Route d p n o c = (e : ℕ) → IsEdge d n e → route.Route d p e
Holds Clear d p n o c = (e a : ℕ) → IsEdge d n e → IsChild d n a → clear.Clear d p e a
Holds Sharing d p n o c = (e f : ℕ) → IsEdge d n e → IsEdge d n f → e ≢ f → sharing.Sharing d p e f
Holds Reversed d p n o c = reversed.Reversed d n c
Holds Layering d p n o c = layering.Layering d p n c
Holds FlowProof d p n o c = flow.FlowProof d p n c

-- The places at which the definition fails first at the level of n: of the first sentence that fails, the first place, and
-- with it the first second place.
abbrev pub FirstPlaces : Definition → Document → Placed → ℕ → LevelOptions → Certificate → Fault → Type 0
FirstPlaces Apart d p n o c x = FirstApart d p n o c x
FirstPlaces Inside d p n o c x = FirstInside d p n o x
FirstPlaces PortsKept d p n o c x = FirstPorts d p n x
FirstPlaces Route d p n o c x = FirstRoute d p n x
FirstPlaces Clear d p n o c x = FirstClear d p n x
FirstPlaces Sharing d p n o c x = FirstSharing d p n x
FirstPlaces Reversed d p n o c x = FirstReversed d n c x
FirstPlaces Layering d p n o c x = FirstLayering d p n c x
FirstPlaces FlowProof d p n o c x = FirstFlow d p n c x

-- the definition holds at the level of n, if n has one, and at every level
abbrev pub HoldsAt : Definition → Document → Placed → ℕ → Type 0
HoldsAt t d p n = (o : LevelOptions) (c : Certificate) → IsLevel d p n o c → Holds t d p n o c

abbrev pub Everywhere : Definition → Document → Placed → Type 0
Everywhere t d p = (n : ℕ) → HoldsAt t d p n

-- the node n has a level, and the definition fails there, first at these places
pub record FailsAt (t : Definition) (d : Document) (p : Placed) (n : ℕ) (x : Fault) : Type 0 where
  pub options : LevelOptions
  pub certificate : Certificate
  pub level : IsLevel d p n options certificate
  pub fails : Holds t d p n options certificate → ⊥
  pub places : FirstPlaces t d p n options certificate x

-- the definition fails at the level of some node, first at these places, and holds at the levels of all nodes before
pub record FailsFirst (t : Definition) (d : Document) (p : Placed) (x : Fault) : Type 0 where
  pub node : ℕ
  pub here : FailsAt t d p node x
  pub earlier : (m : ℕ) → m < node → HoldsAt t d p m
