-- Sides, anchors and docks in a document's drawing are those of a level, in the frame of its direction.
use Rattle.std.specs.Prelude.{◌≡◌, ◌↔◌, ℕ, ◌<◌, Bool, true, false, Some, map, length, IsTrue}
use Rattle.drawing_types.specs.declared.shape.Point.{Point}
use Rattle.drawing_types.specs.declared.shape.Dock.{Dock}
use Rattle.elk_doc.specs.declared.document.LevelOptions.{LevelOptions}
use Rattle.elk_doc.specs.declared.drawing.Certificate.{Certificate}
use Rattle.elk_doc.specs.declared.drawing.Placed.{Placed}
use Rattle.elk_doc.specs.Document.{Document, node_at}
use Rattle.elk_doc.specs.Level.{children, edges_of}
use Rattle.elk_doc.specs.Drawing.{certificate_of, is_listed, box_of}
use Rattle.elk_doc.specs.Sides.{side_of_port, side_of_end, end_node}
use Rattle.elk_doc.specs.Places.{dock_of as document_dock, anchor_of as document_anchor}
use Rattle.elk_doc.specs.Fits.{LeavesKept}
use Rattle.elk_doc.specs.Sound.{IsSound}
use Rattle.drawing_laws.specs.Rotating.{rotated_side, rotated_point}
use Rattle.drawing_laws.specs.Frames.{rotated_dock}
use Rattle.level_model.specs.Level.{PlainLevel, PlainPlan, Orders, end_at, holds, dock_of}
use Rattle.level_model.specs.FromPlan.{LevelDrawing, section_at, anchor}
use Rattle.level_model.specs.PortsKept.{ArePortsPlaced, port_side}
use Rattle.working_frame.specs.Rotated.{level_of, child_number, edge_number, port_number, ports_of}
use Rattle.working_frame.specs.Drawing.{IsRotatedDrawing, plus}

-- A document's drawing at the level of n, which has these options, comes from a drawing of that level: leaves keep their
-- sizes, and the edges of the level that the certificate lists are those that the plan reverses.
pub record IsFromLevel (d : Document) (p : Placed) (n : ℕ) (o : LevelOptions) (plan : PlainPlan) (v : LevelDrawing)
    (by : Point) : Type 0 where
  pub sound : IsSound d
  pub options : (node_at d n).level ≡ Some o
  pub leaves : LeavesKept d p
  pub drawn : IsRotatedDrawing d p n o.direction v by
  pub certificate : Certificate
  pub written : certificate_of p n ≡ Some certificate
  pub numbered : certificate.reversed ≡ map (edge_number d n) plan.reversed
  pub reversed_in : (i : ℕ) → IsTrue (holds plan.reversed i) → i < length (edges_of d n)

-- Ports and children stand where the plan places them, and sections lead from anchor to anchor.
pub record IsAnchored (l : PlainLevel) (plan : PlainPlan) (orders : Orders) (v : LevelDrawing) : Type 0 where
  pub placed : ArePortsPlaced l plan orders v
  pub from_source : (i : ℕ) → i < length l.edges → (section_at v i).start ≡ anchor l plan orders v (end_at i true)
  pub to_target : (i : ℕ) → i < length l.edges → (section_at v i).end ≡ anchor l plan orders v (end_at i false)

-- A port of the level lies on the side of the document's port there, in the frame.
abbrev pub PortSideRotates : Document → Placed → ℕ → LevelOptions → PlainPlan → ℕ → ℕ → Type 0
PortSideRotates d p n o plan i j =
    rotated_side o.direction (side_of_port d p (port_number d (child_number d n i) j)) ≡ port_side (level_of d p n o) plan i j

-- So does an end of an edge, under any orders of the level's sides.
abbrev pub EndSideRotates : Document → Placed → ℕ → LevelOptions → PlainPlan → Orders → ℕ → Bool → Type 0
EndSideRotates d p n o plan orders i t =
    rotated_side o.direction (side_of_end d p (edge_number d n i) t) ≡ (dock_of (level_of d p n o) plan orders (end_at i t)).side

-- the sides of ports and ends, and which edges are reversed
pub record SidesRotateBack : Type 0 where
  pub listed : (d : Document) (p : Placed) (n : ℕ) (o : LevelOptions) (plan : PlainPlan) (v : LevelDrawing) (by : Point)
      → IsFromLevel d p n o plan v by
      → (i : ℕ) → i < length (edges_of d n) → is_listed d p (edge_number d n i) ≡ holds plan.reversed i
  pub port : (d : Document) (p : Placed) (n : ℕ) (o : LevelOptions) (plan : PlainPlan) (v : LevelDrawing) (by : Point)
      → IsFromLevel d p n o plan v by
      → (i j : ℕ) → i < length (children d n) → j < length (ports_of d (child_number d n i)) → PortSideRotates d p n o plan i j
  pub end : (d : Document) (p : Placed) (n : ℕ) (o : LevelOptions) (plan : PlainPlan) (v : LevelDrawing) (by : Point)
      → IsFromLevel d p n o plan v by
      → (orders : Orders) (i : ℕ) (t : Bool) → i < length (edges_of d n) → EndSideRotates d p n o plan orders i t

-- a dock of the level, at the document's number of its child
abbrev pub numbered_dock : Document → ℕ → Dock → Dock
numbered_dock d n k = record { node = child_number d n k.node; side = k.side; offset = k.offset }

-- the anchor of an end in the document is the level's, moved, in the frame
abbrev pub AnchorRotates : Document → Placed → ℕ → LevelOptions → PlainPlan → Orders → LevelDrawing → Point → ℕ → Bool → Type 0
AnchorRotates d p n o plan orders v by i t =
    rotated_point o.direction (document_anchor d p (edge_number d n i) t) ≡ plus by (anchor (level_of d p n o) plan orders v (end_at i t))

-- its dock in the document is the level's, in the frame
abbrev pub DockRotates : Document → Placed → ℕ → LevelOptions → PlainPlan → Orders → ℕ → Bool → Type 0
DockRotates d p n o plan orders i t =
    rotated_dock o.direction (box_of p (end_node d (edge_number d n i) t)) (document_dock d p (edge_number d n i) t)
    ≡ numbered_dock d n (dock_of (level_of d p n o) plan orders (end_at i t))

-- two ends have one dock in the document exactly where they have one in the level
abbrev pub DocksAgree : Document → Placed → ℕ → LevelOptions → PlainPlan → Orders → ℕ → Bool → ℕ → Bool → Type 0
DocksAgree d p n o plan orders i s j t =
    (document_dock d p (edge_number d n i) s ≡ document_dock d p (edge_number d n j) t)
    ↔ (dock_of (level_of d p n o) plan orders (end_at i s) ≡ dock_of (level_of d p n o) plan orders (end_at j t))

-- anchors and docks
pub record DocksRotateBack : Type 0 where
  pub anchor : (d : Document) (p : Placed) (n : ℕ) (o : LevelOptions) (plan : PlainPlan) (orders : Orders) (v : LevelDrawing) (by : Point)
      → IsFromLevel d p n o plan v by → IsAnchored (level_of d p n o) plan orders v
      → (i : ℕ) (t : Bool) → i < length (edges_of d n) → AnchorRotates d p n o plan orders v by i t
  pub dock : (d : Document) (p : Placed) (n : ℕ) (o : LevelOptions) (plan : PlainPlan) (orders : Orders) (v : LevelDrawing) (by : Point)
      → IsFromLevel d p n o plan v by → IsAnchored (level_of d p n o) plan orders v
      → (i : ℕ) (t : Bool) → i < length (edges_of d n) → DockRotates d p n o plan orders i t
  pub same : (d : Document) (p : Placed) (n : ℕ) (o : LevelOptions) (plan : PlainPlan) (orders : Orders) (v : LevelDrawing) (by : Point)
      → IsFromLevel d p n o plan v by → IsAnchored (level_of d p n o) plan orders v
      → (i j : ℕ) (s t : Bool) → i < length (edges_of d n) → j < length (edges_of d n) → DocksAgree d p n o plan orders i s j t
