-- The faults of routes: which comes first at a level.
use Rattle.std.specs.Prelude.{◌≡◌, ℕ, ◌<◌, ◌-◌, true, false}
use Rattle.elk_doc.specs.declared.drawing.Placed.{Placed}
use Rattle.elk_doc.specs.Document.{Document}
use Rattle.elk_doc.specs.Level.{IsChild, IsEdge}
use Rattle.elk_doc.specs.Drawing.{section_of, point_at, point_count}
use Rattle.elk_doc.specs.Sides.{side_of_end}
use Rattle.elk_doc.specs.Places.{anchor_of}
use Rattle.elk_doc.specs.Route.{Route, LeavesOutward}
use Rattle.elk_doc.specs.Clear.{Clear}
use Rattle.elk_doc.specs.Sharing.{Sharing}
use Rattle.layout_check.specs.declared.fault.Fault.{Fault}
use Rattle.layout_check.specs.declared.fault.Place.TheVariants.{Node, Edge}
use Rattle.layout_check.specs.Faults.{fault_at, lone_fault, FailsFirst, FailsFirstAt}

-- what each edge of the level of n owes, each edge with each child, and each edge with each later one
abbrev pub RouteHolds : Document → Placed → ℕ → ℕ → Type 0
RouteHolds d p n e = IsEdge d n e → Route d p e

abbrev pub ChildClear : Document → Placed → ℕ → ℕ → ℕ → Type 0
ChildClear d p n e a = IsChild d n a → Clear d p e a

abbrev pub ClearHolds : Document → Placed → ℕ → ℕ → ℕ → Type 0
ClearHolds d p n e a = IsEdge d n e → IsChild d n a → Clear d p e a

abbrev pub SharingHolds : Document → Placed → ℕ → ℕ → ℕ → Type 0
SharingHolds d p n e f = IsEdge d n e → IsEdge d n f → e < f → Sharing d p e f

-- a fault names the first edge whose route fails
abbrev pub FirstRoute : Document → Placed → ℕ → Fault → Type 0
FirstRoute d p n x = (e : ℕ) × (x ≡ lone_fault (Edge e)) × FailsFirst (RouteHolds d p n) e

-- a fault names the first edge that is not clear of some child, and the first such child
abbrev pub FirstClear : Document → Placed → ℕ → Fault → Type 0
FirstClear d p n x = (e a : ℕ) × (x ≡ fault_at (Edge e) (Node a)) × FailsFirstAt (ClearHolds d p n) e a

-- a fault names the first two edges whose routes share a piece without a common dock, the lower number first
abbrev pub FirstSharing : Document → Placed → ℕ → Fault → Type 0
FirstSharing d p n x = (e f : ℕ) × (x ≡ fault_at (Edge e) (Edge f)) × FailsFirstAt (SharingHolds d p n) e f

-- the route begins and ends at its anchors
pub record IsAnchored (d : Document) (p : Placed) (e : ℕ) : Type 0 where
  pub from_source : (section_of p e).start ≡ anchor_of d p e true
  pub to_target : (section_of p e).end ≡ anchor_of d p e false

-- the route leaves its source outward, and its target, seen from the end
pub record LeavesBoth (d : Document) (p : Placed) (e : ℕ) : Type 0 where
  pub source_outward : LeavesOutward (side_of_end d p e true) (point_at p e 0) (point_at p e 1)
  pub target_outward : LeavesOutward (side_of_end d p e false) (point_at p e (point_count p e - 1)) (point_at p e (point_count p e - 2))
