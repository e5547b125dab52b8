-- The faults of ports and of ends at nodes: which comes first at a level.
use Rattle.std.specs.Prelude.{◌≡◌, ◌≢◌, ◌⊎◌, ℕ, ◌<◌, Bool, pos, ◌<ℤ◌, IsTrue, length}
use Rattle.drawing_types.specs.declared.shape.Side.{Side}
use Rattle.elk_doc.specs.declared.document.PortRule.TheVariants.{FixedOrder}
use Rattle.elk_doc.specs.declared.document.End.TheVariants.{Node as AtNode}
use Rattle.elk_doc.specs.declared.drawing.Placed.{Placed}
use Rattle.elk_doc.specs.Document.{Document, node_at, node_of_port}
use Rattle.elk_doc.specs.Drawing.{box_of}
use Rattle.elk_doc.specs.Level.{IsChild, IsEdge}
use Rattle.elk_doc.specs.Sides.{side_of_end, end_of}
use Rattle.elk_doc.specs.Sound.{IsSound}
use Rattle.elk_doc.specs.PortsKept.{KeepsPort, KeepsEnd, AreInOrder, side_length, Spot, a_port, an_end, IsSpread, spread_count, spot_offset}
use Rattle.elk_doc.specs.PortsKept.{PortsKept}
use Rattle.layout_check.specs.declared.fault.Fault.{Fault}
use Rattle.layout_check.specs.declared.fault.Place.TheVariants.{Port, Edge}
use Rattle.layout_check.specs.Faults.{lone_fault, FailsFirst}
use Rattle.layout_check.specs.Spots.{IsRoomy}

-- the ports of m count with the level of n: m is a child of n, or both are the root
abbrev pub CountsWith : Document → ℕ → ℕ → Type 0
CountsWith d n m = IsChild d n m ⊎ ((n ≡ 0) × (m ≡ 0))

-- where a side of m is longer than the number of its spread spots, these two have different offsets there
abbrev pub SpotsDiffer : Document → Placed → ℕ → Spot → Spot → Type 0
SpotsDiffer d p m x y =
    (s : Side) → (pos (spread_count d p m s) <ℤ side_length s (box_of p m)) → IsSpread d p m s x → IsSpread d p m s y
    → spot_offset d p m s x ≢ spot_offset d p m s y

-- under a fixed order the ports j and k of m stand in it
abbrev pub OrderHolds : Document → Placed → ℕ → ℕ → ℕ → Type 0
OrderHolds d p m j k = (node_at d m).rule ≡ FixedOrder → AreInOrder d p j k

-- two ports of m
pub record PortPair (d : Document) (p : Placed) (m j k : ℕ) : Type 0 where
  pub forth : OrderHolds d p m j k
  pub back : OrderHolds d p m k j
  pub differ : SpotsDiffer d p m (a_port j) (a_port k)

-- a port alone, and with each port of the same node and lower number
pub record PortKept (d : Document) (p : Placed) (k : ℕ) : Type 0 where
  pub alone : KeepsPort d p k
  pub lower : (j : ℕ) → j < k → node_of_port d j ≡ node_of_port d k → PortPair d p (node_of_port d k) j k

-- what a port owes to one other of a node, and to all of its node with lower numbers
abbrev pub PairHolds : Document → Placed → ℕ → ℕ → ℕ → Type 0
PairHolds d p m j k = node_of_port d j ≡ m → PortPair d p m j k

abbrev pub LowerHold : Document → Placed → ℕ → Type 0
LowerHold d p k = (j : ℕ) → j < k → PairHolds d p (node_of_port d k) j k

abbrev pub PortHolds : Document → Placed → ℕ → ℕ → Type 0
PortHolds d p n k = k < length d.ports → CountsWith d n (node_of_port d k) → PortKept d p k

-- an end at the node m with each port of m, each end of an edge of lower number, and the edge's other end
pub record EndApart (d : Document) (p : Placed) (m e : ℕ) (at_source : Bool) : Type 0 where
  pub ports : (k : ℕ) → k < length d.ports → node_of_port d k ≡ m → SpotsDiffer d p m (a_port k) (an_end e at_source)
  pub lower : (f : ℕ) (t : Bool) → f < e → SpotsDiffer d p m (an_end f t) (an_end e at_source)
  pub other : (t : Bool) → t ≢ at_source → SpotsDiffer d p m (an_end e t) (an_end e at_source)

-- an end of an edge at the node m alone, and with all of these
pub record EndKept (d : Document) (p : Placed) (m e : ℕ) (at_source : Bool) : Type 0 where
  pub alone : KeepsEnd d p m e at_source
  pub apart : EndApart d p m e at_source

-- what an end at the node m owes to each port, to all of them, to each edge, and to the edges of lower numbers
abbrev pub PortClear : Document → Placed → ℕ → ℕ → Bool → ℕ → Type 0
PortClear d p m e at_source k = node_of_port d k ≡ m → SpotsDiffer d p m (a_port k) (an_end e at_source)

abbrev pub PortsClear : Document → Placed → ℕ → ℕ → Bool → Type 0
PortsClear d p m e at_source = (k : ℕ) → k < length d.ports → PortClear d p m e at_source k

abbrev pub EdgeClear : Document → Placed → ℕ → ℕ → Bool → ℕ → Type 0
EdgeClear d p m e at_source f = (t : Bool) → SpotsDiffer d p m (an_end f t) (an_end e at_source)

abbrev pub EdgesClear : Document → Placed → ℕ → ℕ → Bool → Type 0
EdgesClear d p m e at_source = (f : ℕ) → f < e → EdgeClear d p m e at_source f

-- the side of an end at the node m has room for its spread spots
abbrev pub HasRoom : Document → Placed → ℕ → ℕ → Bool → Type 0
HasRoom d p m e at_source = IsRoomy d p m (side_of_end d p e at_source)

-- what an answer tells of a fact that was asked for as if there were room: yes that it holds, and no, where there is, that it
-- does not
pub record Tells (roomy : Bool) (Room Fact : Type 0) (answer : Bool) : Type 0 where
  pub holds : IsTrue answer → Fact
  pub fails : (IsTrue roomy → Room) → Fact → IsTrue answer

-- what one end of an edge owes if it stands at a node
abbrev pub EndHolds : Document → Placed → ℕ → Bool → Type 0
EndHolds d p e at_source = (m : ℕ) → end_of d e at_source ≡ AtNode m → EndKept d p m e at_source

abbrev pub EndsHold : Document → Placed → ℕ → ℕ → Type 0
EndsHold d p n e =
    IsEdge d n e → (m : ℕ) (at_source : Bool) → end_of d e at_source ≡ AtNode m → EndKept d p m e at_source

-- a fault names the first port that is not kept, and else the first edge with an end at a node that is not
abbrev pub FirstPorts : Document → Placed → ℕ → Fault → Type 0
FirstPorts d p n x =
    ((k : ℕ) × (x ≡ lone_fault (Port k)) × FailsFirst (PortHolds d p n) k)
    ⊎ (((k : ℕ) → PortHolds d p n k) × ((e : ℕ) × (x ≡ lone_fault (Edge e)) × FailsFirst (EndsHold d p n) e))

-- a fault that is named breaks PortsKept
abbrev pub FaultBreaksPorts : Type 0
FaultBreaksPorts =
    (d : Document) (p : Placed) (n : ℕ) (x : Fault) → IsSound d → FirstPorts d p n x → PortsKept d p n → ⊥
