-- Columns, gaps, traces, boxes, ports and sections come from the plan.
use Rattle.std.specs.Prelude.{◌≡◌, ℕ, ◌+◌, ◌<◌, true, false, List, [], ℤ, pos, ◌+ℤ◌, ◌-ℤ◌, length, slice_index_or}
use Rattle.drawing_types.specs.declared.shape.Point.{Point}
use Rattle.drawing_types.specs.declared.shape.Size.{Size}
use Rattle.drawing_types.specs.declared.section.Section.{Section}
use Rattle.drawing_types.specs.Shapes.{moved_by, point_rect}
use Rattle.elk_doc.specs.declared.document.Slotting.{Slotting}
use Rattle.elk_doc.specs.declared.document.Slotting.TheVariants.{Fewest, Uncrossed}
use Rattle.net_routes.specs.declared.Net.{Net}
use Rattle.net_routes.specs.declared.NetRoute.{NetRoute}
use Rattle.net_routes.specs.Promised.{AreFewest, AreUncrossed}
use Rattle.route_lines.specs.declared.Step.{Step}
use Rattle.route_lines.specs.Points.{PlainGap, gap_in, trace_points}
use Rattle.route_lines.specs.Tidied.{IsTidied, IsSectionOf}
use Rattle.level_model.specs.Level.{PlainLevel, PlainPlan, Orders, End, end_at, spoke, spot_of, child_at, anchor_of_spot, port_place}
use Rattle.level_model.specs.Level.{outline}
use Rattle.level_model.specs.Nets.{nets_in, gap_left, gap_width, first_slot, layer_of_child, box_top}
use Rattle.level_model.specs.Traces.{steps_of}

-- a trace as plain data
pub record PlainTrace : Type 0 where
  pub start : Point
  pub steps : List Step
  pub end : Point

-- what is drawn, and how far the level was moved to begin at 0
pub record LevelDrawing : Type 0 where
  pub gaps : List PlainGap
  pub traces : List PlainTrace
  pub boxes : List Point
  pub ports : List (List Point)
  pub sections : List Section
  pub extent : Size
  pub left : ℤ
  pub top : ℤ

abbrev pub counts : List PlainGap → ℕ → ℕ
counts gaps g = (gap_in gaps g).count

-- what the slots of a gap keep to: few of them, or no more crossings than the nets have to have
abbrev pub AreSlots : Slotting → List Net → ℕ → List NetRoute → Type 0
AreSlots Fewest = AreFewest
AreSlots Uncrossed = AreUncrossed

-- a gap: its borders and slots by the widths left of it, its nets, and their routes in the slots that the level asks for
pub record IsGap (l : PlainLevel) (p : PlainPlan) (o : Orders) (d : LevelDrawing) (g : ℕ) : Type 0 where
  pub left : (gap_in d.gaps g).left ≡ gap_left l p o (counts d.gaps) g -ℤ d.left
  pub first : (gap_in d.gaps g).first ≡ (gap_in d.gaps g).left +ℤ first_slot l g
  pub step : (gap_in d.gaps g).step ≡ l.spacing.edge_edge_layers
  pub right : (gap_in d.gaps g).right ≡ (gap_in d.gaps g).left +ℤ gap_width l p g (counts d.gaps g)
  pub nets : (gap_in d.gaps g).nets ≡ nets_in l p o d.top g
  pub slots : AreSlots l.choices.slots (gap_in d.gaps g).nets (gap_in d.gaps g).count (gap_in d.gaps g).routes

-- the place of a child's box: its outline flush at the left of its column, its top by its unit
abbrev pub box_place : PlainLevel → PlainPlan → Orders → LevelDrawing → ℕ → Point
box_place l p o d c =
    record { x = (gap_in d.gaps (layer_of_child p c)).right -ℤ (outline l p o c).x; y = box_top l p o c -ℤ d.top }

-- the anchor of an end
abbrev pub anchor : PlainLevel → PlainPlan → Orders → LevelDrawing → End → Point
anchor l p o d n =
    moved_by (point_rect (box_place l p o d (spoke l n).child)) (anchor_of_spot l o (spoke l n).child (spot_of l p n))

abbrev pub point_or : List Point → ℕ → Point
point_or ps i = slice_index_or ps i (record { x = pos 0; y = pos 0 })

abbrev pub trace_at : LevelDrawing → ℕ → PlainTrace
trace_at d e = slice_index_or d.traces e (record {
  start = record { x = pos 0; y = pos 0 };
  steps = [];
  end = record { x = pos 0; y = pos 0 };
})

abbrev pub section_at : LevelDrawing → ℕ → Section
section_at d e = slice_index_or d.sections e (record {
  start = record { x = pos 0; y = pos 0 };
  bends = [];
  end = record { x = pos 0; y = pos 0 };
})

-- a trace from the source's anchor to the target's, and a section with its tidied points
pub record IsRoute (l : PlainLevel) (p : PlainPlan) (o : Orders) (d : LevelDrawing) (e : ℕ) : Type 0 where
  pub start : (trace_at d e).start ≡ anchor l p o d (end_at e true)
  pub steps : (trace_at d e).steps ≡ steps_of l p o d.top e
  pub end : (trace_at d e).end ≡ anchor l p o d (end_at e false)
  pub points : List Point
  pub tidied : IsTidied (trace_points d.gaps (trace_at d e).start (trace_at d e).steps (trace_at d e).end) points
  pub section : IsSectionOf points (section_at d e)

-- a child's box and its ports within it
pub record IsPlaced (l : PlainLevel) (p : PlainPlan) (o : Orders) (d : LevelDrawing) (c : ℕ) : Type 0 where
  pub box : point_or d.boxes c ≡ box_place l p o d c
  pub as_many : length (slice_index_or d.ports c []) ≡ length (child_at l c).ports
  pub ports : (k : ℕ) → k < length (child_at l c).ports → point_or (slice_index_or d.ports c []) k ≡ port_place l p o c k

pub record IsDrawnFrom (l : PlainLevel) (p : PlainPlan) (o : Orders) (d : LevelDrawing) : Type 0 where
  pub gap_count : length d.gaps ≡ p.layers + 1
  pub gaps : (g : ℕ) → g < length d.gaps → IsGap l p o d g
  pub box_count : length d.boxes ≡ length l.children
  pub port_lists : length d.ports ≡ length l.children
  pub children : (c : ℕ) → c < length l.children → IsPlaced l p o d c
  pub trace_count : length d.traces ≡ length l.edges
  pub section_count : length d.sections ≡ length l.edges
  pub routes : (e : ℕ) → e < length l.edges → IsRoute l p o d e
