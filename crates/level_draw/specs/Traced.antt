-- The boxes and traces of a level.
use Rattle.std.specs.Prelude.{◌≡◌, ℕ, ◌<◌, true, false, List, [], map, pos, length, slice_index_or}
use Rattle.drawing_types.specs.declared.shape.Point.{Point}
use Rattle.route_lines.specs.declared.Trace.{Trace}
use Rattle.route_lines.specs.Points.{PlainGap}
use Rattle.level_model.specs.Level.{PlainLevel, PlainPlan, Orders, end_at}
use Rattle.level_model.specs.FromPlan.{PlainTrace, point_or, box_place, anchor}
use Rattle.level_model.specs.Traces.{steps_of}
use Rattle.working_frame.specs.Ranges.{plain_trace}
use Rattle.level_nets.specs.declared.routing.Routing.{Routing}
use Rattle.level_nets.specs.Parts.{Parts, ArePlanned, plan_of}
use Rattle.level_nets.specs.Held.{plain_gaps}
use Rattle.level_nets.specs.Routed.{AreLegs, drawn_with}
use Rattle.level_draw.specs.Read as read
use Rattle.level_draw.specs.declared.tracing.Routes.{Routes}

-- the first n boxes, as they are read off
pub record AreBoxes (s : Parts) (gaps : List PlainGap) (n : ℕ) (boxes : List Point) : Type 0 where
  pub as_many : length boxes ≡ n
  pub each : (c : ℕ) → c < n → point_or boxes c ≡ read.box_at s gaps c

-- a trace, as it is read off
pub record IsTraceOf (s : Parts) (r : Routing) (boxes : List Point) (e : ℕ) (t : PlainTrace) : Type 0 where
  pub start : t.start ≡ read.anchor_in s (point_or boxes) (end_at e true)
  pub steps : t.steps ≡ read.steps_of s r e
  pub end : t.end ≡ read.anchor_in s (point_or boxes) (end_at e false)

abbrev pub plain_traces : List Trace → List PlainTrace
plain_traces ts = map plain_trace ts

abbrev pub trace_in : List PlainTrace → ℕ → PlainTrace
trace_in ts e = slice_index_or ts e (record { start = record { x = pos 0; y = pos 0 }; steps = []; end = record { x = pos 0; y = pos 0 } })

pub record AreTraces (s : Parts) (r : Routing) (boxes : List Point) (n : ℕ) (ts : List PlainTrace) : Type 0 where
  pub as_many : length ts ≡ n
  pub each : (e : ℕ) → e < n → IsTraceOf s r boxes e (trace_in ts e)

-- all boxes and traces, as they are read off
pub record AreRead (s : Parts) (r : Routing) (v : Routes) : Type 0 where
  pub boxes : AreBoxes s (plain_gaps r.gaps) (length s.level.children) v.boxes.items
  pub traces : AreTraces s r v.boxes.items (length s.level.edges) (plain_traces v.traces.items)

-- The boxes and traces are those of the plan, before the level is moved, under all rows and orders from which its units come.
pub record ArePlannedRoutes (l : PlainLevel) (p : PlainPlan) (o : Orders) (gaps : List PlainGap) (boxes : List Point)
    (ts : List PlainTrace) : Type 0 where
  pub box_count : length boxes ≡ length l.children
  pub trace_count : length ts ≡ length l.edges
  pub places : (c : ℕ) → c < length l.children → point_or boxes c ≡ box_place l p o (drawn_with gaps (pos 0) (pos 0)) c
  pub starts : (e : ℕ) → e < length l.edges → (trace_in ts e).start ≡ anchor l p o (drawn_with gaps (pos 0) (pos 0)) (end_at e true)
  pub steps : (e : ℕ) → e < length l.edges → (trace_in ts e).steps ≡ steps_of l p o (pos 0) e
  pub ends : (e : ℕ) → e < length l.edges → (trace_in ts e).end ≡ anchor l p o (drawn_with gaps (pos 0) (pos 0)) (end_at e false)

abbrev pub AreRoutesOf : Parts → Routing → Routes → Type 0
AreRoutesOf s r v =
    (rows : List (List ℕ)) (o : Orders) (layers : List ℕ) → ArePlanned s rows o layers → AreLegs s.level (plan_of s rows) o r
    → ArePlannedRoutes s.level (plan_of s rows) o (plain_gaps r.gaps) v.boxes.items (plain_traces v.traces.items)
