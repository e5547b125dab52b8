-- Traces whose points can be joined, and their sections.
use Rattle.std.specs.Prelude.{◌≡◌, ℕ, ◌<◌, List, [], pos, length, slice_index_or}
use Rattle.std.specs.List.{All}
use Rattle.drawing_types.specs.declared.shape.Point.{Point}
use Rattle.drawing_types.specs.declared.section.Section.{Section}
use Rattle.drawing_types.specs.Ranges.{IsNear}
use Rattle.route_lines.specs.declared.Gap.{Gap}
use Rattle.route_lines.specs.declared.Trace.{Trace}
use Rattle.route_lines.specs.Points.{PlainGap, IsTrace, IsGapInRange, IsJoinOf, trace_points}
use Rattle.level_model.specs.FromPlan.{PlainTrace}
use Rattle.level_nets.specs.Held.{plain_gaps}
use Rattle.level_draw.specs.Traced.{plain_traces, trace_in}

-- the points of a trace through gaps
abbrev pub points_through : List PlainGap → PlainTrace → List Point
points_through gaps t = trace_points gaps t.start t.steps t.end

-- the gap's slots are in range, each trace leads through gaps, and its points are coordinates of a drawing
pub record AreJoinable (gaps : List Gap) (traces : List Trace) : Type 0 where
  pub gaps_in : All IsGapInRange gaps
  pub steps : (e : ℕ) → e < length traces → IsTrace (plain_gaps gaps) (trace_in (plain_traces traces) e).steps
  pub points : (e : ℕ) → e < length traces → All IsNear (points_through (plain_gaps gaps) (trace_in (plain_traces traces) e))

abbrev pub section_in : List Section → ℕ → Section
section_in sections e = slice_index_or sections e (record {
  start = record { x = pos 0; y = pos 0 };
  bends = [];
  end = record { x = pos 0; y = pos 0 };
})

-- the sections of the first n traces
pub record AreJoined (gaps : List Gap) (traces : List Trace) (n : ℕ) (sections : List Section) : Type 0 where
  pub as_many : length sections ≡ n
  pub each : (e : ℕ) → e < n → IsJoinOf (points_through (plain_gaps gaps) (trace_in (plain_traces traces) e)) (section_in sections e)
