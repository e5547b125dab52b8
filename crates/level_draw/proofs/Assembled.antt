-- The parts of a level make the drawing of its plan.
use Rattle.std.proofs.Common.{◌≡◌, ℕ, ◌+◌, ◌<◌, List, [], length, get_or, pos, arith, sym, ◌∙◌, ap}
use Rattle.std.proofs.lemmas.List.{get_or-map, length-map}
use Rattle.drawing_types.specs.declared.shape.Point.{Point}
use Rattle.drawing_types.specs.declared.shape.Size.{Size}
use Rattle.drawing_types.specs.declared.section.Section.{Section}
use Rattle.route_lines.specs.declared.Gap.{Gap}
use Rattle.route_lines.specs.declared.Trace.{Trace}
use Rattle.route_lines.specs.Points.{plain_gap}
use Rattle.level_model.specs.declared.table.ChildAt.{ChildAt}
use Rattle.level_model.specs.Level.{Orders}
use Rattle.level_model.specs.Table.{child_in}
use Rattle.level_model.specs.FromPlan.{LevelDrawing, IsGap, IsPlaced, IsRoute, IsDrawnFrom}
use Rattle.working_frame.specs.Ranges.{plain_trace}
use Rattle.level_nets.specs.Parts.{Parts, ArePlanned, plan_of}
use Rattle.level_nets.specs.Held.{plain_gaps}
use Rattle.level_nets.specs.Routed.{AreGapsOf}
use Rattle.level_draw.specs.Traced.{ArePlannedRoutes, plain_traces}
use Rattle.level_draw.specs.Joined.{AreJoined}
use Rattle.level_draw.specs.Parts.{ports_in}

-- a drawing of these parts, before it is moved
abbrev pub drawing_of : List Gap → List Trace → List Point → List (List Point) → List Section → Size → LevelDrawing
drawing_of gaps traces boxes ports sections extent =
    record {
      gaps = plain_gaps gaps;
      traces = plain_traces traces;
      boxes = boxes;
      ports = ports;
      sections = sections;
      extent = extent;
      left = pos 0;
      top = pos 0;
    }

module _ (s : Parts) (rows : List (List ℕ)) (o : Orders) (layers : List ℕ) (planned : ArePlanned s rows o layers) (gaps : List Gap) (traces : List Trace) (boxes : List Point) (sections : List Section) (extent : Size)
    (many : length gaps ≡ s.layered.layers + 1) (are : AreGapsOf s gaps)
    (routes : ArePlannedRoutes s.level (plan_of s rows) o (plain_gaps gaps) boxes (plain_traces traces))
    (joined : AreJoined gaps traces (length traces) sections) where
  abbrev d : LevelDrawing
  d = drawing_of gaps traces boxes (ports_in s.table.children) sections extent

  gap_count : length (plain_gaps gaps) ≡ length gaps
  gap_count = length-map gaps plain_gap

  trace_count : length (plain_traces traces) ≡ length traces
  trace_count = length-map traces plain_trace

  gap_is : (g : ℕ) → g < length (plain_gaps gaps) → IsGap s.level (plan_of s rows) o d g
  gap_is g h =
      let same = gap_count in
      let is = are rows o layers planned g (omega (arith, h, same)) in
      record { left = is.left; first = is.first; step = is.step; right = is.right; nets = is.nets; slots = is.slots }

  child_is : (c : ℕ) → c < length s.level.children → IsPlaced s.level (plan_of s rows) o d c
  child_is c h =
      let count = planned.table.child_count in
      let entry = planned.table.children c h in
      let at : get_or (ports_in s.table.children) c [] ≡ (child_in s.table.children c).ports = get_or-map (λ (v : ChildAt). v.ports) s.table.children c _ [] (omega (arith, h, count)) in
      record {
        box = routes.places c h;
        as_many = ap length at ∙ entry.as_many;
        ports = λ k m. ap (λ (ps : List Point). get_or ps k (record { x = pos 0; y = pos 0 })) at ∙ entry.ports k m;
      }

  route_is : (e : ℕ) → e < length s.level.edges → IsRoute s.level (plan_of s rows) o d e
  route_is e h =
      let traced = routes.trace_count in
      let same = trace_count in
      let join = joined.each e (omega (arith, h, traced, same)) in
      record {
        start = routes.starts e h;
        steps = routes.steps e h;
        end = routes.ends e h;
        points = join.points;
        tidied = join.tidied;
        section = join.section;
      }

  pub drawn_from : IsDrawnFrom s.level (plan_of s rows) o d
  drawn_from =
      let traced = trace_count in
      record {
        gap_count = gap_count ∙ many;
        gaps = gap_is;
        box_count = routes.box_count;
        port_lists = length-map s.table.children (λ (v : ChildAt). v.ports) ∙ planned.table.child_count;
        children = child_is;
        trace_count = routes.trace_count;
        section_count = joined.as_many ∙ sym traced ∙ routes.trace_count;
        routes = route_is;
      }
