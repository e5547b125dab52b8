-- What is made for a level are the parts of its drawing.
use Rattle.std.proofs.Common.{◌≡◌, ℕ, ◌+◌, ◌≤◌, List, length, pos, refl, sym, subst, ap, ◌∙◌}
use Rattle.std.specs.List.{All}
use Rattle.drawing_types.specs.declared.shape.Rect.{Rect}
use Rattle.drawing_types.specs.declared.shape.Size.{Size}
use Rattle.drawing_types.specs.declared.section.Section.{Section}
use Rattle.level_model.specs.Level.{Orders}
use Rattle.level_model.specs.FromPlan.{LevelDrawing, IsDrawnFrom}
use Rattle.level_model.specs.Ready.{IsReady}
use Rattle.working_frame.specs.Reach.{IsNear}
use Rattle.working_frame.specs.Ranges.{IsFarGap, IsFarPoint, IsFarSection, IsFarTrace}
use Rattle.layer_units.specs.Tabled.{IsTableOf}
use Rattle.level_nets.specs.declared.routing.Routing.{Routing}
use Rattle.level_nets.specs.Parts as nets
use Rattle.level_nets.specs.Held.{plain_gaps}
use Rattle.level_nets.specs.Routed.{AreGapsIn, AreGapsOf, AreLegsOf}
use Rattle.level_draw.specs.declared.tracing.Routes.{Routes}
use Rattle.level_draw.specs.Reach.{IsBoxPoint}
use Rattle.level_draw.specs.Traced.{AreRoutesOf, plain_traces}
use Rattle.level_draw.specs.declared.parts.Parts.{Parts}
use Rattle.level_draw.specs.Drawing.{IsDrawable, outlines_in}
use Rattle.level_draw.specs.Joined.{AreJoinable, AreJoined}
use Rattle.level_draw.specs.Outlines.{AreNearby, AreOutlines}
use Rattle.level_draw.specs.Parts.{AreLevelParts, drawn_of, ports_in}
use Rattle.level_draw.proofs.Planned.{few_layers, table_fits}
use Rattle.level_draw.proofs.Joining as joining
use Rattle.level_draw.proofs.FarParts.{far_boxes, far_gaps, far_sections, far_traces}
use Rattle.level_draw.proofs.Assembled.{drawing_of, drawn_from}
use Rattle.level_draw.proofs.Outlined.{are_nearby, outlines_are, outlines_near}

module _ (s : nets.Parts) (rows : List (List ℕ)) (layers : List ℕ) (drawable : IsDrawable s.level (nets.plan_of s rows) layers) (table : IsTableOf s.level (nets.plan_of s rows) s.table) (r : Routing) (many : length r.gaps ≡ s.layered.layers + 1) (gaps : AreGapsOf s r.gaps) (legs : AreLegsOf s r)
    (within : AreGapsIn r.gaps) (v : Routes) (routes : AreRoutesOf s r v) where
  planned_by : (o : Orders) (ls : List ℕ) → IsReady s.level (nets.plan_of s rows) o ls → nets.ArePlanned s rows o ls
  planned_by o ls ready = record { ready = ready; table = table_fits s.level (nets.plan_of s rows) o ls s.table ready table }

  planned : nets.ArePlanned s rows drawable.orders layers
  planned = planned_by drawable.orders layers drawable.ready

  few : s.layered.layers ≤ 2048
  few = few_layers s.level (nets.plan_of s rows) layers drawable

  pub traces_joinable : AreJoinable r.gaps v.traces.items
  traces_joinable = joining.joinable s rows drawable.orders layers planned drawable.bottoms few table.numbers r many gaps legs within v routes

  box_count : length v.boxes.items ≡ length s.table.children
  box_count = (routes rows drawable.orders layers planned (legs rows drawable.orders layers planned)).box_count ∙ sym planned.table.child_count

  pub boxes_nearby : All IsBoxPoint v.boxes.items → AreNearby s.table.children v.boxes.items
  boxes_nearby near = are_nearby s.table v.boxes.items box_count table.numbers near

  module _ (near : All IsBoxPoint v.boxes.items) (sections : List Section) (joined : AreJoined r.gaps v.traces.items (length v.traces.items) sections) (outlines : List Rect)
      (outlined : AreOutlines s.table.children v.boxes.items (length s.table.children) outlines) where
    abbrev d : Size → LevelDrawing
    d extent = drawing_of r.gaps v.traces.items v.boxes.items (ports_in s.table.children) sections extent

    drawn : (o : Orders) (ls : List ℕ) (extent : Size) → IsReady s.level (nets.plan_of s rows) o ls → IsDrawnFrom s.level (nets.plan_of s rows) o (d extent)
    drawn o ls extent ready =
        let plan = planned_by o ls ready in
        drawn_from s rows o ls plan r.gaps v.traces.items v.boxes.items sections extent many gaps (routes rows o ls plan (legs rows o ls plan)) joined

    pub are_parts : (w : Parts) → w.gaps.items ≡ r.gaps → w.traces.items ≡ v.traces.items → w.boxes.items ≡ v.boxes.items → w.ports.items ≡ ports_in s.table.children → w.sections.items ≡ sections → w.outlines.items ≡ outlines
        → AreLevelParts s.level (nets.plan_of s rows) w
    are_parts w is_gaps is_traces is_boxes is_ports is_sections is_outlines =
        let same : (extent : Size) → d extent ≡ drawn_of w extent (pos 0) (pos 0) = λ extent. rw (is_gaps, is_traces, is_boxes, is_ports, is_sections) refl in
        record {
          drawn = λ o ls extent ready. subst (IsDrawnFrom s.level (nets.plan_of s rows) o) (same extent) (drawn o ls extent ready);
          outlines = λ extent.
              is_outlines
              ∙ outlines_are s.level (nets.plan_of s rows) drawable.orders (d extent) s.table outlines planned.table (drawn drawable.orders layers extent drawable.ready) outlined
              ∙ ap (outlines_in s.level) (same extent);
          far = record {
            gaps = subst (λ gs. All IsFarGap (plain_gaps gs)) (sym is_gaps) (far_gaps s rows drawable.orders layers planned drawable.bottoms few table.numbers r many gaps legs within);
            traces = subst (λ ts. All IsFarTrace (plain_traces ts)) (sym is_traces) (far_traces s rows drawable.orders layers planned drawable.bottoms few table.numbers r many gaps legs within v routes);
            boxes = subst (All IsFarPoint) (sym is_boxes) (far_boxes v.boxes.items near);
            sections = subst (All IsFarSection) (sym is_sections) (far_sections r.gaps v.traces.items sections traces_joinable joined);
            outlines = subst (All IsNear) (sym is_outlines) (outlines_near s.table v.boxes.items outlines box_count table.numbers near outlined);
          };
        }
