-- A drawing that is moved as a whole.
use Rattle.std.proofs.Common.{◌≡◌, ℕ, zero, suc, ◌<◌, true, false, List, [], map, length, ℤ, pos, ◌+ℤ◌, ◌-ℤ◌, arith, refl, sym, ◌∙◌, ap, ap₂, subst, inl, inr}
use Rattle.std.proofs.lemmas.Int.{ints}
use Rattle.std.proofs.lemmas.Bool.{cases_lt}
use Rattle.std.proofs.lemmas.List.{get_or-map, get_or_past, length-map}
use Rattle.drawing_types.specs.declared.shape.Point.{Point}
use Rattle.drawing_types.specs.Shapes.{moved_by, point_rect}
use Rattle.elk_doc.specs.declared.document.Slotting.{Slotting}
use Rattle.elk_doc.specs.declared.document.Slotting.TheVariants.{Fewest, Uncrossed}
use Rattle.net_routes.specs.declared.Net.{Net}
use Rattle.net_routes.specs.declared.NetRoute.{NetRoute}
use Rattle.route_lines.specs.Points.{PlainGap, gap_in, trace_points}
use Rattle.route_lines.specs.Tidied.{IsTidied, IsSectionOf}
use Rattle.level_model.specs.Level.{PlainLevel, PlainPlan, Orders, End, end_at, spoke, spot_of, anchor_of_spot, outline}
use Rattle.level_model.specs.Nets.{gap_left, gap_width, first_slot, column_width, layer_of_child, box_top}
use Rattle.level_model.specs.FromPlan.{LevelDrawing, AreSlots, counts, IsGap, IsRoute, IsPlaced, IsDrawnFrom, box_place, anchor, trace_at, section_at}
use Rattle.working_frame.specs.Moved.{moved, moved_point, moved_net, moved_route, moved_step, moved_gap, moved_trace, moved_section, HasPlaces}
use Rattle.net_routes.proofs.SlotMoves.{fewest_moves, uncrossed_moves}
use Rattle.drawing_types.proofs.SameShapes.{same_point}
use Rattle.working_frame.proofs.PathMoves.{tidied_moves, section_moves, gap_is, points_move}
use Rattle.working_frame.proofs.StepMoves.{steps_move, nets_move}

left_same : (l : PlainLevel) (p : PlainPlan) (o : Orders) (c c' : ℕ → ℕ) → ((g : ℕ) → c' g ≡ c g) → (g : ℕ) → gap_left l p o c' g ≡ gap_left l p o c g
unfolding gap_left
left_same l p o c c' same zero = refl
left_same l p o c c' same (suc g) =
    ap₂ (λ (a : ℤ) (n : ℕ). a +ℤ gap_width l p g n +ℤ column_width l p o g) (left_same l p o c c' same g) (same g)

-- the slots are as they are asked for wherever the gap stands
slots_move : (y : ℤ) (asked : Slotting) (nets : List Net) (count : ℕ) (routes : List NetRoute)
    → AreSlots asked nets count routes → AreSlots asked (map (moved_net y) nets) count (map (moved_route y) routes)
slots_move y Fewest nets count routes = fewest_moves y nets count routes
slots_move y Uncrossed nets count routes = uncrossed_moves y nets count routes

module _ (l : PlainLevel) (p : PlainPlan) (o : Orders) (d : LevelDrawing) (x y : ℤ) (has : HasPlaces l p) (drawn : IsDrawnFrom l p o d) where
  abbrev d' : LevelDrawing
  d' = moved x y d

  many_gaps : length d'.gaps ≡ length d.gaps
  many_gaps = length-map d.gaps (moved_gap x y)

  same_counts : (g : ℕ) → counts d'.gaps g ≡ counts d.gaps g
  same_counts g = elim (cases_lt g (length d.gaps)) [
    | inl h ↦ ap (λ k. k.count) (gap_is x y d.gaps g h)
    | inr h ↦
        let m = many_gaps in
        ap (λ k. k.count) (get_or_past d'.gaps g empty (omega (arith, h, m))) ∙ sym (ap (λ k. k.count) (get_or_past d.gaps g empty h))
  ]
    where
      empty : PlainGap
      empty = record { left = pos 0; first = pos 0; step = pos 0; right = pos 0; nets = []; count = 0; routes = [] }

  further : (a b c : ℤ) → (a -ℤ b) -ℤ c ≡ a -ℤ (b +ℤ c)
  further a b c = omega (arith, ints)

  behind : (a b c : ℤ) → (a +ℤ b) -ℤ c ≡ (a -ℤ c) +ℤ b
  behind a b c = omega (arith, ints)

  gap_is_moved : (g : ℕ) → g < length d.gaps → IsGap l p o d' g
  gap_is_moved g h =
      let was = drawn.gaps g h in
      let is = gap_is x y d.gaps g h in
      record {
        left = ap (λ k. k.left) is ∙ ap (λ a. a -ℤ x) was.left ∙ further (gap_left l p o (counts d.gaps) g) d.left x
            ∙ ap (λ a. a -ℤ (d.left +ℤ x)) (sym (left_same l p o (counts d.gaps) (counts d'.gaps) same_counts g));
        first = ap (λ k. k.first) is ∙ ap (λ a. a -ℤ x) was.first ∙ behind (gap_in d.gaps g).left (first_slot l g) x ∙ ap (λ a. a +ℤ first_slot l g) (sym (ap (λ k. k.left) is));
        step = ap (λ k. k.step) is ∙ was.step;
        right = ap (λ k. k.right) is ∙ ap (λ a. a -ℤ x) was.right ∙ behind (gap_in d.gaps g).left (gap_width l p g (counts d.gaps g)) x
            ∙ ap₂ (λ (a : ℤ) (n : ℕ). a +ℤ gap_width l p g n) (sym (ap (λ k. k.left) is)) (sym (same_counts g));
        nets = ap (λ k. k.nets) is ∙ ap (map (moved_net y)) was.nets ∙ sym (nets_move l p o d.top y g);
        slots = subst (λ k. AreSlots l.choices.slots k.nets k.count k.routes) (sym is) (slots_move y l.choices.slots (gap_in d.gaps g).nets (gap_in d.gaps g).count (gap_in d.gaps g).routes was.slots);
      }

  box_moves : (c : ℕ) → c < length l.children → box_place l p o d' c ≡ moved_point x y (box_place l p o d c)
  box_moves c h =
      let few = has.layers c h in
      let m = drawn.gap_count in
      let is = gap_is x y d.gaps (layer_of_child p c) (omega (arith, few, m)) in
      same_point _ _
      (ap (λ k. k.right -ℤ (outline l p o c).x) is ∙ swapped (gap_in d.gaps (layer_of_child p c)).right x (outline l p o c).x)
      (sym (further (box_top l p o c) d.top y))
    where
      swapped : (a b c : ℤ) → (a -ℤ b) -ℤ c ≡ (a -ℤ c) -ℤ b
      swapped a b c = omega (arith, ints)

  anchor_moves : (n : End) → (spoke l n).child < length l.children → anchor l p o d' n ≡ moved_point x y (anchor l p o d n)
  anchor_moves n h =
      let at : Point = anchor_of_spot l o (spoke l n).child (spot_of l p n) in
      ap (λ b. moved_by (point_rect b) at) (box_moves (spoke l n).child h) ∙ by_both (box_place l p o d (spoke l n).child) at
    where
      by_both : (b at : Point) → moved_by (point_rect (moved_point x y b)) at ≡ moved_point x y (moved_by (point_rect b) at)
      by_both b at = same_point _ _ (omega (arith, ints)) (omega (arith, ints))

  route_is_moved : (e : ℕ) → e < length l.edges → IsRoute l p o d' e
  route_is_moved e h =
      let was = drawn.routes e h in
      let traces = drawn.trace_count in
      let sections = drawn.section_count in
      let t : trace_at d' e ≡ moved_trace x y (trace_at d e) = get_or-map (moved_trace x y) d.traces e _ _ (omega (arith, h, traces)) in
      let s : section_at d' e ≡ moved_section x y (section_at d e) = get_or-map (moved_section x y) d.sections e _ _ (omega (arith, h, sections)) in
      record {
        start = ap (λ z. z.start) t ∙ ap (moved_point x y) was.start ∙ sym (anchor_moves (end_at e true) (has.ends e true h));
        steps = ap (λ z. z.steps) t ∙ ap (map (moved_step y)) was.steps ∙ sym (steps_move l p o d.top y e);
        end = ap (λ z. z.end) t ∙ ap (moved_point x y) was.end ∙ sym (anchor_moves (end_at e false) (has.ends e false h));
        points = map (moved_point x y) was.points;
        tidied = subst (λ z. IsTidied (trace_points d'.gaps z.start z.steps z.end) (map (moved_point x y) was.points)) (sym t)
            (subst (λ ps. IsTidied ps (map (moved_point x y) was.points)) (sym (points_move x y d.gaps (trace_at d e).start (trace_at d e).steps (trace_at d e).end))
            (tidied_moves x y (trace_points d.gaps (trace_at d e).start (trace_at d e).steps (trace_at d e).end) was.points was.tidied));
        section = subst (λ z. IsSectionOf (map (moved_point x y) was.points) z) (sym s) (section_moves x y was.points (section_at d e) was.section);
      }

  child_is_moved : (c : ℕ) → c < length l.children → IsPlaced l p o d' c
  child_is_moved c h =
      let was = drawn.children c h in
      let boxes = drawn.box_count in
      record {
        box = get_or-map (moved_point x y) d.boxes c _ _ (omega (arith, h, boxes)) ∙ ap (moved_point x y) was.box ∙ sym (box_moves c h);
        as_many = was.as_many;
        ports = was.ports;
      }

  pub drawing_moves : IsDrawnFrom l p o d'
  drawing_moves =
      record {
        gap_count = many_gaps ∙ drawn.gap_count;
        gaps = λ g h. let m = many_gaps in gap_is_moved g (omega (arith, h, m));
        box_count = length-map d.boxes (moved_point x y) ∙ drawn.box_count;
        port_lists = drawn.port_lists;
        children = child_is_moved;
        trace_count = length-map d.traces (moved_trace x y) ∙ drawn.trace_count;
        section_count = length-map d.sections (moved_section x y) ∙ drawn.section_count;
        routes = route_is_moved;
      }
