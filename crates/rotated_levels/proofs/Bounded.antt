-- The drawing of a level lies in a frame from its first gap to its last and from the top of its units to the bottom of all of
-- them stacked, and so it is bounded.
use Rattle.std.proofs.Common.{◌≡◌, ⊎_elim, ℕ, zero, suc, ◌+◌, ◌*◌, ◌<◌, ◌≤◌, ◌^◌, List, [], ◌∷◌, map, length, ℤ, pos, ◌+ℤ◌, ◌-ℤ◌, ◌≤ℤ◌, refl, sym, ap, subst, ◌∙◌, arith}
use Rattle.std.proofs.lemmas.Int.{clamps, ints}
use Rattle.std.proofs.lemmas.List.Elements.{All-get_or}
use Rattle.std.proofs.Math.Nat.{mul-le-mul_left}
use Rattle.std.specs.Int.{int_max, int_min}
use Rattle.std.specs.List.{range_with_len}
use Rattle.drawing_types.specs.declared.shape.Rect.{Rect}
use Rattle.drawing_types.specs.Shapes.{origin}
use Rattle.drawing_types.specs.Ranges.{IsWithin}
use Rattle.drawing_types.specs.Shapes.{bottom_of, hull, moved_by, rect_at, right_of}
use Rattle.port_order.specs.Child.{port_at}
use Rattle.route_lines.specs.Points.{gap_in}
use Rattle.unit_blocks.specs.Constraints.{EndsWithinStack, greatest_spacing, stacked_height}
use Rattle.level_model.specs.Conditions.{plain_level, sum_of_ints}
use Rattle.level_model.specs.declared.level.LevelIn.{LevelIn}
use Rattle.level_model.specs.Drawing.{outline_at, stage}
use Rattle.level_model.specs.FromPlan.{LevelDrawing, IsDrawnFrom, section_at}
use Rattle.level_model.specs.Level.{Orders, PlainLevel, PlainPlan, child_at, outline}
use Rattle.level_model.specs.Nets.{all_names, column_width}
use Rattle.level_model.specs.Apart.{drawn_box, drawn_outline, drawn_outline_from, drawn_port}
use Rattle.level_model.specs.Ready.{IsReady}
use Rattle.plan_laws.proofs.ApartLemmas.{outlines_are_drawn}
use Rattle.level_model.proofs.Columns.{column, from_left, lefts, rights, to_right}
use Rattle.level_model.proofs.EndLemmas.{child_stands}
use Rattle.level_model.proofs.GapLemmas.{columns}
use Rattle.level_model.proofs.Lists.{Has, below_has}
use Rattle.plan_laws.proofs.Whole.{stage_stands}
use Rattle.plan_laws.proofs.LawfulRoutes.{routes_lawful}
use Rattle.level_draw.specs.declared.drawing.LevelOut.{LevelOut}
use Rattle.level_draw.specs.Drawing.{IsTight, drawn_in, outlines_in, plan_from}
use Rattle.working_frame.specs.declared.spanning.Reach.{Reach}
use Rattle.working_frame.specs.Reach.{abscissae, greatest, heights, least, points_along, reached}
use Rattle.level_nets.proofs.ListLemmas.{map_same}
use Rattle.layer_units.specs.Layering.{layer_in}
use Rattle.level_layout.specs.Layout.{IsLaidOut}
use Rattle.level_layout.proofs.LayoutLemmas.{spacing_low, stack_low}
use Rattle.rotated_levels.specs.Extents.{ExtentsAreBounded, ExtentsAreSmall, IsBounded, outline_heights, outline_widths, room_between}
use Rattle.rotated_levels.proofs.Framing.{Each, Frame, Holds, corners_each, reach_height, reach_width, reached_each, section_each, sections_each}
use Rattle.rotated_levels.proofs.HeightLemmas.{few_units, stack_least, units_most}
use Rattle.rotated_levels.proofs.Inside.{Spans, in_outline, route_in}
use Rattle.rotated_levels.proofs.Names.{few_links, few_names, few_nets}
use Rattle.rotated_levels.proofs.SizeLemmas.{heights_low, widths_low}
use Rattle.rotated_levels.proofs.Sums.{le_le, over, over_same}
use Rattle.rotated_levels.proofs.WidthLemmas.{borders_most}

same_le : (a b : ℤ) → a ≡ b → a ≤ℤ b
same_le a b e = omega (arith, ints, e)

le_self : (a : ℤ) → a ≤ℤ a
le_self a = omega (arith, ints)

-- sizes of outlines, summed
sum_is : (size : Rect → ℤ) (g : ℕ → Rect) (cs : List ℕ) → sum_of_ints (map size (map g cs)) ≡ over (λ c. size (g c)) cs
sum_is size g [] = refl
sum_is size g (c ∷ cs) = ap (λ z. size (g c) +ℤ z) (sum_is size g cs)

-- the least of some numbers is no more than their greatest
least_low : (zs : List ℤ) → least zs ≤ℤ greatest zs
unfolding least greatest
least_low [] = le_self _
least_low (z ∷ []) = le_self _
least_low (z ∷ y ∷ zs) = ends z (least (y ∷ zs)) (greatest (y ∷ zs))
  where
    ends : (z a b : ℤ) → int_min z a ≤ℤ int_max z b
    ends z a b = omega (arith, ints, clamps)

from_zero : (a b w : ℤ) → pos 0 ≡ a → w ≡ b → a ≤ℤ b → pos 0 ≤ℤ w
from_zero a b w e f h = omega (arith, ints, e, f, h)

-- from 0 to 2^48
abbrev IsSide : ℤ → Type 0
IsSide z = IsWithin (pos 0) (pos (2 ^ 48)) z

module _ (l : PlainLevel) (p : PlainPlan) (o : Orders) (layers : List ℕ) (d : LevelDrawing) (ready : IsReady l p o layers) (drawn : IsDrawnFrom l p o d) (few : p.layers ≤ length l.children)
    (within : EndsWithinStack p.layered p.tops) (tight : IsTight l d) where
  abbrev most : ℕ
  most = length (all_names l p o)

  abbrev stack : ℤ
  stack = stacked_height (greatest_spacing p.layered) p.layered.units

  abbrev frame : Frame
  frame =
      record {
        left = (gap_in d.gaps 0).left;
        right = (gap_in d.gaps p.layers).right;
        top = pos 0 -ℤ d.top;
        bottom = (stacked_height (greatest_spacing p.layered) p.layered.units +ℤ pos (length (all_names l p o))) -ℤ d.top;
      }

  -- ---- the frame

  wide_at : (g : ℕ) → g < p.layers + 1 → (gap_in d.gaps g).left ≤ℤ (gap_in d.gaps g).right
  wide_at g h = ((columns l p o d ready.level.spacing drawn).each g h).wide

  left_most : (g : ℕ) → g < p.layers + 1 → (gap_in d.gaps 0).left ≤ℤ (gap_in d.gaps g).left
  left_most zero h = le_self _
  left_most (suc g) h =
      le_le _ _ _ (wide_at 0 (omega arith))
      (le_le _ _ _ (column p.layers d.gaps (column_width l p o) (columns l p o d ready.level.spacing drawn) 0 (omega (arith, h)))
      (lefts p.layers d.gaps (column_width l p o) (columns l p o d ready.level.spacing drawn) 0 (suc g) (omega arith) h))

  right_most : (g : ℕ) → g < p.layers + 1 → (gap_in d.gaps g).right ≤ℤ (gap_in d.gaps p.layers).right
  right_most g h = rights p.layers d.gaps (column_width l p o) (columns l p o d ready.level.spacing drawn) g p.layers (omega (arith, h)) (omega arith)

  gap_there : (g : ℕ) → g < length d.gaps → g < p.layers + 1
  gap_there g h = let many = drawn.gap_count in omega (arith, h, many)

  spans : Spans (stage l p o d) frame most
  spans =
      record {
        left = λ r h. le_le _ _ _ (left_most r (omega (arith, h))) (wide_at r (omega (arith, h)));
        right = λ r h. le_le _ _ _ (wide_at (r + 1) (omega (arith, h))) (right_most (r + 1) (omega (arith, h)));
        gap = λ g a h ha.
            let gap = (columns l p o d ready.level.spacing drawn).each g (gap_there g h) in
            record {
              above = le_le _ _ _ (left_most g (gap_there g h)) (from_left p.layers g (gap_in d.gaps g) a gap ha);
              below = le_le _ _ _ (to_right p.layers g (gap_in d.gaps g) a gap ha) (right_most g (gap_there g h));
            };
        top = λ u h. top_low _ d.top (ready.apart.from_zero u h);
        bottom = λ u h. bottom_low _ _ d.top most (within u h);
        few = λ g h. few_nets l p o d drawn g h;
      }
    where
      top_low : (t z : ℤ) → pos 0 ≤ℤ t → (pos 0 -ℤ z) ≤ℤ (t -ℤ z)
      top_low t z h = omega (arith, ints, h)

      bottom_low : (b s z : ℤ) (n : ℕ) → b ≤ℤ s → ((b -ℤ z) +ℤ pos n) ≤ℤ ((s +ℤ pos n) -ℤ z)
      bottom_low b s z n h = omega (arith, ints, h)

  -- ---- what it holds

  outline_in : (c : ℕ) → c < length l.children
      → Holds frame (record { x = (drawn_outline l d c).x; y = (drawn_outline l d c).y }) × Holds frame (record { x = right_of (drawn_outline l d c); y = bottom_of (drawn_outline l d c) })
  outline_in c h =
      let child = child_stands l p o layers ready d drawn c h in
      let stands = stage_stands l p o d layers ready drawn in
      let wide = end_after _ _ _ _ child.box_left child.wide child.box_right in
      let high = end_after _ _ _ _ child.box_top child.high child.box_bottom in
      subst (λ (r : Rect). Holds frame (record { x = r.x; y = r.y }) × Holds frame (record { x = right_of r; y = bottom_of r })) (sym (outlines_are_drawn l p o d c (drawn.children c h))) (
        in_outline (stage l p o d) frame most stands spans c (record { x = (outline_at l p o d c).x; y = (outline_at l p o d c).y }) child (record { left = le_self _; right = wide; top = le_self _; bottom = high }),
        in_outline (stage l p o d) frame most stands spans c (record { x = right_of (outline_at l p o d c); y = bottom_of (outline_at l p o d c) }) child (record { left = wide; right = le_self _; top = high; bottom = le_self _ }),
      )
    where
      end_after : (a b w z : ℤ) → a ≤ℤ b → pos 0 ≤ℤ w → (b +ℤ w) ≤ℤ z → a ≤ℤ z
      end_after a b w z h k m = omega (arith, ints, h, k, m)

  section_in : (e : ℕ) → e < length d.sections → Each (Holds frame) (points_along (section_at d e))
  section_in e h =
      let many = drawn.section_count in
      let there : e < length l.edges = omega (arith, h, many) in
      let stands = stage_stands l p o d layers ready drawn in
      let route = routes_lawful l p o d layers ready drawn stands e there in
      section_each (Holds frame) route.0 (section_at d e) route.1 (route_in (stage l p o d) frame most stands spans e route.0 there route.2)

  all_in : Each (Holds frame) (reached (outlines_in l d) d.sections)
  all_in =
      reached_each (Holds frame) (outlines_in l d) d.sections
      (corners_each (Holds frame) (drawn_outline l d) (range_with_len 0 (length l.children)) (λ c has. outline_in c (below_has (length l.children) c has)))
      (sections_each (Holds frame) d.sections (record { start = record { x = pos 0; y = pos 0 }; bends = []; end = record { x = pos 0; y = pos 0 } }) section_in)

  -- ---- the sides

  abbrev reach : Reach
  reach = record { low = origin; high = record { x = d.extent.width; y = d.extent.height } }

  links_few : length p.layered.links + length l.edges ≤ length l.children * length l.edges
  links_few = let low = few_links l p o layers ready few in flipped _ (length l.edges) (length l.children) low
    where
      flipped : (n e c : ℕ) → n ≤ e * c → n ≤ c * e
      flipped n e c h = omega (arith, h)

  outline_is : (c : ℕ) → Has (range_with_len 0 (length l.children)) c → outline_at l p o d c ≡ drawn_outline l d c
  outline_is c has = sym (outlines_are_drawn l p o d c (drawn.children c (below_has (length l.children) c has)))

  widths_are : over (λ c. (outline l p o c).width) (range_with_len 0 (length l.children)) ≡ outline_widths l d
  widths_are =
      over_same (λ c. (outline l p o c).width) (λ c. (drawn_outline l d c).width) (range_with_len 0 (length l.children)) (λ c has. ap (λ (r : Rect). r.width) (outline_is c has))
      ∙ sym (sum_is (λ (r : Rect). r.width) (drawn_outline l d) (range_with_len 0 (length l.children)))

  heights_are : over (λ c. (outline l p o c).height) (range_with_len 0 (length l.children)) ≡ outline_heights l d
  heights_are =
      over_same (λ c. (outline l p o c).height) (λ c. (drawn_outline l d c).height) (range_with_len 0 (length l.children)) (λ c has. ap (λ (r : Rect). r.height) (outline_is c has))
      ∙ sym (sum_is (λ (r : Rect). r.height) (drawn_outline l d) (range_with_len 0 (length l.children)))

  width_bounded : d.extent.width ≤ℤ (outline_widths l d +ℤ pos (room_between l))
  width_bounded =
      let wide = le_le _ _ _ (wide_at 0 (omega arith)) (right_most 0 (omega arith)) in
      bound _ _ _ _ (length (all_names l p o)) (length p.layered.links) (length l.edges) (length l.children) (length l.children * length l.edges) p.layers
      (reach_width frame (reached (outlines_in l d) d.sections) reach wide refl tight all_in) (borders_most l p o d layers ready drawn) (same_le _ _ widths_are) (few_names l p o) links_few few
    where
      bound : (w s a b : ℤ) (n m e c x k : ℕ) → w ≤ℤ s → s ≤ℤ (a +ℤ pos (n * 2 ^ 21 + (k + 1) * 2 ^ 20)) → a ≤ℤ b → n ≤ m + 4 * e → m + e ≤ x → k ≤ c → w ≤ℤ (b +ℤ pos (2 ^ 22 * (c + e + x + 1)))
      bound w s a b n m e c x k h1 h2 h3 h4 h5 h6 = omega (arith, ints, h1, h2, h3, h4, h5, h6)

  stack_most : stack ≤ℤ (outline_heights l d +ℤ pos (length l.edges * 2 ^ 21 + 2 * length l.edges * 2 ^ 21 + (length l.children + length p.layered.links) * 2 ^ 20))
  stack_most =
      bound _ _ _ _ (length p.layered.units) (length p.layered.links) (length l.edges) (length l.children)
      (stack_low (greatest_spacing p.layered) p.layered.units (spacing_low p.layered ready.sound)) (few_units l p o layers ready) (units_most l p o layers ready) (same_le _ _ heights_are)
    where
      bound : (s t a b : ℤ) (u m e c : ℕ) → s ≤ℤ (t +ℤ pos (u * 2 ^ 20)) → u ≤ c + m → t ≤ℤ (a +ℤ pos (e * 2 ^ 21 + 2 * e * 2 ^ 21)) → a ≤ℤ b → s ≤ℤ (b +ℤ pos (e * 2 ^ 21 + 2 * e * 2 ^ 21 + (c + m) * 2 ^ 20))
      bound s t a b u m e c h1 h2 h3 h4 = omega (arith, ints, h1, h2, h3, h4)

  spacing_least : pos 0 ≤ℤ greatest_spacing p.layered
  spacing_least = greatest_least _ _ _ ready.sound.node_node_is.low
    where
      greatest_least : (a b c : ℤ) → pos 1 ≤ℤ a → pos 0 ≤ℤ int_max (int_max a b) c
      greatest_least a b c h = omega (arith, ints, clamps, h)

  height_bounded : d.extent.height ≤ℤ (outline_heights l d +ℤ pos (room_between l))
  height_bounded =
      let high = frame_high _ d.top most (stack_least (greatest_spacing p.layered) p.layered.units spacing_least ready.sound.heights) in
      bound _ stack _ d.top (length (all_names l p o)) (length p.layered.links) (length l.edges) (length l.children) (length l.children * length l.edges)
      (reach_height frame (reached (outlines_in l d) d.sections) reach high refl tight all_in) stack_most (few_names l p o) links_few
    where
      frame_high : (s z : ℤ) (n : ℕ) → pos 0 ≤ℤ s → (pos 0 -ℤ z) ≤ℤ ((s +ℤ pos n) -ℤ z)
      frame_high s z n h = omega (arith, ints, h)

      bound : (h s b z : ℤ) (n m e c x : ℕ) → h ≤ℤ (((s +ℤ pos n) -ℤ z) -ℤ (pos 0 -ℤ z)) → s ≤ℤ (b +ℤ pos (e * 2 ^ 21 + 2 * e * 2 ^ 21 + (c + m) * 2 ^ 20)) → n ≤ m + 4 * e → m + e ≤ x → h ≤ℤ (b +ℤ pos (2 ^ 22 * (c + e + x + 1)))
      bound h s b z n m e c x h1 h2 h3 h4 = omega (arith, ints, h1, h2, h3, h4)

  bounded : IsBounded l d
  bounded = record { width = width_bounded; height = height_bounded }

  -- ---- how large that can be

  side_within : (w b a : ℤ) (c e x : ℕ) → w ≤ℤ (b +ℤ pos (2 ^ 22 * (c + e + x + 1))) → a ≡ b → a ≤ℤ pos (2 ^ 33 + 2 ^ 47) → c ≤ 2048 → e ≤ 2048 → x ≤ c * 2048 → w ≤ℤ pos (2 ^ 48)
  side_within w b a c e x h same low fc fe fx = omega (arith, ints, h, same, low, fc, fe, fx)

  pairs_few : length l.children * length l.edges ≤ length l.children * 2048
  pairs_few = mul-le-mul_left (length l.children) ready.level.few_edges

  width_small : IsSide d.extent.width
  width_small =
      record {
        above = from_zero _ _ _ tight.left tight.right (least_low (abscissae (reached (outlines_in l d) d.sections)));
        below = side_within _ _ _ (length l.children) (length l.edges) (length l.children * length l.edges) width_bounded widths_are (widths_low l p o layers ready) ready.level.few_children ready.level.few_edges pairs_few;
      }

  height_small : IsSide d.extent.height
  height_small =
      record {
        above = from_zero _ _ _ tight.top tight.bottom (least_low (heights (reached (outlines_in l d) d.sections)));
        below = side_within _ _ _ (length l.children) (length l.edges) (length l.children * length l.edges) height_bounded heights_are (heights_low l p o layers ready) ready.level.few_children ready.level.few_edges pairs_few;
      }

-- ---- wherever the drawing was moved

same_outline : (l : PlainLevel) (v : LevelOut) (a b x y : ℤ) (c : ℕ) (ks : List ℕ) → drawn_outline_from l (drawn_in v a b) c ks ≡ drawn_outline_from l (drawn_in v x y) c ks
same_outline l v a b x y c [] = refl
same_outline l v a b x y c (k ∷ ks) =
    ap (λ (r : Rect). hull r (rect_at (moved_by (drawn_box l (drawn_in v x y) c) (drawn_port (drawn_in v x y) c k)) (port_at (child_at l c) k).size)) (same_outline l v a b x y c ks)

moved_bounded : (l : PlainLevel) (v : LevelOut) (a b x y : ℤ) → IsBounded l (drawn_in v a b) → IsBounded l (drawn_in v x y)
moved_bounded l v a b x y h =
    let same : outlines_in l (drawn_in v a b) ≡ outlines_in l (drawn_in v x y) =
    map_same (drawn_outline l (drawn_in v a b)) (drawn_outline l (drawn_in v x y)) (range_with_len 0 (length l.children))
    (λ c has. same_outline l v a b x y c (range_with_len 0 (length (child_at l c).ports))) in
    record {
      width = subst (λ (rs : List Rect). v.extent.width ≤ℤ (sum_of_ints (map (λ (r : Rect). r.width) rs) +ℤ pos (room_between l))) same h.width;
      height = subst (λ (rs : List Rect). v.extent.height ≤ℤ (sum_of_ints (map (λ (r : Rect). r.height) rs) +ℤ pos (room_between l))) same h.height;
    }

-- ---- layers

layers_few : (level : LevelIn) (v : LevelOut) → IsLaidOut level v → v.plan.layered.layers ≤ length (plain_level level).children
layers_few level v laid =
    ⊎_elim
    (λ (none : v.plan.layered.layers ≡ 0). omega (arith, none))
    (λ (at : (c : ℕ) × (c < length v.certificate.layers) × (layer_in v.certificate.layers c + 1 ≡ v.plan.layered.layers)).
    let low = All-get_or (λ k. k < length (plain_level level).children) v.certificate.layers at.0 0 at.1 laid.certificate.low in
    let last = at.2 in
    omega (arith, low, last))
    laid.layers.reached

pub extents_bounded : ExtentsAreBounded
extents_bounded level v left top laid =
    moved_bounded (plain_level level) v laid.drawn.left laid.drawn.top left top
    (bounded (plain_level level) (plan_from v.certificate v.plan.layered v.plan.order v.plan.lines) laid.orders v.certificate.layers (drawn_in v laid.drawn.left laid.drawn.top) laid.ready
    (laid.drawn.drawing.from_plan laid.orders laid.ready) (layers_few level v laid) laid.placed.within laid.drawn.drawing.tight)

pub extents_small : ExtentsAreSmall
extents_small level v laid =
    let from = laid.drawn.drawing.from_plan laid.orders laid.ready in
    let few = layers_few level v laid in
    record {
      width = width_small (plain_level level) (plan_from v.certificate v.plan.layered v.plan.order v.plan.lines) laid.orders v.certificate.layers (drawn_in v laid.drawn.left laid.drawn.top) laid.ready
          from few laid.placed.within laid.drawn.drawing.tight;
      height = height_small (plain_level level) (plan_from v.certificate v.plan.layered v.plan.order v.plan.lines) laid.orders v.certificate.layers (drawn_in v laid.drawn.left laid.drawn.top) laid.ready
          from few laid.placed.within laid.drawn.drawing.tight;
    }
