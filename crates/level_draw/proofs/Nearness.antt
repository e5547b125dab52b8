-- All numbers of a level's gaps, steps and anchors are in range.
use Rattle.std.proofs.Common.{◌≡◌, ⊎_elim, ℕ, ◌+◌, ◌<◌, ◌≤◌, ◌^◌, Bool, true, false, cond, List, [], ◌∷◌, ◌++◌, map, reverse, length, ℤ, pos, neg_ℤ, ◌+ℤ◌, ◌-ℤ◌, ◌≤ℤ◌, ◌<ℤ◌, arith, sym, subst, ◌∙◌}
use Rattle.std.proofs.lemmas.Bool.{cases_lt, cond_both}
use Rattle.std.proofs.lemmas.Int.{ints, clamps}
use Rattle.std.proofs.lemmas.List.{get_or-reverse, get_or_past, length-map, length-reverse}
use Rattle.std.proofs.lemmas.List.Elements.{All-nil, All-cons, All-append, All-from_get_or, All-get_or, All-head, All-tail}
use Rattle.std.specs.Int.{int_min, int_max}
use Rattle.std.specs.List.{All}
use Rattle.drawing_types.specs.declared.shape.Side.{Side}
use Rattle.drawing_types.specs.declared.shape.Side.TheVariants.{North, East, South, West}
use Rattle.elk_doc.specs.Sound.{IsDistance}
use Rattle.elk_layers.specs.Layered.{IsFromZero, unit_at}
use Rattle.elk_layers.specs.Lines.{top_of}
use Rattle.self_loops.specs.Loops.{is_upright, way}
use Rattle.net_routes.specs.declared.Net.{Net}
use Rattle.net_routes.specs.Pieces.{net_at}
use Rattle.net_routes.specs.GapFree.{AreHeights, IsNearPins}
use Rattle.route_lines.specs.declared.Gap.{Gap}
use Rattle.route_lines.specs.declared.Step.{Step}
use Rattle.route_lines.specs.declared.Step.TheVariants.{Lane, Leg}
use Rattle.route_lines.specs.Points.{plain_gap, gap_in}
use Rattle.level_model.specs.declared.table.Table.{Table}
use Rattle.level_model.specs.Level.{Orders, End, end_at, spoke, is_loop, holds, dock_of}
use Rattle.level_model.specs.Lanes.{has_one_dock}
use Rattle.level_model.specs.Table.{end_in, loop_in, end_number}
use Rattle.level_model.specs.FromPlan.{IsGap, anchor}
use Rattle.level_model.specs.Traces as plan
use Rattle.level_model.proofs.Lists.{Has, at_has}
use Rattle.level_model.proofs.LinkLemmas.{chain_are}
use Rattle.level_model.proofs.GapLemmas.{gap_free}
use Rattle.dock_table.specs.Bounds.{AreNumbersIn, IsIn, IsEndIn, IsLoopIn}
use Rattle.level_nets.specs.declared.routing.Routing.{Routing}
use Rattle.level_nets.specs.Parts.{Parts, ArePlanned, EndAbove, plan_of}
use Rattle.level_nets.specs.Held.{plain_gaps}
use Rattle.level_nets.specs.Reach.{AreNetsIn, IsBelow}
use Rattle.level_nets.specs.Read.{dock_at, is_one_dock, dock_inverts, unit_of_dock}
use Rattle.level_nets.specs.Routed.{AreGapsIn, AreGapsOf, AreLegs, drawn_with}
use Rattle.level_nets.proofs.Gaps.{are_nets, nets_are}
use Rattle.level_nets.proofs.Names.{child_below}
use Rattle.level_nets.proofs.Reaching.{are_in_reach}
use Rattle.level_nets.proofs.Slots.{few_slots}
use Rattle.level_draw.specs.Read as read
use Rattle.level_draw.specs.Reach.{AreNumbersIn as AreBelow}
use Rattle.level_draw.proofs.Linking.{is_linked}
use Rattle.level_draw.proofs.LoopReading.{loop_steps_are}
use Rattle.level_draw.proofs.PlaceReading.{anchor_is, box_is}
use Rattle.level_draw.proofs.RangeLemmas.{box_numbers}
use Rattle.level_draw.proofs.StepReading.{edge_steps_are}
use Rattle.plan_laws.specs.Joins.{HoldNets}
use Rattle.plan_laws.specs.Nearness.{AreNearGaps, IsNearEnd, IsNearGap, IsNearHeight, IsNearStep}

-- ---- the table

below : (z : ℤ) → IsIn z → IsBelow z
below z w = let a = w.above in let b = w.below in record { above = omega (arith, ints, a); below = omega (arith, ints, b) }

pub numbers_below : (t : Table) → AreNumbersIn t → AreBelow t
numbers_below t are =
    record {
      outlines_x = λ c h. below _ (are.children c h).x;
      outlines_y = λ c h. below _ (are.children c h).y;
      anchors = λ i h. record { x = below _ (are.ends i h).anchor.x; y = below _ (are.ends i h).anchor.y };
      lanes = λ i h. below _ (are.ends i h).lane;
      north = λ e h. below _ (are.loops e h).north;
      south = λ e h. below _ (are.loops e h).south;
    }

origin_in : IsIn (pos 0)
origin_in = record { above = omega (arith, ints); below = omega (arith, ints) }

-- also an entry that isn't there has numbers in range
ends_near : (t : Table) → AreNumbersIn t → (i : ℕ) → IsEndIn (end_in t.ends i)
ends_near t are i =
    ⊎_elim (λ less. are.ends i less)
    (λ past. subst IsEndIn (sym (get_or_past t.ends i _ past)) (record { anchor = record { x = origin_in; y = origin_in }; lane = origin_in }))
    (cases_lt i (length t.ends))

loops_near : (t : Table) → AreNumbersIn t → (e : ℕ) → IsLoopIn (loop_in t.loops e)
loops_near t are e =
    ⊎_elim (λ less. are.loops e less)
    (λ past. subst IsLoopIn (sym (get_or_past t.loops e _ past)) (record { north = origin_in; south = origin_in }))
    (cases_lt e (length t.loops))

-- ---- numbers

height_sum : (t z : ℤ) → IsFromZero t (pos (2 ^ 49)) → IsIn z → IsNearHeight (t +ℤ z)
height_sum t z h w =
    let a = h.0 in let b = h.1 in let c = w.above in let d = w.below in
    record { above = omega (arith, ints, a, c); below = omega (arith, ints, b, d) }

height_alone : (t : ℤ) → IsFromZero t (pos (2 ^ 49)) → IsNearHeight t
height_alone t h = let a = h.0 in let b = h.1 in record { above = omega (arith, ints, a); below = omega (arith, ints, b) }

top_below : (t h : ℤ) → pos 0 ≤ℤ t → pos 0 ≤ℤ h → (t +ℤ h) <ℤ pos (2 ^ 49) → IsFromZero t (pos (2 ^ 49))
top_below t h low deep end = (low, omega (arith, ints, deep, end))

top_none : IsFromZero (pos 0) (pos (2 ^ 49))
top_none = (omega (arith, ints), omega (arith, ints))

end_point : (r o t b y ax ay : ℤ) → IsFromZero r (pos (2 ^ 51)) → IsBelow o → IsFromZero t (pos (2 ^ 49)) → IsFromZero b (pos (2 ^ 49)) → IsBelow y → IsIn ax → IsIn ay
    → IsNearEnd (record { x = (r -ℤ o) +ℤ ax; y = (t +ℤ (b -ℤ y)) +ℤ ay })
end_point r o t b y ax ay fr fo ft fb fy fa fz =
    let r0 = fr.0 in let r1 = fr.1 in let o0 = fo.above in let o1 = fo.below in
    let t0 = ft.0 in let t1 = ft.1 in let b0 = fb.0 in let b1 = fb.1 in let y0 = fy.above in let y1 = fy.below in
    let a0 = fa.above in let a1 = fa.below in let z0 = fz.above in let z1 = fz.below in
    record {
      x = record { above = omega (arith, ints, r0, o1, a0); below = omega (arith, ints, r1, o0, a1) };
      y = record { above = omega (arith, ints, t0, b0, y1, z0); below = omega (arith, ints, t1, b1, y0, z1) };
    }

low_end : (a b h : ℤ) → neg_ℤ (pos (2 ^ 50)) ≤ℤ a → neg_ℤ (pos (2 ^ 50)) ≤ℤ b → int_min a b ≤ℤ h → neg_ℤ (pos (2 ^ 51)) ≤ℤ h
low_end a b h la lb low = omega (arith, ints, clamps, la, lb, low)

high_end : (a b h : ℤ) (n : ℕ) → a ≤ℤ pos (2 ^ 50) → b ≤ℤ pos (2 ^ 50) → n ≤ 2 ^ 14 → h ≤ℤ (int_max a b +ℤ pos n) → h ≤ℤ pos (2 ^ 51)
high_end a b h n ha hb few high = omega (arith, ints, clamps, ha, hb, few, high)

-- a height near the pins of a gap
pins_near : (nets : List Net) (h : ℤ) → AreNetsIn nets → IsNearPins nets h → IsNearHeight h
pins_near nets h are near =
    let i = All-get_or AreHeights nets near.i _ near.i_in are.heights in
    let j = All-get_or AreHeights nets near.j _ near.j_in are.heights in
    record {
      above = low_end (net_at nets near.i).a.height (net_at nets near.i).b.height h i.a.low i.b.low near.low;
      below = high_end (net_at nets near.j).a.height (net_at nets near.j).b.height h (length nets) j.a.high j.b.high are.few near.high;
    }

-- ---- lists of steps

one : (a : Step) → IsNearStep a → All IsNearStep (a ∷ [])
one a h = All-cons IsNearStep a [] h (All-nil IsNearStep)

two : (a b : Step) → IsNearStep a → IsNearStep b → All IsNearStep (a ∷ b ∷ [])
two a b h k = All-cons IsNearStep a (b ∷ []) h (one b k)

reversed_near : (a : Step) → IsNearStep a → IsNearStep (plan.reversed_step a)
reversed_near (Lane h) w = w
reversed_near (Leg g n from_a) w = tt

map_near : (xs : List Step) → All IsNearStep xs → All IsNearStep (map plan.reversed_step xs)
map_near [] h = All-nil IsNearStep
map_near (x ∷ xs) h =
    All-cons IsNearStep (plan.reversed_step x) (map plan.reversed_step xs) (reversed_near x (All-head IsNearStep x xs h)) (map_near xs (All-tail IsNearStep x xs h))

reverse_near : (xs : List Step) → All IsNearStep xs → All IsNearStep (reverse xs)
reverse_near xs h =
    let long = length-reverse xs in
    All-from_get_or IsNearStep (reverse xs) (Lane (pos 0))
    (λ i less.
    let inside : i < length xs = omega (arith, less, long) in
    subst IsNearStep (sym (get_or-reverse xs i _ inside)) (All-get_or IsNearStep xs _ _ (omega (arith, inside)) h))

module _ (s : Parts) (rows : List (List ℕ)) (o : Orders) (layers : List ℕ) (planned : ArePlanned s rows o layers) (ends : EndAbove s) (numbers : AreNumbersIn s.table) where
  tops_near : (u : ℕ) → IsFromZero (top_of s.tops u) (pos (2 ^ 49))
  tops_near u =
      ⊎_elim
      (λ (less : u < length s.tops).
      let many = planned.ready.apart.as_many in
      let there : u < length s.layered.units = omega (arith, less, many) in
      top_below (top_of s.tops u) (unit_at s.layered.units u).height (planned.ready.apart.from_zero u there) (planned.ready.sound.heights u there) (ends u there))
      (λ past. subst (λ z. IsFromZero z (pos (2 ^ 49))) (sym (get_or_past s.tops u _ past)) top_none)
      (cases_lt u (length s.tops))

  -- ---- steps

  module _ (r : Routing) where
    dock_lane_near : (n : End) → IsNearStep (read.dock_lane_step s n)
    dock_lane_near n = height_sum _ _ (tops_near (unit_of_dock s (dock_at s n))) (ends_near s.table numbers (end_number n)).lane

    long_lane_near : (k : ℕ) → IsNearStep (read.long_lane_step s k)
    long_lane_near k = height_alone _ (tops_near _)

    leaving_near : (n : End) (inverted upright : Bool) → All IsNearStep (read.leaving s r n inverted upright)
    leaving_near n true upright = two (read.dock_leg s r n false) (read.dock_lane_step s n) tt (dock_lane_near n)
    leaving_near n false true = one (read.dock_lane_step s n) (dock_lane_near n)
    leaving_near n false false = All-nil IsNearStep

    entering_near : (n : End) (inverted upright : Bool) → All IsNearStep (read.entering s r n inverted upright)
    entering_near n true upright = two (read.dock_lane_step s n) (read.dock_leg s r n true) (dock_lane_near n) tt
    entering_near n false true = one (read.dock_lane_step s n) (dock_lane_near n)
    entering_near n false false = All-nil IsNearStep

    chain_near : (ks : List ℕ) → All IsNearStep (read.chain_steps s r ks)
    chain_near [] = All-nil IsNearStep
    chain_near (k ∷ []) = one (read.link_leg s r k) tt
    chain_near (k ∷ j ∷ ks) =
        All-cons IsNearStep (read.link_leg s r k) (read.long_lane_step s k ∷ read.chain_steps s r (j ∷ ks)) tt
        (All-cons IsNearStep (read.long_lane_step s k) (read.chain_steps s r (j ∷ ks)) (long_lane_near k) (chain_near (j ∷ ks)))

    oriented_near : (e : ℕ) → All IsNearStep (read.oriented_steps s r e)
    oriented_near e =
        All-append IsNearStep (read.steps_out s r (read.tail_of s e) ++ read.chain_steps s r (read.links_of s e)) (read.steps_in s r (read.head_of s e))
        (All-append IsNearStep (read.steps_out s r (read.tail_of s e)) (read.chain_steps s r (read.links_of s e))
        (leaving_near (read.tail_of s e) (dock_inverts s (read.tail_of s e)) (is_upright (dock_at s (read.tail_of s e)).side))
        (chain_near (read.links_of s e)))
        (entering_near (read.head_of s e) (dock_inverts s (read.head_of s e)) (is_upright (dock_at s (read.head_of s e)).side))

    loop_step_near : (e : ℕ) (side : Side) → IsNearStep (read.loop_step s r e side)
    loop_step_near e North = height_sum _ _ (tops_near (unit_of_dock s (dock_at s (end_at e true)))) (loops_near s.table numbers e).north
    loop_step_near e East = tt
    loop_step_near e South = height_sum _ _ (tops_near (unit_of_dock s (dock_at s (end_at e true)))) (loops_near s.table numbers e).south
    loop_step_near e West = tt

    way_near : (e : ℕ) (sides : List Side) → All IsNearStep (map (read.loop_step s r e) sides)
    way_near e [] = All-nil IsNearStep
    way_near e (side ∷ sides) = All-cons IsNearStep (read.loop_step s r e side) (map (read.loop_step s r e) sides) (loop_step_near e side) (way_near e sides)

    loop_near : (e : ℕ) (from to : Side) → All IsNearStep (read.loop_steps s r e from to)
    loop_near e from to = way_near e (way from to)

    links_there : (e k : ℕ) → Has (plan.chain (plan_of s rows) e) k → k < length s.layered.links
    links_there e k h =
        let at = at_has (plan.chain (plan_of s rows) e) 0 k h in
        let is = (chain_are (plan_of s rows) e at.0 at.1).0 in
        let same = at.2 in
        omega (arith, is, same)

    pub steps_near : AreLegs s.level (plan_of s rows) o r → (e : ℕ) → e < length s.level.edges → All IsNearStep (plan.steps_of s.level (plan_of s rows) o (pos 0) e)
    steps_near legs e h =
        cond_both (is_loop s.level e)
        (cond (has_one_dock s.level (plan_of s rows) o e) [] (plan.loop_steps s.level (plan_of s rows) o (pos 0) e (dock_of s.level (plan_of s rows) o (end_at e true)).side (dock_of s.level (plan_of s rows) o (end_at e false)).side))
        (cond (holds s.reversed e) (plan.reversed_steps (plan.oriented_steps s.level (plan_of s rows) o (pos 0) e)) (plan.oriented_steps s.level (plan_of s rows) o (pos 0) e))
        (All IsNearStep)
        (λ loop. subst (All IsNearStep) (loop_steps_are s rows o layers planned r legs e h loop)
        (cond_both (is_one_dock s e) [] (read.loop_steps s r e (dock_at s (end_at e true)).side (dock_at s (end_at e false)).side) (All IsNearStep)
        (λ same. All-nil IsNearStep) (λ apart. loop_near e (dock_at s (end_at e true)).side (dock_at s (end_at e false)).side)))
        (λ plain. subst (All IsNearStep) (edge_steps_are s rows o layers planned r legs e h plain (λ k has. links_there e k has))
        (cond_both (holds s.reversed e) (plan.reversed_steps (read.oriented_steps s r e)) (read.oriented_steps s r e) (All IsNearStep)
        (λ is_reversed. reverse_near (map plan.reversed_step (read.oriented_steps s r e)) (map_near (read.oriented_steps s r e) (oriented_near e))) (λ kept. oriented_near e)))

  -- ---- gaps

  module _ (gaps : List Gap) (many : length gaps ≡ s.layered.layers + 1) (are : AreGapsOf s gaps) (within : AreGapsIn gaps) where
    gap_is : (g : ℕ) → g < length gaps → IsGap s.level (plan_of s rows) o (drawn_with (plain_gaps gaps) (pos 0) (pos 0)) g
    gap_is g h = are rows o layers planned g h

    pub nets_near : (g : ℕ) → g < length gaps → AreNetsIn (gap_in (plain_gaps gaps) g).nets
    nets_near g h = subst AreNetsIn (nets_are s rows o layers planned g ∙ sym (gap_is g h).nets) (are_nets s rows o layers planned ends g)

    gap_near : (g : ℕ) → g < length gaps → IsNearGap (gap_in (plain_gaps gaps) g)
    gap_near g h =
        let first = (within g h).first in
        let nets = nets_near g h in
        let free = gap_free s.level (plan_of s rows) o (drawn_with (plain_gaps gaps) (pos 0) (pos 0)) g (gap_is g h) in
        let few = few_slots (gap_in (plain_gaps gaps) g).nets (gap_in (plain_gaps gaps) g).count (gap_in (plain_gaps gaps) g).routes free in
        let most = nets.few in
        record {
          first = record { above = first.0; below = first.1 };
          step = subst IsDistance (sym (gap_is g h).step) planned.ready.level.spacing.edge_edge_layers;
          count = omega (arith, few, most);
          slots_in = free.slots_in;
          heights = λ k i z t less is. pins_near (gap_in (plain_gaps gaps) g).nets z nets (free.fresh k i z t less is).near;
        }

    pub gaps_near : AreNearGaps (plain_gaps gaps)
    gaps_near g h = let long = length-map gaps plain_gap in gap_near g (omega (arith, h, long))

    pub nets_held : HoldNets s.level (plan_of s rows) o (pos 0) (plain_gaps gaps)
    nets_held =
        let long = length-map gaps plain_gap in
        record {
          as_many = long ∙ many;
          nets = λ g h. (gap_is g (omega (arith, h, long))).nets;
          routes = λ g h. (gap_free s.level (plan_of s rows) o (drawn_with (plain_gaps gaps) (pos 0) (pos 0)) g (gap_is g (omega (arith, h, long)))).as_many;
        }

    -- ---- anchors

    module _ (few : s.layered.layers ≤ 2048) where
      pub anchor_near : (n : End) → n.edge < length s.level.edges → IsNearEnd (anchor s.level (plan_of s rows) o (drawn_with (plain_gaps gaps) (pos 0) (pos 0)) n)
      anchor_near n h =
          let c = (spoke s.level n).child in
          let box = box_numbers s gaps c planned.ready.sound (are_in_reach s rows o layers planned ends few) (numbers_below s.table numbers) (is_linked s rows o layers planned ends) within many (child_below s rows o layers planned n h) in
          let at = (ends_near s.table numbers (end_number n)).anchor in
          subst IsNearEnd
          (anchor_is s rows o layers planned (plain_gaps gaps) (read.box_at s (plain_gaps gaps)) (λ d k. box_is s rows o layers planned (plain_gaps gaps) d k) n h)
          (end_point _ _ _ _ _ _ _ box.right box.x box.top box.body box.y at.x at.y)
