-- What is read off a table are the ranks of the plan.
use Rattle.std.proofs.Common.{◌≡◌, ◌⊎◌, ⊎_elim, inl, inr, ℕ, ◌<◌, ◌&&◌, ◌||◌, cond, Bool, true, false, ℤ, pos, List, [], ◌∷◌, map, length, get_or, refl, sym, subst, ap, ap₂, ◌∙◌, arith}
use Rattle.std.specs.Prelude.{Some, int_lt}
use Rattle.std.specs.Ordering.{int_eq}
use Rattle.std.specs.List.{filter, range_with_len}
use Rattle.std.proofs.lemmas.Bool.{and_parts}
use Rattle.drawing_types.specs.declared.shape.Side.{Side}
use Rattle.drawing_types.specs.declared.shape.Side.TheVariants.{East, West}
use Rattle.elk_doc.specs.declared.document.PortRule.{PortRule}
use Rattle.elk_doc.specs.declared.document.PortRule.TheVariants.{FixedOrder, FixedPos}
use Rattle.drawing_types.specs.Shapes.{is_side}
use Rattle.port_order.specs.declared.spots.Spot.{Spot}
use Rattle.port_order.specs.Child.{is_pinned, spot_at}
use Rattle.port_order.specs.Sides.{side_of}
use Rattle.port_order.specs.Order.{IsOrderOfSide}
use Rattle.port_order.specs.Places as places
use Rattle.port_order.specs.Places.{place_in}
use Rattle.level_model.specs.Level.{Orders, PlainLevel, PlainPlan, child_at, dock_of_spot, port_spot, spots}
use Rattle.level_model.specs.Units.{AreOrders, last_rank, offset_first, pinned_on, ports_on}
use Rattle.level_model.specs.Marks.{AreMarks}
use Rattle.level_nets.proofs.ListLemmas.{filter_same}
use Rattle.layer_units.specs.declared.ports.PortAt.{PortAt}
use Rattle.layer_units.specs.Passing.{seen_spot}
use Rattle.layer_units.specs.Levels.{seen_spots}
use Rattle.layer_units.specs.Ports.{AreRanksOf, PlainRanks, comes_before, counts, is_first, port_at, ranks_port}
use Rattle.layer_units.proofs.PassingLemmas.{seen_at, seen_long, seen_same, seen_side}
use Rattle.layer_units.proofs.SpotLemmas.{have_ports}
use Rattle.level_nets.proofs.Gaps.{filter_mapped}

-- ---- lists

filter_both : {X : Type 0} (f g : X → Bool) (xs : List X) → filter g (filter f xs) ≡ filter (λ x. f x && g x) xs
filter_both f g [] = refl
filter_both {X} f g (x ∷ xs) = step (f x) refl (filter_both f g xs)
  where
    step : (b : Bool) → f x ≡ b → filter g (filter f xs) ≡ filter (λ x. f x && g x) xs → filter g (cond (f x) (x ∷ filter f xs) (filter f xs)) ≡ filter (λ x. f x && g x) (x ∷ xs)
    step true e rest = rw e (ap (λ (ys : List X). cond (g x) (x ∷ ys) ys) rest)
    step false e rest = rw e rest

swapped : (a b : Bool) → (a && b) ≡ (b && a)
swapped true true = refl
swapped true false = refl
swapped false true = refl
swapped false false = refl

-- two tests that agree where a third one passes
and_where : (a b d : Bool) → (a ≡ true → b ≡ d) → (a && b) ≡ (a && d)
and_where true b d h = h refl
and_where false b d h = refl

-- ---- the ports of a child

module _ (l : PlainLevel) (p : PlainPlan) (o : Orders) (marks : List Bool) (c : ℕ) (marked : AreMarks p.reversed (length l.edges) marks) where
  -- a port as it is counted, by its number
  abbrev own : ℕ → PortAt
  own k = port_at (child_at l c) (seen_spot l.edges marks c k)

  count_seen : (f : PortAt → Bool) → length (filter f (map (port_at (child_at l c)) (seen_spots l marks c))) ≡ length (filter (λ k. f (own k)) (range_with_len 0 (length (child_at l c).ports)))
  count_seen f =
      filter_mapped f (port_at (child_at l c)) (seen_spots l marks c)
      ∙ filter_mapped (λ (s : Spot). f (port_at (child_at l c) s)) (seen_spot l.edges marks c) (range_with_len 0 (length (child_at l c).ports))

  on_side : (k : ℕ) (side : Side) → is_side (side_of (child_at l c) (seen_spot l.edges marks c k)) side ≡ is_side (side_of (child_at l c) (port_spot l p c k)) side
  on_side k side = ap (λ s. is_side s side) (seen_side l p marks marked c k (child_at l c))

  fixed_count : (side : Side) → (child_at l c).rule ≡ FixedOrder → length (filter (counts side) (map (port_at (child_at l c)) (seen_spots l marks c))) ≡ length (ports_on l p c side)
  fixed_count side fixed =
      count_seen (counts side)
      ∙ ap (λ (ks : List ℕ). length ks)
      (filter_same (λ k. counts side (own k)) (λ k. is_side (side_of (child_at l c) (port_spot l p c k)) side) (range_with_len 0 (length (child_at l c).ports))
      (λ k h. ap (λ r. ranks_port r (is_pinned (child_at l c) k) && is_side (side_of (child_at l c) (seen_spot l.edges marks c k)) side) fixed ∙ on_side k side))

  placed_count : (side : Side) → (child_at l c).rule ≡ FixedPos → length (filter (counts side) (map (port_at (child_at l c)) (seen_spots l marks c))) ≡ length (pinned_on l p c side)
  placed_count side fixed =
      count_seen (counts side)
      ∙ ap (λ (ks : List ℕ). length ks)
      (filter_same (λ k. counts side (own k)) (λ k. is_side (side_of (child_at l c) (port_spot l p c k)) side && is_pinned (child_at l c) k) (range_with_len 0 (length (child_at l c).ports))
      (λ k h. ap (λ r. ranks_port r (is_pinned (child_at l c) k) && is_side (side_of (child_at l c) (seen_spot l.edges marks c k)) side) fixed
      ∙ ap (λ b. is_pinned (child_at l c) k && b) (on_side k side)
      ∙ swapped (is_pinned (child_at l c) k) (is_side (side_of (child_at l c) (port_spot l p c k)) side))
      ∙ sym (filter_both (λ k. is_side (side_of (child_at l c) (port_spot l p c k)) side) (is_pinned (child_at l c)) (range_with_len 0 (length (child_at l c).ports))))

  -- the offset of a pinned port
  own_offset : (k : ℕ) → is_pinned (child_at l c) k ≡ true → (own k).offset ≡ (dock_of_spot l o c (port_spot l p c k)).offset
  own_offset k pinned =
      ap (λ b. cond b (places.dock_of (child_at l c) (seen_spot l.edges marks c k) []) (pos 0)) pinned
      ∙ ap (λ b. places.offset_of (child_at l c) (side_of (child_at l c) (seen_spot l.edges marks c k)) b (Some k) [] k) pinned
      ∙ ap (λ s. places.offset_of (child_at l c) s true (Some k) [] k) (seen_side l p marks marked c k (child_at l c))
      ∙ sym (ap (λ b. places.offset_of (child_at l c) (side_of (child_at l c) (port_spot l p c k)) b (Some k) (o c (side_of (child_at l c) (port_spot l p c k))) k) pinned)

  first_is : (j k : ℕ) → is_pinned (child_at l c) j ≡ true → is_pinned (child_at l c) k ≡ true → is_first (own k) (own j) ≡ offset_first l p o c j k
  first_is j k pj pk = ap₂ (λ (x y : ℤ). int_lt x y || (int_eq x y && int_lt (pos j) (pos k))) (own_offset j pj) (own_offset k pk)

  before_count : (k : ℕ) (side : Side) → (child_at l c).rule ≡ FixedPos → is_pinned (child_at l c) k ≡ true → side_of (child_at l c) (port_spot l p c k) ≡ side
      → length (filter (comes_before (own k)) (map (port_at (child_at l c)) (seen_spots l marks c))) ≡ length (filter (λ j. offset_first l p o c j k) (pinned_on l p c side))
  before_count k side fixed pinned on =
      count_seen (comes_before (own k))
      ∙ ap (λ (ks : List ℕ). length ks)
      (filter_same (λ j. comes_before (own k) (own j)) (λ j. (is_side (side_of (child_at l c) (port_spot l p c j)) side && is_pinned (child_at l c) j) && offset_first l p o c j k) (range_with_len 0 (length (child_at l c).ports))
      (λ j h. ap (λ r. (ranks_port r (is_pinned (child_at l c) j) && is_side (side_of (child_at l c) (seen_spot l.edges marks c j)) (side_of (child_at l c) (seen_spot l.edges marks c k))) && is_first (own k) (own j)) fixed
      ∙ ap (λ s. (is_pinned (child_at l c) j && is_side (side_of (child_at l c) (seen_spot l.edges marks c j)) s) && is_first (own k) (own j)) (seen_side l p marks marked c k (child_at l c) ∙ on)
      ∙ ap (λ b. (is_pinned (child_at l c) j && b) && is_first (own k) (own j)) (on_side j side)
      ∙ ap (λ b. b && is_first (own k) (own j)) (swapped (is_pinned (child_at l c) j) (is_side (side_of (child_at l c) (port_spot l p c j)) side))
      ∙ and_where (is_side (side_of (child_at l c) (port_spot l p c j)) side && is_pinned (child_at l c) j) (is_first (own k) (own j)) (offset_first l p o c j k) (λ t. first_is j k (and_parts (is_side (side_of (child_at l c) (port_spot l p c j)) side) (is_pinned (child_at l c) j) t).1 pinned))
      ∙ sym (filter_both (λ j. is_side (side_of (child_at l c) (port_spot l p c j)) side && is_pinned (child_at l c) j) (λ j. offset_first l p o c j k) (range_with_len 0 (length (child_at l c).ports)))
      ∙ ap (filter (λ j. offset_first l p o c j k)) (sym (filter_both (λ j. is_side (side_of (child_at l c) (port_spot l p c j)) side) (is_pinned (child_at l c)) (range_with_len 0 (length (child_at l c).ports)))))

  -- ---- what is kept of a child's ports

  module _ (v : PlainRanks) (are : AreRanksOf (child_at l c) (seen_spots l marks c) v) where
    pub last_is : (side : Side) (b : Bool) → side ≡ cond b West East → (rule : PortRule) → (child_at l c).rule ≡ rule → (rule ≡ FixedOrder) ⊎ (rule ≡ FixedPos) → cond b v.west v.east ≡ last_rank l p c side rule
    last_is side true e rule is which = are.west_is ∙ ⊎_elim
        (λ f. fixed_count West (is ∙ f) ∙ sym (ap₂ (λ s r. last_rank l p c s r) e f))
        (λ f. placed_count West (is ∙ f) ∙ sym (ap₂ (λ s r. last_rank l p c s r) e f)) which
    last_is side false e rule is which = are.east_is ∙ ⊎_elim
        (λ f. fixed_count East (is ∙ f) ∙ sym (ap₂ (λ s r. last_rank l p c s r) e f))
        (λ f. placed_count East (is ∙ f) ∙ sym (ap₂ (λ s r. last_rank l p c s r) e f)) which

    pub place_before : (k : ℕ) (side : Side) (b : Bool) → side ≡ cond b West East → (child_at l c).rule ≡ FixedOrder → k < length (child_at l c).ports → side_of (child_at l c) (port_spot l p c k) ≡ side → AreOrders l p o → c < length l.children
        → get_or v.before k 0 ≡ place_in (o c side) k
    place_before k side b e fixed h on orders inside =
        let long = seen_long l.edges marks c (length (child_at l c).ports) in
        let at : side_of (child_at l c) (spot_at (seen_spots l marks c) k) ≡ side = ap (side_of (child_at l c)) (seen_at l.edges marks c (length (child_at l c).ports) k h) ∙ seen_side l p marks marked c k (child_at l c) ∙ on in
        (are.before.ordered fixed).place_is fixed k (omega (arith, h, long)) (beside (side_of (child_at l c) (spot_at (seen_spots l marks c) k)) b (at ∙ e)) (spots l p c) (o c side) (have_ports l p c) (seen_same l p marks c marked)
        (subst (λ s. IsOrderOfSide (child_at l c) s (spots l p c) (o c side)) (sym at) (orders c side inside))
      where
        beside : (s : Side) (b : Bool) → s ≡ cond b West East → (s ≡ West) ⊎ (s ≡ East)
        beside s true e = inl e
        beside s false e = inr e

    pub placed_before : (k : ℕ) (side : Side) → (child_at l c).rule ≡ FixedPos → k < length (child_at l c).ports → is_pinned (child_at l c) k ≡ true → side_of (child_at l c) (port_spot l p c k) ≡ side
        → get_or v.before k 0 ≡ length (filter (λ j. offset_first l p o c j k) (pinned_on l p c side))
    placed_before k side fixed h pinned on =
        let long = seen_long l.edges marks c (length (child_at l c).ports) in
        are.before.placed fixed k (omega (arith, h, long))
        ∙ ap (λ (s : Spot). length (filter (comes_before (port_at (child_at l c) s)) (map (port_at (child_at l c)) (seen_spots l marks c)))) (seen_at l.edges marks c (length (child_at l c).ports) k h)
        ∙ before_count k side fixed pinned on
