-- All units together are no higher than all outlines and lanes, and there are few units.
use Rattle.std.proofs.Common.{◌≡◌, ⊎_elim, ℕ, zero, suc, ◌+◌, ◌*◌, ◌<◌, ◌≤◌, ◌^◌, ◌==◌, not, true, List, [], ◌∷◌, ◌++◌, map, length, ℤ, pos, ◌+ℤ◌, ◌≤ℤ◌, refl, sym, ap, subst, ◌∙◌, arith}
use Rattle.std.proofs.lemmas.Int.{ints}
use Rattle.std.proofs.lemmas.List.{length-append, length-map}
use Rattle.std.proofs.lemmas.List.FromFn.{length-range_with_len}
use Rattle.std.specs.Prelude.{Option, None, Some, is_some}
use Rattle.std.specs.List.{filter, range_with_len}
use Rattle.drawing_types.specs.declared.shape.Side.TheVariants.{North, South}
use Rattle.elk_layers.specs.declared.units.Unit.{Unit as LayerUnit}
use Rattle.elk_layers.specs.Layered.{link_at, total_height, unit_at}
use Rattle.unit_blocks.specs.Constraints.{stacked_height}
use Rattle.rotated_levels.proofs.CountLemmas.{distinct_range}
use Rattle.level_model.specs.Level.{End, Orders, PlainLevel, PlainPlan, all_ends, edge_at, outline, spoke}
use Rattle.level_model.specs.Lanes.{lanes, unit_height}
use Rattle.level_model.specs.Nets.{is_number, unit_of}
use Rattle.level_model.specs.Units.{IsLaneUnit}
use Rattle.level_model.specs.Ready.{IsReady}
use Rattle.level_model.proofs.FirstPlaces.{no_more}
use Rattle.level_model.proofs.Lists.{Has, below_has, has_left, has_map, has_range, has_right}
use Rattle.level_nets.proofs.ListLemmas.{range_split}
use Rattle.layer_units.proofs.ReadLemmas.{number_some}
use Rattle.layer_units.proofs.TotalLemmas.{IsCounted, first, total_within}
use Rattle.level_nets.proofs.Holding.{ends_long}
use Rattle.rotated_levels.proofs.LaneCounts.{lanes_few}
use Rattle.rotated_levels.proofs.Sums.{counted, first_add, first_le, ones, over, part, parts_within}
use Rattle.rotated_levels.proofs.WidthLemmas.{outer_most}

-- ---- the first numbers as a list

over_append : {X : Type 0} (f : X → ℤ) (xs ys : List X) → over f (xs ++ ys) ≡ over f xs +ℤ over f ys
over_append f [] ys = omega (arith, ints)
over_append f (x ∷ xs) ys = let rest = over_append f xs ys in omega (arith, ints, rest)

first_over : (f : ℕ → ℤ) (n : ℕ) → first f n ≡ over f (range_with_len 0 n)
first_over f zero = refl
first_over f (suc n) =
    let rest = first_over f n in
    let more : n + 1 ≡ suc n = omega arith in
    let split : range_with_len 0 (suc n) ≡ range_with_len 0 n ++ range_with_len (0 + n) 1 = subst (λ m. range_with_len 0 m ≡ range_with_len 0 n ++ range_with_len (0 + n) 1) more (range_split 0 n 1) in
    let sum = over_append f (range_with_len 0 n) (range_with_len (0 + n) 1) in
    let whole = ap (over f) split in
    let start : 0 + n ≡ n = omega arith in
    let last = ap f start in
    summed (first f n) (f n) (over f (range_with_len 0 n)) (f (0 + n)) (over f (range_with_len 0 n ++ range_with_len (0 + n) 1)) (over f (range_with_len 0 (suc n))) rest last sum whole
  where
    summed : (a b c g s t : ℤ) → a ≡ c → g ≡ b → s ≡ c +ℤ (g +ℤ pos 0) → t ≡ s → (a +ℤ b) ≡ t
    summed a b c g s t e h k m = omega (arith, ints, e, h, k, m)

-- ---- how many units there are

module _ (l : PlainLevel) (p : PlainPlan) (o : Orders) (layers : List ℕ) (ready : IsReady l p o layers) where
  abbrev of_children : List ℕ
  of_children = map (unit_of p) (range_with_len 0 (length l.children))

  abbrev of_links : List ℕ
  of_links = map (λ k. (link_at p.layered.links k).head) (range_with_len 0 (length p.layered.links))

  unit_named : (u : ℕ) → u < length p.layered.units → Has (of_children ++ of_links) u
  unit_named u h =
      ⊎_elim
      (λ (lane : IsLaneUnit p u).
      has_right of_children of_links u
      (subst (Has of_links) lane.entered.2
      (has_map (λ k. (link_at p.layered.links k).head) (range_with_len 0 (length p.layered.links)) lane.entered.0 (let less = lane.entered.1 in has_range 0 (length p.layered.links) lane.entered.0 (omega arith) (omega (arith, less))))))
      (λ (child : (c : ℕ) × (c < length l.children) × (u ≡ unit_of p c)).
      has_left of_children of_links u
      (subst (Has of_children) (sym child.2) (has_map (unit_of p) (range_with_len 0 (length l.children)) child.0 (let less = child.1 in has_range 0 (length l.children) child.0 (omega arith) (omega (arith, less))))))
      (ready.units.linked.units u h)

  -- a unit for each child, and one for each link at most
  pub few_units : length p.layered.units ≤ length l.children + length p.layered.links
  few_units =
      counts _ _ (length p.layered.units) (length l.children) _ _
      (no_more (range_with_len 0 (length p.layered.units)) (of_children ++ of_links) (distinct_range 0 (length p.layered.units)) (λ u has. unit_named u (below_has (length p.layered.units) u has)))
      (length-range_with_len 0 (length p.layered.units))
      (length-append of_children of_links)
      (length-map (range_with_len 0 (length l.children)) (unit_of p) ∙ length-range_with_len 0 (length l.children))
      (length p.layered.links)
      (length-map (range_with_len 0 (length p.layered.links)) (λ k. (link_at p.layered.links k).head) ∙ length-range_with_len 0 (length p.layered.links))
    where
      counts : (a s u c x y : ℕ) → a ≤ s → a ≡ u → s ≡ x + y → x ≡ c → (k : ℕ) → y ≡ k → u ≤ c + k
      counts a s u c x y h e f g k m = omega (arith, h, e, f, g, m)

  -- ---- how high they are

  abbrev ends_part : ℕ → ℤ
  ends_part = part (λ (n : End). (spoke l n).child) (λ n. pos (2 ^ 21)) (all_ends l)

  abbrev loops_part : ℕ → ℤ
  loops_part = part (λ e. (edge_at l e).source.child) (λ e. pos (2 ^ 21)) (range_with_len 0 (length l.edges))

  unit_most : (c : ℕ) → unit_height l p o c ≤ℤ ((outline l p o c).height +ℤ (loops_part c +ℤ ends_part c))
  unit_most c =
      let s = ready.level.spacing in
      let north = outer_most (length (lanes l p o c North)) l.spacing.edge_node l.spacing.edge_edge s.edge_node s.edge_edge in
      let south = outer_most (length (lanes l p o c South)) l.spacing.edge_node l.spacing.edge_edge s.edge_node s.edge_edge in
      let above = lanes_few l p o c North in
      let below = lanes_few l p o c South in
      let ends = counted (λ (n : End). (spoke l n).child == c) (2 ^ 21) (all_ends l) in
      let loops = counted (λ e. (edge_at l e).source.child == c) (2 ^ 21) (range_with_len 0 (length l.edges)) in
      sum_most _ (outline l p o c).height _ _ _ (length (lanes l p o c North)) (length (lanes l p o c South))
      (length (filter (λ e. (edge_at l e).source.child == c) (range_with_len 0 (length l.edges)))) (length (filter (λ (n : End). (spoke l n).child == c) (all_ends l)))
      north south above below ends loops
    where
      sum_most : (a h b s t : ℤ) (n m x y : ℕ) → a ≤ℤ pos (n * 2 ^ 20) → b ≤ℤ pos (m * 2 ^ 20) → n ≤ x + y → m ≤ x + y → t ≡ pos (y * 2 ^ 21) → s ≡ pos (x * 2 ^ 21) → (a +ℤ h +ℤ b) ≤ℤ (h +ℤ (s +ℤ t))
      sum_most a h b s t n m x y ha hb hn hm et es = omega (arith, ints, ha, hb, hn, hm, et, es)

  height_least : (c : ℕ) → c < length l.children → pos 0 ≤ℤ unit_height l p o c
  height_least c h = subst (λ z. pos 0 ≤ℤ z) (ready.units.rooms c h).height (ready.sound.heights (unit_of p c) (ready.units.linked.children c h).in_range)

  some_same : (a b : ℕ) → Some a ≡ Some b → a ≡ b
  some_same a b e = cc

  counted_unit : (u : ℕ) → u < length p.layered.units → IsCounted (length l.children) (unit_at p.layered.units u)
  counted_unit u h =
      record {
        least = ready.sound.heights u h;
        flat = λ e. ready.sound.lanes_are_flat u h (ap (λ (o : Option ℕ). not (is_some o)) e);
        child = λ c e. ⊎_elim
            (λ (lane : IsLaneUnit p u). absurd (let bad : None ≡ Some c = sym lane.no_child ∙ e in cc))
            (λ (of : (b : ℕ) × (b < length l.children) × (u ≡ unit_of p b)).
            let named : (unit_at p.layered.units u).child ≡ Some of.0 = ap (λ v. (unit_at p.layered.units v).child) of.2 ∙ (ready.units.linked.children of.0 of.1).child in
            subst (λ b. b < length l.children) (some_same of.0 c (sym named ∙ e)) of.1)
            (ready.units.linked.units u h);
      }

  one_unit : (u m : ℕ) → u < length p.layered.units → m < length l.children → is_number (unit_at p.layered.units u).child m ≡ true
      → ((unit_at p.layered.units u).height ≤ℤ unit_height l p o m) × (u ≡ unit_of p m)
  one_unit u m hu hm is =
      let at = (ready.units.linked.children m hm).alone u hu (number_some (unit_at p.layered.units u).child m is) in
      let same = ap (λ v. (unit_at p.layered.units v).height) at ∙ (ready.units.rooms m hm).height in
      (omega (arith, ints, same), at)

  pub units_most : total_height p.layered.units ≤ℤ (over (λ c. (outline l p o c).height) (range_with_len 0 (length l.children)) +ℤ pos (length l.edges * 2 ^ 21 + 2 * length l.edges * 2 ^ 21))
  units_most =
      let total = total_within (length l.children) (λ c. unit_height l p o c) (unit_of p) p.layered.units height_least counted_unit one_unit in
      let each = first_le (λ c. unit_height l p o c) (λ c. (outline l p o c).height +ℤ (loops_part c +ℤ ends_part c)) (length l.children) (λ c less. unit_most c) in
      let two = first_add (λ c. (outline l p o c).height) (λ c. loops_part c +ℤ ends_part c) (length l.children) in
      let three = first_add loops_part ends_part (length l.children) in
      let list = first_over (λ c. (outline l p o c).height) (length l.children) in
      let loops = parts_within (λ e. (edge_at l e).source.child) (λ e. pos (2 ^ 21)) (range_with_len 0 (length l.edges)) (length l.children) (λ e has. omega (arith, ints)) in
      let ends = parts_within (λ (n : End). (spoke l n).child) (λ n. pos (2 ^ 21)) (all_ends l) (length l.children) (λ e has. omega (arith, ints)) in
      let all_loops = ones (2 ^ 21) (range_with_len 0 (length l.edges)) in
      let all = ones (2 ^ 21) (all_ends l) in
      let range = length-range_with_len 0 (length l.edges) in
      let long = ends_long (range_with_len 0 (length l.edges)) in
      sums _ _ _ _ _ _ _ _ _ _ (length (range_with_len 0 (length l.edges))) (length (all_ends l)) (length l.edges) total each two three list loops ends all_loops all range long
    where
      sums : (t u w h s a b g x y : ℤ) (m n e : ℕ) → t ≤ℤ u → u ≤ℤ w → w ≡ h +ℤ s → s ≡ a +ℤ b → h ≡ g → a ≤ℤ x → b ≤ℤ y → x ≡ pos (m * 2 ^ 21) → y ≡ pos (n * 2 ^ 21) → m ≡ e → n ≡ 2 * m
          → t ≤ℤ (g +ℤ pos (e * 2 ^ 21 + 2 * e * 2 ^ 21))
      sums t u w h s a b g x y m n e h1 h2 h3 h4 h5 h6 h7 h8 h9 k1 k2 = omega (arith, ints, h1, h2, h3, h4, h5, h6, h7, h8, h9, k1, k2)

-- ---- stacks

pub stack_least : (s : ℤ) (us : List LayerUnit) → pos 0 ≤ℤ s → ((u : ℕ) → u < length us → pos 0 ≤ℤ (unit_at us u).height) → pos 0 ≤ℤ stacked_height s us
stack_least s [] h k = omega (arith, ints)
stack_least s (u ∷ us) h k =
    let here = k 0 (omega arith) in
    let rest = stack_least s us h (λ v less. k (suc v) (omega (arith, less))) in
    sum_least u.height s (stacked_height s us) here h rest
  where
    sum_least : (a b c : ℤ) → pos 0 ≤ℤ a → pos 0 ≤ℤ b → pos 0 ≤ℤ c → pos 0 ≤ℤ (a +ℤ b +ℤ c)
    sum_least a b c h k m = omega (arith, ints, h, k, m)
