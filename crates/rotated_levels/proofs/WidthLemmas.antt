-- From the left border of the first gap to the right border of the last it is no further than all outlines and slots are wide.
use Rattle.std.proofs.Common.{◌≡◌, inl, inr, ℕ, zero, suc, ◌+◌, ◌-◌, ◌*◌, ◌<◌, ◌≤◌, ◌^◌, ◌==◌, ◌||◌, cond, Bool, true, false, List, [], ◌∷◌, length, ℤ, pos, negsuc, ◌+ℤ◌, ◌-ℤ◌, ◌*ℤ◌, ◌≤ℤ◌, refl, arith}
use Rattle.std.proofs.Math.Nat.{mul-le-mul_left}
use Rattle.std.proofs.lemmas.Bool.{cases_Bool, cond_both, ne_eqb}
use Rattle.std.proofs.lemmas.Int.{clamps, ints}
use Rattle.std.specs.Int.{int_max}
use Rattle.std.specs.List.{range_with_len}
use Rattle.elk_doc.specs.Sound.{IsDistance}
use Rattle.route_lines.specs.Points.{gap_in}
use Rattle.level_model.specs.Level.{Orders, PlainLevel, PlainPlan, outline}
use Rattle.level_model.specs.Nets.{Name, all_names, column_width, gap_left, gap_of, gap_width, inner_width, layer_of_child, names_in, outer_width, widest}
use Rattle.level_model.specs.FromPlan.{LevelDrawing, IsDrawnFrom, counts}
use Rattle.level_model.specs.Ready.{IsReady}
use Rattle.level_model.proofs.Lists.{Has, range_has}
use Rattle.level_model.proofs.Widths.{inner_room, outer_room}
use Rattle.level_nets.proofs.WidthLemmas.{outline_least}
use Rattle.layer_units.proofs.TotalLemmas.{first}
use Rattle.rotated_levels.proofs.Names.{count_few}
use Rattle.rotated_levels.proofs.Sums.{counted, first_add, first_le, first_same, le_le, ones, over, over_least, part, parts_within}

-- ---- the room of slots

pub steps_most : (n : ℕ) (z : ℤ) → IsDistance z → (pos n *ℤ z) ≤ℤ pos (n * 2 ^ 20)
steps_most n (pos m) h =
    let high = h.below in
    let k : m ≤ 2 ^ 20 = omega (arith, ints, high) in
    let up : n * m ≤ n * 2 ^ 20 = mul-le-mul_left n k in
    omega (arith, ints, up)
steps_most n (negsuc m) h = let low = h.above in absurd (omega (arith, ints, low))

pub outer_most : (n : ℕ) (a s : ℤ) → IsDistance a → IsDistance s → outer_room a s n ≤ℤ pos (n * 2 ^ 20)
outer_most zero a s ha hs = omega (arith, ints)
outer_most (suc n) a s ha hs =
    let same : suc n - 1 ≡ n = omega arith in
    let up = steps_most n s hs in
    let high = ha.below in
    rw (ne_eqb (suc n) 0 (λ e. absurd (omega (arith, e))), same) (omega (arith, ints, up, high))

inner_most : (n : ℕ) (w a s : ℤ) → IsDistance w → IsDistance a → IsDistance s → inner_room w a s n ≤ℤ pos ((n + 1) * 2 ^ 20)
inner_most zero w a s hw ha hs = let high = hw.below in omega (arith, ints, high)
inner_most (suc n) w a s hw ha hs =
    let same : suc n - 1 ≡ n = omega arith in
    let up = steps_most n s hs in
    let high = ha.below in
    let wide = hw.below in
    rw (ne_eqb (suc n) 0 (λ e. absurd (omega (arith, e))), same) (both w (a +ℤ a +ℤ (pos n *ℤ s)) n wide (sum_most a (pos n *ℤ s) n high up))
  where
    sum_most : (a t : ℤ) (n : ℕ) → a ≤ℤ pos (2 ^ 20) → t ≤ℤ pos (n * 2 ^ 20) → (a +ℤ a +ℤ t) ≤ℤ pos ((suc n + 1) * 2 ^ 20)
    sum_most a t n h k = omega (arith, ints, h, k)

    both : (w z : ℤ) (n : ℕ) → w ≤ℤ pos (2 ^ 20) → z ≤ℤ pos ((suc n + 1) * 2 ^ 20) → int_max w z ≤ℤ pos ((suc n + 1) * 2 ^ 20)
    both w z n h k = omega (arith, ints, clamps, h, k)

-- ---- columns

widest_most : (l : PlainLevel) (p : PlainPlan) (o : Orders) (r : ℕ) (cs : List ℕ) → ((c : ℕ) → Has cs c → pos 0 ≤ℤ (outline l p o c).width)
    → widest l p o r cs ≤ℤ part (layer_of_child p) (λ c. (outline l p o c).width) cs r
widest_most l p o r [] h = omega (arith, ints)
widest_most l p o r (c ∷ cs) h =
    let here = h c (inl refl) in
    let least = part_least cs (λ b k. h b (inr k)) in
    let rest = widest_most l p o r cs (λ b k. h b (inr k)) in
    elim (cases_Bool (layer_of_child p c == r)) [
      | inl t ↦ rw t (of_two (outline l p o c).width (widest l p o r cs) _ here least rest)
      | inr f ↦ rw f (none_more (widest l p o r cs) _ rest)
    ]
  where
    part_least : (cs : List ℕ) → ((c : ℕ) → Has cs c → pos 0 ≤ℤ (outline l p o c).width) → pos 0 ≤ℤ part (layer_of_child p) (λ c. (outline l p o c).width) cs r
    part_least cs h = over_least (λ c. cond (layer_of_child p c == r) (outline l p o c).width (pos 0)) cs (λ c has. step (layer_of_child p c == r) (outline l p o c).width (h c has))
      where
        step : (b : Bool) (z : ℤ) → pos 0 ≤ℤ z → pos 0 ≤ℤ cond b z (pos 0)
        step true z k = k
        step false z k = omega (arith, ints)

    of_two : (a b t : ℤ) → pos 0 ≤ℤ a → pos 0 ≤ℤ t → b ≤ℤ t → int_max a b ≤ℤ (a +ℤ t)
    of_two a b t h k m = omega (arith, ints, clamps, h, k, m)

    none_more : (b t : ℤ) → b ≤ℤ t → b ≤ℤ (pos 0 +ℤ t)
    none_more b t h = omega (arith, ints, h)

module _ (l : PlainLevel) (p : PlainPlan) (o : Orders) (d : LevelDrawing) (layers : List ℕ) (ready : IsReady l p o layers) (drawn : IsDrawnFrom l p o d) where
  abbrev all : List ℕ
  all = range_with_len 0 (length l.children)

  width_least : (c : ℕ) → Has (range_with_len 0 (length l.children)) c → pos 0 ≤ℤ (outline l p o c).width
  width_least c has = let r = (range_has 0 (length l.children) c has).1 in outline_least l p o ready.level ready.units.orders c (omega (arith, r))

  columns_most : (n : ℕ) → first (column_width l p o) n ≤ℤ over (λ c. (outline l p o c).width) (range_with_len 0 (length l.children))
  columns_most n =
      let parts = first_le (column_width l p o) (part (layer_of_child p) (λ c. (outline l p o c).width) all) n (λ r less. widest_most l p o r all width_least) in
      let within = parts_within (layer_of_child p) (λ c. (outline l p o c).width) all n width_least in
      le_le _ _ _ parts within

  -- ---- gaps

  abbrev width_at : ℕ → ℤ
  width_at g = gap_width l p g (counts d.gaps g)

  gap_most : (g n : ℕ) → gap_width l p g n ≤ℤ pos ((n + 1) * 2 ^ 20)
  gap_most g n =
      let s = ready.level.spacing in
      cond_both ((g == 0) || (g == p.layers)) (outer_width l n) (inner_width l n) (λ z. z ≤ℤ pos ((n + 1) * 2 ^ 20))
      (λ t. let most = outer_most n l.spacing.edge_node_layers l.spacing.edge_edge_layers s.edge_node_layers s.edge_edge_layers in more _ n most)
      (λ f. inner_most n l.spacing.node_layers l.spacing.edge_node_layers l.spacing.edge_edge_layers s.node_layers s.edge_node_layers s.edge_edge_layers)
    where
      more : (z : ℤ) (n : ℕ) → z ≤ℤ pos (n * 2 ^ 20) → z ≤ℤ pos ((n + 1) * 2 ^ 20)
      more z n h = omega (arith, ints, h)

  gap_part : (g : ℕ) → g < length d.gaps → width_at g ≤ℤ (part (gap_of l p o) (λ (n : Name). pos (2 ^ 21)) (all_names l p o) g +ℤ pos (2 ^ 20))
  gap_part g h =
      let most = gap_most g (counts d.gaps g) in
      let few = count_few l p o d drawn g h in
      let same = counted (λ n. gap_of l p o n == g) (2 ^ 21) (all_names l p o) in
      slots (width_at g) _ (counts d.gaps g) (length (names_in l p o g)) most few same
    where
      slots : (w t : ℤ) (n m : ℕ) → w ≤ℤ pos ((n + 1) * 2 ^ 20) → n ≤ m + m → t ≡ pos (m * 2 ^ 21) → w ≤ℤ (t +ℤ pos (2 ^ 20))
      slots w t n m h k e = omega (arith, ints, h, k, e)

  gaps_most : (n : ℕ) → n ≤ length d.gaps → first width_at n ≤ℤ pos (length (all_names l p o) * 2 ^ 21 + n * 2 ^ 20)
  gaps_most n h =
      let t : ℕ → ℤ = part (gap_of l p o) (λ (x : Name). pos (2 ^ 21)) (all_names l p o) in
      let each = first_le width_at (λ g. t g +ℤ pos (2 ^ 20)) n (λ g less. gap_part g (omega (arith, less, h))) in
      let split = first_add t (λ g. pos (2 ^ 20)) n in
      let same = first_same (2 ^ 20) n in
      let within = parts_within (gap_of l p o) (λ (x : Name). pos (2 ^ 21)) (all_names l p o) n (λ x has. omega (arith, ints)) in
      let sum = ones (2 ^ 21) (all_names l p o) in
      total _ _ _ _ _ (length (all_names l p o)) n each split same within sum
    where
      total : (w s t u v : ℤ) (a n : ℕ) → w ≤ℤ s → s ≡ t +ℤ u → u ≡ pos (n * 2 ^ 20) → t ≤ℤ v → v ≡ pos (a * 2 ^ 21) → w ≤ℤ pos (a * 2 ^ 21 + n * 2 ^ 20)
      total w s t u v a n h e f k g = omega (arith, ints, h, e, f, k, g)

  -- ---- from border to border

  left_is : (n : ℕ) → gap_left l p o (counts d.gaps) n ≡ first width_at n +ℤ first (column_width l p o) n
  unfolding gap_left
  left_is zero = omega (arith, ints)
  left_is (suc n) = let rest = left_is n in sums _ _ _ (width_at n) (column_width l p o n) rest
    where
      sums : (x a b v w : ℤ) → x ≡ a +ℤ b → (x +ℤ v +ℤ w) ≡ ((a +ℤ v) +ℤ (b +ℤ w))
      sums x a b v w e = omega (arith, ints, e)

  first_left : gap_left l p o (counts d.gaps) 0 ≡ pos 0
  unfolding gap_left
  first_left = refl

  pub borders_most : ((gap_in d.gaps p.layers).right -ℤ (gap_in d.gaps 0).left)
      ≤ℤ (over (λ c. (outline l p o c).width) (range_with_len 0 (length l.children)) +ℤ pos (length (all_names l p o) * 2 ^ 21 + (p.layers + 1) * 2 ^ 20))
  borders_most =
      let many = drawn.gap_count in
      let last = drawn.gaps p.layers (omega (arith, many)) in
      let start = drawn.gaps 0 (omega (arith, many)) in
      let gaps = gaps_most (suc p.layers) (omega (arith, many)) in
      border _ _ _ _ _ _ _ _ _ _ (length (all_names l p o)) p.layers last.right last.left start.left first_left (left_is p.layers) gaps (columns_most p.layers)
    where
      border : (r x y a b z g s c w : ℤ) (m n : ℕ) → r ≡ x +ℤ g → x ≡ a -ℤ z → y ≡ b -ℤ z → b ≡ pos 0 → a ≡ s +ℤ c → (s +ℤ g) ≤ℤ pos (m * 2 ^ 21 + suc n * 2 ^ 20) → c ≤ℤ w
          → (r -ℤ y) ≤ℤ (w +ℤ pos (m * 2 ^ 21 + (n + 1) * 2 ^ 20))
      border r x y a b z g s c w m n e1 e2 e3 e4 e5 h k = omega (arith, ints, e1, e2, e3, e4, e5, h, k)
