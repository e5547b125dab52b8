-- The outlines of a level together are hardly wider or higher than its children and their ports.
use Rattle.std.proofs.Common.{◌≡◌, ℕ, suc, ◌+◌, ◌*◌, ◌<◌, ◌≤◌, ◌^◌, List, [], ◌∷◌, map, length, get_or, ℤ, pos, ◌+ℤ◌, ◌≤ℤ◌, refl, ap, subst, arith}
use Rattle.std.proofs.lemmas.Int.{ints}
use Rattle.std.specs.List.{range_with_len}
use Rattle.drawing_types.specs.declared.shape.Size.{Size}
use Rattle.port_order.specs.declared.children.Child.{Child}
use Rattle.level_model.specs.Conditions.{sizes_of, sum_of_ints, total_height, total_width}
use Rattle.level_model.specs.Level.{Orders, PlainLevel, PlainPlan, child_at, outline}
use Rattle.level_model.specs.Ready.{IsReady}
use Rattle.level_nets.proofs.WidthLemmas.{outline_width}
use Rattle.layer_units.proofs.SizeLemmas.{heights_of, outline_high}
use Rattle.rotated_levels.proofs.Sums.{over}

abbrev widths_of : Child → ℤ
widths_of c = sum_of_ints (map (λ (s : Size). s.width) (sizes_of c))

wide_is : (cs : List Child) → total_width cs ≡ over widths_of cs
wide_is [] = refl
wide_is (c ∷ cs) = ap (λ z. widths_of c +ℤ z) (wide_is cs)

high_is : (cs : List Child) → total_height cs ≡ over heights_of cs
high_is [] = refl
high_is (c ∷ cs) = ap (λ z. heights_of c +ℤ z) (high_is cs)

-- numbers that are each at most twice the size of a child and 2^22
children_most : (f : Child → ℤ) (w : ℕ → ℤ) (cs : List Child) (k : ℕ) (d : Child)
    → ((m i : ℕ) → m ≡ k + i → i < length cs → w m ≤ℤ (pos (2 ^ 22) +ℤ f (get_or cs i d) +ℤ f (get_or cs i d)))
    → over w (range_with_len k (length cs)) ≤ℤ (pos (length cs * 2 ^ 22) +ℤ over f cs +ℤ over f cs)
children_most f w [] k d h = omega (arith, ints)
children_most f w (c ∷ cs) k d h =
    let here = h k 0 (omega arith) (omega arith) in
    let rest = children_most f w cs (k + 1) d (λ m i e less. h m (suc i) (omega (arith, e)) (omega (arith, less))) in
    add_one (w k) (f c) (over w (range_with_len (k + 1) (length cs))) (over f cs) (length cs) here rest
  where
    add_one : (a s b t : ℤ) (n : ℕ) → a ≤ℤ (pos (2 ^ 22) +ℤ s +ℤ s) → b ≤ℤ (pos (n * 2 ^ 22) +ℤ t +ℤ t) → (a +ℤ b) ≤ℤ (pos (suc n * 2 ^ 22) +ℤ (s +ℤ t) +ℤ (s +ℤ t))
    add_one a s b t n h k = omega (arith, ints, h, k)

module _ (l : PlainLevel) (p : PlainPlan) (o : Orders) (layers : List ℕ) (ready : IsReady l p o layers) where
  -- all sizes together are at most 2^46
  most : (t s a : ℤ) (n : ℕ) → t ≤ℤ (pos (n * 2 ^ 22) +ℤ s +ℤ s) → a ≡ s → a ≤ℤ pos (2 ^ 46) → n ≤ 2048 → t ≤ℤ pos (2 ^ 33 + 2 ^ 47)
  most t s a n h e low few = omega (arith, ints, h, e, low, few)

  abbrev no_child : Child
  no_child = child_at (record { children = []; edges = []; spacing = l.spacing; choices = l.choices }) 0

  pub widths_low : over (λ c. (outline l p o c).width) (range_with_len 0 (length l.children)) ≤ℤ pos (2 ^ 33 + 2 ^ 47)
  widths_low =
      most _ (over widths_of l.children) _ (length l.children)
      (children_most widths_of (λ c. (outline l p o c).width) l.children 0 no_child
      (λ m i e less.
      let same : i ≡ m = omega (arith, e) in
      subst (λ j. (outline l p o j).width ≤ℤ (pos (2 ^ 22) +ℤ widths_of (child_at l i) +ℤ widths_of (child_at l i))) same (outline_width l p o ready.level ready.units.orders i less)))
      (wide_is l.children) ready.level.widths ready.level.few_children

  pub heights_low : over (λ c. (outline l p o c).height) (range_with_len 0 (length l.children)) ≤ℤ pos (2 ^ 33 + 2 ^ 47)
  heights_low =
      most _ (over heights_of l.children) _ (length l.children)
      (children_most heights_of (λ c. (outline l p o c).height) l.children 0 no_child
      (λ m i e less.
      let same : i ≡ m = omega (arith, e) in
      subst (λ j. (outline l p o j).height ≤ℤ (pos (2 ^ 22) +ℤ heights_of (child_at l i) +ℤ heights_of (child_at l i))) same
      (doubled _ (heights_of (child_at l i)) (outline_high l p o ready.level ready.units.orders i less))))
      (high_is l.children) ready.level.heights ready.level.few_children
    where
      doubled : (z s : ℤ) → z ≤ℤ ((s +ℤ pos (2 ^ 21)) +ℤ (s +ℤ pos (2 ^ 21))) → z ≤ℤ (pos (2 ^ 22) +ℤ s +ℤ s)
      doubled z s h = omega (arith, ints, h)
