-- Layouts of parts are small enough to be packed, and their rows leave room for moving.
use Rattle.std.proofs.Common.{◌≡◌, ℕ, zero, suc, ◌+◌, ◌*◌, ◌-◌, ◌<◌, ◌≤◌, ◌^◌, List, [], ◌∷◌, length, map, ℤ, pos, ◌+ℤ◌, ◌≤ℤ◌, refl, sym, ap, ◌∙◌, arith}
use Rattle.std.specs.List.{range_with_len}
use Rattle.std.proofs.lemmas.Int.{ints}
use Rattle.std.proofs.Math.Nat.{mul-le-mul_left}
use Rattle.drawing_types.specs.declared.shape.Rect.{Rect}
use Rattle.drawing_types.specs.declared.shape.Size.{Size}
use Rattle.elk_doc.specs.Sound.{IsDistance}
use Rattle.box_pack.specs.declared.packing.Rows.{Rows}
use Rattle.box_pack.specs.Boxes.{EachSize, IsSize, point_at}
use Rattle.box_pack.specs.Packed.{AreRows}
use Rattle.box_pack.specs.Spaced.{AreSolid, gapped, height_at, width_at}
use Rattle.box_pack.proofs.SpacedLemmas.{rows_are_spaced}
use Rattle.rotated_levels.specs.Extents.{outline_heights, outline_widths}
use Rattle.rotated_levels.proofs.Bounded.{extents_bounded, extents_small}
use Rattle.rotated_levels.proofs.SizeLemmas.{heights_low, widths_low}
use Rattle.rotated_levels.proofs.Sums.{over, over_same}
use Rattle.level_draw.specs.declared.drawing.LevelOut.{LevelOut}
use Rattle.level_draw.specs.Drawing.{drawn_in, plan_from}
use Rattle.level_layout.specs.Layout.{IsLaidOut}
use Rattle.level_model.specs.declared.level.LevelIn.{LevelIn}
use Rattle.level_model.specs.Conditions.{plain_level, sum_of_ints}
use Rattle.level_model.specs.FromPlan.{LevelDrawing, IsDrawnFrom}
use Rattle.level_model.specs.Level.{PlainLevel, PlainPlan, outline}
use Rattle.level_model.specs.Drawing.{outline_at}
use Rattle.level_model.specs.Apart.{drawn_outline}
use Rattle.plan_laws.proofs.ApartLemmas.{outlines_are_drawn}
use Rattle.level_model.proofs.Lists.{Has, below_has}
use Rattle.level_split.specs.Gathered.{IsPartPlace}

-- ---- a part

pub sum_is : (size : Rect → ℤ) (g : ℕ → Rect) (cs : List ℕ) → sum_of_ints (map size (map g cs)) ≡ over (λ c. size (g c)) cs
sum_is size g [] = refl
sum_is size g (c ∷ cs) = ap (λ z. size (g c) +ℤ z) (sum_is size g cs)

module _ (level : LevelIn) (v : LevelOut) (laid : IsLaidOut level v) where
  abbrev l : PlainLevel
  l = plain_level level

  abbrev p : PlainPlan
  p = plan_from v.certificate v.plan.layered v.plan.order v.plan.lines

  abbrev d : LevelDrawing
  d = drawn_in v laid.drawn.left laid.drawn.top

  drawn : IsDrawnFrom l p laid.orders d
  drawn = laid.drawn.drawing.from_plan laid.orders laid.ready

  outline_is : (c : ℕ) → Has (range_with_len 0 (length l.children)) c → outline_at l p laid.orders d c ≡ drawn_outline l d c
  outline_is c has = sym (outlines_are_drawn l p laid.orders d c (drawn.children c (below_has (length l.children) c has)))

  widths_are : over (λ c. (outline l p laid.orders c).width) (range_with_len 0 (length l.children)) ≡ outline_widths l d
  widths_are =
      over_same (λ c. (outline l p laid.orders c).width) (λ c. (drawn_outline l d c).width) (range_with_len 0 (length l.children)) (λ c has. ap (λ (r : Rect). r.width) (outline_is c has))
      ∙ sym (sum_is (λ (r : Rect). r.width) (drawn_outline l d) (range_with_len 0 (length l.children)))

  heights_are : over (λ c. (outline l p laid.orders c).height) (range_with_len 0 (length l.children)) ≡ outline_heights l d
  heights_are =
      over_same (λ c. (outline l p laid.orders c).height) (λ c. (drawn_outline l d c).height) (range_with_len 0 (length l.children)) (λ c has. ap (λ (r : Rect). r.height) (outline_is c has))
      ∙ sym (sum_is (λ (r : Rect). r.height) (drawn_outline l d) (range_with_len 0 (length l.children)))

  pairs_few : length l.children * length l.edges ≤ length l.children * 2048
  pairs_few = mul-le-mul_left (length l.children) laid.ready.level.few_edges

  side_small : (w b a : ℤ) (c e x : ℕ) → w ≤ℤ (b +ℤ pos (2 ^ 22 * (c + e + x + 1))) → a ≡ b → a ≤ℤ pos (2 ^ 33 + 2 ^ 47) → c ≤ 2048 → e ≤ 2048 → x ≤ c * 2048 → w ≤ℤ pos (2 ^ 48 - 2 ^ 20)
  side_small w b a c e x h same low fc fe fx = omega (arith, ints, h, same, low, fc, fe, fx)

  pub part_size : IsSize v.extent
  part_size =
      let bounded = extents_bounded level v laid.drawn.left laid.drawn.top laid in
      let small = extents_small level v laid in
      let level_is = laid.ready.level in
      let w = side_small _ _ _ (length l.children) (length l.edges) (length l.children * length l.edges) bounded.width widths_are (widths_low l p laid.orders v.certificate.layers laid.ready) level_is.few_children level_is.few_edges pairs_few in
      let h = side_small _ _ _ (length l.children) (length l.edges) (length l.children * length l.edges) bounded.height heights_are (heights_low l p laid.orders v.certificate.layers laid.ready) level_is.few_children level_is.few_edges pairs_few in
      (small.width.above, w, small.height.above, h)

-- ---- rows

gapped_small : (gap : ℤ) (value : ℕ → ℤ) (n : ℕ) → gap ≤ℤ pos (2 ^ 20) → ((i : ℕ) → i < n → value i ≤ℤ pos (2 ^ 48 - 2 ^ 20)) → gapped gap value n ≤ℤ pos (n * 2 ^ 48)
unfolding gapped
gapped_small gap value zero room small = omega (arith, ints)
gapped_small gap value (suc n) room small =
    let rest = gapped_small gap value n room (λ i less. small i (omega (arith, less))) in
    let here = small n (omega arith) in
    omega (arith, ints, rest, here, room)

module _ (sizes : List Size) (gap limit : ℤ) (rows : Rows) (few : length sizes ≤ 2048) (are : EachSize sizes) (room : IsDistance gap) (packed : AreRows sizes gap limit rows) where
  solid : AreSolid sizes
  solid = record { width = λ i h. (are i h).0; height = λ i h. (are i h).2 }

  gap_least : pos 0 ≤ℤ gap
  gap_least = let low = room.above in omega (arith, ints, low)

  pub wide_most : rows.extent.width ≤ℤ pos (2 ^ 59)
  wide_most =
      let most = (rows_are_spaced sizes gap limit rows solid gap_least packed).width in
      let small = gapped_small gap (width_at sizes) (length sizes) room.below (λ i h. (are i h).1) in
      omega (arith, ints, most, small, few)

  pub high_most : rows.extent.height ≤ℤ pos (2 ^ 59)
  high_most =
      let most = (rows_are_spaced sizes gap limit rows solid gap_least packed).height in
      let small = gapped_small gap (height_at sizes) (length sizes) room.below (λ i h. (are i h).3) in
      omega (arith, ints, most, small, few)

  pub part_place : (i : ℕ) → i < length sizes → IsPartPlace (point_at rows.at i)
  part_place i h =
      let spaced = rows_are_spaced sizes gap limit rows solid gap_least packed in
      let x = spaced.right i h in
      let y = spaced.down i h in
      let w = (are i h).0 in
      let t = (are i h).2 in
      let right = packed.extent.width.all i h in
      let bottom = packed.extent.height.all i h in
      let wide = wide_most in
      let high = high_most in
      record { x = record { above = x; below = omega (arith, ints, right, wide, w) }; y = record { above = y; below = omega (arith, ints, bottom, high, t) } }
