-- The outlines of a level are together hardly longer than its children, where ports are short.
use Rattle.std.proofs.Common.{◌≡◌, ℕ, ◌+◌, ◌*◌, ◌<◌, ◌^◌, List, [], map, length, ℤ, pos, ◌+ℤ◌, ◌≤ℤ◌, sym, subst, arith}
use Rattle.std.proofs.lemmas.Int.{ints}
use Rattle.std.specs.List.{range_with_len}
use Rattle.drawing_types.specs.declared.shape.Rect.{Rect}
use Rattle.port_order.specs.declared.children.Child.{Child}
use Rattle.level_model.specs.Conditions.{sum_of_ints}
use Rattle.level_model.specs.FromPlan.{LevelDrawing, IsDrawnFrom}
use Rattle.level_model.specs.Level.{Orders, PlainLevel, PlainPlan, child_at}
use Rattle.level_model.specs.Apart.{drawn_outline}
use Rattle.level_model.specs.Ready.{IsReady}
use Rattle.plan_laws.proofs.ApartLemmas.{outlines_are_drawn}
use Rattle.rotated_levels.specs.Extents.{IsBounded, outline_heights, outline_widths}
use Rattle.rotated_levels.proofs.Sums.{over}
use Rattle.compound.proofs.ListLemmas.{sum_most}
use Rattle.compound.proofs.OutlineLemmas.{HasShortPorts, outline_high, outline_wide}
use Rattle.compound.proofs.SumLemmas.{room}

-- the width and the height of a child
abbrev pub wide : Child → ℤ
wide c = c.size.width

abbrev pub high : Child → ℤ
high c = c.size.height

-- all ports of a level are short
abbrev pub AllShort : PlainLevel → Type 0
AllShort l = (c : ℕ) → c < length l.children → HasShortPorts (child_at l c)

module _ (l : PlainLevel) (p : PlainPlan) (o : Orders) (layers : List ℕ) (d : LevelDrawing) (ready : IsReady l p o layers) (drawn : IsDrawnFrom l p o d) (short : AllShort l) where
  abbrev no_child : Child
  no_child = child_at (record { children = []; edges = []; spacing = l.spacing; choices = l.choices }) 0

  pub wide_at : (m i : ℕ) → m ≡ 0 + i → i < length l.children → (drawn_outline l d m).width ≤ℤ ((child_at l i).size.width +ℤ pos (2 ^ 23))
  wide_at m i e h =
      let same : i ≡ m = omega (arith, e) in
      subst (λ j. (drawn_outline l d j).width ≤ℤ ((child_at l i).size.width +ℤ pos (2 ^ 23))) same
      (subst (λ (r : Rect). r.width ≤ℤ ((child_at l i).size.width +ℤ pos (2 ^ 23))) (sym (outlines_are_drawn l p o d i (drawn.children i h)))
      (outline_wide l p o ready.level ready.units.orders i h (short i h)))

  pub high_at : (m i : ℕ) → m ≡ 0 + i → i < length l.children → (drawn_outline l d m).height ≤ℤ ((child_at l i).size.height +ℤ pos (2 ^ 23))
  high_at m i e h =
      let same : i ≡ m = omega (arith, e) in
      subst (λ j. (drawn_outline l d j).height ≤ℤ ((child_at l i).size.height +ℤ pos (2 ^ 23))) same
      (subst (λ (r : Rect). r.height ≤ℤ ((child_at l i).size.height +ℤ pos (2 ^ 23))) (sym (outlines_are_drawn l p o d i (drawn.children i h)))
      (outline_high l p o ready.level ready.units.orders i h (short i h)))

  pub widths_most : sum_of_ints (map (λ (r : Rect). r.width) (map (drawn_outline l d) (range_with_len 0 (length l.children)))) ≤ℤ (over wide l.children +ℤ pos (length l.children * 2 ^ 23))
  widths_most = sum_most (λ (r : Rect). r.width) (drawn_outline l d) wide l.children 0 no_child wide_at

  pub heights_most : sum_of_ints (map (λ (r : Rect). r.height) (map (drawn_outline l d) (range_with_len 0 (length l.children)))) ≤ℤ (over high l.children +ℤ pos (length l.children * 2 ^ 23))
  heights_most = sum_most (λ (r : Rect). r.height) (drawn_outline l d) high l.children 0 no_child high_at

  -- how long and how high a level is together
  pub extent_most : IsBounded l d → (d.extent.width +ℤ d.extent.height) ≤ℤ ((over wide l.children +ℤ over high l.children) +ℤ pos (room (length l.children) (length l.edges)))
  extent_most bounded =
      sides d.extent.width d.extent.height (outline_widths l d) (outline_heights l d) (over wide l.children) (over high l.children) (length l.children) (length l.edges) (length l.children * length l.edges) bounded.width bounded.height widths_most heights_most
    where
      sides : (w h a b x y : ℤ) (c e n : ℕ) → w ≤ℤ (a +ℤ pos (2 ^ 22 * (c + e + n + 1))) → h ≤ℤ (b +ℤ pos (2 ^ 22 * (c + e + n + 1))) → a ≤ℤ (x +ℤ pos (c * 2 ^ 23)) → b ≤ℤ (y +ℤ pos (c * 2 ^ 23))
          → (w +ℤ h) ≤ℤ ((x +ℤ y) +ℤ pos (c * 2 ^ 25 + 2 ^ 23 * (c + e + n + 1)))
      sides w h a b x y c e n p q r s = omega (arith, ints, p, q, r, s)
