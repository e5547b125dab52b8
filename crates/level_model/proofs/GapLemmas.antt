-- The gaps of a drawing have the widths of their level.
use Rattle.std.proofs.Common.{◌≡◌, ℕ, ◌+◌, ◌<◌, eqb, cond, ◌||◌, inl, inr, ℤ, pos, ◌+ℤ◌, ◌-ℤ◌, ◌*ℤ◌, ◌≤ℤ◌, ◌<ℤ◌, List, [], ◌∷◌, length, refl, ap, ◌∙◌, arith, add-one, eq-eqb}
use Rattle.std.proofs.lemmas.Int.{ints, clamps}
use Rattle.std.proofs.lemmas.Bool.{ne_eqb, cond_both, cases_eq}
use Rattle.std.specs.List.{range_with_len}
use Rattle.std.specs.Int.{int_max}
use Rattle.elk_doc.specs.declared.document.Slotting.{Slotting}
use Rattle.elk_doc.specs.declared.document.Slotting.TheVariants.{Fewest, Uncrossed}
use Rattle.elk_doc.specs.Sound.{IsSoundSpacing}
use Rattle.net_routes.specs.declared.Net.{Net}
use Rattle.net_routes.specs.declared.NetRoute.{NetRoute}
use Rattle.net_routes.specs.GapFree.{GapFree}
use Rattle.route_lines.specs.Points.{PlainGap, gap_in}
use Rattle.level_model.specs.Stage.{InRow, InGap, IsInner}
use Rattle.level_model.specs.Level.{PlainLevel, PlainPlan, Orders, outline}
use Rattle.level_model.specs.Nets.{widest, column_width, inner_width, gap_width, first_slot, gap_left, layer_of_child}
use Rattle.level_model.specs.FromPlan.{LevelDrawing, AreSlots, counts, IsGap, IsDrawnFrom}
use Rattle.level_model.specs.Drawing.{stage}
use Rattle.level_model.specs.Laws.{HasColumns}
use Rattle.level_model.proofs.Widths.{outer_room, inner_room, within_outer, outer_from_zero, within_inner, inner_above, inner_more}
use Rattle.level_model.proofs.Columns.{IsWide, AreColumns, rising, slots_apart, column, columns_apart, before, slot_before, after, slot_after, left_apart, right_apart}

-- the slots that a level asks for keep routes apart
pub slots_free : (s : Slotting) (nets : List Net) (count : ℕ) (routes : List NetRoute) → AreSlots s nets count routes → GapFree nets count routes
slots_free Fewest nets count routes h = h.free
slots_free Uncrossed nets count routes h = h.free

pub gap_free : (l : PlainLevel) (p : PlainPlan) (o : Orders) (d : LevelDrawing) (g : ℕ) → IsGap l p o d g → GapFree (gap_in d.gaps g).nets (gap_in d.gaps g).count (gap_in d.gaps g).routes
gap_free l p o d g is = slots_free l.choices.slots (gap_in d.gaps g).nets (gap_in d.gaps g).count (gap_in d.gaps g).routes is.slots

-- a column is not narrower than nothing
pub widest_from_zero : (l : PlainLevel) (p : PlainPlan) (o : Orders) (r : ℕ) (cs : List ℕ) → pos 0 ≤ℤ widest l p o r cs
widest_from_zero l p o r [] = omega (arith, ints)
widest_from_zero l p o r (c ∷ cs) =
    let rest = widest_from_zero l p o r cs in
    cond_both (eqb (layer_of_child p c) r) (int_max (outline l p o c).width (widest l p o r cs)) (widest l p o r cs) (λ z. pos 0 ≤ℤ z) (λ e. greater (outline l p o c).width (widest l p o r cs) rest) (λ e. rest)
  where
    greater : (a b : ℤ) → pos 0 ≤ℤ b → pos 0 ≤ℤ int_max a b
    greater a b h = omega (arith, ints, clamps, h)

-- n slots that begin here and follow in such steps fit a width
record Fits (layers g n : ℕ) (s from width : ℤ) : Type 0 where
  first : pos 0 ≤ℤ from
  first_inner : 0 < g → pos 1 ≤ℤ from
  last : (i : ℕ) → i < n → (from +ℤ (pos i *ℤ s)) ≤ℤ width
  last_inner : g < layers → (i : ℕ) → i < n → (from +ℤ (pos i *ℤ s)) <ℤ width
  wide : pos 0 ≤ℤ width
  wide_inner : 0 < g → g < layers → pos 1 ≤ℤ width

weaker : (x y : ℤ) → x <ℤ y → x ≤ℤ y
weaker x y h = omega (arith, ints)

from_nothing : (t v : ℤ) → t <ℤ v → (pos 0 +ℤ t) <ℤ v
from_nothing t v h = omega (arith, ints)

above_zero : (z : ℤ) → pos 1 ≤ℤ z → pos 0 ≤ℤ z
above_zero z h = omega (arith, ints)

module _ (layers g n : ℕ) (w a s : ℤ) (hw : pos 1 ≤ℤ w) (ha : pos 1 ≤ℤ a) (hs : pos 1 ≤ℤ s) where
  first_fits : g ≡ 0 → Fits layers g n s (pos 0) (outer_room a s n)
  first_fits e =
      record {
        first = omega (arith, ints);
        first_inner = λ l. absurd (omega (arith, l, e));
        last = λ i l. weaker _ _ (from_nothing _ _ (within_outer i n a s l ha hs).0);
        last_inner = λ b i l. from_nothing _ _ (within_outer i n a s l ha hs).0;
        wide = outer_from_zero n a s ha hs;
        wide_inner = λ l. absurd (omega (arith, l, e));
      }

  last_fits : g ≡ layers → Fits layers g n s a (outer_room a s n)
  last_fits e =
      record {
        first = above_zero a ha;
        first_inner = λ l. ha;
        last = λ i l. (within_outer i n a s l ha hs).1;
        last_inner = λ b. absurd (omega (arith, b, e));
        wide = outer_from_zero n a s ha hs;
        wide_inner = λ l b. absurd (omega (arith, b, e));
      }

  inner_fits : Fits layers g n s a (inner_room w a s n)
  inner_fits =
      record {
        first = above_zero a ha;
        first_inner = λ l. ha;
        last = λ i l. weaker _ _ (within_inner i n w a s l ha hs);
        last_inner = λ b i l. within_inner i n w a s l ha hs;
        wide = above_zero _ (inner_above n w a s hw);
        wide_inner = λ l b. inner_above n w a s hw;
      }

  fits : Fits layers g n s (cond (eqb g 0) (pos 0) a) (cond (eqb g 0 || eqb g layers) (outer_room a s n) (inner_room w a s n))
  fits =
      elim (cases_eq g 0) [
        | inl e ↦ rw (eq-eqb g 0 e) (first_fits e)
        | inr no_first ↦ rw (ne_eqb g 0 no_first)
            (elim (cases_eq g layers) [
              | inl e ↦ rw (eq-eqb g layers e) (last_fits e)
              | inr no_last ↦ rw (ne_eqb g layers no_last) inner_fits
            ])
      ]

left_less : (x y f : ℤ) → x ≡ y +ℤ f → pos 1 ≤ℤ f → y <ℤ x
left_less x y f e h = omega (arith, ints, e, h)

left_near : (x y f : ℤ) → x ≡ y +ℤ f → pos 0 ≤ℤ f → y ≤ℤ x
left_near x y f e h = omega (arith, ints, e, h)

slot_near : (x y z f v t : ℤ) → x ≡ y +ℤ f → z ≡ y +ℤ v → (f +ℤ t) ≤ℤ v → (x +ℤ t) ≤ℤ z
slot_near x y z f v t e k h = omega (arith, ints, e, k, h)

slot_less : (x y z f v t : ℤ) → x ≡ y +ℤ f → z ≡ y +ℤ v → (f +ℤ t) <ℤ v → (x +ℤ t) <ℤ z
slot_less x y z f v t e k h = omega (arith, ints, e, k, h)

-- a gap in which slots fit is wide
wide_gap : (layers g : ℕ) (s from width : ℤ) (gap : PlainGap) → Fits layers g gap.count s from width → pos 1 ≤ℤ s → gap.step ≡ s → gap.first ≡ gap.left +ℤ from → gap.right ≡ gap.left +ℤ width → IsWide layers g gap
wide_gap layers g s from width gap h hs step first right =
    record {
      step = rw step hs;
      first = left_near _ _ _ first h.first;
      first_inner = λ l. left_less _ _ _ first (h.first_inner l);
      last = λ i l. rw step (slot_near _ _ _ _ _ _ first right (h.last i l));
      last_inner = λ b i l. rw step (slot_less _ _ _ _ _ _ first right (h.last_inner b i l));
      wide = left_near _ _ _ right h.wide;
      wide_inner = λ l b. left_less _ _ _ right (h.wide_inner l b);
    }

module _ (l : PlainLevel) (p : PlainPlan) (o : Orders) (d : LevelDrawing) (sound : IsSoundSpacing l.spacing) (drawn : IsDrawnFrom l p o d) where
  there : (g : ℕ) → g < p.layers + 1 → g < length d.gaps
  there g h = let many = drawn.gap_count in omega (arith, h, many)

  each_wide : (g : ℕ) → g < p.layers + 1 → IsWide p.layers g (gap_in d.gaps g)
  each_wide g h =
      let gap = drawn.gaps g (there g h) in
      wide_gap p.layers g l.spacing.edge_edge_layers (first_slot l g) (gap_width l p g (gap_in d.gaps g).count) (gap_in d.gaps g)
      (fits p.layers g (gap_in d.gaps g).count l.spacing.node_layers l.spacing.edge_node_layers l.spacing.edge_edge_layers sound.node_layers.above sound.edge_node_layers.above sound.edge_edge_layers.above)
      sound.edge_edge_layers.above gap.step gap.first gap.right

  pub next_left : (g : ℕ) → g < p.layers → (gap_in d.gaps (g + 1)).left ≡ (gap_in d.gaps g).right +ℤ column_width l p o g
  unfolding gap_left
  next_left g h =
      let now = drawn.gaps g (there g (omega (arith, h))) in
      let next = drawn.gaps (g + 1) (there (g + 1) (omega (arith, h))) in
      let here : gap_left l p o (counts d.gaps) (g + 1) ≡ gap_left l p o (counts d.gaps) g +ℤ gap_width l p g (counts d.gaps g) +ℤ column_width l p o g = rw (add-one g) refl in
      next_is _ _ _ _ _ _ _ _ next.left here now.left now.right
    where
      next_is : (x y a v w z b r : ℤ) → x ≡ y -ℤ z → y ≡ a +ℤ v +ℤ w → b ≡ a -ℤ z → r ≡ b +ℤ v → x ≡ r +ℤ w
      next_is x y a v w z b r h k m n = omega (arith, ints, h, k, m, n)

  pub columns : AreColumns p.layers d.gaps (column_width l p o)
  columns = record { each = each_wide; next = next_left; widths = λ g. widest_from_zero l p o g (range_with_len 0 (length l.children)) }

  there_below : (g : ℕ) → g < length d.gaps → g < p.layers + 1
  there_below g h = let many = drawn.gap_count in omega (arith, h, many)

  in_row : InRow (stage l p o d)
  in_row = record { as_many = drawn.gap_count; columns = column p.layers d.gaps (column_width l p o) columns; apart = columns_apart p.layers d.gaps (column_width l p o) columns }

  in_gap : (g : ℕ) → g < length d.gaps → InGap (stage l p o d) g
  in_gap g h =
      let wide = each_wide g (there_below g h) in
      record {
        rising = λ a b ha hb r. rising p.layers g (gap_in d.gaps g) a b wide ha hb r;
        slots = λ i j less k. slots_apart (gap_in d.gaps g) i j wide.step less;
        before = before p.layers d.gaps (column_width l p o) columns g;
        slot_before = slot_before p.layers d.gaps (column_width l p o) columns g;
        after = λ r a less k ha. after p.layers d.gaps (column_width l p o) columns g (there_below g h) r a less ha;
        slot_after = λ r i less k. slot_after p.layers d.gaps (column_width l p o) columns g (there_below g h) r i less;
      }

  is_inner : (g : ℕ) → g < length d.gaps → IsInner (stage l p o d) g
  is_inner g h =
      record {
        left_apart = λ q r e le less. left_apart p.layers d.gaps (column_width l p o) columns g q r e le less;
        right_apart = right_apart p.layers d.gaps (column_width l p o) columns g;
      }

  pub has_columns : HasColumns l p o d
  has_columns = record { row = in_row; gap = in_gap; inner = is_inner }

  -- a gap between two columns has the room of layers
  pub inner_room_is : (g : ℕ) → 0 < g → g < p.layers → ((gap_in d.gaps g).left +ℤ l.spacing.node_layers) ≤ℤ (gap_in d.gaps g).right
  inner_room_is g some less =
      let gap = drawn.gaps g (there g (omega (arith, less))) in
      let inner : gap_width l p g (gap_in d.gaps g).count ≡ inner_width l (gap_in d.gaps g).count = rw (ne_eqb g 0 (λ e. absurd (omega (arith, some, e))), ne_eqb g p.layers (λ e. absurd (omega (arith, less, e)))) refl in
      roomy _ _ _ _ (gap.right ∙ ap (λ z. (gap_in d.gaps g).left +ℤ z) inner) (inner_more (gap_in d.gaps g).count l.spacing.node_layers l.spacing.edge_node_layers l.spacing.edge_edge_layers)
    where
      roomy : (x y v w : ℤ) → y ≡ x +ℤ v → w ≤ℤ v → (x +ℤ w) ≤ℤ y
      roomy x y v w e h = omega (arith, ints, e, h)
