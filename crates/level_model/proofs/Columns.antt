-- Columns and gaps from left to right, over plain gaps.
use Rattle.std.proofs.Common.{◌≡◌, ℕ, zero, suc, ◌+◌, ◌-◌, ◌<◌, ◌≤◌, ℤ, pos, ◌+ℤ◌, ◌*ℤ◌, ◌≤ℤ◌, ◌<ℤ◌, List, refl, arith}
use Rattle.std.proofs.lemmas.Int.{ints}
use Rattle.net_routes.specs.Pieces.{Abscissa, left_border, slot, right_border, rank, IsAbscissa}
use Rattle.route_lines.specs.Points.{PlainGap, gap_in, stand}
use Rattle.level_model.proofs.Zones.{le_trans}
use Rattle.level_model.proofs.Widths.{steps_up, steps_less, steps_from_zero}

-- Gap number g of a level with this many layers holds its slots, strictly right of a column before it and strictly left of a
-- column behind it.
pub record IsWide (layers g : ℕ) (gap : PlainGap) : Type 0 where
  pub step : pos 1 ≤ℤ gap.step
  pub first : gap.left ≤ℤ gap.first
  pub first_inner : 0 < g → gap.left <ℤ gap.first
  pub last : (i : ℕ) → i < gap.count → (gap.first +ℤ (pos i *ℤ gap.step)) ≤ℤ gap.right
  pub last_inner : g < layers → (i : ℕ) → i < gap.count → (gap.first +ℤ (pos i *ℤ gap.step)) <ℤ gap.right
  pub wide : gap.left ≤ℤ gap.right
  pub wide_inner : 0 < g → g < layers → gap.left <ℤ gap.right

-- gaps and columns of these widths follow one another
pub record AreColumns (layers : ℕ) (gaps : List PlainGap) (width : ℕ → ℤ) : Type 0 where
  pub each : (g : ℕ) → g < layers + 1 → IsWide layers g (gap_in gaps g)
  pub next : (g : ℕ) → g < layers → (gap_in gaps (g + 1)).left ≡ (gap_in gaps g).right +ℤ width g
  pub widths : (g : ℕ) → pos 0 ≤ℤ width g

le_self : (z : ℤ) → z ≤ℤ z
le_self z = omega (arith, ints)

lt_le : (a b c : ℤ) → a <ℤ b → b ≤ℤ c → a <ℤ c
lt_le a b c h k = omega (arith, ints)

le_lt : (a b c : ℤ) → a ≤ℤ b → b <ℤ c → a <ℤ c
le_lt a b c h k = omega (arith, ints)

-- the abscissae of one gap
slot_after_left : (gap : PlainGap) (i : ℕ) → pos 1 ≤ℤ gap.step → gap.first ≤ℤ (gap.first +ℤ (pos i *ℤ gap.step))
slot_after_left gap i h = let some = steps_from_zero i gap.step (omega (arith, ints, h)) in omega (arith, ints, some)

pub from_left : (layers g : ℕ) (gap : PlainGap) (a : Abscissa) → IsWide layers g gap → IsAbscissa gap.count a → gap.left ≤ℤ stand gap a
from_left layers g gap left_border w h = le_self _
from_left layers g gap (slot i) w h = le_trans _ _ _ w.first (slot_after_left gap i w.step)
from_left layers g gap right_border w h = w.wide

pub to_right : (layers g : ℕ) (gap : PlainGap) (a : Abscissa) → IsWide layers g gap → IsAbscissa gap.count a → stand gap a ≤ℤ gap.right
to_right layers g gap left_border w h = w.wide
to_right layers g gap (slot i) w h = w.last i h
to_right layers g gap right_border w h = le_self _

slots_up : (gap : PlainGap) (i j : ℕ) → pos 1 ≤ℤ gap.step → pos (i + 1) ≤ℤ pos (j + 1) → (gap.first +ℤ (pos i *ℤ gap.step)) ≤ℤ (gap.first +ℤ (pos j *ℤ gap.step))
slots_up gap i j w r = let up = steps_up i j gap.step (omega (arith, ints, r)) (omega (arith, ints, w)) in omega (arith, ints, up)

not_before : (a b : ℕ) → a < b → pos b ≤ℤ pos a → ⊥
not_before a b h k = absurd (omega (arith, ints))

pub rising : (layers g : ℕ) (gap : PlainGap) (a b : Abscissa) → IsWide layers g gap → IsAbscissa gap.count a → IsAbscissa gap.count b → rank gap.count a ≤ℤ rank gap.count b → stand gap a ≤ℤ stand gap b
rising layers g gap left_border b w ha hb r = from_left layers g gap b w hb
rising layers g gap (slot i) left_border w ha hb r = absurd (not_before 0 (i + 1) (omega arith) r)
rising layers g gap (slot i) (slot j) w ha hb r = slots_up gap i j w.step r
rising layers g gap (slot i) right_border w ha hb r = w.last i ha
rising layers g gap right_border left_border w ha hb r = absurd (not_before 0 (gap.count + 1) (omega arith) r)
rising layers g gap right_border (slot j) w ha hb r = absurd (not_before (j + 1) (gap.count + 1) (omega (arith, hb)) r)
rising layers g gap right_border right_border w ha hb r = le_self _

pub slots_apart : (gap : PlainGap) (i j : ℕ) → pos 1 ≤ℤ gap.step → i < j → stand gap (slot i) <ℤ stand gap (slot j)
slots_apart gap i j w h = let up = steps_less i j gap.step h w in omega (arith, ints, up)

module _ (layers : ℕ) (gaps : List PlainGap) (width : ℕ → ℤ) (c : AreColumns layers gaps width) where
  abbrev left_at : ℕ → ℤ
  left_at g = (gap_in gaps g).left

  abbrev right_at : ℕ → ℤ
  right_at g = (gap_in gaps g).right

  -- a column is as wide as its width
  pub column : (g : ℕ) → g < layers → right_at g ≤ℤ left_at (g + 1)
  column g h = rw (c.next g h) (wider (right_at g) (width g) (c.widths g))
    where
      wider : (a w : ℤ) → pos 0 ≤ℤ w → a ≤ℤ (a +ℤ w)
      wider a w k = omega (arith, ints)

  on_by : (k g : ℕ) → g + k < layers + 1 → right_at g ≤ℤ right_at (g + k)
  on_by zero g h = let same : g + 0 ≡ g = omega arith in rw same (le_self _)
  on_by (suc k) g h =
      let same : g + suc k ≡ g + k + 1 = omega arith in
      let less : g + k < layers = omega (arith, h) in
      rw same
      (le_trans _ _ _ (on_by k g (omega (arith, h))) (le_trans _ _ _ (column (g + k) less) (c.each (g + k + 1) (omega (arith, h))).wide))

  -- the right borders, and the left ones, do not fall
  pub rights : (g r : ℕ) → g ≤ r → r < layers + 1 → right_at g ≤ℤ right_at r
  rights g r h k = let same : g + (r - g) ≡ r = omega arith in rw same at (on_by (r - g) g (omega arith))

  pub lefts : (r g : ℕ) → r < g → g < layers + 1 → left_at (r + 1) ≤ℤ left_at g
  lefts r g h k = step (g - (r + 1)) refl
    where
      step : (d : ℕ) → g - (r + 1) ≡ d → left_at (r + 1) ≤ℤ left_at g
      step zero e = let same : r + 1 ≡ g = omega (arith, e, h) in rw same (le_self _)
      step (suc d) e =
          let last : g - 1 + 1 ≡ g = omega (arith, h) in
          le_trans _ _ _ ((c.each (r + 1) (omega (arith, e, h, k))).wide)
          (le_trans _ _ _ (rights (r + 1) (g - 1) (omega (arith, e, h)) (omega (arith, k)))
          (rw last at (column (g - 1) (omega (arith, h, k)))))

  pub columns_apart : (r q : ℕ) → r < q → q < layers → left_at (r + 1) <ℤ right_at q
  columns_apart r q h k = lt_le _ _ _ ((c.each (r + 1) (omega arith)).wide_inner (omega arith) (omega arith)) (rights (r + 1) q (omega arith) (omega arith))

  -- what stands in a gap stands between the columns beside it
  pub before : (g r : ℕ) (a : Abscissa) → g ≤ r → r < layers → IsAbscissa (gap_in gaps g).count a → stand (gap_in gaps g) a ≤ℤ right_at r
  before g r a h k ha = le_trans _ _ _ (to_right layers g (gap_in gaps g) a (c.each g (omega (arith, h, k))) ha) (rights g r h (omega (arith, k)))

  pub slot_before : (g r i : ℕ) → g ≤ r → r < layers → i < (gap_in gaps g).count → stand (gap_in gaps g) (slot i) <ℤ right_at r
  slot_before g r i h k less = lt_le _ _ _ ((c.each g (omega (arith, h, k))).last_inner (omega (arith, h, k)) i less) (rights g r h (omega (arith, k)))

  pub after : (g : ℕ) → g < layers + 1 → (r : ℕ) (a : Abscissa) → r < g → IsAbscissa (gap_in gaps g).count a → left_at (r + 1) ≤ℤ stand (gap_in gaps g) a
  after g k r a h ha = le_trans _ _ _ (lefts r g h k) (from_left layers g (gap_in gaps g) a (c.each g k) ha)

  pub slot_after : (g : ℕ) → g < layers + 1 → (r i : ℕ) → r < g → i < (gap_in gaps g).count → left_at (r + 1) <ℤ stand (gap_in gaps g) (slot i)
  slot_after g k r i h less =
      le_lt _ _ _ (lefts r g h k) (lt_le _ _ _ ((c.each g k).first_inner (omega (arith, h))) (slot_after_left (gap_in gaps g) i (c.each g k).step))

  -- the borders of a gap between two columns
  pub left_apart : (g q r : ℕ) → q + 1 ≡ g → g ≤ r → r < layers → left_at g <ℤ right_at r
  left_apart g q r e h k = lt_le _ _ _ ((c.each g (omega (arith, h, k))).wide_inner (omega (arith, e)) (omega (arith, h, k))) (rights g r h (omega (arith, k)))

  pub right_apart : (g r : ℕ) → r < g → g < layers → left_at (r + 1) <ℤ right_at g
  right_apart g r h k = le_lt _ _ _ (lefts r g h (omega (arith, k))) ((c.each g (omega (arith, k))).wide_inner (omega (arith, h)) k)
