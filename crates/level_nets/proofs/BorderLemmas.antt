-- Widths and borders of gaps in range, and gaps that are placed one after the other.
use Rattle.std.proofs.Common.{◌≡◌, ⊎_elim, ℕ, zero, suc, ◌+◌, ◌-◌, ◌*◌, ◌<◌, ◌≤◌, ◌^◌, eqb, cond, Bool, ◌||◌, List, [], ◌∷◌, length, get_or, set, ℤ, pos, negsuc, ◌+ℤ◌, ◌*ℤ◌, ◌≤ℤ◌, refl, sym, subst, ap, ◌∙◌, arith, FitsSigned, w64, to_z, of_z, add-one}
use Rattle.std.proofs.lemmas.Bool.{cases_eq, eq-eqb, ne_eqb, cond_both}
use Rattle.std.proofs.lemmas.Int.{ints, clamps}
use Rattle.std.proofs.lemmas.List.{length-set, get_or-set_same, get_or-set_other, get_or-map, map-set, length-map}
use Rattle.std.proofs.Math.Nat.{mul-le-mul_left}
use Rattle.std.specs.Int.{int_max}
use Rattle.std.specs.List.{range_with_len}
use Rattle.elk_doc.specs.Sound.{IsDistance, IsSoundSpacing}
use Rattle.elk_layers.specs.Layered.{IsFromZero, layer_of}
use Rattle.route_lines.specs.declared.Gap.{Gap}
use Rattle.route_lines.specs.Points.{PlainGap, plain_gap, gap_in}
use Rattle.level_model.specs.Level.{PlainLevel, PlainPlan}
use Rattle.level_model.specs.Nets.{gap_width, outer_width, inner_width}
use Rattle.level_model.specs.Table.{child_in}
use Rattle.level_model.proofs.GapLemmas.{slots_free}
use Rattle.level_nets.specs.Parts.{Parts, plan_of}
use Rattle.level_nets.specs.Read.{widest_of, width_of, left_of, columns_of}
use Rattle.level_nets.specs.Reach.{AreNetsIn, AreColumnsIn}
use Rattle.level_nets.specs.Held.{plain_gaps}
use Rattle.level_nets.specs.Placed.{AreWidest, AreWidths, IsPlaced, HaveBorders, counts_of}
use Rattle.level_nets.proofs.Slots.{few_slots}

-- so many steps
pub steps_in : (n : ℕ) (z : ℤ) → n < 2 ^ 32 → IsDistance z → IsFromZero (pos n *ℤ z) (pos (2 ^ 52))
steps_in n (pos m) h k =
    let low = k.above in
    let high = k.below in
    let small : m ≤ 1048576 = omega (arith, ints, high) in
    let more : n * m ≤ n * 1048576 = mul-le-mul_left n small in
    (omega (arith, ints), omega (arith, ints, more, h))
steps_in n (negsuc m) h k = let low = k.above in absurd (omega (arith, ints, low))

few_steps : (n : ℕ) (z : ℤ) → n ≤ 2 ^ 15 → IsDistance z → IsFromZero (pos n *ℤ z) (pos (2 ^ 35))
few_steps n (pos m) h k =
    let high = k.below in
    let small : m ≤ 1048576 = omega (arith, ints, high) in
    let more : n * m ≤ n * 1048576 = mul-le-mul_left n small in
    (omega (arith, ints), omega (arith, ints, more, h))
few_steps n (negsuc m) h k = let low = k.above in absurd (omega (arith, ints, low))

outer_sum : (a t : ℤ) → IsDistance a → IsFromZero t (pos (2 ^ 35)) → IsFromZero (a +ℤ t) (pos (2 ^ 36))
outer_sum a t ha ht = let l = ha.above in let h = ha.below in let x = ht.0 in let y = ht.1 in (omega (arith, ints, l, x), omega (arith, ints, h, y))

inner_sum : (w a t : ℤ) → IsDistance w → IsDistance a → IsFromZero t (pos (2 ^ 35)) → IsFromZero (int_max w (a +ℤ a +ℤ t)) (pos (2 ^ 36))
inner_sum w a t hw ha ht =
    let l = ha.above in let h = ha.below in let x = ht.0 in let y = ht.1 in let m = hw.above in let n = hw.below in
    (omega (arith, ints, clamps, m), omega (arith, ints, clamps, h, y, n))

one_distance : (w : ℤ) → IsDistance w → IsFromZero w (pos (2 ^ 36))
one_distance w hw = let l = hw.above in let h = hw.below in (omega (arith, ints, l), omega (arith, ints, h))

nothing : IsFromZero (pos 0) (pos (2 ^ 36))
nothing = (omega (arith, ints), omega (arith, ints))

-- a gap with few slots is not wide
width_in : (l : PlainLevel) (p : PlainPlan) (g n : ℕ) → IsSoundSpacing l.spacing → n ≤ 2 ^ 15 → IsFromZero (gap_width l p g n) (pos (2 ^ 36))
width_in l p g n sound few =
    let steps = few_steps (n - 1) l.spacing.edge_edge_layers (omega (arith, few)) sound.edge_edge_layers in
    cond_both (eqb g 0 || eqb g p.layers) (outer_width l n) (inner_width l n) (λ z. IsFromZero z (pos (2 ^ 36)))
    (λ outer. cond_both (eqb n 0) (pos 0) (l.spacing.edge_node_layers +ℤ (pos (n - 1) *ℤ l.spacing.edge_edge_layers)) (λ z. IsFromZero z (pos (2 ^ 36)))
    (λ none. nothing) (λ some. outer_sum l.spacing.edge_node_layers (pos (n - 1) *ℤ l.spacing.edge_edge_layers) sound.edge_node_layers steps))
    (λ inner. cond_both (eqb n 0) l.spacing.node_layers (int_max l.spacing.node_layers (l.spacing.edge_node_layers +ℤ l.spacing.edge_node_layers +ℤ (pos (n - 1) *ℤ l.spacing.edge_edge_layers))) (λ z. IsFromZero z (pos (2 ^ 36)))
    (λ none. one_distance l.spacing.node_layers sound.node_layers) (λ some. inner_sum l.spacing.node_layers l.spacing.edge_node_layers (pos (n - 1) *ℤ l.spacing.edge_edge_layers) sound.node_layers sound.edge_node_layers steps))

-- columns are not narrower than nothing
widest_from : (s : Parts) (r : ℕ) (cs : List ℕ) → pos 0 ≤ℤ widest_of s r cs
widest_from s r [] = omega (arith, ints)
widest_from s r (c ∷ cs) =
    let rest = widest_from s r cs in
    cond_both (eqb (layer_of s.layered (child_in s.table.children c).unit) r) (int_max (child_in s.table.children c).outline.width (widest_of s r cs)) (widest_of s r cs) (λ z. pos 0 ≤ℤ z)
    (λ here. above (child_in s.table.children c).outline.width (widest_of s r cs) rest) (λ other. rest)
  where
    above : (a b : ℤ) → pos 0 ≤ℤ b → pos 0 ≤ℤ int_max a b
    above a b h = omega (arith, ints, clamps, h)

pub width_from : (s : Parts) (r : ℕ) → pos 0 ≤ℤ width_of s r
unfolding width_of
width_from s r = widest_from s r (range_with_len 0 (length s.level.children))

-- the borders of the first gaps lie in range
abbrev pub AreLeftIn : Parts → ℕ → ℤ → Type 0
AreLeftIn s g z = (pos 0 ≤ℤ z) × (z ≤ℤ (columns_of s g +ℤ pos (g * 2 ^ 36)))

left_sum : (z w c v : ℤ) (g : ℕ) → pos 0 ≤ℤ z → z ≤ℤ (c +ℤ pos (g * 2 ^ 36)) → IsFromZero w (pos (2 ^ 36)) → pos 0 ≤ℤ v → (pos 0 ≤ℤ (z +ℤ w +ℤ v)) × ((z +ℤ w +ℤ v) ≤ℤ ((c +ℤ v) +ℤ pos (suc g * 2 ^ 36)))
left_sum z w c v g low high hw hv = let x = hw.0 in let y = hw.1 in (omega (arith, ints, low, x, hv), omega (arith, ints, high, y))

left_in : (s : Parts) (count : ℕ → ℕ) (g : ℕ) → IsSoundSpacing s.level.spacing → ((h : ℕ) → h < g → count h ≤ 2 ^ 15) → AreLeftIn s g (left_of s count g)
unfolding left_of columns_of
left_in s count zero sound few = (omega (arith, ints), omega (arith, ints))
left_in s count (suc g) sound few =
    let rest = left_in s count g sound (λ h less. few h (omega (arith, less))) in
    left_sum (left_of s count g) (gap_width s.level (plan_of s []) g (count g)) (columns_of s g) (width_of s g) g rest.0 rest.1
    (width_in s.level (plan_of s []) g (count g) sound (few g (omega arith))) (width_from s g)

-- the border depends on the gaps left of it alone
left_same : (s : Parts) (f h : ℕ → ℕ) (g : ℕ) → ((k : ℕ) → k < g → f k ≡ h k) → left_of s f g ≡ left_of s h g
unfolding left_of
left_same s f h zero same = refl
left_same s f h (suc g) same =
    ap (λ z. z +ℤ gap_width s.level (plan_of s []) g (f g) +ℤ width_of s g) (left_same s f h g (λ k less. same k (omega (arith, less))))
    ∙ ap (λ n. left_of s h g +ℤ gap_width s.level (plan_of s []) g n +ℤ width_of s g) (same g (omega arith))

-- so few slots
pub count_few : (s : Parts) (i : ℕ) (left : ℤ) (gap : PlainGap) → IsPlaced s i left gap → AreNetsIn gap.nets → gap.count ≤ 2 ^ 15
count_few s i left gap placed nets = let slots = few_slots gap.nets gap.count gap.routes (slots_free s.level.choices.slots gap.nets gap.count gap.routes placed.slots) in let few = nets.few in omega (arith, slots, few)

pub left_range : (s : Parts) (i : ℕ) (old now : List PlainGap) → IsSoundSpacing s.level.spacing → s.layered.layers ≤ 2048 → AreColumnsIn s → length old ≡ s.layered.layers + 1
    → ((g : ℕ) → g < length old → AreNetsIn (gap_in old g).nets) → i ≤ length old → HaveBorders s i old now → IsFromZero (left_of s (counts_of now) i) (pos (2 ^ 50))
left_range s i old now sound layers columns long nets within placed =
    let few : (h : ℕ) → h < i → counts_of now h ≤ 2 ^ 15 =
    λ h less. count_few s h (left_of s (counts_of now) h) (gap_in now h) (placed.each h less)
    (subst AreNetsIn (sym (placed.nets h (omega (arith, less, within)))) (nets h (omega (arith, less, within)))) in
    let left = left_in s (counts_of now) i sound few in
    let wide = columns i (omega (arith, within, long)) in
    let low = left.0 in
    let high = left.1 in
    let top = wide.1 in
    let small : i ≤ 2049 = omega (arith, within, long, layers) in
    (low, omega (arith, ints, high, top, small))

-- one gap more
pub placed_more : (s : Parts) (i : ℕ) (old now new : List PlainGap) (gap : PlainGap) (left : ℤ) → i < length old → HaveBorders s i old now → left ≡ left_of s (counts_of now) i
    → IsPlaced s i left gap → gap.nets ≡ (gap_in now i).nets → new ≡ set now i gap → HaveBorders s (i + 1) old new
placed_more s i old now new gap left less placed border here nets e =
    let long : length new ≡ length now = ap length e ∙ length-set now i gap in
    let inside : i < length now = let many = placed.as_many in omega (arith, less, many) in
    let at : gap_in new i ≡ gap = ap (λ gs. gap_in gs i) e ∙ get_or-set_same now i gap _ inside in
    let other : (g : ℕ) → (g ≡ i → ⊥) → gap_in new g ≡ gap_in now g = λ g ne. ap (λ gs. gap_in gs g) e ∙ get_or-set_other now i g gap _ ne in
    let kept : (g : ℕ) → g < i + 1 → left_of s (counts_of now) g ≡ left_of s (counts_of new) g =
    λ g below. left_same s (counts_of now) (counts_of new) g (λ k under. ap (λ (q : PlainGap). q.count) (sym (other k (λ same. omega (arith, same, under, below))))) in
    record {
      as_many = long ∙ placed.as_many;
      nets = λ g within.
          ⊎_elim
          (λ (same : g ≡ i). ap (λ k. (gap_in new k).nets) same ∙ ap (λ (q : PlainGap). q.nets) at ∙ nets ∙ ap (λ k. (gap_in now k).nets) (sym same) ∙ placed.nets g within)
          (λ ne. ap (λ (q : PlainGap). q.nets) (other g ne) ∙ placed.nets g within)
          (cases_eq g i);
      each = λ g below.
          ⊎_elim
          (λ (same : g ≡ i).
          subst (λ k. IsPlaced s k (left_of s (counts_of new) k) (gap_in new k)) (sym same)
          (subst (λ q. IsPlaced s i (left_of s (counts_of new) i) q) (sym at)
          (subst (λ z. IsPlaced s i z gap) (border ∙ kept i (omega arith)) here)))
          (λ ne.
          subst (λ q. IsPlaced s g (left_of s (counts_of new) g) q) (sym (other g ne))
          (subst (λ z. IsPlaced s g z (gap_in now g)) (kept g below) (placed.each g (omega (arith, below, ne)))))
          (cases_eq g i);
    }

pub left_more : (s : Parts) (i : ℕ) (old new : List PlainGap) → HaveBorders s (i + 1) old new → (gap_in new i).right +ℤ width_of s i ≡ left_of s (counts_of new) (i + 1)
unfolding left_of
left_more s i old new placed =
    let here = placed.each i (omega arith) in
    ap (λ z. z +ℤ width_of s i) here.right ∙ sym (next i)
  where
    next : (i : ℕ) → left_of s (counts_of new) (i + 1) ≡ left_of s (counts_of new) i +ℤ gap_width s.level (plan_of s []) i (counts_of new i) +ℤ width_of s i
    next i = rw (add-one i) refl

-- a column is no wider than all together
column_sum : (c v : ℤ) → pos 0 ≤ℤ c → (c +ℤ v) ≤ℤ pos (2 ^ 48) → v ≤ℤ pos (2 ^ 48)
column_sum c v h k = omega (arith, ints, h, k)

pub width_range : (s : Parts) (r : ℕ) → AreColumnsIn s → r ≤ s.layered.layers → IsFromZero (width_of s r) (pos (2 ^ 48))
unfolding columns_of
width_range s r columns h =
    let here = columns r (omega (arith, h)) in
    let next = columns (suc r) (omega (arith, h)) in
    (width_from s r, column_sum (columns_of s r) (width_of s r) here.0 next.1)

pub max_same : (a b c d : ℤ) → a ≡ c → b ≡ d → int_max a b ≡ int_max c d
max_same a b c d e f = ap (λ z. int_max z b) e ∙ ap (int_max c) f

-- before the first gap
pub placed_none : (s : Parts) (gaps : List PlainGap) → HaveBorders s 0 gaps gaps
placed_none s gaps = record { as_many = refl; nets = λ g h. refl; each = λ g h. absurd (omega (arith, h)) }

pub left_none : (s : Parts) (count : ℕ → ℕ) → pos 0 ≡ left_of s count 0
unfolding left_of
left_none s count = refl

-- a gap of the code's list
pub gap_read : (gaps : List Gap) (i : ℕ) (d : Gap) → i < length gaps → plain_gap (get_or gaps i d) ≡ gap_in (plain_gaps gaps) i
gap_read gaps i d h = sym (get_or-map plain_gap gaps i d _ h)

pub step_placed : (s : Parts) (i : ℕ) (old : List PlainGap) (gaps : List Gap) (g d : Gap) (left : ℤ) → i < length old → i < length gaps → HaveBorders s i old (plain_gaps gaps)
    → left ≡ left_of s (counts_of (plain_gaps gaps)) i → IsPlaced s i left (plain_gap g) → (plain_gap g).nets ≡ (plain_gap (get_or gaps i d)).nets → HaveBorders s (i + 1) old (plain_gaps (set gaps i g))
step_placed s i old gaps g d left less inside placed border here nets =
    placed_more s i old (plain_gaps gaps) (plain_gaps (set gaps i g)) (plain_gap g) left less placed border here
    (nets ∙ ap (λ (q : PlainGap). q.nets) (gap_read gaps i d inside)) (map-set plain_gap gaps i g)

pub right_read : (gaps : List Gap) (i : ℕ) (g d : Gap) → i < length gaps → (get_or (set gaps i g) i d).right ≡ (gap_in (plain_gaps (set gaps i g)) i).right
right_read gaps i g d h = ap (λ (q : PlainGap). q.right) (gap_read (set gaps i g) i d (let long = length-set gaps i g in omega (arith, h, long)))

right_sum : (r z w : ℤ) → r ≡ z +ℤ w → IsFromZero z (pos (2 ^ 50)) → IsFromZero w (pos (2 ^ 36)) → IsFromZero r (pos (2 ^ 51))
right_sum r z w e hz hw = let a = hz.0 in let b = hz.1 in let x = hw.0 in let y = hw.1 in (omega (arith, ints, e, a, x), omega (arith, ints, e, b, y))

pub right_range : (s : Parts) (i : ℕ) (left : ℤ) (gap : PlainGap) → IsSoundSpacing s.level.spacing → IsPlaced s i left gap → AreNetsIn gap.nets → IsFromZero left (pos (2 ^ 50)) → IsFromZero gap.right (pos (2 ^ 51))
right_range s i left gap sound placed nets range =
    right_sum gap.right left (gap_width s.level (plan_of s []) i gap.count) placed.right range (width_in s.level (plan_of s []) i gap.count sound (count_few s i left gap placed nets))

pub sum_fits : (r w x v : ℤ) → r ≡ x → w ≡ v → IsFromZero x (pos (2 ^ 51)) → IsFromZero v (pos (2 ^ 48)) → FitsSigned w64 (to_z w64 (of_z w64 r) +ℤ to_z w64 (of_z w64 w))
sum_fits r w x v e f hx hv = let a = hx.0 in let b = hx.1 in let c = hv.0 in let d = hv.1 in omega (arith, ints, e, f, a, b, c, d)

pub sum_is : (r w x v : ℤ) → r ≡ x → w ≡ v → IsFromZero x (pos (2 ^ 51)) → IsFromZero v (pos (2 ^ 48)) → to_z w64 (of_z w64 (to_z w64 (of_z w64 r) +ℤ to_z w64 (of_z w64 w))) ≡ x +ℤ v
sum_is r w x v e f hx hv = let a = hx.0 in let b = hx.1 in let c = hv.0 in let d = hv.1 in omega (arith, ints, e, f, a, b, c, d)

-- one child more
widest_at : (s : Parts) (n m r : ℕ) → m < n → widest_of s r (range_with_len (n - (m + 1)) (m + 1))
    ≡ cond (eqb (layer_of s.layered (child_in s.table.children (n - (m + 1))).unit) r) (int_max (child_in s.table.children (n - (m + 1))).outline.width (widest_of s r (range_with_len (n - m) m))) (widest_of s r (range_with_len (n - m) m))
widest_at s n m r h =
    let next : n - (m + 1) + 1 ≡ n - m = omega (arith, h) in
    let here : widest_of s r (range_with_len (n - (m + 1)) (m + 1))
    ≡ cond (eqb (layer_of s.layered (child_in s.table.children (n - (m + 1))).unit) r) (int_max (child_in s.table.children (n - (m + 1))).outline.width (widest_of s r (range_with_len (n - (m + 1) + 1) m))) (widest_of s r (range_with_len (n - (m + 1) + 1) m)) =
    rw (add-one m) refl in
    here ∙ ap (λ a. cond (eqb (layer_of s.layered (child_in s.table.children (n - (m + 1))).unit) r) (int_max (child_in s.table.children (n - (m + 1))).outline.width (widest_of s r (range_with_len a m))) (widest_of s r (range_with_len a m))) next

pub widest_more : (s : Parts) (m : ℕ) (old new : List ℤ) (layer : ℕ) (width : ℤ) → m < length s.level.children → layer < length old
    → layer ≡ layer_of s.layered (child_in s.table.children (length s.level.children - (m + 1))).unit → width ≡ (child_in s.table.children (length s.level.children - (m + 1))).outline.width
    → new ≡ set old layer (int_max width (get_or old layer (pos 0))) → AreWidest s m old → AreWidest s (m + 1) new
widest_more s m old new layer width h inside el ew e widest r less =
    let n = length s.level.children in
    let rest : ℤ = widest_of s r (range_with_len (length s.level.children - m) m) in
    let long : length new ≡ length old = ap length e ∙ length-set old layer (int_max width (get_or old layer (pos 0))) in
    let within : r < length old = omega (arith, less, long) in
    ap (λ ws. get_or ws r (pos 0)) e
    ∙ (⊎_elim
    (λ (same : r ≡ layer).
    ap (λ k. get_or (set old layer (int_max width (get_or old layer (pos 0)))) k (pos 0)) same
    ∙ get_or-set_same old layer (int_max width (get_or old layer (pos 0))) (pos 0) inside
    ∙ ap (λ k. int_max width (get_or old k (pos 0))) (sym same)
    ∙ ap (int_max width) (widest r within)
    ∙ ap (λ z. int_max z (widest_of s r (range_with_len (length s.level.children - m) m))) ew
    ∙ sym (ap (λ (b : Bool). cond b (int_max (child_in s.table.children (length s.level.children - (m + 1))).outline.width (widest_of s r (range_with_len (length s.level.children - m) m))) (widest_of s r (range_with_len (length s.level.children - m) m)))
    (eq-eqb (layer_of s.layered (child_in s.table.children (length s.level.children - (m + 1))).unit) r (sym el ∙ sym same))))
    (λ (other : r ≡ layer → ⊥).
    get_or-set_other old layer r (int_max width (get_or old layer (pos 0))) (pos 0) other
    ∙ widest r within
    ∙ sym (ap (λ (b : Bool). cond b (int_max (child_in s.table.children (length s.level.children - (m + 1))).outline.width (widest_of s r (range_with_len (length s.level.children - m) m))) (widest_of s r (range_with_len (length s.level.children - m) m)))
    (ne_eqb (layer_of s.layered (child_in s.table.children (length s.level.children - (m + 1))).unit) r (λ q. other (sym q ∙ sym el)))))
    (cases_eq r layer))
    ∙ sym (widest_at s (length s.level.children) m r h)

pub widest_all : (s : Parts) (widths : List ℤ) → length widths ≡ s.layered.layers + 1 → AreWidest s (length s.level.children) widths → AreWidths s widths
unfolding width_of
widest_all s widths long widest =
    let none : length s.level.children - length s.level.children ≡ 0 = omega arith in
    record { as_many = long; each = λ r h. widest r h ∙ ap (λ a. widest_of s r (range_with_len a (length s.level.children))) none }

-- what is asked of the gaps that are placed
pub record AreAsked (s : Parts) (olds : List Gap) : Type 0 where
  pub sound : IsSoundSpacing s.level.spacing
  pub layers : s.layered.layers ≤ 2048
  pub columns : AreColumnsIn s
  pub long : length olds ≡ s.layered.layers + 1
  pub nets : (g : ℕ) → g < length olds → AreNetsIn (gap_in (plain_gaps olds) g).nets

pub border_range : (s : Parts) (i : ℕ) (olds gaps : List Gap) → AreAsked s olds → i ≤ length olds → HaveBorders s i (plain_gaps olds) (plain_gaps gaps) → IsFromZero (left_of s (counts_of (plain_gaps gaps)) i) (pos (2 ^ 50))
border_range s i olds gaps asked within placed =
    let many = length-map olds plain_gap in
    left_range s i (plain_gaps olds) (plain_gaps gaps) asked.sound asked.layers asked.columns (many ∙ asked.long) (λ g less. asked.nets g (omega (arith, less, many))) (omega (arith, within, many)) placed

-- one gap more: it is placed, and the next border is known
pub record Stepped (s : Parts) (i : ℕ) (olds gaps : List Gap) (g d : Gap) (width : ℤ) : Type 0 where
  pub placed : HaveBorders s (i + 1) (plain_gaps olds) (plain_gaps (set gaps i g))
  pub fits : FitsSigned w64 (to_z w64 (of_z w64 (get_or (set gaps i g) i d).right) +ℤ to_z w64 (of_z w64 width))
  pub left : to_z w64 (of_z w64 (to_z w64 (of_z w64 (get_or (set gaps i g) i d).right) +ℤ to_z w64 (of_z w64 width))) ≡ left_of s (counts_of (plain_gaps (set gaps i g))) (i + 1)

pub stepped : (s : Parts) (i : ℕ) (olds gaps : List Gap) (g d e : Gap) (left width : ℤ) → AreAsked s olds → i < length olds → length gaps ≡ length olds → HaveBorders s i (plain_gaps olds) (plain_gaps gaps)
    → left ≡ left_of s (counts_of (plain_gaps gaps)) i → IsPlaced s i left (plain_gap g) → (plain_gap g).nets ≡ (plain_gap (get_or gaps i e)).nets → width ≡ width_of s i → Stepped s i olds gaps g d width
stepped s i olds gaps g d e left width asked less long placed border here nets same =
    let inside : i < length gaps = omega (arith, less, long) in
    let many = length-map olds plain_gap in
    let old_inside : i < length (plain_gaps olds) = omega (arith, less, many) in
    let next = step_placed s i (plain_gaps olds) gaps g e left old_inside inside placed border here nets in
    let own : AreNetsIn (plain_gap g).nets =
    subst AreNetsIn (sym (nets ∙ ap (λ (q : PlainGap). q.nets) (gap_read gaps i e inside) ∙ placed.nets i old_inside)) (asked.nets i less) in
    let range = subst (λ z. IsFromZero z (pos (2 ^ 50))) (sym border) (border_range s i olds gaps asked (omega (arith, less)) placed) in
    let right = right_range s i left (plain_gap g) asked.sound here own range in
    let read = right_read gaps i g d inside in
    let at : gap_in (plain_gaps (set gaps i g)) i ≡ plain_gap g =
    ap (λ gs. gap_in gs i) (map-set plain_gap gaps i g) ∙ get_or-set_same (plain_gaps gaps) i (plain_gap g) _ (let all = length-map gaps plain_gap in omega (arith, inside, all)) in
    let wide = width_range s i asked.columns (let all = asked.long in omega (arith, less, all)) in
    let high = subst (λ (q : PlainGap). IsFromZero q.right (pos (2 ^ 51))) (sym at) right in
    record {
      placed = next;
      fits = sum_fits (get_or (set gaps i g) i d).right width (gap_in (plain_gaps (set gaps i g)) i).right (width_of s i) read same high wide;
      left = sum_is (get_or (set gaps i g) i d).right width (gap_in (plain_gaps (set gaps i g)) i).right (width_of s i) read same high wide ∙ left_more s i (plain_gaps olds) (plain_gaps (set gaps i g)) next;
    }

pub range_of : (a b : ℤ) → a ≡ b → IsFromZero b (pos (2 ^ 52)) → IsFromZero (to_z w64 (of_z w64 a)) (pos (2 ^ 52))
range_of a b e h = let x = h.0 in let y = h.1 in (omega (arith, ints, e, x, y), omega (arith, ints, e, x, y))

pub less_range : (a b : ℤ) → a ≡ b → IsFromZero b (pos (2 ^ 50)) → IsFromZero a (pos (2 ^ 60))
less_range a b e h = let x = h.0 in let y = h.1 in (omega (arith, ints, e, x), omega (arith, ints, e, y))
