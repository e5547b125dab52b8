-- A plan for drawings that are put together: each child stands alone in a layer of its own, where it is drawn.
use Rattle.std.proofs.Common.{◌≡◌, ℕ, ◌<◌, ◌==◌, Bool, List, [], ◌∷◌, length, map, get_or, ℤ, pos, ◌+ℤ◌, ◌-ℤ◌, Some, refl, sym, ap, ap₂, ◌∙◌, subst, arith, inl, eqb-true, eq-eqb}
use Rattle.std.specs.List.{filter, range_with_len}
use Rattle.std.proofs.lemmas.Int.{ints}
use Rattle.std.proofs.lemmas.List.{get_or-map, length-map}
use Rattle.std.proofs.lemmas.List.FromFn.{length-range_with_len, get_or-range_with_len}
use Rattle.drawing_types.proofs.SameShapes.{same_point}
use Rattle.elk_layers.specs.declared.units.Unit.{Unit as LayerUnit}
use Rattle.elk_layers.specs.Layered.{Plain, unit_at}
use Rattle.level_model.specs.FromPlan.{LevelDrawing, box_place, point_or}
use Rattle.level_model.specs.Level.{Orders, PlainLevel, PlainPlan, first_or, outline}
use Rattle.elk_layers.specs.Lines.{top_of}
use Rattle.level_model.specs.Nets.{box_below, is_number, layer_of_child, unit_of}
use Rattle.level_model.proofs.Lists.{Has, below_has, filter_has, has_filter, has_range}
use Rattle.route_lines.specs.Points.{PlainGap, gap_in}
use Rattle.rotated_levels.specs.Joined.{with_gaps}

-- ---- lists over a range

pub over_range : {X : Type 0} (f : ℕ → X) (n i : ℕ) (d : X) → i < n → get_or (map f (range_with_len 0 n)) i d ≡ f i
over_range f n i d h =
    let long = length-range_with_len 0 n in
    let at = get_or-range_with_len 0 n i 0 h in
    get_or-map f (range_with_len 0 n) i 0 d (omega (arith, h, long)) ∙ ap f (let e : get_or (range_with_len 0 n) i 0 ≡ i = omega (arith, at) in e)

pub many_over : {X : Type 0} (f : ℕ → X) (n : ℕ) → length (map f (range_with_len 0 n)) ≡ n
many_over f n = length-map (range_with_len 0 n) f ∙ length-range_with_len 0 n

first_is : (xs : List ℕ) (c d : ℕ) → Has xs c → ((x : ℕ) → Has xs x → x ≡ c) → first_or xs d ≡ c
first_is [] c d h only = absurd h
first_is (x ∷ xs) c d h only = only x (inl refl)

-- ---- the plan

abbrev unit_for : ℕ → LayerUnit
unit_for c = record { layer = c; child = Some c; height = pos 0; body_top = pos 0; body_height = pos 0; north = 0; south = 0 }

abbrev layered_for : ℕ → Plain
layered_for n = record { layers = n; units = map unit_for (range_with_len 0 n); links = []; node_node = pos 1; edge_node = pos 1; edge_edge = pos 1 }

abbrev plan_with : ℕ → List ℕ → List ℤ → PlainPlan
plan_with n listed tops = record { layers = n; layered = layered_for n; rows = []; tops = tops; reversed = listed }

number_is : (n u c : ℕ) → u < n → is_number (unit_at (map unit_for (range_with_len 0 n)) u).child c ≡ (u == c)
number_is n u c h = ap (λ (x : LayerUnit). is_number x.child c) (over_range unit_for n u _ h)

unit_is : (n : ℕ) (listed : List ℕ) (tops : List ℤ) (c : ℕ) → c < n → unit_of (plan_with n listed tops) c ≡ c
unit_is n listed tops c h =
    let units = map unit_for (range_with_len 0 n) in
    let many : length units ≡ n = many_over unit_for n in
    let test : ℕ → Bool = λ u. is_number (unit_at units u).child c in
    first_is (filter test (range_with_len 0 (length units))) c 0
    (has_filter test (range_with_len 0 (length units)) c (has_range 0 (length units) c (omega arith) (omega (arith, h, many))) (number_is n c c h ∙ eq-eqb c c refl))
    (λ x held. let found = filter_has test (range_with_len 0 (length units)) x held in
    let inside : x < n = subst (λ m. x < m) many (below_has (length units) x found.0) in
    eqb-true x c (sym (number_is n x c inside) ∙ found.1))

-- where a box stands below the top of its unit does not depend on the tops
below_same : (l : PlainLevel) (n : ℕ) (listed : List ℕ) (tops : List ℤ) (o : Orders) (c : ℕ) → box_below l (plan_with n listed tops) o c ≡ box_below l (plan_with n listed []) o c
below_same l n listed tops o c = refl

back : (a b : ℤ) → (a -ℤ b) +ℤ b ≡ a
back a b = omega (arith, ints)

ahead : (a b : ℤ) → (a +ℤ b) -ℤ b ≡ a
ahead a b = omega (arith, ints)

no_less : (a : ℤ) → a -ℤ pos 0 ≡ a
no_less a = omega (arith, ints)

module _ (l : PlainLevel) (listed : List ℕ) (o : Orders) (v : LevelDrawing) where
  abbrev count : ℕ
  count = length l.children

  top_for : ℕ → ℤ
  top_for c = (point_or v.boxes c).y -ℤ box_below l (plan_with count listed []) o c

  pub tops : List ℤ
  tops = map top_for (range_with_len 0 count)

  abbrev pub made : PlainPlan
  made = plan_with count listed tops

  gap_for : ℕ → PlainGap
  gap_for c = record { left = pos 0; first = pos 0; step = pos 0; right = (point_or v.boxes c).x +ℤ (outline l made o c).x; nets = []; count = 0; routes = [] }

  pub gaps : List PlainGap
  gaps = map gap_for (range_with_len 0 count)

  layer_is : (c : ℕ) → c < count → layer_of_child made c ≡ c
  layer_is c h =
      ap (λ u. (unit_at (map unit_for (range_with_len 0 count)) u).layer) (unit_is count listed tops c h) ∙ ap (λ (x : LayerUnit). x.layer) (over_range unit_for count c _ h)

  right_is : (c : ℕ) → c < count → (gap_in gaps (layer_of_child made c)).right ≡ (point_or v.boxes c).x +ℤ (outline l made o c).x
  unfolding gaps gap_for
  right_is c h = ap (λ g. (gap_in gaps g).right) (layer_is c h) ∙ ap (λ (g : PlainGap). g.right) (over_range gap_for count c _ h)

  top_is : (c : ℕ) → c < count → top_of tops (unit_of made c) ≡ (point_or v.boxes c).y -ℤ box_below l (plan_with count listed []) o c
  unfolding tops top_for
  top_is c h = ap (top_of tops) (unit_is count listed tops c h) ∙ over_range top_for count c _ h

  pub boxes_are : (c : ℕ) → c < count → box_place l made o (with_gaps v gaps) c ≡ point_or v.boxes c
  boxes_are c h =
      same_point _ _
      (ap (λ z. z -ℤ (outline l made o c).x) (right_is c h) ∙ ahead (point_or v.boxes c).x (outline l made o c).x)
      (no_less _ ∙ ap₂ (λ a b. a +ℤ b) (top_is c h) (below_same l count listed tops o c) ∙ back (point_or v.boxes c).y (box_below l (plan_with count listed []) o c))
