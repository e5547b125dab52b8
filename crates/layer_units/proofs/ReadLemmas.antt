-- What single entries of the table give: heights and pins of one unit, of one end and of one link.
use Rattle.std.proofs.Common.{◌≡◌, inl, inr, ⊎_elim, ◌⊎◌, ℕ, zero, suc, ◌+◌, ◌-◌, ◌*◌, ◌<◌, ◌≤◌, ◌^◌, ◌==◌, cond, Bool, true, false, not, ℤ, pos, ◌+ℤ◌, ◌*ℤ◌, List, [], ◌∷◌, length, map, set, refl, sym, ap, ap₂, ◌∙◌, ◌≤ℤ◌, negsuc, arith}
use Rattle.std.proofs.Math.Nat.{mul-le-mul_left}
use Rattle.std.proofs.lemmas.Bool.{cases_lt, eqb-true, false≢true}
use Rattle.std.proofs.lemmas.Int.{ints}
use Rattle.std.proofs.lemmas.List.{length-map, length-append, length-set}
use Rattle.std.proofs.lemmas.List.Sums.{sum_by-cons}
use Rattle.std.proofs.lemmas.List.FromFn.{length-range_with_len}
use Rattle.std.specs.Prelude.{Option, None, Some, is_some}
use Rattle.std.specs.List.{count_by, filter, list_any, range_with_len}
use Rattle.elk_doc.specs.declared.document.Spacing.{Spacing}
use Rattle.drawing_types.specs.declared.shape.Dock.{Dock}
use Rattle.drawing_types.specs.declared.shape.Side.{Side}
use Rattle.drawing_types.specs.Shapes.{is_side}
use Rattle.elk_doc.specs.Sound.{IsSoundSpacing}
use Rattle.drawing_types.specs.Ranges.{IsWithin}
use Rattle.elk_layers.specs.declared.units.Unit.{Unit as LayerUnit}
use Rattle.elk_layers.specs.declared.units.Link.{Link}
use Rattle.elk_layers.specs.Layered.{link_at, unit_at}
use Rattle.level_model.specs.Stage.{dock_lane, loop_lane}
use Rattle.level_model.specs.declared.table.ChildAt.{ChildAt}
use Rattle.level_model.specs.declared.table.EndAt.{EndAt}
use Rattle.level_model.specs.declared.table.Table.{Table}
use Rattle.level_model.specs.Conditions.{IsLevel}
use Rattle.level_model.specs.Level.{PlainLevel, PlainPlan, Orders, all_ends, child_at, dock_of_spot, implicit_ends, implicit_spot, port_spot, spots}
use Rattle.level_model.specs.Lanes.{dock_eq, docks_with_lane, lane_side, lanes, loop_sides, loops_of, once, room}
use Rattle.level_model.specs.Nets.{is_number}
use Rattle.level_model.specs.Table.{child_in, end_of}
use Rattle.dock_table.proofs.AddLemmas.{ends_to_long, ports_few}
use Rattle.dock_table.proofs.TimesLemmas.{times_within}
use Rattle.level_nets.proofs.ListLemmas.{filter_short}
use Rattle.layer_units.proofs.ChangingLemmas.{each_next, rest_next}
use Rattle.layer_units.specs.Reading.{AreFittedLinks, AreFittedUnits, anchor_below, is_on_lane, link_with, mark_at, pin_at, pin_of, roomy, unit_for, unit_with}

-- ---- units

for_layer : (s : Spacing) (children : List ChildAt) (x : LayerUnit) (o : Option ℕ) → (unit_for s children x o).layer ≡ x.layer
for_layer s children x None = refl
for_layer s children x (Some c) = refl

for_child : (s : Spacing) (children : List ChildAt) (x : LayerUnit) (o : Option ℕ) → (unit_for s children x o).child ≡ x.child
for_child s children x None = refl
for_child s children x (Some c) = refl

pub with_layer : (s : Spacing) (children : List ChildAt) (x : LayerUnit) → (unit_with s children x).layer ≡ x.layer
unfolding unit_with
with_layer s children x = for_layer s children x x.child

pub with_child : (s : Spacing) (children : List ChildAt) (x : LayerUnit) → (unit_with s children x).child ≡ x.child
unfolding unit_with
with_child s children x = for_child s children x x.child

pub with_some : (s : Spacing) (children : List ChildAt) (x : LayerUnit) (c : ℕ) → x.child ≡ Some c → unit_with s children x ≡ roomy s (child_in children c) x
unfolding unit_with
with_some s children x c e = ap (unit_for s children x) e

pub with_none : (s : Spacing) (children : List ChildAt) (x : LayerUnit) → x.child ≡ None → unit_with s children x ≡ x
unfolding unit_with
with_none s children x e = ap (unit_for s children x) e

-- what heights do not change is the same at every number
pub field_same : {X : Type 0} (f : LayerUnit → X) (s : Spacing) (children : List ChildAt) (units fitted : List LayerUnit) → AreFittedUnits s children units (length units) fitted
    → ((x : LayerUnit) → f (unit_with s children x) ≡ f x) → (u : ℕ) → f (unit_at fitted u) ≡ f (unit_at units u)
field_same f s children units fitted fit kept u =
    ⊎_elim
    (λ less. ap f (fit.each u less) ∙ kept (unit_at units u))
    (λ past. ap f (fit.rest u past))
    (cases_lt u (length units))

abbrev one_in : ℕ → LayerUnit → ℕ
one_in g z = cond (z.layer == g) 1 0

pub count_same : (g : ℕ) (xs ys : List LayerUnit) → length xs ≡ length ys → ((u : ℕ) → (unit_at xs u).layer ≡ (unit_at ys u).layer) → count_by (λ (u : LayerUnit). u.layer == g) xs ≡ count_by (λ (u : LayerUnit). u.layer == g) ys
count_same g [] [] e h = refl
count_same g [] (y ∷ ys) e h = absurd (omega (arith, e))
count_same g (x ∷ xs) [] e h = absurd (omega (arith, e))
count_same g (x ∷ xs) (y ∷ ys) e h =
    let layer : ℕ → ℕ = λ z. cond (z == g) 1 0 in
    sum_by-cons (one_in g) x xs ∙ ap₂ (λ (a b : ℕ). a + b) (ap layer (h 0)) (count_same g xs ys (omega (arith, e)) (λ u. h (suc u))) ∙ sym (sum_by-cons (one_in g) y ys)

pub number_some : (o : Option ℕ) (m : ℕ) → is_number o m ≡ true → o ≡ Some m
number_some None m h = absurd (false≢true h)
number_some (Some k) m h = ap (λ z. Some z) (eqb-true k m h)

-- ---- rooms

sum_small : (a b : ℤ) → IsWithin (pos 1) (pos (2 ^ 20)) a → IsWithin (pos 0) (pos (2 ^ 38)) b → IsWithin (pos 0) (pos (2 ^ 40)) (a +ℤ b)
sum_small a b h k =
    let ha = h.above in
    let hb = h.below in
    let ka = k.above in
    let kb = k.below in
    record { above = omega (arith, ints, ha, ka); below = omega (arith, ints, hb, kb) }

pub room_small : (s : Spacing) (n : ℕ) → IsSoundSpacing s → n ≤ 2 ^ 17 → IsWithin (pos 0) (pos (2 ^ 40)) (room s n)
room_small s n sound few = step (n == 0)
  where
    step : (b : Bool) → IsWithin (pos 0) (pos (2 ^ 40)) (cond b (pos 0) (s.edge_node +ℤ (pos (n - 1) *ℤ s.edge_edge)))
    step true = record { above = omega (arith, ints); below = omega (arith, ints) }
    step false = sum_small s.edge_node (pos (n - 1) *ℤ s.edge_edge) sound.edge_node (times_within (n - 1) s.edge_edge (omega (arith, few)) sound.edge_edge)

-- few distances together
few_times : (n : ℕ) (z : ℤ) → n ≤ 2 ^ 14 → IsWithin (pos 1) (pos (2 ^ 20)) z → (pos n *ℤ z) ≤ℤ pos (2 ^ 34)
few_times n (pos m) h w =
    let most = w.below in
    let k : m ≤ 2 ^ 20 = omega (arith, ints, most) in
    let p = mul-le-mul_left n k in
    omega (arith, ints, p, h)
few_times n (negsuc m) h w = let least = w.above in absurd (omega (arith, ints, least))

-- the room of few lanes
pub room_low : (s : Spacing) (n : ℕ) → IsSoundSpacing s → n ≤ 2 ^ 14 → IsWithin (pos 0) (pos (2 ^ 35)) (room s n)
room_low s n sound few = record { above = (room_small s n sound (omega (arith, few))).above; below = step (n == 0) }
  where
    low : (a b : ℤ) → IsWithin (pos 1) (pos (2 ^ 20)) a → b ≤ℤ pos (2 ^ 34) → (a +ℤ b) ≤ℤ pos (2 ^ 35)
    low a b h k = let ha = h.below in omega (arith, ints, ha, k)

    step : (b : Bool) → cond b (pos 0) (s.edge_node +ℤ (pos (n - 1) *ℤ s.edge_edge)) ≤ℤ pos (2 ^ 35)
    step true = omega (arith, ints)
    step false = low s.edge_node (pos (n - 1) *ℤ s.edge_edge) sound.edge_node (few_times (n - 1) s.edge_edge (omega (arith, few)) sound.edge_edge)

once_short : (ds : List Dock) → length (once ds) ≤ length ds
once_short [] = omega arith
once_short (d ∷ ds) = let rest = once_short ds in let short = filter_short (λ k. not (dock_eq d k)) (once ds) in omega (arith, rest, short)

spots_few : (l : PlainLevel) (p : PlainPlan) (c : ℕ) → IsLevel l → length (spots l p c) ≤ 8192
spots_few l p c level =
    let both = length-append (map (port_spot l p c) (range_with_len 0 (length (child_at l c).ports))) (map (implicit_spot l p c) (implicit_ends l c)) in
    let a = length-map (range_with_len 0 (length (child_at l c).ports)) (port_spot l p c) in
    let b = length-map (implicit_ends l c) (implicit_spot l p c) in
    let range = length-range_with_len 0 (length (child_at l c).ports) in
    let ports = ports_few l c level in
    let short : length (implicit_ends l c) ≤ length (all_ends l) = filter_short _ (all_ends l) in
    let ends = ends_to_long (length l.edges) in
    let few = level.few_edges in
    omega (arith, both, a, b, range, ports, short, ends, few)

-- a child has few lanes
pub lanes_few : (l : PlainLevel) (p : PlainPlan) (o : Orders) (c : ℕ) (side : Side) → IsLevel l → length (lanes l p o c side) ≤ 2 ^ 14
lanes_few l p o c side level =
    let loops : List ℕ = filter (λ e. list_any (is_side side) (loop_sides l p o e)) (loops_of l c) in
    let docks : List Dock = filter (λ d. is_side (lane_side l d) side) (docks_with_lane l p o c) in
    let both : length (lanes l p o c side) ≡ length (map (λ e. loop_lane e side) loops) + length (map (λ d. dock_lane d) docks) = length-append (map (λ e. loop_lane e side) loops) (map (λ d. dock_lane d) docks) in
    let a : length (map (λ e. loop_lane e side) loops) ≡ length loops = length-map loops (λ e. loop_lane e side) in
    let b : length (map (λ d. dock_lane d) docks) ≡ length docks = length-map docks (λ d. dock_lane d) in
    let loops_short : length loops ≤ length (loops_of l c) = filter_short _ (loops_of l c) in
    let edges_short : length (loops_of l c) ≤ length (range_with_len 0 (length l.edges)) = filter_short _ (range_with_len 0 (length l.edges)) in
    let range = length-range_with_len 0 (length l.edges) in
    let docks_short : length docks ≤ length (docks_with_lane l p o c) = filter_short _ (docks_with_lane l p o c) in
    let laned_short : length (docks_with_lane l p o c) ≤ length (once (map (dock_of_spot l o c) (spots l p c))) = filter_short _ (once (map (dock_of_spot l o c) (spots l p c))) in
    let one = once_short (map (dock_of_spot l o c) (spots l p c)) in
    let mapped = length-map (spots l p c) (dock_of_spot l o c) in
    let spots_are = spots_few l p c level in
    let few = level.few_edges in
    omega (arith, both, a, b, loops_short, edges_short, range, docks_short, laned_short, one, mapped, spots_are, few)

-- ---- pins

pub pin_on : (s : Spacing) (t : Table) (v : EndAt) (b : Bool) → is_on_lane v.dock.side b ≡ true → pin_of s t v b ≡ v.lane
unfolding pin_of
pin_on s t v b h = ap (λ z. cond z v.lane (anchor_below s (child_in t.children v.dock.node) v)) h

pub pin_off : (s : Spacing) (t : Table) (v : EndAt) (b : Bool) → is_on_lane v.dock.side b ≡ false → pin_of s t v b ≡ anchor_below s (child_in t.children v.dock.node) v
unfolding pin_of
pin_off s t v b h = ap (λ z. cond z v.lane (anchor_below s (child_in t.children v.dock.node) v)) h

pub pin_child : (s : Spacing) (t : Table) (x : LayerUnit) (e : ℕ) (a b : Bool) → is_some x.child ≡ true → pin_at s t x e a b ≡ pin_of s t (end_of t e a) b
unfolding pin_at
pin_child s t x e a b h = ap (λ z. cond z (pin_of s t (end_of t e a) b) (pos 0)) h

pub pin_lane : (s : Spacing) (t : Table) (x : LayerUnit) (e : ℕ) (a b : Bool) → is_some x.child ≡ false → pin_at s t x e a b ≡ pos 0
unfolding pin_at
pin_lane s t x e a b h = ap (λ z. cond z (pin_of s t (end_of t e a) b) (pos 0)) h

-- ---- links

pub record IsLinkWith (s : Spacing) (t : Table) (units : List LayerUnit) (marks : List Bool) (x y : Link) : Type 0 where
  pub edge : y.edge ≡ x.edge
  pub tail : y.tail ≡ x.tail
  pub head : y.head ≡ x.head
  pub tail_rank : y.tail_rank ≡ x.tail_rank
  pub head_rank : y.head_rank ≡ x.head_rank
  pub tail_at : y.tail_at ≡ pin_at s t (unit_at units x.tail) x.edge (not (mark_at marks x.edge)) false
  pub head_at : y.head_at ≡ pin_at s t (unit_at units x.head) x.edge (mark_at marks x.edge) true

pub is_link_with : (s : Spacing) (t : Table) (units : List LayerUnit) (marks : List Bool) (x : Link) → IsLinkWith s t units marks x (link_with s t units marks x)
unfolding link_with
is_link_with s t units marks x = record { edge = refl; tail = refl; head = refl; tail_rank = refl; head_rank = refl; tail_at = refl; head_at = refl }

pub link_field : {X : Type 0} (f : Link → X) (s : Spacing) (t : Table) (units : List LayerUnit) (marks : List Bool) (links fitted : List Link) → AreFittedLinks s t units marks links (length links) fitted
    → ((x : Link) → f (link_with s t units marks x) ≡ f x) → (k : ℕ) → f (link_at fitted k) ≡ f (link_at links k)
link_field f s t units marks links fitted fit kept k =
    ⊎_elim
    (λ less. ap f (fit.each k less) ∙ kept (link_at links k))
    (λ past. ap f (fit.rest k past))
    (cases_lt k (length links))

-- one more unit and one more link
pub unit_fitted : (s : Spacing) (children : List ChildAt) (units us : List LayerUnit) (n : ℕ) (x : LayerUnit) → n < length units → x ≡ unit_with s children (unit_at us n)
    → AreFittedUnits s children units n us → AreFittedUnits s children units (n + 1) (set us n x)
unit_fitted s children units us n x less is fit =
    let many = fit.as_many in
    record {
      as_many = length-set us n x ∙ many;
      each = each_next (unit_with s children) units us n x (unit_at [] 0) (omega (arith, less, many)) fit.each fit.rest is;
      rest = rest_next units us n x (unit_at [] 0) fit.rest;
    }

pub link_fitted : (s : Spacing) (t : Table) (units : List LayerUnit) (marks : List Bool) (links ks : List Link) (n : ℕ) (x : Link) → n < length links → x ≡ link_with s t units marks (link_at ks n)
    → AreFittedLinks s t units marks links n ks → AreFittedLinks s t units marks links (n + 1) (set ks n x)
link_fitted s t units marks links ks n x less is fit =
    let many = fit.as_many in
    record {
      as_many = length-set ks n x ∙ many;
      each = each_next (link_with s t units marks) links ks n x (link_at [] 0) (omega (arith, less, many)) fit.each fit.rest is;
      rest = rest_next links ks n x (link_at [] 0) fit.rest;
    }

-- a number is twice another, or one more
pub half : (i : ℕ) → (e : ℕ) × ((i ≡ 2 * e) ⊎ (i ≡ 2 * e + 1))
half zero = (0, inl refl)
half (suc i) =
    let h = half i in
    ⊎_elim (λ even. (h.0, inr (omega (arith, even)))) (λ odd. (suc h.0, inl (omega (arith, odd)))) h.1
