-- The spots of a child: each end's spot is one of them, and meets what is asked of spots.
use Rattle.std.proofs.Common.{◌≡◌, inl, inr, ⊎_elim, ℕ, ◌<◌, ◌≤◌, eqb, cond, Bool, true, false, not, ◌&&◌, List, [], ◌∷◌, map, length, refl, sym, subst, ap, arith}
use Rattle.std.proofs.lemmas.Bool.{and_from, eq-eqb}
use Rattle.std.specs.Prelude.{Option, None, Some, is_none, IfSome, IsFalse}
use Rattle.std.specs.List.{list_any, range_with_len}
use Rattle.port_order.specs.declared.spots.Mean.{Mean}
use Rattle.port_order.specs.declared.spots.Spot.{Spot}
use Rattle.port_order.specs.Child.{no_spot, is_pinned_spot}
use Rattle.port_order.specs.Sides.{side_of}
use Rattle.port_order.specs.Conditions.{IsSpot}
use Rattle.port_order.specs.Places.{HoldsOnce}
use Rattle.port_order.specs.Order.{IsSpreadOn}
use Rattle.level_model.specs.Level.{PlainLevel, PlainPlan, Orders, End, end_at, child_at, spoke, is_loop, enters, ends_of_edges, all_ends, is_port, ends_at_port, implicit_ends, linked, mean_of, port_spot, implicit_spot, spots, spot_at_port, spot_of}
use Rattle.level_model.specs.Units.{AreOrders}
use Rattle.level_model.specs.Conditions.{IsLevel, IsSpoke}
use Rattle.level_model.proofs.Lists.{Has, has_filter, has_map, has_left, has_right, has_range, at_has}

has_ends : (es : List ℕ) (e : ℕ) (t : Bool) → Has es e → Has (ends_of_edges es) (end_at e t)
has_ends [] e t h = absurd h
has_ends (f ∷ fs) e t h = ⊎_elim (λ same. here t same) (λ rest. inr (inr (has_ends fs e t rest))) h
  where
    here : (t : Bool) → f ≡ e → Has (ends_of_edges (f ∷ fs)) (end_at e t)
    here true same = inl (ap (λ g. end_at g true) same)
    here false same = inr (inl (ap (λ g. end_at g false) same))

pub end_there : (l : PlainLevel) (e : ℕ) (t : Bool) → e < length l.edges → Has (all_ends l) (end_at e t)
end_there l e t h = has_ends (range_with_len 0 (length l.edges)) e t (has_range 0 (length l.edges) e (omega arith) (omega (arith, h)))

-- an end names a child, and one of its ports or none
pub spoke_there : (l : PlainLevel) (e : ℕ) (t : Bool) → IsLevel l → e < length l.edges → IsSpoke l (spoke l (end_at e t))
spoke_there l e true level h = (level.edges e h).source
spoke_there l e false level h = (level.edges e h).target

-- the spot of an end is one of its child's, and counts the end among its own
pub at_port : (l : PlainLevel) (e : ℕ) (t : Bool) (k : ℕ) → e < length l.edges → (spoke l (end_at e t)).port ≡ Some k → Has (ends_at_port l (spoke l (end_at e t)).child k) (end_at e t)
at_port l e t k h port =
    has_filter (λ n. eqb (spoke l n).child (spoke l (end_at e t)).child && is_port (spoke l n).port k) (all_ends l) (end_at e t) (end_there l e t h)
    (and_from (eqb (spoke l (end_at e t)).child (spoke l (end_at e t)).child) (is_port (spoke l (end_at e t)).port k) (eq-eqb (spoke l (end_at e t)).child (spoke l (end_at e t)).child refl) (rw port (eq-eqb k k refl)))

pub at_child : (l : PlainLevel) (e : ℕ) (t : Bool) → e < length l.edges → (spoke l (end_at e t)).port ≡ None → Has (implicit_ends l (spoke l (end_at e t)).child) (end_at e t)
at_child l e t h port =
    has_filter (λ n. eqb (spoke l n).child (spoke l (end_at e t)).child && is_none (spoke l n).port) (all_ends l) (end_at e t) (end_there l e t h)
    (and_from (eqb (spoke l (end_at e t)).child (spoke l (end_at e t)).child) (is_none (spoke l (end_at e t)).port) (eq-eqb (spoke l (end_at e t)).child (spoke l (end_at e t)).child refl) (rw port refl))

pub port_spot_there : (l : PlainLevel) (p : PlainPlan) (c k : ℕ) → k < length (child_at l c).ports → Has (spots l p c) (port_spot l p c k)
port_spot_there l p c k h =
    has_left (map (port_spot l p c) (range_with_len 0 (length (child_at l c).ports))) (map (implicit_spot l p c) (implicit_ends l c)) (port_spot l p c k)
    (has_map (port_spot l p c) (range_with_len 0 (length (child_at l c).ports)) k (has_range 0 (length (child_at l c).ports) k (omega arith) (omega (arith, h))))

pub implicit_spot_there : (l : PlainLevel) (p : PlainPlan) (c : ℕ) (n : End) → Has (implicit_ends l c) n → Has (spots l p c) (implicit_spot l p c n)
implicit_spot_there l p c n h =
    has_right (map (port_spot l p c) (range_with_len 0 (length (child_at l c).ports))) (map (implicit_spot l p c) (implicit_ends l c)) (implicit_spot l p c n)
    (has_map (implicit_spot l p c) (implicit_ends l c) n h)

pub spot_there : (l : PlainLevel) (p : PlainPlan) (e : ℕ) (t : Bool) → IsLevel l → e < length l.edges → Has (spots l p (spoke l (end_at e t)).child) (spot_of l p (end_at e t))
spot_there l p e t level h = step (spoke l (end_at e t)).port refl (spoke_there l e t level h).port
  where
    step : (port : Option ℕ) → (spoke l (end_at e t)).port ≡ port → IfSome port (λ k. k < length (child_at l (spoke l (end_at e t)).child).ports)
        → Has (spots l p (spoke l (end_at e t)).child) (spot_at_port l p (spoke l (end_at e t)).child (end_at e t) port)
    step (Some k) port less = port_spot_there l p (spoke l (end_at e t)).child k less
    step None port less = implicit_spot_there l p (spoke l (end_at e t)).child (end_at e t) (at_child l e t h port)

-- a mean counts its links
mean_counts : (p : PlainPlan) (ns : List End) → IfSome (mean_of p ns) (λ (m : Mean). 1 ≤ m.count)
mean_counts p [] = tt
mean_counts p (n ∷ ns) = omega arith

-- one end does not both leave and enter
one_way : (l : PlainLevel) (p : PlainPlan) (n : End) → IsFalse (list_any (λ m. not (enters p m)) (linked l (n ∷ [])) && list_any (λ m. enters p m) (linked l (n ∷ [])))
one_way l p n = step (not (is_loop l n.edge)) (enters p n) refl
  where
    step : (b e : Bool) → enters p n ≡ e → IsFalse (list_any (λ m. not (enters p m)) (cond b (n ∷ []) []) && list_any (λ m. enters p m) (cond b (n ∷ []) []))
    step true true h = rw h refl
    step true false h = rw h refl
    step false e h = refl

pub port_is_spot : (l : PlainLevel) (p : PlainPlan) (c k : ℕ) → k < length (child_at l c).ports → IsSpot (child_at l c) (port_spot l p c k)
port_is_spot l p c k h = record { port = h; mean = mean_counts p (linked l (ends_at_port l c k)); implicit = λ none. absurd (let bad : true ≡ false = none in cc) }

pub implicit_is_spot : (l : PlainLevel) (p : PlainPlan) (c : ℕ) (n : End) → IsSpot (child_at l c) (implicit_spot l p c n)
implicit_is_spot l p c n = record { port = tt; mean = mean_counts p (linked l (n ∷ [])); implicit = λ none. one_way l p n }

pub end_is_spot : (l : PlainLevel) (p : PlainPlan) (e : ℕ) (t : Bool) → IsLevel l → e < length l.edges → IsSpot (child_at l (spoke l (end_at e t)).child) (spot_of l p (end_at e t))
end_is_spot l p e t level h = step (spoke l (end_at e t)).port (spoke_there l e t level h).port
  where
    step : (port : Option ℕ) → IfSome port (λ k. k < length (child_at l (spoke l (end_at e t)).child).ports)
        → IsSpot (child_at l (spoke l (end_at e t)).child) (spot_at_port l p (spoke l (end_at e t)).child (end_at e t) port)
    step (Some k) less = port_is_spot l p (spoke l (end_at e t)).child k less
    step None less = implicit_is_spot l p (spoke l (end_at e t)).child (end_at e t)

-- the order of its side holds a spread spot once
pub held_once : (l : PlainLevel) (p : PlainPlan) (o : Orders) (c : ℕ) (s : Spot) → AreOrders l p o → c < length l.children → Has (spots l p c) s
    → IsFalse (is_pinned_spot (child_at l c) s) → HoldsOnce (o c (side_of (child_at l c) s)) s.number
held_once l p o c s orders h has free =
    let at = at_has (spots l p c) no_spot s has in
    subst (λ (z : Spot). HoldsOnce (o c (side_of (child_at l c) s)) z.number) at.2
    ((orders c (side_of (child_at l c) s) h).once at.0 at.1 (subst (λ z. IsSpreadOn (child_at l c) (side_of (child_at l c) s) z) (sym at.2) (record { spread = free; on_side = refl })))
