-- Depths from depths.
use Rattle.std.proofs.Common.{◌≡◌, ◌∙◌, ⊎_elim, inl, inr, List, [], ◌∷◌, ℕ, ◌<◌, ◌≤◌, max, Bool, true, false, ℤ, length, refl, sym, ap, subst, arith, if◌then◌else◌}
use Rattle.std.proofs.lemmas.Bool.{cases_lt, false_from_ne_true}
use Rattle.net_routes.specs.declared.Pin.{Pin}
use Rattle.net_routes.specs.declared.Net.{Net}
use Rattle.route_slots.proofs.Sides.{one_pin}
use Rattle.route_slots.specs.declared.marks.Mark.{Mark}
use Rattle.net_routes.specs.Pieces.{net_at}
use Rattle.net_routes.specs.GapFree.{HasPin, IsStraightNet}
use Rattle.route_slots.specs.Depths.{depth_of, is_split, AreDepths, AreHeld}
use Rattle.net_routes.specs.Conflicts.{AreInConflict, LiesOnCycle, HasNoConflict}
use Rattle.route_slots.specs.Marks.{mark_at, DepthAt, AreMarked, AreNetMarks, AreFlat}

left_depth : (m : ℤ → ℕ) (p : Pin) → p.on_left ≡ true → depth_of m p ≡ 0
left_depth m p e = ap (λ z. if z then 0 else m p.height) e

right_depth : (m : ℤ → ℕ) (p : Pin) → p.on_left ≡ false → depth_of m p ≡ m p.height
right_depth m p e = ap (λ z. if z then 0 else m p.height) e

less_max : (x y z : ℕ) → x < z → y < z → max x y < z
less_max x y z h k = omega arith

module _ (nets : List Net) (bs : List Bool) (m : ℤ → ℕ) (ms : List Mark) (depths : AreDepths nets bs m) (marked : AreMarked nets bs m ms (length nets)) where
  abbrev net : ℕ → Net
  net k = net_at nets k

  abbrev mark : ℕ → Mark
  mark k = mark_at ms k

  not_straight : (k : ℕ) → k < length nets → (mark k).straight ≡ false → IsStraightNet (net k) → ⊥
  not_straight k h e v =
      by_split (is_split bs k) refl
    where
      by_split : (b : Bool) → is_split bs k ≡ b → ⊥
      by_split true f = depths.bent k h f v
      by_split false f = let t : (mark k).straight ≡ true = ((marked.each k h).straight f).1 v in let bad : true ≡ false = sym t ∙ e in cc

  -- a pin's depth is below that of any height that all pins of its segment are below
  pin_below : (k : ℕ) (p r : Pin) (z : ℕ) → k < length nets → (IsStraightNet (net k) → ⊥) → is_split bs k ≡ false → HasPin (net k) p → p.on_left ≡ true
      → m p.height ≡ z → HasPin (net k) r → depth_of m r < z
  pin_below k p r z h bent e hp pl d hr = by_side r.on_left refl
    where
      by_side : (b : Bool) → r.on_left ≡ b → depth_of m r < z
      by_side true f = let zero_depth = left_depth m r f in let deep = depths.deep k p h bent hp pl in omega arith
      by_side false f = let same = right_depth m r f in let rising = depths.rising k p r h bent e hp hr pl f in omega arith

  -- the segment at a pin on the left stands before the depth of its height
  left_behind : (k : ℕ) (p : Pin) (x : ℕ) → k < length nets → (IsStraightNet (net k) → ⊥) → DepthAt (net k) (mark k) p x → p.on_left ≡ true → x < m p.height
  left_behind k p x h bent l pl = by_split (is_split bs k) refl
    where
      has : HasPin (net k) p
      has = ⊎_elim (λ y. inl y.0) (λ y. inr y.0) l

      by_split : (b : Bool) → is_split bs k ≡ b → x < m p.height
      by_split true f =
          let deep = depths.deep k p h bent has pl in
          let zero_depth = left_depth m p pl in
          ⊎_elim
          (λ (y : ((net k).a ≡ p) × ((mark k).at_a ≡ x)).
          let d : x ≡ depth_of m (net k).a = sym y.1 ∙ (marked.each k h).at_a ∙ ap (λ z. if z then depth_of m (net k).a else max (depth_of m (net k).a) (depth_of m (net k).b)) f in
          let e : depth_of m (net k).a ≡ depth_of m p = ap (depth_of m) y.0 in omega arith)
          (λ (y : ((net k).b ≡ p) × ((mark k).at_b ≡ x)).
          let d : x ≡ depth_of m (net k).b = sym y.1 ∙ (marked.each k h).at_b ∙ ap (λ z. if z then depth_of m (net k).b else max (depth_of m (net k).a) (depth_of m (net k).b)) f in
          let e : depth_of m (net k).b ≡ depth_of m p = ap (depth_of m) y.0 in omega arith)
          l
      by_split false f =
          let a = pin_below k p (net k).a (m p.height) h bent f has pl refl (inl refl) in
          let b = pin_below k p (net k).b (m p.height) h bent f has pl refl (inr refl) in
          let both = less_max (depth_of m (net k).a) (depth_of m (net k).b) (m p.height) a b in
          ⊎_elim
          (λ (y : ((net k).a ≡ p) × ((mark k).at_a ≡ x)).
          let d : x ≡ max (depth_of m (net k).a) (depth_of m (net k).b) = sym y.1 ∙ (marked.each k h).at_a ∙ ap (λ z. if z then depth_of m (net k).a else max (depth_of m (net k).a) (depth_of m (net k).b)) f in
          subst (λ z. z < m p.height) (sym d) both)
          (λ (y : ((net k).b ≡ p) × ((mark k).at_b ≡ x)).
          let d : x ≡ max (depth_of m (net k).a) (depth_of m (net k).b) = sym y.1 ∙ (marked.each k h).at_b ∙ ap (λ z. if z then depth_of m (net k).b else max (depth_of m (net k).a) (depth_of m (net k).b)) f in
          subst (λ z. z < m p.height) (sym d) both)
          l

  -- the segment at a pin on the right does not stand before the depth of its height
  right_behind : (k : ℕ) (q : Pin) (y : ℕ) → k < length nets → DepthAt (net k) (mark k) q y → q.on_left ≡ false → m q.height ≤ y
  right_behind k q y h l ql = by_split (is_split bs k) refl
    where
      by_split : (b : Bool) → is_split bs k ≡ b → m q.height ≤ y
      by_split true f =
          let same = right_depth m q ql in
          ⊎_elim
          (λ (z : ((net k).a ≡ q) × ((mark k).at_a ≡ y)).
          let d : y ≡ depth_of m (net k).a = sym z.1 ∙ (marked.each k h).at_a ∙ ap (λ z. if z then depth_of m (net k).a else max (depth_of m (net k).a) (depth_of m (net k).b)) f in
          let e : depth_of m (net k).a ≡ depth_of m q = ap (depth_of m) z.0 in omega arith)
          (λ (z : ((net k).b ≡ q) × ((mark k).at_b ≡ y)).
          let d : y ≡ depth_of m (net k).b = sym z.1 ∙ (marked.each k h).at_b ∙ ap (λ z. if z then depth_of m (net k).b else max (depth_of m (net k).a) (depth_of m (net k).b)) f in
          let e : depth_of m (net k).b ≡ depth_of m q = ap (depth_of m) z.0 in omega arith)
          l
      by_split false f =
          let same = right_depth m q ql in
          ⊎_elim
          (λ (z : ((net k).a ≡ q) × ((mark k).at_a ≡ y)).
          let d : y ≡ max (depth_of m (net k).a) (depth_of m (net k).b) = sym z.1 ∙ (marked.each k h).at_a ∙ ap (λ z. if z then depth_of m (net k).a else max (depth_of m (net k).a) (depth_of m (net k).b)) f in
          let e : depth_of m (net k).a ≡ depth_of m q = ap (depth_of m) z.0 in omega arith)
          (λ (z : ((net k).b ≡ q) × ((mark k).at_b ≡ y)).
          let d : y ≡ max (depth_of m (net k).a) (depth_of m (net k).b) = sym z.1 ∙ (marked.each k h).at_b ∙ ap (λ z. if z then depth_of m (net k).b else max (depth_of m (net k).a) (depth_of m (net k).b)) f in
          let e : depth_of m (net k).b ≡ depth_of m q = ap (depth_of m) z.0 in omega arith)
          l

  pub are_marks : AreNetMarks nets ms
  are_marks =
      record {
        len = marked.len;
        straight = λ k h. (by_split k h (is_split bs k) refl, straight_net k h (is_split bs k) refl);
        whole = λ k h e.
            let f : is_split bs k ≡ false = sym (marked.each k h).split ∙ e in
            (marked.each k h).at_a ∙ ap (λ z. if z then depth_of m (net k).a else max (depth_of m (net k).a) (depth_of m (net k).b)) f
            ∙ sym ((marked.each k h).at_b ∙ ap (λ z. if z then depth_of m (net k).b else max (depth_of m (net k).a) (depth_of m (net k).b)) f);
        split = λ k h e. (marked.each k h).bent (sym (marked.each k h).split ∙ e);
        order = λ j k p q x y jl kl sj sk lp lq pl ql e.
            let left = left_behind j p x jl (not_straight j jl sj) lp pl in
            let right = right_behind k q y kl lq ql in
            let same : m p.height ≡ m q.height = ap m e in omega arith;
      }
    where
      by_split : (k : ℕ) → k < length nets → (b : Bool) → is_split bs k ≡ b → (mark k).straight ≡ true → IsStraightNet (net k)
      by_split k h true f s = absurd (let bad : true ≡ false = sym s ∙ (marked.each k h).bent f in cc)
      by_split k h false f s = ((marked.each k h).straight f).0 s

      straight_net : (k : ℕ) → k < length nets → (b : Bool) → is_split bs k ≡ b → IsStraightNet (net k) → (mark k).straight ≡ true
      straight_net k h true f v = absurd (depths.bent k h f v)
      straight_net k h false f v = ((marked.each k h).straight f).1 v

  module _ (held : AreHeld nets m) (cycles : (k : ℕ) → k < length nets → is_split bs k ≡ true → LiesOnCycle nets k) (none : HasNoConflict nets) where
    some_conflict : (j : ℕ) (is : List ℕ) (k : ℕ) → AreInConflict nets j is k → ⊥
    some_conflict j [] k c = none j k c
    some_conflict j (i ∷ is) k c = none j i c.0

    not_split : (k : ℕ) → k < length nets → is_split bs k ≡ false
    not_split k h = false_from_ne_true (is_split bs k) (λ e. let on = cycles k h e in some_conflict k on.others k on.round)

    -- a pin of a net that is not straight is not deep
    not_deep : (k : ℕ) (p : Pin) → k < length nets → (IsStraightNet (net k) → ⊥) → HasPin (net k) p → depth_of m p ≡ 0
    not_deep k p h bent has = by_side p.on_left refl
      where
        by_side : (b : Bool) → p.on_left ≡ b → depth_of m p ≡ 0
        by_side true e = left_depth m p e
        by_side false e =
            right_depth m p e
            ∙ ⊎_elim
            (λ (z : m p.height < 1). omega arith)
            (λ (deep : 1 ≤ m p.height).
            let u = held p.height (omega arith) in
            let at = u.2 in
            absurd
            (none u.0 k
            (record {
              j_in = u.1;
              k_in = h;
              two = λ same. bent (one_pin (net k) at.pin p (subst (λ z. HasPin (net z) at.pin) same at.has_pin) has at.on_left e at.at_height);
              j_bent = at.bent;
              k_bent = bent;
              left = at.pin;
              right = p;
              has_left = at.has_pin;
              has_right = has;
              on_left = at.on_left;
              on_right = e;
              one_height = at.at_height;
            })))
            (cases_lt (m p.height) 1)

    -- without conflicts no net is split, and all segments are at one depth
    pub are_flat : AreFlat nets ms
    are_flat =
        record {
          split = λ k h. (marked.each k h).split ∙ not_split k h;
          depth = λ k h e.
              let bent = not_straight k h e in
              let a = not_deep k (net k).a h bent (inl refl) in
              let b = not_deep k (net k).b h bent (inr refl) in
              let f = not_split k h in
              let d : (mark k).at_a ≡ max (depth_of m (net k).a) (depth_of m (net k).b) = (marked.each k h).at_a ∙ ap (λ z. if z then depth_of m (net k).a else max (depth_of m (net k).a) (depth_of m (net k).b)) f in
              omega arith;
        }
