-- Nets whose segments keep their order and keep apart have no segment in common but at a common pin.
use Rattle.std.proofs.Common.{◌≡◌, ◌≢◌, ◌⊎◌, ⊎_elim, inl, inr, ℕ, zero, suc, ◌+◌, ◌<◌, ◌≤◌, Bool, true, false, List, ℤ, pos, ◌<ℤ◌, ◌≤ℤ◌, refl, sym, ap, ◌∙◌, subst, length, arith}
use Rattle.std.proofs.lemmas.Int.{ints, clamps}
use Rattle.std.specs.Int.{int_min, int_max}
use Rattle.net_routes.specs.declared.Pin.{Pin}
use Rattle.net_routes.specs.declared.Net.{Net}
use Rattle.net_routes.specs.declared.NetRoute.{NetRoute}
use Rattle.net_routes.specs.declared.NetRoute.TheVariants.{Straight, One, Two}
use Rattle.net_routes.specs.Pieces.{Abscissa, slot, rank, Corner, corner_at, corners, border_of, net_at, route_at, HorizontalOverlap, UprightOverlap, RoutesOverlap}
use Rattle.net_routes.specs.GapFree.{HasPin, CommonPin, IsStraightNet, IsFresh, IsAtHeight, StandsIn}
use Rattle.net_routes.specs.Standing.{StandsAt, IsUpright, AreApart}
use Rattle.net_routes.proofs.Flipping.{horizontal_exchanged}

-- a horizontal segment between the border at the pin's side and its slot
abbrev IsSpan : Pin → ℕ → Abscissa → Abscissa → Type 0
IsSpan p s x y = ((x ≡ border_of p.on_left) × (y ≡ slot s)) ⊎ ((x ≡ slot s) × (y ≡ border_of p.on_left))

-- the four kinds of segments of a net
data Kind (n : Net) (r : NetRoute) (a b : Corner) : Type 0 where
  whole : r ≡ Straight → a.height ≡ n.a.height → a.at ≡ border_of n.a.on_left → Kind n r a b
  outer : (p : Pin) (s : ℕ) → StandsAt n r p s → a.height ≡ p.height → IsSpan p s a.at b.at → Kind n r a b
  between : (s : ℕ) (h : ℤ) (t : ℕ) → r ≡ Two s h t → a.height ≡ h → b.height ≡ h → Kind n r a b
  upright : (s : ℕ) → IsUpright n r s a.height b.height → a.at ≡ slot s → b.at ≡ slot s → Kind n r a b

segment_kind : (n : Net) (r : NetRoute) (i : ℕ) → i + 1 < length (corners n r) → Kind n r (corner_at (corners n r) i) (corner_at (corners n r) (i + 1))
segment_kind n Straight zero l = whole refl refl refl
segment_kind n Straight (suc i) l = absurd (omega arith)
segment_kind n (One s) zero l = outer n.a s (inl refl, refl) refl (inl (refl, refl))
segment_kind n (One s) (suc zero) l = upright s (refl, refl, refl) refl refl
segment_kind n (One s) (suc (suc zero)) l = outer n.b s (inr refl, refl) refl (inr (refl, refl))
segment_kind n (One s) (suc (suc (suc i))) l = absurd (omega arith)
segment_kind n (Two s h t) zero l = outer n.a s (inl (refl, refl)) refl (inl (refl, refl))
segment_kind n (Two s h t) (suc zero) l = upright s (inl (refl, refl, refl)) refl refl
segment_kind n (Two s h t) (suc (suc zero)) l = between s h t refl refl refl
segment_kind n (Two s h t) (suc (suc (suc zero))) l = upright t (inr (refl, refl, refl)) refl refl
segment_kind n (Two s h t) (suc (suc (suc (suc zero)))) l = outer n.b t (inr (refl, refl)) refl (inr (refl, refl))
segment_kind n (Two s h t) (suc (suc (suc (suc (suc i))))) l = absurd (omega arith)

-- a pin that stands somewhere is a pin of the net
pub has_pin : (n : Net) (r : NetRoute) (p : Pin) (s : ℕ) → StandsAt n r p s → HasPin n p
has_pin n Straight p s h = absurd h
has_pin n (One t) p s h = h.0
has_pin n (Two t k u) p s h = ⊎_elim (λ x. inl x.0) (λ x. inr x.0) h

same_pin : (p q : Pin) → p.on_left ≡ q.on_left → p.height ≡ q.height → p ≡ q
same_pin p q e f =
    let at : Bool → ℤ → Pin = λ l h. record { on_left = l; height = h } in
    ap (λ l. at l p.height) e ∙ ap (λ h. at q.on_left h) f

pin_at : (n : Net) (p : Pin) → HasPin n p → IsAtHeight n p.height
pin_at n p h = ⊎_elim (λ e. inl (ap (λ z. z.height) e)) (λ e. inr (ap (λ z. z.height) e)) h

-- a depth net has a pin on each side, both at one height
depth_pin : (n : Net) (p : Pin) → IsStraightNet n → p.height ≡ n.a.height → HasPin n p
depth_pin n p v e = by_side (n.a.on_left) (n.b.on_left) p.on_left refl refl refl v.0
  where
    by_side : (x y z : Bool) → n.a.on_left ≡ x → n.b.on_left ≡ y → p.on_left ≡ z → n.a.on_left ≢ n.b.on_left → HasPin n p
    by_side true y true ex ey ez d = inl (same_pin n.a p (ex ∙ sym ez) (sym e))
    by_side false y false ex ey ez d = inl (same_pin n.a p (ex ∙ sym ez) (sym e))
    by_side true false false ex ey ez d = inr (same_pin n.b p (ey ∙ sym ez) (sym v.1 ∙ sym e))
    by_side false true true ex ey ez d = inr (same_pin n.b p (ey ∙ sym ez) (sym v.1 ∙ sym e))
    by_side true true false ex ey ez d = absurd (d (ex ∙ sym ey))
    by_side false false true ex ey ez d = absurd (d (ex ∙ sym ey))

-- stretches as numbers
no_width : (r s x y : ℤ) → r ≡ s → int_max (int_min r s) x <ℤ int_min (int_max r s) y → ⊥
no_width r s x y e l = omega (arith, ints, clamps)

no_width_behind : (x y r s : ℤ) → r ≡ s → int_max x (int_min r s) <ℤ int_min y (int_max r s) → ⊥
no_width_behind x y r s e l = omega (arith, ints, clamps)

-- a stretch that ends where another begins, or before
kept_order : (a b c d m : ℤ) → a ≤ℤ m → b ≤ℤ m → m ≤ℤ c → m ≤ℤ d → int_max (int_min a b) (int_min c d) <ℤ int_min (int_max a b) (int_max c d) → ⊥
kept_order a b c d m p q r s l = omega (arith, ints, clamps)

no_border : (l : Bool) (s : ℕ) → border_of l ≡ slot s → ⊥
no_border true s e = cc
no_border false s e = cc

-- a segment from the left border to a slot, and one from a slot to the right border
left_span : (count : ℕ) (p : Pin) (s : ℕ) (x y : Abscissa) → p.on_left ≡ true → IsSpan p s x y → (rank count x ≤ℤ pos (s + 1)) × (rank count y ≤ℤ pos (s + 1))
left_span count p s x y l sp =
    let zero_rank : rank count (border_of p.on_left) ≡ pos 0 = ap (λ z. rank count (border_of z)) l in
    ⊎_elim
    (λ (h : (x ≡ border_of p.on_left) × (y ≡ slot s)).
    let ex : rank count x ≡ pos 0 = ap (rank count) h.0 ∙ zero_rank in
    let ey : rank count y ≡ pos (s + 1) = ap (rank count) h.1 in
    (omega (arith, ints), omega (arith, ints)))
    (λ (h : (x ≡ slot s) × (y ≡ border_of p.on_left)).
    let ex : rank count x ≡ pos (s + 1) = ap (rank count) h.0 in
    let ey : rank count y ≡ pos 0 = ap (rank count) h.1 ∙ zero_rank in
    (omega (arith, ints), omega (arith, ints)))
    sp

right_span : (count : ℕ) (p : Pin) (s t : ℕ) (x y : Abscissa) → p.on_left ≡ false → IsSpan p t x y → s ≤ t → s < count
    → (pos (s + 1) ≤ℤ rank count x) × (pos (s + 1) ≤ℤ rank count y)
right_span count p s t x y l sp le lt =
    let last_rank : rank count (border_of p.on_left) ≡ pos (count + 1) = ap (λ z. rank count (border_of z)) l in
    ⊎_elim
    (λ (h : (x ≡ border_of p.on_left) × (y ≡ slot t)).
    let ex : rank count x ≡ pos (count + 1) = ap (rank count) h.0 ∙ last_rank in
    let ey : rank count y ≡ pos (t + 1) = ap (rank count) h.1 in
    (omega (arith, ints), omega (arith, ints)))
    (λ (h : (x ≡ slot t) × (y ≡ border_of p.on_left)).
    let ex : rank count x ≡ pos (t + 1) = ap (rank count) h.0 in
    let ey : rank count y ≡ pos (count + 1) = ap (rank count) h.1 ∙ last_rank in
    (omega (arith, ints), omega (arith, ints)))
    sp

pub record AreKept (nets : List Net) (count : ℕ) (routes : List NetRoute) : Type 0 where
  pub apart : AreApart nets routes
  pub slots_in : (k s : ℕ) → k < length nets → StandsIn (route_at routes k) s → s < count
  pub depth : (k : ℕ) → k < length nets → route_at routes k ≡ Straight → IsStraightNet (net_at nets k)
  pub fresh : (k s : ℕ) (h : ℤ) (t : ℕ) → k < length nets → route_at routes k ≡ Two s h t → IsFresh nets routes k s h t

pub stands_in : (n : Net) (r : NetRoute) (p : Pin) (s : ℕ) → StandsAt n r p s → StandsIn r s
stands_in n Straight p s h = absurd h
stands_in n (One t) p s h = h.1
stands_in n (Two t k u) p s h = ⊎_elim (λ x. inl x.1) (λ x. inr x.1) h

left_right : (nets : List Net) (count : ℕ) (routes : List NetRoute) → AreKept nets count routes → (j k : ℕ) (a b c d : Corner) → j < length nets → k < length nets → j ≢ k
    → (p q : Pin) (s t : ℕ) → StandsAt (net_at nets j) (route_at routes j) p s → StandsAt (net_at nets k) (route_at routes k) q t
    → p.on_left ≡ true → q.on_left ≡ false → p.height ≡ q.height → IsSpan p s a.at b.at → IsSpan q t c.at d.at → HorizontalOverlap count a b c d → ⊥
left_right nets count routes kept j k a b c d jl kl ne p q s t st su pl ql e sp sq o =
    let le : s ≤ t = kept.apart.order j k p q s t jl kl ne st su pl ql e in
    let lt : s < count = kept.slots_in j s jl (stands_in (net_at nets j) (route_at routes j) p s st) in
    let left = left_span count p s a.at b.at pl sp in
    let right = right_span count q s t c.at d.at ql sq le lt in
    kept_order (rank count a.at) (rank count b.at) (rank count c.at) (rank count d.at) (pos (s + 1)) left.0 left.1 right.0 right.1 o.over

outer_outer : (nets : List Net) (count : ℕ) (routes : List NetRoute) → AreKept nets count routes → (j k : ℕ) (a b c d : Corner) → j < length nets → k < length nets → j ≢ k
    → (p q : Pin) (s t : ℕ) → StandsAt (net_at nets j) (route_at routes j) p s → StandsAt (net_at nets k) (route_at routes k) q t
    → p.height ≡ q.height → IsSpan p s a.at b.at → IsSpan q t c.at d.at → HorizontalOverlap count a b c d → CommonPin (net_at nets j) (net_at nets k)
outer_outer nets count routes kept j k a b c d jl kl ne p q s t st su e sp sq o = by_side p.on_left q.on_left refl refl
  where
    common : p.on_left ≡ q.on_left → CommonPin (net_at nets j) (net_at nets k)
    common f =
        record {
          pin = p;
          in_first = has_pin (net_at nets j) (route_at routes j) p s st;
          in_second = subst (λ z. HasPin (net_at nets k) z) (sym (same_pin p q f e)) (has_pin (net_at nets k) (route_at routes k) q t su);
        }

    by_side : (x y : Bool) → p.on_left ≡ x → q.on_left ≡ y → CommonPin (net_at nets j) (net_at nets k)
    by_side true true ex ey = common (ex ∙ sym ey)
    by_side false false ex ey = common (ex ∙ sym ey)
    by_side true false ex ey = absurd (left_right nets count routes kept j k a b c d jl kl ne p q s t st su ex ey e sp sq o)
    by_side false true ex ey =
        absurd (left_right nets count routes kept k j c d a b kl jl (λ z. ne (sym z)) q p t s su st ey ex (sym e) sq sp (horizontal_exchanged count a b c d o))

depth_depth : (nets : List Net) (count : ℕ) (routes : List NetRoute) → AreKept nets count routes → (j k : ℕ) (a b c d : Corner) → j < length nets → k < length nets → j ≢ k
    → Kind (net_at nets j) (route_at routes j) a b → Kind (net_at nets k) (route_at routes k) c d → HorizontalOverlap count a b c d → CommonPin (net_at nets j) (net_at nets k)
depth_depth nets count routes kept j k a b c d jl kl ne (upright s u ea eb) kind o =
    absurd (no_width (rank count a.at) (rank count b.at) _ _ (ap (rank count) (ea ∙ sym eb)) o.over)
depth_depth nets count routes kept j k a b c d jl kl ne (whole e ha at) (upright s u ec ed) o =
    absurd (no_width_behind _ _ (rank count c.at) (rank count d.at) (ap (rank count) (ec ∙ sym ed)) o.over)
depth_depth nets count routes kept j k a b c d jl kl ne (outer p s st ha sp) (upright t u ec ed) o =
    absurd (no_width_behind _ _ (rank count c.at) (rank count d.at) (ap (rank count) (ec ∙ sym ed)) o.over)
depth_depth nets count routes kept j k a b c d jl kl ne (between s h t e ha hb) (upright v u ec ed) o =
    absurd (no_width_behind _ _ (rank count c.at) (rank count d.at) (ap (rank count) (ec ∙ sym ed)) o.over)
depth_depth nets count routes kept j k a b c d jl kl ne (between s h t e ha hb) (whole f hc at) o =
    absurd ((kept.fresh j s h t jl e).no_pin k kl (inl (sym hc ∙ sym o.same ∙ ha)))
depth_depth nets count routes kept j k a b c d jl kl ne (between s h t e ha hb) (outer q v su hc sq) o =
    absurd ((kept.fresh j s h t jl e).no_pin k kl (subst (λ z. IsAtHeight (net_at nets k) z) (sym hc ∙ sym o.same ∙ ha) (pin_at (net_at nets k) q (has_pin (net_at nets k) (route_at routes k) q v su))))
depth_depth nets count routes kept j k a b c d jl kl ne (between s h t e ha hb) (between v i w f hc hd) o =
    absurd ((kept.fresh j s h t jl e).no_other k v i w kl (λ z. ne (sym z)) f (sym ha ∙ o.same ∙ hc))
depth_depth nets count routes kept j k a b c d jl kl ne (whole f ha at) (between s h t e hc hd) o =
    absurd ((kept.fresh k s h t kl e).no_pin j jl (inl (sym ha ∙ o.same ∙ hc)))
depth_depth nets count routes kept j k a b c d jl kl ne (outer p v st ha sp) (between s h t e hc hd) o =
    absurd ((kept.fresh k s h t kl e).no_pin j jl (subst (λ z. IsAtHeight (net_at nets j) z) (sym ha ∙ o.same ∙ hc) (pin_at (net_at nets j) p (has_pin (net_at nets j) (route_at routes j) p v st))))
depth_depth nets count routes kept j k a b c d jl kl ne (whole e ha at) (whole f hc au) o =
    record {
      pin = (net_at nets k).a;
      in_first = depth_pin (net_at nets j) (net_at nets k).a (kept.depth j jl e) (sym hc ∙ sym o.same ∙ ha);
      in_second = inl refl;
    }
depth_depth nets count routes kept j k a b c d jl kl ne (whole e ha at) (outer q t su hc sq) o =
    record {
      pin = q;
      in_first = depth_pin (net_at nets j) q (kept.depth j jl e) (sym hc ∙ sym o.same ∙ ha);
      in_second = has_pin (net_at nets k) (route_at routes k) q t su;
    }
depth_depth nets count routes kept j k a b c d jl kl ne (outer p s st ha sp) (whole f hc au) o =
    record {
      pin = p;
      in_first = has_pin (net_at nets j) (route_at routes j) p s st;
      in_second = depth_pin (net_at nets k) p (kept.depth k kl f) (sym ha ∙ o.same ∙ hc);
    }
depth_depth nets count routes kept j k a b c d jl kl ne (outer p s st ha sp) (outer q t su hc sq) o =
    outer_outer nets count routes kept j k a b c d jl kl ne p q s t st su (sym ha ∙ o.same ∙ hc) sp sq o

-- the ends of a segment stand in its slot
in_slot : (n : Net) (r : NetRoute) (a b : Corner) (s : ℕ) → Kind n r a b → a.at ≡ slot s → b.at ≡ slot s → (a.height ≡ b.height) ⊎ IsUpright n r s a.height b.height
in_slot n r a b s (whole e h at) ea eb = absurd (no_border n.a.on_left s (sym at ∙ ea))
in_slot n r a b s (outer p t st h sp) ea eb =
    absurd (⊎_elim (λ x. no_border p.on_left s (sym x.0 ∙ ea)) (λ x. no_border p.on_left s (sym x.1 ∙ eb)) sp)
in_slot n r a b s (between t h u e ha hb) ea eb = inl (ha ∙ sym hb)
in_slot n r a b s (upright t u fa fb) ea eb =
    let same : slot t ≡ slot s = sym fa ∙ ea in
    let same' : t ≡ s = cc in inr (subst (λ z. IsUpright n r z a.height b.height) same' u)

upright_upright : (nets : List Net) (count : ℕ) (routes : List NetRoute) → AreKept nets count routes → (j k : ℕ) (a b c d : Corner) → j < length nets → k < length nets → j ≢ k
    → Kind (net_at nets j) (route_at routes j) a b → Kind (net_at nets k) (route_at routes k) c d → UprightOverlap a b c d → ⊥
upright_upright nets count routes kept j k a b c d jl kl ne x y o =
    ⊎_elim
    (λ e. no_width a.height b.height _ _ e o.over)
    (λ u. ⊎_elim
    (λ e. no_width_behind _ _ c.height d.height e o.over)
    (λ v. kept.apart.uprights j k o.in_slot a.height b.height c.height d.height jl kl ne u v o.over)
    (in_slot (net_at nets k) (route_at routes k) c d o.in_slot y o.c_there o.d_there))
    (in_slot (net_at nets j) (route_at routes j) a b o.in_slot x o.a_there o.b_there)

pub free : (nets : List Net) (count : ℕ) (routes : List NetRoute) → AreKept nets count routes → (j k : ℕ) → j < length nets → k < length nets → j ≢ k
    → RoutesOverlap count (corners (net_at nets j) (route_at routes j)) (corners (net_at nets k) (route_at routes k)) → CommonPin (net_at nets j) (net_at nets k)
free nets count routes kept j k jl kl ne o =
    let x = segment_kind (net_at nets j) (route_at routes j) o.i o.i_in in
    let y = segment_kind (net_at nets k) (route_at routes k) o.j o.j_in in
    ⊎_elim
    (λ l. depth_depth nets count routes kept j k _ _ _ _ jl kl ne x y l)
    (λ u. absurd (upright_upright nets count routes kept j k _ _ _ _ jl kl ne x y u))
    o.over
