-- Nets keep apart whose segments stand in slots by their depths.
use Rattle.std.proofs.Common.{◌≡◌, ◌≢◌, ◌∙◌, ◌⊎◌, ⊎_elim, inl, inr, List, map, ℕ, zero, suc, ◌+◌, ◌<◌, ◌≤◌, Bool, true, false, not, ℤ, ◌≤ℤ◌, ◌<ℤ◌, length, refl, sym, ap, subst, arith, if◌then◌else◌, get_or}
use Rattle.std.proofs.lemmas.Bool.{cases_lt, false_from_ne_true}
use Rattle.std.proofs.lemmas.List.{length-map, get_or-map}
use Rattle.std.proofs.lemmas.Int.{ints, clamps}
use Rattle.std.specs.Int.{int_min, int_max}
use Rattle.net_routes.specs.declared.Pin.{Pin}
use Rattle.net_routes.specs.declared.Net.{Net}
use Rattle.net_routes.specs.declared.NetRoute.{NetRoute}
use Rattle.net_routes.specs.declared.NetRoute.TheVariants.{Straight, One, Two}
use Rattle.route_slots.specs.declared.marks.Mark.{Mark}
use Rattle.route_slots.specs.declared.slotting.Segment.{Segment}
use Rattle.net_routes.specs.Pieces.{net_at, route_at}
use Rattle.net_routes.specs.GapFree.{IsStraightNet, IsAtHeight, StandsIn, IsNearPins, IsFresh, GapFree}
use Rattle.net_routes.specs.Standing.{StandsAt, IsUpright, AreApart}
use Rattle.route_slots.specs.Slotting.{segment_at, IsReal, AreSlots, AreAtOneDepth, MeetInEach}
use Rattle.net_routes.specs.Density.{Contains, MeetAt, IsDensity}
use Rattle.route_slots.specs.Marks.{mark_at, DepthAt, AreNetMarks, other_end, segment_a, segment_b, height_of, AreSegments, route_by, HaveSlots, AreFlat}
use Rattle.route_slots.specs.declared.middles.Height.{Height}
use Rattle.route_slots.specs.Middles.{AreMiddles}
use Rattle.route_slots.specs.NetDepths.{StandByDepths}
use Rattle.route_slots.proofs.Free.{AreKept, free}
use Rattle.net_routes.proofs.Lists.{one_each, few_below}

-- a place in the list of segments is one of the two of some net
halved : (i n : ℕ) → i < n + n → (k : ℕ) × (k < n) × ((i ≡ k + k) ⊎ (i ≡ k + k + 1))
halved i zero h = absurd (omega arith)
halved i (suc n) h =
    ⊎_elim
    (λ (l : i < n + n). let w = halved i n l in let w1 = w.1 in (w.0, omega arith, w.2))
    (λ (ge : n + n ≤ i). ⊎_elim
    (λ (l : i < n + n + 1). (n, omega arith, inl (omega arith)))
    (λ (g : n + n + 1 ≤ i). (n, omega arith, inr (omega arith)))
    (cases_lt i (n + n + 1)))
    (cases_lt i (n + n))

not_true : (b : Bool) → not b ≡ true → b ≡ false
not_true true e = absurd (cc)
not_true false e = refl

abbrev Slot : Bool → Bool → ℕ → ℕ → ℕ → Type 0
Slot straight split a b s = ((straight ≡ false) × (a ≡ s)) ⊎ ((split ≡ true) × (b ≡ s))

abbrev by : Bool → Bool → ℕ → ℤ → ℕ → NetRoute
by straight split a h b = if straight then Straight else (if split then Two a h b else One a)

slot_is : (straight split : Bool) (a : ℕ) (h : ℤ) (b s : ℕ) → StandsIn (by straight split a h b) s → Slot straight split a b s
slot_is true split a h b s x = absurd x
slot_is false true a h b s x = ⊎_elim (λ y. inl (refl, y)) (λ y. inr (refl, y)) x
slot_is false false a h b s x = inl (refl, x)

first_in : (straight split : Bool) (a : ℕ) (h : ℤ) (b : ℕ) → straight ≡ false → StandsIn (by straight split a h b) a
first_in true split a h b e = absurd (cc)
first_in false true a h b e = inl refl
first_in false false a h b e = refl

second_in : (straight split : Bool) (a : ℕ) (h : ℤ) (b : ℕ) → straight ≡ false → split ≡ true → StandsIn (by straight split a h b) b
second_in true split a h b e f = absurd (cc)
second_in false true a h b e f = inr refl
second_in false false a h b e f = absurd (cc)

is_one : (straight split : Bool) (a : ℕ) (h : ℤ) (b s : ℕ) → by straight split a h b ≡ One s → (straight ≡ false) × (a ≡ s)
is_one true split a h b s e = absurd (let bad : Straight ≡ One s = e in cc)
is_one false true a h b s e = absurd (let bad : Two a h b ≡ One s = e in cc)
is_one false false a h b s e = let f : One a ≡ One s = e in (refl, cc)

is_straight : (straight split : Bool) (a : ℕ) (h : ℤ) (b : ℕ) → by straight split a h b ≡ Straight → straight ≡ true
is_straight true split a h b e = refl
is_straight false true a h b e = absurd (let bad : Two a h b ≡ Straight = e in cc)
is_straight false false a h b e = absurd (let bad : One a ≡ Straight = e in cc)

abbrev TwoIs : Bool → Bool → ℕ → ℤ → ℕ → ℕ → ℤ → ℕ → Type 0
TwoIs straight split a h b s g t = (straight ≡ false) × (split ≡ true) × (s ≡ a) × (g ≡ h) × (t ≡ b)

is_two : (straight split : Bool) (a : ℕ) (h : ℤ) (b s : ℕ) (g : ℤ) (t : ℕ) → by straight split a h b ≡ Two s g t → TwoIs straight split a h b s g t
is_two true split a h b s g t e = absurd (let bad : Straight ≡ Two s g t = e in cc)
is_two false true a h b s g t e = let f : Two a h b ≡ Two s g t = e in (refl, refl, cc, cc, cc)
is_two false false a h b s g t e = absurd (let bad : One a ≡ Two s g t = e in cc)

-- where the segment at a pin stands, and at which depth
abbrev PinAt : Net → Mark → ℕ → ℕ → Pin → ℕ → Type 0
PinAt n m a b p s = ((m.straight ≡ false) × DepthAt n m p m.at_a × (a ≡ s)) ⊎ ((m.split ≡ true) × DepthAt n m p m.at_b × (b ≡ s))

pin_at : (n : Net) (m : Mark) (straight split : Bool) (a : ℕ) (h : ℤ) (b : ℕ) (p : Pin) (s : ℕ) → m.straight ≡ straight → m.split ≡ split
    → (m.split ≡ false → m.at_a ≡ m.at_b) → StandsAt n (by straight split a h b) p s → PinAt n m a b p s
pin_at n m true split a h b p s e f whole x = absurd x
pin_at n m false true a h b p s e f whole x =
    ⊎_elim (λ y. inl (e, inl (y.0, refl), y.1)) (λ y. inr (f, inr (y.0, refl), y.1)) x
pin_at n m false false a h b p s e f whole x =
    inl (e, ⊎_elim (λ y. inl (y, refl)) (λ y. inr (y, sym (whole f))) x.0, x.1)

-- which segment an upright one is
abbrev SegmentIs : Net → Mark → ℤ → ℕ → ℕ → ℕ → ℤ → ℤ → Type 0
SegmentIs n m h a b s x y =
    ((m.straight ≡ false) × (a ≡ s) × ((segment_a m n h).low ≡ int_min x y) × ((segment_a m n h).high ≡ int_max x y))
    ⊎ ((m.split ≡ true) × (b ≡ s) × ((segment_b m n h).low ≡ int_min x y) × ((segment_b m n h).high ≡ int_max x y))

upright_is : (n : Net) (m : Mark) (straight split : Bool) (a : ℕ) (h : ℤ) (b s : ℕ) (x y : ℤ) → m.straight ≡ straight → m.split ≡ split
    → IsUpright n (by straight split a h b) s x y → SegmentIs n m h a b s x y
upright_is n m true split a h b s x y e f u = absurd u
upright_is n m false true a h b s x y e f u =
    let end : other_end m n h ≡ h = ap (λ z. if z then h else n.b.height) f in
    ⊎_elim
    (λ v. inl (e, v.0, ap (int_min n.a.height) end ∙ ap (λ z. int_min z h) v.1 ∙ ap (int_min x) v.2, ap (int_max n.a.height) end ∙ ap (λ z. int_max z h) v.1 ∙ ap (int_max x) v.2))
    (λ v. inr (f, v.0, ap (λ z. int_min z n.b.height) v.1 ∙ ap (int_min x) v.2, ap (λ z. int_max z n.b.height) v.1 ∙ ap (int_max x) v.2))
    u
upright_is n m false false a h b s x y e f u =
    let end : other_end m n h ≡ n.b.height = ap (λ z. if z then h else n.b.height) f in
    inl (e, u.0, ap (int_min n.a.height) end ∙ ap (λ z. int_min z n.b.height) u.1 ∙ ap (int_min x) u.2, ap (int_max n.a.height) end ∙ ap (λ z. int_max z n.b.height) u.1 ∙ ap (int_max x) u.2)

no_overlap : (low high low' high' : ℤ) → int_max low low' <ℤ int_min high high' → (high <ℤ low') ⊎ (high' <ℤ low) → ⊥
no_overlap low high low' high' o x =
    ⊎_elim (λ l. let l' = l in omega (arith, ints, clamps)) (λ l. let l' = l in omega (arith, ints, clamps)) x

meet_at : (a b h : ℤ) → ((int_max a h <ℤ int_min h b) ⊎ (int_max h b <ℤ int_min a h)) → ⊥
meet_at a b h x = ⊎_elim (λ l. let l' = l in omega (arith, ints, clamps)) (λ l. let l' = l in omega (arith, ints, clamps)) x

both_contain : (low high low' high' h : ℤ) → low ≤ℤ h → h ≤ℤ high → low' ≤ℤ h → h ≤ℤ high' → (high <ℤ low') ⊎ (high' <ℤ low) → ⊥
both_contain low high low' high' h a b c d x = ⊎_elim (λ l. let l' = l in omega (arith, ints)) (λ l. let l' = l in omega (arith, ints)) x

min_max : (a b : ℤ) → int_min a b ≤ℤ int_max a b
min_max a b = omega (arith, ints, clamps)

proper_a : (m : Mark) (n : Net) (h : ℤ) → (segment_a m n h).low ≤ℤ (segment_a m n h).high
proper_a m n h = min_max n.a.height (other_end m n h)

proper_b : (m : Mark) (n : Net) (h : ℤ) → (segment_b m n h).low ≤ℤ (segment_b m n h).high
proper_b m n h = min_max h n.b.height

-- each segment leads from its low end to its high one
pub all_proper : (nets : List Net) (ms : List Mark) (hs : List Height) (ps : List Segment) → AreSegments nets ms hs ps → (i : ℕ) → i < length ps → (segment_at ps i).low ≤ℤ (segment_at ps i).high
all_proper nets ms hs ps segments i h =
    let len = segments.len in
    let at = halved i (length nets) (omega arith) in
    ⊎_elim
    (λ (e : i ≡ at.0 + at.0). subst (λ (p : Segment). p.low ≤ℤ p.high) (sym (ap (segment_at ps) e ∙ segments.at_a at.0 at.1)) (proper_a (mark_at ms at.0) (net_at nets at.0) (height_of hs at.0)))
    (λ (e : i ≡ at.0 + at.0 + 1). subst (λ (p : Segment). p.low ≤ℤ p.high) (sym (ap (segment_at ps) e ∙ segments.at_b at.0 at.1)) (proper_b (mark_at ms at.0) (net_at nets at.0) (height_of hs at.0)))
    at.2

module _ (nets : List Net) (ms : List Mark) (hs : List Height) (ps : List Segment) (ss : List ℕ) (count : ℕ) (routes : List NetRoute)
    (marks : AreNetMarks nets ms) (segments : AreSegments nets ms hs ps) (slots : AreSlots ps ss count) (middles : AreMiddles nets hs) (placed : HaveSlots nets ms hs ss routes) where
  abbrev net : ℕ → Net
  net k = net_at nets k

  abbrev mark : ℕ → Mark
  mark k = mark_at ms k

  abbrev first : ℕ → ℕ
  first k = get_or ss (k + k) 0

  abbrev second : ℕ → ℕ
  second k = get_or ss (k + k + 1) 0

  abbrev height : ℕ → ℤ
  height k = height_of hs k

  real_a : (k : ℕ) → k < length nets → (mark k).straight ≡ false → IsReal ps (k + k)
  real_a k h e = (let len = segments.len in omega arith, ap (λ z. z.real) (segments.at_a k h) ∙ ap not e)

  real_b : (k : ℕ) → k < length nets → (mark k).split ≡ true → IsReal ps (k + k + 1)
  real_b k h e = (let len = segments.len in omega arith, ap (λ z. z.real) (segments.at_b k h) ∙ e)

  in_either : (k s : ℕ) → k < length nets → StandsIn (route_at routes k) s → Slot (mark k).straight (mark k).split (first k) (second k) s
  in_either k s h x =
      slot_is (mark k).straight (mark k).split (first k) (height k) (second k) s (subst (λ r. StandsIn r s) (placed.routes_are k h) x)

  in_range : (k s : ℕ) → k < length nets → StandsIn (route_at routes k) s → s < count
  in_range k s h x =
      ⊎_elim
      (λ (y : ((mark k).straight ≡ false) × (first k ≡ s)). subst (λ z. z < count) y.1 (slots.below (k + k) (real_a k h y.0)))
      (λ (y : ((mark k).split ≡ true) × (second k ≡ s)). subst (λ z. z < count) y.1 (slots.below (k + k + 1) (real_b k h y.0)))
      (in_either k s h x)

  used : (s : ℕ) → s < count → (k : ℕ) × (k < length nets) × StandsIn (route_at routes k) s
  used s l =
      let w = slots.used s l in
      let len = segments.len in
      let i_in = w.1.0 in
      let at = halved w.0 (length nets) (omega arith) in
      (at.0, at.1, stands w.0 at.0 at.1 w.1 w.2 at.2)
    where
      stands : (i k : ℕ) → k < length nets → IsReal ps i → get_or ss i 0 ≡ s → (i ≡ k + k) ⊎ (i ≡ k + k + 1) → StandsIn (route_at routes k) s
      stands i k h r e x =
          subst (λ z. StandsIn z s) (sym (placed.routes_are k h))
          (⊎_elim
          (λ (f : i ≡ k + k).
          let real : (mark k).straight ≡ false = not_true (mark k).straight (sym (ap (λ z. z.real) (segments.at_a k h)) ∙ subst (λ z. (segment_at ps z).real ≡ true) f r.1) in
          subst (λ z. StandsIn (route_by (mark k) (first k) (height k) (second k)) z) (subst (λ z. get_or ss z 0 ≡ s) f e) (first_in (mark k).straight (mark k).split (first k) (height k) (second k) real))
          (λ (f : i ≡ k + k + 1).
          let real : (mark k).split ≡ true = sym (ap (λ z. z.real) (segments.at_b k h)) ∙ subst (λ z. (segment_at ps z).real ≡ true) f r.1 in
          subst (λ z. StandsIn (route_by (mark k) (first k) (height k) (second k)) z) (subst (λ z. get_or ss z 0 ≡ s) f e) (second_in (mark k).straight (mark k).split (first k) (height k) (second k) (marks.split k h real) real))
          x)

  -- the segment at a pin
  abbrev AtPin : ℕ → Pin → ℕ → Type 0
  AtPin k p s = (i : ℕ) × IsReal ps i × (get_or ss i 0 ≡ s) × ((mark k).straight ≡ false) × DepthAt (net k) (mark k) p (segment_at ps i).depth

  at_pin : (k : ℕ) (p : Pin) (s : ℕ) → k < length nets → StandsAt (net k) (route_at routes k) p s → AtPin k p s
  at_pin k p s h x =
      ⊎_elim
      (λ (y : ((mark k).straight ≡ false) × DepthAt (net k) (mark k) p (mark k).at_a × (first k ≡ s)).
      (k + k, real_a k h y.0, y.2, y.0, subst (λ z. DepthAt (net k) (mark k) p z) (sym (ap (λ z. z.depth) (segments.at_a k h))) y.1))
      (λ (y : ((mark k).split ≡ true) × DepthAt (net k) (mark k) p (mark k).at_b × (second k ≡ s)).
      (k + k + 1, real_b k h y.0, y.2, marks.split k h y.0, subst (λ z. DepthAt (net k) (mark k) p z) (sym (ap (λ z. z.depth) (segments.at_b k h))) y.1))
      (pin_at (net k) (mark k) (mark k).straight (mark k).split (first k) (height k) (second k) p s refl refl (marks.whole k h)
      (subst (λ r. StandsAt (net k) r p s) (placed.routes_are k h) x))

  -- the segment that an upright one is
  abbrev AtUpright : ℕ → ℕ → ℤ → ℤ → Type 0
  AtUpright k s x y = (i : ℕ) × IsReal ps i × (get_or ss i 0 ≡ s) × ((i ≡ k + k) ⊎ (i ≡ k + k + 1)) × ((segment_at ps i).low ≡ int_min x y) × ((segment_at ps i).high ≡ int_max x y)

  at_upright : (k s : ℕ) (x y : ℤ) → k < length nets → IsUpright (net k) (route_at routes k) s x y → AtUpright k s x y
  at_upright k s x y h u =
      ⊎_elim
      (λ (v : ((mark k).straight ≡ false) × (first k ≡ s) × ((segment_a (mark k) (net k) (height k)).low ≡ int_min x y) × ((segment_a (mark k) (net k) (height k)).high ≡ int_max x y)).
      (k + k, real_a k h v.0, v.1, inl refl, ap (λ z. z.low) (segments.at_a k h) ∙ v.2, ap (λ z. z.high) (segments.at_a k h) ∙ v.3))
      (λ (v : ((mark k).split ≡ true) × (second k ≡ s) × ((segment_b (mark k) (net k) (height k)).low ≡ int_min x y) × ((segment_b (mark k) (net k) (height k)).high ≡ int_max x y)).
      (k + k + 1, real_b k h v.0, v.1, inr refl, ap (λ z. z.low) (segments.at_b k h) ∙ v.2, ap (λ z. z.high) (segments.at_b k h) ∙ v.3))
      (upright_is (net k) (mark k) (mark k).straight (mark k).split (first k) (height k) (second k) s x y refl refl
      (subst (λ r. IsUpright (net k) r s x y) (placed.routes_are k h) u))

  other_place : (i i' j k : ℕ) → j ≢ k → (i ≡ j + j) ⊎ (i ≡ j + j + 1) → (i' ≡ k + k) ⊎ (i' ≡ k + k + 1) → i ≢ i'
  other_place i i' j k ne x y e =
      ne
      (⊎_elim
      (λ (a : i ≡ j + j). ⊎_elim (λ (b : i' ≡ k + k). omega arith) (λ (b : i' ≡ k + k + 1). omega arith) y)
      (λ (a : i ≡ j + j + 1). ⊎_elim (λ (b : i' ≡ k + k). omega arith) (λ (b : i' ≡ k + k + 1). omega arith) y)
      x)

  pub apart : AreApart nets routes
  apart =
      record {
        order = λ j k p q s t jl kl ne x y pl ql e.
            let u = at_pin j p s jl x in
            let v = at_pin k q t kl y in
            let lower = marks.order j k p q (segment_at ps u.0).depth (segment_at ps v.0).depth jl kl u.3 v.3 u.4 v.4 pl ql e in
            let less = slots.order u.0 v.0 u.1 v.1 lower in
            let us = u.2 in
            let vt = v.2 in
            omega arith;
        uprights = λ j k s x y z w jl kl ne u v o.
            let a = at_upright j s x y jl u in
            let b = at_upright k s z w kl v in
            let clear = slots.apart a.0 b.0 a.1 b.1 (other_place a.0 b.0 j k ne a.3 b.3) (a.2 ∙ sym b.2) in
            no_overlap (int_min x y) (int_max x y) (int_min z w) (int_max z w) o
            (⊎_elim
            (λ l. inl (subst (λ r. r <ℤ int_min z w) a.5 (subst (λ r. (segment_at ps a.0).high <ℤ r) b.4 l)))
            (λ l. inr (subst (λ r. r <ℤ int_min x y) b.5 (subst (λ r. (segment_at ps b.0).high <ℤ r) a.4 l)))
            clear);
      }

  depth : (k : ℕ) → k < length nets → (route_at routes k ≡ Straight → IsStraightNet (net k)) × (IsStraightNet (net k) → route_at routes k ≡ Straight)
  depth k h = (
    λ e. (marks.straight k h).0 (is_straight (mark k).straight (mark k).split (first k) (height k) (second k) (sym (placed.routes_are k h) ∙ e)),
    λ v. placed.routes_are k h ∙ ap (λ z. by z (mark k).split (first k) (height k) (second k)) ((marks.straight k h).1 v),
  )

  two : (k s : ℕ) (h : ℤ) (t : ℕ) → k < length nets → route_at routes k ≡ Two s h t → TwoIs (mark k).straight (mark k).split (first k) (height k) (second k) s h t
  two k s h t l e = is_two (mark k).straight (mark k).split (first k) (height k) (second k) s h t (sym (placed.routes_are k l) ∙ e)

  -- the two segments of a net meet at the height between them, so they stand in two slots
  halves_differ : (k : ℕ) → k < length nets → (mark k).split ≡ true → first k ≡ second k → ⊥
  halves_differ k h e same =
      let clear = slots.apart (k + k) (k + k + 1) (real_a k h (marks.split k h e)) (real_b k h e) (omega arith) same in
      let end : other_end (mark k) (net k) (height k) ≡ height k = ap (λ z. if z then height k else (net k).b.height) e in
      let low_a = ap (λ z. z.low) (segments.at_a k h) ∙ ap (int_min (net k).a.height) end in
      let high_a = ap (λ z. z.high) (segments.at_a k h) ∙ ap (int_max (net k).a.height) end in
      let low_b = ap (λ z. z.low) (segments.at_b k h) in
      let high_b = ap (λ z. z.high) (segments.at_b k h) in
      meet_at (net k).a.height (net k).b.height (height k)
      (⊎_elim
      (λ l. inl (subst (λ r. r <ℤ int_min (height k) (net k).b.height) high_a (subst (λ r. (segment_at ps (k + k)).high <ℤ r) low_b l)))
      (λ l. inr (subst (λ r. r <ℤ int_min (net k).a.height (height k)) high_b (subst (λ r. (segment_at ps (k + k + 1)).high <ℤ r) low_a l)))
      clear)

  fresh : (k s : ℕ) (h : ℤ) (t : ℕ) → k < length nets → route_at routes k ≡ Two s h t → IsFresh nets routes k s h t
  fresh k s h t l e =
      let w = two k s h t l e in
      let h_is = w.3 in
      record {
        differ = λ same. halves_differ k l w.1 (sym w.2 ∙ same ∙ w.4);
        no_pin = λ j jl x. middles.no_pin j k jl l (subst (λ z. IsAtHeight (net j) z) h_is x);
        no_other = λ j s' h' t' jl ne f same.
            let v = two j s' h' t' jl f in
            let g_is = v.3 in
            ne (middles.alone j k jl l (sym g_is ∙ sym same ∙ h_is));
        near = subst (λ z. IsNearPins nets z) (sym h_is) (middles.near k l);
      }

  pub gap_free : GapFree nets count routes
  gap_free =
      let kept : AreKept nets count routes = record { apart = apart; slots_in = in_range; depth = λ k h. (depth k h).0; fresh = fresh } in
      record {
        as_many = placed.as_many;
        slots_in = in_range;
        slots_used = used;
        straight = depth;
        fresh = fresh;
        free = free nets count routes kept;
      }

  -- a net is split only where its mark says so
  pub split_by_mark : (k s : ℕ) (h : ℤ) (t : ℕ) → k < length nets → route_at routes k ≡ Two s h t → (mark k).split ≡ true
  split_by_mark k s h t l e = (two k s h t l e).1

  -- segments of nets that are not split stand in order of their depths
  pub by_depths : StandByDepths nets ms routes
  by_depths j k s t jl kl e f lower =
      let u = is_one (mark j).straight (mark j).split (first j) (height j) (second j) s (sym (placed.routes_are j jl) ∙ e) in
      let v = is_one (mark k).straight (mark k).split (first k) (height k) (second k) t (sym (placed.routes_are k kl) ∙ f) in
      let depth_j = ap (λ z. z.depth) (segments.at_a j jl) in
      let depth_k = ap (λ z. z.depth) (segments.at_a k kl) in
      let less = slots.order (j + j) (k + k) (real_a j jl u.0) (real_a k kl v.0) (omega arith) in
      let us = u.1 in
      let vt = v.1 in
      omega arith

  -- where no net is split and all segments are at one depth
  module _ (flat : AreFlat nets ms) where
    -- a segment is that of a net that is not straight, and leads from pin to pin
    abbrev WholeSegment : ℕ → Type 0
    WholeSegment i =
        (k : ℕ) × (k < length nets) × (i ≡ k + k) × ((mark k).straight ≡ false)
        × ((segment_at ps i).depth ≡ 0)
        × ((segment_at ps i).low ≡ int_min (net k).a.height (net k).b.height)
        × ((segment_at ps i).high ≡ int_max (net k).a.height (net k).b.height)

    whole_end : (k : ℕ) → k < length nets → other_end (mark k) (net k) (height k) ≡ (net k).b.height
    whole_end k h = ap (λ z. if z then height k else (net k).b.height) (flat.split k h)

    whole_low : (k : ℕ) → k < length nets → (segment_at ps (k + k)).low ≡ int_min (net k).a.height (net k).b.height
    whole_low k h = ap (λ z. z.low) (segments.at_a k h) ∙ ap (int_min (net k).a.height) (whole_end k h)

    whole_high : (k : ℕ) → k < length nets → (segment_at ps (k + k)).high ≡ int_max (net k).a.height (net k).b.height
    whole_high k h = ap (λ z. z.high) (segments.at_a k h) ∙ ap (int_max (net k).a.height) (whole_end k h)

    whole_a : (k i : ℕ) → k < length nets → i ≡ k + k → (mark k).straight ≡ false → WholeSegment i
    whole_a k i h e real = (
      k,
      h,
      e,
      real,
      ap (λ z. z.depth) (ap (segment_at ps) e ∙ segments.at_a k h) ∙ flat.depth k h real,
      ap (λ z. (segment_at ps z).low) e ∙ whole_low k h,
      ap (λ z. (segment_at ps z).high) e ∙ whole_high k h,
    )

    whole_segment : (i : ℕ) → IsReal ps i → WholeSegment i
    whole_segment i r =
        let len = segments.len in
        let i_in = r.0 in
        let at = halved i (length nets) (omega arith) in
        ⊎_elim
        (λ (e : i ≡ at.0 + at.0). whole_a at.0 i at.1 e (not_true (mark at.0).straight (sym (ap (λ z. z.real) (segments.at_a at.0 at.1)) ∙ subst (λ z. (segment_at ps z).real ≡ true) e r.1)))
        (λ (e : i ≡ at.0 + at.0 + 1).
        let split : (mark at.0).split ≡ true = sym (ap (λ z. z.real) (segments.at_b at.0 at.1)) ∙ subst (λ z. (segment_at ps z).real ≡ true) e r.1 in
        absurd (let bad : true ≡ false = sym split ∙ flat.split at.0 at.1 in cc))
        at.2

    one_depth : AreAtOneDepth ps
    one_depth i j ri rj = (whole_segment i ri).4 ∙ sym (whole_segment j rj).4

    -- the height that a segment contains in each slot
    met : MeetInEach ps ss count
    met = slots.met one_depth

    -- a net that contains it, and stands in this slot
    abbrev InSlot : ℕ → ℕ → Type 0
    InSlot s k = (k < length nets) × Contains (net k) met.height × (first k ≡ s)

    in_slot : (s : ℕ) → s < count → (k : ℕ) × InSlot s k
    in_slot s l =
        let u = met.each s l in
        let w = whole_segment u.0 u.1 in (
          w.0,
          (
            w.1,
            record {
              bent = λ v. let straight = (marks.straight w.0 w.1).1 v in let bad : true ≡ false = sym straight ∙ w.3 in cc;
              low = subst (λ z. z ≤ℤ met.height) w.5 u.3;
              high = subst (λ z. met.height ≤ℤ z) w.6 u.4;
            },
            subst (λ z. get_or ss z 0 ≡ s) w.2 u.2,
          ),
        )

    -- nets that contain one height stand in different slots
    no_more : (h : ℤ) (ks : List ℕ) → MeetAt nets h ks → length ks ≤ count
    no_more h ks m =
        subst (λ z. z ≤ count) (length-map ks first)
        (few_below (map first ks) count
        (λ i l. let li = inside i l in subst (λ z. z < count) (sym (get_or-map first ks i 0 0 li)) (slots.below (get_or ks i 0 + get_or ks i 0) (real i li)))
        (λ i j lt l e.
        let lj = inside j l in
        let li : i < length ks = omega arith in
        meets i j lt lj (sym (get_or-map first ks i 0 0 li) ∙ e ∙ get_or-map first ks j 0 0 lj)))
      where
        inside : (i : ℕ) → i < length (map first ks) → i < length ks
        inside i l = subst (λ z. i < z) (length-map ks first) l

        bent : (i : ℕ) → i < length ks → (mark (get_or ks i 0)).straight ≡ false
        bent i l = false_from_ne_true (mark (get_or ks i 0)).straight (λ e. (m.meet i l).bent ((marks.straight (get_or ks i 0) (m.nets_in i l)).0 e))

        real : (i : ℕ) → i < length ks → IsReal ps (get_or ks i 0 + get_or ks i 0)
        real i l = real_a (get_or ks i 0) (m.nets_in i l) (bent i l)

        low : (i : ℕ) → i < length ks → (segment_at ps (get_or ks i 0 + get_or ks i 0)).low ≤ℤ h
        low i l = subst (λ z. z ≤ℤ h) (sym (whole_low (get_or ks i 0) (m.nets_in i l))) (m.meet i l).low

        high : (i : ℕ) → i < length ks → h ≤ℤ (segment_at ps (get_or ks i 0 + get_or ks i 0)).high
        high i l = subst (λ z. h ≤ℤ z) (sym (whole_high (get_or ks i 0) (m.nets_in i l))) (m.meet i l).high

        meets : (i j : ℕ) → i < j → j < length ks → first (get_or ks i 0) ≡ first (get_or ks j 0) → ⊥
        meets i j lt lj same =
            let li : i < length ks = omega arith in
            let ne = m.distinct i j lt lj in
            both_contain _ _ _ _ h (low i li) (high i li) (low j lj) (high j lj)
            (slots.apart (get_or ks i 0 + get_or ks i 0) (get_or ks j 0 + get_or ks j 0) (real i li) (real j lj) (omega arith) same)

    pub is_density : IsDensity nets count
    is_density =
        let ks = one_each InSlot count in_slot count (omega arith) in
        let len = ks.1 in
        record {
          height = met.height;
          there = ks.0;
          meet = record {
            nets_in = λ i l. (ks.2 i (omega arith)).0;
            meet = λ i l. (ks.2 i (omega arith)).1;
            distinct = λ i j lt l e.
                let a = (ks.2 i (omega arith)).2 in
                let b = (ks.2 j (omega arith)).2 in
                let same : first (get_or ks.0 i 0) ≡ first (get_or ks.0 j 0) = ap first e in omega arith;
          };
          as_many = ks.1;
          most = no_more;
        }
