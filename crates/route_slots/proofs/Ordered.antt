-- Nets in the slots of their depths, and the links from which the depths come.
use Rattle.std.proofs.Common.{◌≡◌, ◌≢◌, ◌∙◌, ◌⊎◌, ⊎_elim, inl, inr, ℕ, ◌+◌, ◌<◌, ◌≤◌, Bool, true, false, ◌||◌, nat_lt, List, [], ◌∷◌, length, ℤ, ◌<ℤ◌, ◌≤ℤ◌, pos, refl, sym, ap, subst, arith, if◌then◌else◌}
use Rattle.std.proofs.lemmas.Bool.{cases_eq, cases_lt, lt-ltb, ltb-true, or_cases, or_left, or_right, false_from_ne_true}
use Rattle.std.specs.Int.{int_min, int_max}
use Rattle.std.proofs.lemmas.Int.{ints, clamps}
use Rattle.std.specs.List.{All}
use Rattle.std.proofs.lemmas.List.Elements.{All-get_or}
use Rattle.route_slots.specs.declared.links.Link.{Link}
use Rattle.route_slots.specs.Links.{link_at, Leads}
use Rattle.net_routes.specs.declared.Pin.{Pin}
use Rattle.net_routes.specs.declared.Net.{Net}
use Rattle.net_routes.specs.declared.NetRoute.{NetRoute}
use Rattle.net_routes.specs.declared.NetRoute.TheVariants.{Straight, One, Two}
use Rattle.route_slots.specs.declared.marks.Mark.{Mark}
use Rattle.net_routes.specs.Pieces.{net_at, route_at}
use Rattle.net_routes.specs.GapFree.{HasPin, IsNet, IsStraightNet, GapFree}
use Rattle.net_routes.specs.Standing.{IsUpright, AreApart}
use Rattle.route_slots.specs.Exchanges.{meets}
use Rattle.route_slots.specs.Marks.{mark_at, DepthAt, AreNetMarks, SplitsByMarks}
use Rattle.net_routes.specs.Crossings.{is_over, one, cuts, cut}
use Rattle.route_slots.specs.NetDepths.{net_depth, AreNetDepths, conflicts, stands_first, is_past, KeepApart, IsDepthMark, AreDepthMarks, StandByDepths}
use Rattle.net_routes.specs.Uncrossed.{asked, in_order, Precedes, crossed, CrossAsAsked}
use Rattle.route_slots.proofs.Sides.{one_pin}
use Rattle.net_routes.proofs.Turns.{true_false, lt_less}
use Rattle.route_slots.proofs.Blocking.{Meet, meet, meet_back}
use Rattle.net_routes.proofs.Asking.{order_count, asked_flipped, asked_is, AreUnmet, in_two_slots, in_one_slot, uneven}
use Rattle.net_routes.proofs.Straight.{over_parts, alternate_straight}

abbrev Met : Net → Net → Type 0
Met m n = (p : Pin) × (q : Pin) × HasPin m p × HasPin n q × Meet p q

conflicts_are : (m n : Net) → conflicts m n ≡ true → Met m n
unfolding conflicts
conflicts_are m n e =
    ⊎_elim
    (λ f. ⊎_elim
    (λ g. (m.a, n.a, inl refl, inl refl, meet m.a n.a g))
    (λ g. (m.a, n.b, inl refl, inr refl, meet m.a n.b g))
    (or_cases (meets m.a n.a) (meets m.a n.b) f))
    (λ f. ⊎_elim
    (λ g. (m.b, n.a, inr refl, inl refl, meet m.b n.a g))
    (λ g. (m.b, n.b, inr refl, inr refl, meet m.b n.b g))
    (or_cases (meets m.b n.a) (meets m.b n.b) f))
    (or_cases (meets m.a n.a || meets m.a n.b) (meets m.b n.a || meets m.b n.b) e)

conflicts_by : (m n : Net) (p q : Pin) → HasPin m p → HasPin n q → meets p q ≡ true → conflicts m n ≡ true
unfolding conflicts
conflicts_by m n p q h k e =
    ⊎_elim
    (λ (f : m.a ≡ p). or_left (meets m.a n.a || meets m.a n.b) (meets m.b n.a || meets m.b n.b)
    (⊎_elim
    (λ (g : n.a ≡ q). or_left (meets m.a n.a) (meets m.a n.b) (ap (λ z. meets z n.a) f ∙ ap (meets p) g ∙ e))
    (λ (g : n.b ≡ q). or_right (meets m.a n.a) (meets m.a n.b) (ap (λ z. meets z n.b) f ∙ ap (meets p) g ∙ e))
    k))
    (λ (f : m.b ≡ p). or_right (meets m.a n.a || meets m.a n.b) (meets m.b n.a || meets m.b n.b)
    (⊎_elim
    (λ (g : n.a ≡ q). or_left (meets m.b n.a) (meets m.b n.b) (ap (λ z. meets z n.a) f ∙ ap (meets p) g ∙ e))
    (λ (g : n.b ≡ q). or_right (meets m.b n.a) (meets m.b n.b) (ap (λ z. meets z n.b) f ∙ ap (meets p) g ∙ e))
    k))
    h

pub precedes_by : (nets : List Net) (j k : ℕ) → j < length nets → k < length nets → j ≢ k → (IsStraightNet (net_at nets j) → ⊥) → (IsStraightNet (net_at nets k) → ⊥)
    → stands_first (net_at nets j) (net_at nets k) ≡ true → Precedes nets j k
unfolding stands_first
precedes_by nets j k jl kl ne bj bk e =
    ⊎_elim
    (λ f. let w = conflicts_are (net_at nets j) (net_at nets k) f in let o = w.4 in
    inl (record { j_in = jl; k_in = kl; two = ne; j_bent = bj; k_bent = bk; left = w.0; right = w.1; has_left = w.2; has_right = w.3; on_left = o.0; on_right = o.1; one_height = o.2 }))
    (λ f. inr (record { j_in = jl; k_in = kl; two = ne; j_bent = bj; k_bent = bk; more = ltb-true _ _ f }))
    (or_cases (conflicts (net_at nets j) (net_at nets k)) (nat_lt (asked (net_at nets j) (net_at nets k)) (in_order (net_at nets k) (net_at nets j))) e)

abbrev pub AreTwoBent : List Net → ℕ → ℕ → Type 0
AreTwoBent nets j k = (j < length nets) × (k < length nets) × (j ≢ k) × (IsStraightNet (net_at nets j) → ⊥) × (IsStraightNet (net_at nets k) → ⊥)

pub two_bent : (nets : List Net) (j k : ℕ) → Precedes nets j k → AreTwoBent nets j k
two_bent nets j k w = ⊎_elim (λ c. (c.j_in, c.k_in, c.two, c.j_bent, c.k_bent)) (λ c. (c.j_in, c.k_in, c.two, c.j_bent, c.k_bent)) w

pub precedes_not : (nets : List Net) (j k : ℕ) → stands_first (net_at nets j) (net_at nets k) ≡ false → Precedes nets j k → ⊥
unfolding stands_first
precedes_not nets j k e w =
    true_false
    (sym
    (⊎_elim
    (λ c. or_left (conflicts (net_at nets j) (net_at nets k)) (nat_lt (asked (net_at nets j) (net_at nets k)) (in_order (net_at nets k) (net_at nets j)))
    (conflicts_by (net_at nets j) (net_at nets k) c.left c.right c.has_left c.has_right (meet_back c.left c.right (c.on_left, c.on_right, c.one_height))))
    (λ c. or_right (conflicts (net_at nets j) (net_at nets k)) (nat_lt (asked (net_at nets j) (net_at nets k)) (in_order (net_at nets k) (net_at nets j)))
    (lt-ltb _ _ c.more))
    w)
    ∙ e)

-- nets that keep apart
within : (m : Net) (p : Pin) → HasPin m p → (int_min m.a.height m.b.height ≤ℤ p.height) × (p.height ≤ℤ int_max m.a.height m.b.height)
within m p h =
    ⊎_elim
    (λ (e : m.a ≡ p). let f = ap (λ (z : Pin). z.height) e in (omega (arith, ints, clamps, f), omega (arith, ints, clamps, f)))
    (λ (e : m.b ≡ p). let f = ap (λ (z : Pin). z.height) e in (omega (arith, ints, clamps, f), omega (arith, ints, clamps, f)))
    h

none_over : (x y h : ℤ) → (h <ℤ int_min x y) ⊎ (int_max x y <ℤ h) → is_over x y h ≡ false
none_over x y h o =
    false_from_ne_true (is_over x y h)
    (λ e. ⊎_elim
    (λ w. let l = w.0 in let r = w.1 in ⊎_elim (λ a. let b = a in omega (arith, ints, clamps)) (λ a. let b = a in omega (arith, ints, clamps)) o)
    (λ w. let l = w.0 in let r = w.1 in ⊎_elim (λ a. let b = a in omega (arith, ints, clamps)) (λ a. let b = a in omega (arith, ints, clamps)) o)
    (over_parts x y h e))

none_left : (b v : Bool) → v ≡ false → (if b then one v else 0) ≡ 0
unfolding one
none_left true v e = ap (λ z. if z then 1 else 0) e
none_left false v e = refl

none_right : (b v : Bool) → v ≡ false → (if b then 0 else one v) ≡ 0
unfolding one
none_right true v e = refl
none_right false v e = ap (λ z. if z then 1 else 0) e

abbrev Apart : Net → Net → Type 0
Apart m n = (int_max m.a.height m.b.height <ℤ int_min n.a.height n.b.height) ⊎ (int_max n.a.height n.b.height <ℤ int_min m.a.height m.b.height)

past : (m n : Net) → is_past m n ≡ true → int_max m.a.height m.b.height <ℤ int_min n.a.height n.b.height
unfolding is_past
past m n e = lt_less (int_max m.a.height m.b.height) (int_min n.a.height n.b.height) e

apart_by : (m n : Net) → KeepApart m n → Apart m n
apart_by m n k = ⊎_elim (λ e. inl (past m n e)) (λ e. inr (past n m e)) k

outside : (m n : Net) (p : Pin) → Apart m n → HasPin m p → (p.height <ℤ int_min n.a.height n.b.height) ⊎ (int_max n.a.height n.b.height <ℤ p.height)
outside m n p k h =
    let w = within m p h in
    let l = w.0 in let r = w.1 in
    ⊎_elim (λ a. let b = a in inl (omega (arith, ints))) (λ a. let b = a in inr (omega (arith, ints))) k

apart_flipped : (m n : Net) → Apart m n → Apart n m
apart_flipped m n k = ⊎_elim (λ a. inr a) (λ a. inl a) k

apart_count : (m n : Net) → Apart m n → in_order n m ≡ 0
apart_count m n k =
    let t = apart_flipped m n k in
    let a = none_left m.a.on_left (is_over n.a.height n.b.height m.a.height) (none_over n.a.height n.b.height m.a.height (outside m n m.a k (inl refl))) in
    let b = none_left m.b.on_left (is_over n.a.height n.b.height m.b.height) (none_over n.a.height n.b.height m.b.height (outside m n m.b k (inr refl))) in
    let c = none_right n.a.on_left (is_over m.a.height m.b.height n.a.height) (none_over m.a.height m.b.height n.a.height (outside n m n.a t (inl refl))) in
    let d = none_right n.b.on_left (is_over m.a.height m.b.height n.b.height) (none_over m.a.height m.b.height n.b.height (outside n m n.b t (inr refl))) in
    let e = order_count n m in
    omega arith

pub not_apart : (nets : List Net) (j k : ℕ) → KeepApart (net_at nets j) (net_at nets k) → Precedes nets j k → ⊥
not_apart nets j k keep p =
    let apart = apart_by (net_at nets j) (net_at nets k) keep in
    ⊎_elim
    (λ c.
    let w = within (net_at nets k) c.right c.has_right in
    let l = w.0 in let r = w.1 in
    let same = c.one_height in
    ⊎_elim (λ a. let b = a in omega (arith, ints)) (λ a. let b = a in omega (arith, ints)) (outside (net_at nets j) (net_at nets k) c.left apart c.has_left))
    (λ c. let more = c.more in let none = apart_count (net_at nets j) (net_at nets k) apart in omega arith)
    p

-- where nets are ranked, no links lead round
falls : (links : List Link) (rank : ℕ → ℕ) → ((i : ℕ) → i < length links → rank (link_at links i).head < rank (link_at links i).tail)
    → (u : ℕ) (way : List ℕ) (v : ℕ) → Leads links u way v → rank v ≤ rank u
falls links rank less u [] v e = let same : rank u ≡ rank v = ap rank e in omega arith
falls links rank less u (i ∷ is) v w =
    let rest = falls links rank less (link_at links i).head is v w.2 in
    let step = less i w.0 in
    let same : rank (link_at links i).tail ≡ rank u = ap rank w.1 in
    omega arith

-- the marks by depths
pub are_marks : (nets : List Net) (depths : List ℕ) (ms : List Mark) → AreNetDepths nets depths → AreDepthMarks nets depths ms (length nets) → AreNetMarks nets ms
are_marks nets depths ms lv lm =
    record {
      len = lm.len;
      straight = λ k l. (lm.each k l).straight;
      whole = λ k l e. (lm.each k l).at_a ∙ sym (lm.each k l).at_b;
      split = λ k l e. true_false (sym e ∙ (lm.each k l).split);
      order = λ j k p q x y jl kl sj sk u v pl qr e.
          let bj : IsStraightNet (net_at nets j) → ⊥ = λ w. true_false (sym ((lm.each j jl).straight.1 w) ∙ sj) in
          let bk : IsStraightNet (net_at nets k) → ⊥ = λ w. true_false (sym ((lm.each k kl).straight.1 w) ∙ sk) in
          let hp = has (net_at nets j) (mark_at ms j) p x u in
          let hq = has (net_at nets k) (mark_at ms k) q y v in
          ⊎_elim
          (λ (same : j ≡ k). absurd (bk (one_pin (net_at nets k) p q (subst (λ z. HasPin (net_at nets z) p) same hp) hq pl qr e)))
          (λ (ne : j ≢ k).
          let low = lv.rising j k (inl (record { j_in = jl; k_in = kl; two = ne; j_bent = bj; k_bent = bk; left = p; right = q; has_left = hp; has_right = hq; on_left = pl; on_right = qr; one_height = e })) in
          let xs = at (net_at nets j) (mark_at ms j) p x (net_depth depths j) (lm.each j jl) u in
          let ys = at (net_at nets k) (mark_at ms k) q y (net_depth depths k) (lm.each k kl) v in
          omega arith)
          (cases_eq j k);
    }
  where
    has : (n : Net) (m : Mark) (p : Pin) (x : ℕ) → DepthAt n m p x → HasPin n p
    has n m p x u = ⊎_elim (λ a. inl a.0) (λ a. inr a.0) u

    at : (n : Net) (m : Mark) (p : Pin) (x l : ℕ) → IsDepthMark n l m → DepthAt n m p x → x ≡ l
    at n m p x l is u = ⊎_elim (λ a. sym a.1 ∙ is.at_a) (λ a. sym a.1 ∙ is.at_b) u

-- no net is split
pub none_split : (nets : List Net) (depths : List ℕ) (ms : List Mark) → AreDepthMarks nets depths ms (length nets) → (routes : List NetRoute) → SplitsByMarks nets ms routes
    → (k s : ℕ) (h : ℤ) (t : ℕ) → k < length nets → route_at routes k ≡ Two s h t → ⊥
none_split nets depths ms lm routes splits k s h t l e = true_false (sym (splits k s h t l e) ∙ (lm.each k l).split)

-- each net has two pins
pub all_proper : (nets : List Net) → All IsNet nets → (k : ℕ) → k < length nets → IsNet (net_at nets k)
all_proper nets pins k l = All-get_or IsNet nets k (record { a = record { on_left = false; height = pos 0 }; b = record { on_left = false; height = pos 0 } }) l pins

pub straight_cut : (m n : Net) (q : NetRoute) → cut m Straight n q ≡ 0
unfolding cut
straight_cut m n q = refl

cut_straight : (m n : Net) (s : ℕ) → cut m (One s) n Straight ≡ one (is_over m.a.height m.b.height n.a.height)
unfolding cut cuts
cut_straight m n s = refl

-- a straight net beside one in a slot
pub beside : (m n : Net) (s : ℕ) → IsStraightNet n → cut m (One s) n Straight + cut n Straight m (One s) ≡ asked m n
beside m n s v =
    let a = cut_straight m n s in
    let b = straight_cut n m (One s) in
    let c = asked_is m n (is_over m.a.height m.b.height n.a.height) (alternate_straight m n v) in
    omega arith

same_none : (x h y : ℤ) → x ≡ y → one (is_over x y h) ≡ 0
unfolding one
same_none x h y e = ap (λ b. if b then 1 else 0) (false_from_ne_true (is_over x y h) (λ f. ⊎_elim (λ w. let l = w.0 in let r = w.1 in omega (arith, ints)) (λ w. let l = w.0 in let r = w.1 in omega (arith, ints)) (over_parts x y h f)))

-- each two nets cross as their pins ask
module _ (nets : List Net) (depths : List ℕ) (ms : List Mark) (count : ℕ) (routes : List NetRoute)
    (proper : (k : ℕ) → k < length nets → IsNet (net_at nets k)) (lv : AreNetDepths nets depths) (lm : AreDepthMarks nets depths ms (length nets))
    (free : GapFree nets count routes) (apart : AreApart nets routes) (splits : SplitsByMarks nets ms routes) (by : StandByDepths nets ms routes) where
  abbrev net : ℕ → Net
  net k = net_at nets k

  -- how a net passes
  abbrev Way : ℕ → Type 0
  Way k = ((route_at routes k ≡ Straight) × IsStraightNet (net k)) ⊎ ((s : ℕ) × (route_at routes k ≡ One s) × (IsStraightNet (net k) → ⊥))

  way : (k : ℕ) → k < length nets → Way k
  way k l = of (route_at routes k) refl
    where
      of : (r : NetRoute) → route_at routes k ≡ r → Way k
      of Straight e = inl (e, (free.straight k l).0 e)
      of (One s) e = inr (s, e, λ v. let bad : One s ≡ Straight = sym e ∙ (free.straight k l).1 v in cc)
      of (Two s h t) e = absurd (true_false (sym (splits k s h t l e) ∙ (lm.each k l).split))

  -- slots follow the order
  ahead : (j k s t : ℕ) → route_at routes j ≡ One s → route_at routes k ≡ One t → Precedes nets j k → s < t
  ahead j k s t e f p =
      let w = two_bent nets j k p in
      by j k s t w.0 w.1 e f
      (let low = lv.rising j k p in let a = (lm.each j w.0).at_a in let b = (lm.each k w.1).at_a in omega arith)

  -- a net whose slot is not behind another's is not preceded by it
  unmet : (j k s t : ℕ) → j < length nets → k < length nets → j ≢ k → (IsStraightNet (net j) → ⊥) → (IsStraightNet (net k) → ⊥) → route_at routes j ≡ One s → route_at routes k ≡ One t → s ≤ t → AreUnmet (net k) (net j)
  unmet j k s t jl kl ne bj bk e f le p q hp hq pl qr h =
      let late =
      ahead k j t s f e
      (inl
      (record { j_in = kl; k_in = jl; two = λ z. ne (sym z); j_bent = bk; k_bent = bj; left = p; right = q; has_left = hp; has_right = hq; on_left = pl; on_right = qr; one_height = h })) in
      omega arith

  as_few : (j k s t : ℕ) → j < length nets → k < length nets → j ≢ k → (IsStraightNet (net j) → ⊥) → (IsStraightNet (net k) → ⊥) → route_at routes j ≡ One s → route_at routes k ≡ One t → s ≤ t
      → in_order (net j) (net k) ≤ asked (net j) (net k)
  as_few j k s t jl kl ne bj bk e f le =
      ⊎_elim
      (λ (lt : asked (net j) (net k) < in_order (net j) (net k)). absurd
      (let flipped = asked_flipped (net j) (net k) in
      let late = ahead k j t s f e (inr (record { j_in = kl; k_in = jl; two = λ z. ne (sym z); j_bent = bk; k_bent = bj; more = omega arith })) in
      omega arith))
      (λ (ge : in_order (net j) (net k) ≤ asked (net j) (net k)). ge)
      (cases_lt (asked (net j) (net k)) (in_order (net j) (net k)))

  in_slots : (j k s t : ℕ) → j < length nets → k < length nets → j ≢ k → (IsStraightNet (net j) → ⊥) → (IsStraightNet (net k) → ⊥) → route_at routes j ≡ One s → route_at routes k ≡ One t → s < t
      → cut (net j) (One s) (net k) (One t) + cut (net k) (One t) (net j) (One s) ≡ asked (net j) (net k)
  in_slots j k s t jl kl ne bj bk e f lt =
      in_two_slots (net j) (net k) s t lt (unmet j k s t jl kl ne bj bk e f (omega arith)) (as_few j k s t jl kl ne bj bk e f (omega arith))

  together : (j k s t : ℕ) → j < length nets → k < length nets → j ≢ k → (IsStraightNet (net j) → ⊥) → (IsStraightNet (net k) → ⊥) → route_at routes j ≡ One s → route_at routes k ≡ One t → s ≡ t
      → cut (net j) (One s) (net k) (One t) + cut (net k) (One t) (net j) (One s) ≡ asked (net j) (net k)
  together j k s t jl kl ne bj bk e f same =
      subst (λ z. cut (net j) (One s) (net k) (One z) + cut (net k) (One z) (net j) (One s) ≡ asked (net j) (net k)) same
      (in_one_slot (net j) (net k) s (uneven (net j) (proper j jl) bj) (uneven (net k) (proper k kl) bk) (unmet j k s t jl kl ne bj bk e f (omega arith))
      (apart.uprights j k s (net j).a.height (net j).b.height (net k).a.height (net k).b.height jl kl ne
      (subst (λ z. IsUpright (net j) z s (net j).a.height (net j).b.height) (sym e) (refl, refl, refl))
      (subst (λ z. IsUpright (net k) z s (net k).a.height (net k).b.height) (sym f) (sym same, refl, refl))))

  bent : (j k s t : ℕ) → j < length nets → k < length nets → j ≢ k → (IsStraightNet (net j) → ⊥) → (IsStraightNet (net k) → ⊥) → route_at routes j ≡ One s → route_at routes k ≡ One t
      → cut (net j) (One s) (net k) (One t) + cut (net k) (One t) (net j) (One s) ≡ asked (net j) (net k)
  bent j k s t jl kl ne bj bk e f =
      ⊎_elim
      (λ (lt : s < t). in_slots j k s t jl kl ne bj bk e f lt)
      (λ (ge : t ≤ s). ⊎_elim
      (λ (lt : t < s). let flipped = in_slots k j t s kl jl (λ z. ne (sym z)) bk bj f e lt in let same = asked_flipped (net j) (net k) in omega arith)
      (λ (le : s ≤ t). together j k s t jl kl ne bj bk e f (omega arith))
      (cases_lt t s))
      (cases_lt s t)

  pub as_asked : CrossAsAsked nets routes
  as_asked j k jl kl ne =
      ⊎_elim
      (λ (u : (route_at routes j ≡ Straight) × IsStraightNet (net j)). ⊎_elim
      (λ (v : (route_at routes k ≡ Straight) × IsStraightNet (net k)).
      let a = asked_is (net j) (net k) (is_over (net j).a.height (net j).b.height (net k).a.height) (alternate_straight (net j) (net k) v.1) in
      let b = same_none (net j).a.height (net k).a.height (net j).b.height u.1.1 in
      are Straight Straight u.0 v.0 (let c = straight_cut (net j) (net k) Straight in let d = straight_cut (net k) (net j) Straight in omega arith))
      (λ (v : (s : ℕ) × (route_at routes k ≡ One s) × (IsStraightNet (net k) → ⊥)).
      are Straight (One v.0) u.0 v.1 (let c = beside (net k) (net j) v.0 u.1 in let d = asked_flipped (net j) (net k) in omega arith))
      (way k kl))
      (λ (u : (s : ℕ) × (route_at routes j ≡ One s) × (IsStraightNet (net j) → ⊥)). ⊎_elim
      (λ (v : (route_at routes k ≡ Straight) × IsStraightNet (net k)).
      are (One u.0) Straight u.1 v.0 (beside (net j) (net k) u.0 v.1))
      (λ (v : (s : ℕ) × (route_at routes k ≡ One s) × (IsStraightNet (net k) → ⊥)).
      are (One u.0) (One v.0) u.1 v.1 (bent j k u.0 v.0 jl kl ne u.2 v.2 u.1 v.1))
      (way k kl))
      (way j jl)
    where
      are : (r q : NetRoute) → route_at routes j ≡ r → route_at routes k ≡ q → cut (net j) r (net k) q + cut (net k) q (net j) r ≡ asked (net j) (net k) → crossed nets routes j k ≡ asked (net j) (net k)
      are r q e f h =
          subst (λ z. cut (net j) z (net k) (route_at routes k) + cut (net k) (route_at routes k) (net j) z ≡ asked (net j) (net k)) (sym e)
          (subst (λ z. cut (net j) r (net k) z + cut (net k) z (net j) r ≡ asked (net j) (net k)) (sym f) h)
