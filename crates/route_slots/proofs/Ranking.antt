-- A rank of the nets of a gap without conflicts: each two cross no more often than they have to where the lesser rank comes
-- first.
--
-- Nets with both pins on the left come first, shorter ones before longer ones. Then those that lead from the left down, by the
-- sum of their heights, the greatest first, and those that lead up, the least first, or the other way round. Nets with both pins
-- on the right come last, longer ones first.
use Rattle.std.proofs.Common.{◌≡◌, ◌≢◌, ◌∙◌, ◌⊎◌, ⊎_elim, inl, inr, ℕ, ◌+◌, ◌<◌, ◌≤◌, ◌^◌, Bool, true, false, List, length, ℤ, pos, negsuc, neg_ℤ, ◌+ℤ◌, ◌-ℤ◌, ◌≤ℤ◌, ◌<ℤ◌, refl, sym, ap, subst, arith, if◌then◌else◌}
use Rattle.std.specs.Prelude.{int_lt}
use Rattle.std.specs.List.{All}
use Rattle.std.proofs.lemmas.List.Elements.{All-get_or}
use Rattle.std.proofs.lemmas.Int.{ints, by_lt_z}
use Rattle.net_routes.specs.declared.Pin.{Pin}
use Rattle.net_routes.specs.declared.Net.{Net}
use Rattle.net_routes.specs.Pieces.{net_at}
use Rattle.net_routes.specs.GapFree.{IsNet, AreHeights, IsStraightNet}
use Rattle.net_routes.specs.Conflicts.{Conflict, HasNoConflict, HasAtMostOneConflict}
use Rattle.net_routes.specs.Crossings.{is_over, one}
use Rattle.net_routes.specs.Uncrossed.{is_before, first_pin, last_pin, asked, in_order, CrossMore, Precedes, IsOrderable}
use Rattle.net_routes.proofs.Turns.{true_false, lt_true, lt_false, tri, Comes, comes, before, over, ends, either_back}
use Rattle.net_routes.proofs.Asking.{pin, left_in, right_in, counted, order_count, asked_is, asked_flipped, uneven}
use Rattle.net_routes.proofs.Straight.{over_parts, same_bool, by_way, both_ends}
use Rattle.route_slots.proofs.Ordered.{all_proper}

one_is : (b : Bool) → one b ≡ (if b then 1 else 0)
unfolding one
one_is b = refl

judge : (u v : Bool) (w : ℕ) (A : Type 0) → (A → w ≡ 1) → (u ≡ true → A) → (v ≡ true → A) → (u ≡ true → v ≡ true → ⊥) → one u + one v ≤ w
judge true true w A is f g bad = absurd (bad refl refl)
judge true false w A is f g bad = let e = is (f refl) in let a = one_is true in let b = one_is false in omega arith
judge false true w A is f g bad = let e = is (g refl) in let a = one_is true in let b = one_is false in omega arith
judge false false w A is f g bad = let b = one_is false in omega arith

single : (u : Bool) (w : ℕ) (A : Type 0) → (A → w ≡ 1) → (u ≡ true → A) → one u ≤ w
single true w A is f = let e = is (f refl) in let a = one_is true in omega arith
single false w A is f = let b = one_is false in omega arith

-- heights between two others in order
amid_up : (x y h : ℤ) → x <ℤ y → is_over x y h ≡ true → (x <ℤ h) × (h <ℤ y)
amid_up x y h l e = ⊎_elim (λ w. w) (λ w. let a = w.0 in let b = w.1 in absurd (omega (arith, ints))) (over_parts x y h e)

amid_down : (x y h : ℤ) → y <ℤ x → is_over x y h ≡ true → (y <ℤ h) × (h <ℤ x)
amid_down x y h l e = ⊎_elim (λ w. let a = w.0 in let b = w.1 in absurd (omega (arith, ints))) (λ w. w) (over_parts x y h e)

-- the pins of two nets alternate
abbrev Alternate : Bool → ℤ → Bool → ℤ → Bool → ℤ → Bool → ℤ → Type 0
Alternate a x b y c p d q = (Comes a x c p × Comes c p b y × Comes b y d q) ⊎ (Comes c p a x × Comes a x d q × Comes d q b y)

-- crossings of the first net's lines and segments with the second's
abbrev total : Pin → Pin → Pin → Pin → ℕ
total x y p q = (left_in p x.height y.height + left_in q x.height y.height) + (right_in x p.height q.height + right_in y p.height q.height)

abbrev Bounded : ℤ → Type 0
Bounded h = (neg_ℤ (pos (2 ^ 50)) ≤ℤ h) × (h ≤ℤ pos (2 ^ 50))

zero_sum : (n w : ℕ) → n ≤ w → n + 0 ≤ w
zero_sum n w h = omega arith

over_flipped : (x y h : ℤ) → is_over x y h ≡ is_over y x h
over_flipped x y h =
    same_bool (is_over x y h) (is_over y x h)
    (λ e. over y x h (⊎_elim (λ w. inr w) (λ w. inl w) (over_parts x y h e)))
    (λ e. over x y h (⊎_elim (λ w. inr w) (λ w. inl w) (over_parts y x h e)))

left_flipped : (p : Pin) (x y : ℤ) → left_in p x y ≡ left_in p y x
left_flipped p x y = ap (λ z. if p.on_left then one z else 0) (over_flipped x y p.height)

right_flipped : (p : Pin) (x y : ℤ) → right_in p x y ≡ right_in p y x
right_flipped p x y = ap (λ z. if p.on_left then 0 else one z) (over_flipped x y p.height)

total_first : (x y p q : Pin) → total x y p q ≡ total y x p q
total_first x y p q = let a = left_flipped p x.height y.height in let b = left_flipped q x.height y.height in omega arith

total_second : (x y p q : Pin) → total x y p q ≡ total x y q p
total_second x y p q = let a = right_flipped x p.height q.height in let b = right_flipped y p.height q.height in omega arith

pub total_ends : (m n : Net) → counted m n ≡ total (first_pin m) (last_pin m) (first_pin n) (last_pin n)
total_ends m n =
    ⊎_elim
    (λ (e : (first_pin m ≡ m.a) × (last_pin m ≡ m.b)). second m.a m.b e.0 e.1)
    (λ (e : (first_pin m ≡ m.b) × (last_pin m ≡ m.a)). total_first m.a m.b n.a n.b ∙ second m.b m.a e.0 e.1)
    (ends m)
  where
    second : (x y : Pin) → first_pin m ≡ x → last_pin m ≡ y → total x y n.a n.b ≡ total (first_pin m) (last_pin m) (first_pin n) (last_pin n)
    second x y e f =
        ⊎_elim
        (λ (g : (first_pin n ≡ n.a) × (last_pin n ≡ n.b)). sym (at e f g.0 g.1))
        (λ (g : (first_pin n ≡ n.b) × (last_pin n ≡ n.a)). total_second x y n.a n.b ∙ sym (at e f g.0 g.1))
        (ends n)
      where
        at : {p q : Pin} → first_pin m ≡ x → last_pin m ≡ y → first_pin n ≡ p → last_pin n ≡ q → total (first_pin m) (last_pin m) (first_pin n) (last_pin n) ≡ total x y p q
        at {p = p} {q = q} e f g h =
            ap (λ z. total z (last_pin m) (first_pin n) (last_pin n)) e ∙ ap (λ z. total x z (first_pin n) (last_pin n)) f ∙ ap (λ z. total x y z (last_pin n)) g ∙ ap (λ z. total x y p z) h

-- a net's first pin comes before its last one
comes_either : (a : Bool) (h : ℤ) (b : Bool) (k : ℤ) → h ≢ k → Comes a h b k ⊎ Comes b k a h
comes_either true h true k ne = by_lt_z h k (λ l. inl l) (λ ge. inr (by_lt_z k h (λ l. l) (λ le. absurd (ne (omega (arith, ints))))))
comes_either true h false k ne = inl tt
comes_either false h true k ne = inr tt
comes_either false h false k ne = by_lt_z k h (λ l. inl l) (λ ge. inr (by_lt_z h k (λ l. l) (λ le. absurd (ne (omega (arith, ints))))))

abbrev Facts : Net → Pin → Pin → Type 0
Facts n p q = (is_before p q ≡ true) × (p.height ≢ q.height) × Bounded p.height × Bounded q.height

pub facts : (n : Net) → n.a.height ≢ n.b.height → AreHeights n → Facts n (first_pin n) (last_pin n)
facts n ne hs = by (is_before n.a n.b) refl
  where
    ba : Bounded n.a.height
    ba = (hs.a.low, hs.a.high)

    bb : Bounded n.b.height
    bb = (hs.b.low, hs.b.high)

    are : (p q : Pin) → first_pin n ≡ p → last_pin n ≡ q → Facts n p q → Facts n (first_pin n) (last_pin n)
    are p q e f w = subst (λ z. Facts n z (last_pin n)) (sym e) (subst (λ z. Facts n p z) (sym f) w)

    by : (b : Bool) → is_before n.a n.b ≡ b → Facts n (first_pin n) (last_pin n)
    by true e = let w = by_way n true e in are n.a n.b w.0 w.1 (e, ne, ba, bb)
    by false e =
        let w = by_way n false e in
        are n.b n.a w.0 w.1 (
          ⊎_elim
              (λ c. absurd (let bad : true ≡ false = sym (before n.a n.b c) ∙ e in cc))
              (λ c. before n.b n.a c)
              (comes_either n.a.on_left n.a.height n.b.on_left n.b.height ne),
          λ f. ne (sym f),
          bb,
          ba,
        )

-- numbers that aren't negative
abbrev pub natural : ℤ → ℕ
natural (pos n) = n
natural (negsuc n) = 0

pub natural_less : (a b : ℤ) → pos 0 ≤ℤ a → a <ℤ b → natural a < natural b
natural_less (pos a) (pos b) h l = let m = l in let g : a < b = omega (arith, ints) in g
natural_less (pos a) (negsuc b) h l = absurd (let m = l in omega (arith, ints))
natural_less (negsuc a) b h l = absurd (let m = h in omega (arith, ints))

-- the net's last pin is lower on the page than its first, or higher
abbrev LeadsDown : Net → Type 0
LeadsDown n = (first_pin n).height <ℤ (last_pin n).height

abbrev LeadsUp : Net → Type 0
LeadsUp n = (last_pin n).height <ℤ (first_pin n).height

-- the pin on the left of the one net is as high as that on the right of the other
abbrev LeftAt : Bool → ℤ → Bool → ℤ → ℤ → Type 0
LeftAt a x b y h = ((a ≡ true) × (x ≡ h)) ⊎ ((b ≡ true) × (y ≡ h))

abbrev RightAt : Bool → ℤ → Bool → ℤ → ℤ → Type 0
RightAt c p e q h = ((c ≡ false) × (p ≡ h)) ⊎ ((e ≡ false) × (q ≡ h))

no_right : (p q h : ℤ) → RightAt true p true q h → ⊥
no_right p q h r = ⊎_elim (λ w. true_false w.0) (λ w. true_false w.0) r

no_left : (p q h : ℤ) → LeftAt false p false q h → ⊥
no_left p q h r = ⊎_elim (λ w. true_false (sym w.0)) (λ w. true_false (sym w.0)) r

left_is : (x y h : ℤ) → LeftAt true x false y h → x ≡ h
left_is x y h r = ⊎_elim (λ w. w.1) (λ w. true_false (sym w.0)) r

right_is : (p q h : ℤ) → RightAt true p false q h → q ≡ h
right_is p q h r = ⊎_elim (λ w. true_false w.0) (λ w. w.1) r

-- Where nets that lead down begin, and those that lead up. Either may come first.
abbrev IsBase : ℤ → Type 0
IsBase z = (pos (2 ^ 53) ≤ℤ z) × (z ≤ℤ pos (2 ^ 55))

module _ (dn un : ℤ) (db : IsBase dn) (ub : IsBase un) where
  abbrev down : ℤ → ℤ → ℤ
  down f l = dn -ℤ (f +ℤ l)

  abbrev up : ℤ → ℤ → ℤ
  up f l = un +ℤ (f +ℤ l)

  -- by the sides and heights of a net's first and last pin
  abbrev key : Bool → ℤ → Bool → ℤ → ℤ
  key true f true l = l -ℤ f
  key true f false l = if int_lt f l then down f l else up f l
  key false f true l = pos 0
  key false f false l = pos (2 ^ 57) -ℤ (f -ℤ l)

  key_down : (f l : ℤ) → f <ℤ l → key true f false l ≡ down f l
  key_down f l h = ap (λ z. if z then down f l else up f l) (lt_true f l h)

  key_up : (f l : ℤ) → l ≤ℤ f → key true f false l ≡ up f l
  key_up f l h = ap (λ z. if z then down f l else up f l) (lt_false f l h)

  -- both nets lead across
  across : (x y p q : ℤ) → x ≢ y → p ≢ q → Bounded x → Bounded y → Bounded p → Bounded q → key true x false y ≤ℤ key true p false q
      → (w : ℕ) → (Alternate true x false y true p false q → w ≡ 1) → one (is_over x y p) + one (is_over p q y) ≤ w
  across x y p q xy pq bx by bp bq le w is =
      by_lt_z x y
      (λ m. let km = key_down x y m in by_lt_z p q
      (λ n. let kn = key_down p q n in
      let sum : (p +ℤ q) ≤ℤ (x +ℤ y) = omega (arith, ints) in
      judge (is_over x y p) (is_over p q y) w (Alternate true x false y true p false q) is
      (λ u. let c = amid_up x y p m u in let l = c.0 in let r = c.1 in inl (l, tt, omega (arith, ints)))
      (λ v. let c = amid_up p q y n v in let l = c.0 in let r = c.1 in inr (omega (arith, ints), tt, r))
      (λ u v. let c = amid_up x y p m u in let l = c.0 in let r = c.1 in let d = amid_up p q y n v in let s = d.0 in let t = d.1 in omega (arith, ints)))
      (λ n'. tri_up p q pq n'
      (λ n.
      judge (is_over x y p) (is_over p q y) w (Alternate true x false y true p false q) is
      (λ u. let c = amid_up x y p m u in let l = c.0 in let r = c.1 in inl (l, tt, omega (arith, ints)))
      (λ v. let c = amid_down p q y n v in let l = c.0 in let r = c.1 in inl (omega (arith, ints), tt, l))
      (λ u v. let c = amid_up x y p m u in let l = c.0 in let r = c.1 in let d = amid_down p q y n v in let s = d.0 in let t = d.1 in omega (arith, ints)))))
      (λ m'. let km = key_up x y m' in tri_up x y xy m'
      (λ m. by_lt_z p q
      (λ n.
      judge (is_over x y p) (is_over p q y) w (Alternate true x false y true p false q) is
      (λ r. let c = amid_down x y p m r in let l = c.0 in let o = c.1 in inr (o, tt, omega (arith, ints)))
      (λ v. let c = amid_up p q y n v in let l = c.0 in let o = c.1 in inr (omega (arith, ints), tt, o))
      (λ r v. let c = amid_down x y p m r in let l = c.0 in let o = c.1 in let e = amid_up p q y n v in let i = e.0 in let t = e.1 in omega (arith, ints)))
      (λ n'. let kn = key_up p q n' in tri_up p q pq n'
      (λ n.
      let sum : (x +ℤ y) ≤ℤ (p +ℤ q) = omega (arith, ints) in
      judge (is_over x y p) (is_over p q y) w (Alternate true x false y true p false q) is
      (λ u. let c = amid_down x y p m u in let l = c.0 in let r = c.1 in inr (r, tt, omega (arith, ints)))
      (λ v. let c = amid_down p q y n v in let l = c.0 in let r = c.1 in inl (omega (arith, ints), tt, l))
      (λ u v. let c = amid_down x y p m u in let l = c.0 in let r = c.1 in let d = amid_down p q y n v in let s = d.0 in let t = d.1 in omega (arith, ints))))))
    where
      tri_up : {P : Type 0} → (a b : ℤ) → a ≢ b → b ≤ℤ a → (b <ℤ a → P) → P
      tri_up a b ne le f = f (by_lt_z b a (λ l. l) (λ ge. absurd (ne (omega (arith, ints)))))

  pub upper : (a : Bool) (x : ℤ) (b : Bool) (y : ℤ) (c : Bool) (p : ℤ) (d : Bool) (q : ℤ) → Comes a x b y → Comes c p d q → x ≢ y → p ≢ q
      → Bounded x → Bounded y → Bounded p → Bounded q → key a x b y ≤ℤ key c p d q
      → (w : ℕ) → (Alternate a x b y c p d q → w ≡ 1) → total (pin a x) (pin b y) (pin c p) (pin d q) ≤ w
  upper true x true y true p true q f g xy pq bx by bp bq le w is =
      let l = f in let m = g in let k = le in
      let sum : (y -ℤ x) ≤ℤ (q -ℤ p) = k in
      let part =
      judge (is_over x y p) (is_over x y q) w (Alternate true x true y true p true q) is
      (λ u. let c = amid_up x y p l u in let s = c.0 in let t = c.1 in inl (s, t, omega (arith, ints)))
      (λ v. let c = amid_up x y q l v in let s = c.0 in let t = c.1 in inr (omega (arith, ints), s, t))
      (λ u v. let c = amid_up x y p l u in let s = c.0 in let d = amid_up x y q l v in let t = d.1 in omega (arith, ints)) in
      omega arith
  upper true x true y true p false q f g xy pq bx by bp bq le w is =
      let l = f in
      let part = single (is_over x y p) w (Alternate true x true y true p false q) is (λ u. let c = amid_up x y p l u in inl (c.0, c.1, tt)) in
      omega arith
  upper true x true y false p true q f g xy pq bx by bp bq le w is = absurd g
  upper true x true y false p false q f g xy pq bx by bp bq le w is = omega arith
  upper true x false y true p true q f g xy pq bx by bp bq le w is =
      let (b0, b1) = bx in let (b2, b3) = by in let (b4, b5) = bp in let (b6, b7) = bq in
      let (d0, d1) = db in let (u0, u1) = ub in
      let k = le in
      absurd (by_lt_z x y (λ h. let e = key_down x y h in omega (arith, ints)) (λ h. let e = key_up x y h in omega (arith, ints)))
  upper true x false y true p false q f g xy pq bx by bp bq le w is =
      let part = across x y p q xy pq bx by bp bq le w is in omega arith
  upper true x false y false p true q f g xy pq bx by bp bq le w is = absurd g
  upper true x false y false p false q f g xy pq bx by bp bq le w is =
      let m = g in
      let part = single (is_over p q y) w (Alternate true x false y false p false q) is (λ u. let c = amid_down p q y m u in inl (tt, c.1, c.0)) in
      omega arith
  upper false x true y c p d q f g xy pq bx by bp bq le w is = absurd f
  upper false x false y true p true q f g xy pq bx by bp bq le w is =
      let (b0, b1) = bx in let (b2, b3) = by in let (b4, b5) = bp in let (b6, b7) = bq in
      let k = le in absurd (omega (arith, ints))
  upper false x false y true p false q f g xy pq bx by bp bq le w is =
      let (b0, b1) = bx in let (b2, b3) = by in let (b4, b5) = bp in let (b6, b7) = bq in
      let (d0, d1) = db in let (u0, u1) = ub in
      let k = le in
      absurd (by_lt_z p q (λ h. let e = key_down p q h in omega (arith, ints)) (λ h. let e = key_up p q h in omega (arith, ints)))
  upper false x false y false p true q f g xy pq bx by bp bq le w is = absurd g
  upper false x false y false p false q f g xy pq bx by bp bq le w is =
      let l = f in let m = g in let k = le in
      let sum : (p -ℤ q) ≤ℤ (x -ℤ y) = omega (arith, ints) in
      let part =
      judge (is_over p q x) (is_over p q y) w (Alternate false x false y false p false q) is
      (λ u. let c = amid_down p q x m u in let s = c.0 in let t = c.1 in inr (t, s, omega (arith, ints)))
      (λ v. let c = amid_down p q y m v in let s = c.0 in let t = c.1 in inl (omega (arith, ints), t, s))
      (λ u v. let c = amid_down p q x m u in let s = c.1 in let d = amid_down p q y m v in let t = d.0 in omega (arith, ints)) in
      omega arith

  abbrev key_of : Net → ℤ
  key_of n = key (first_pin n).on_left (first_pin n).height (last_pin n).on_left (last_pin n).height

  not_negative : (a : Bool) (x : ℤ) (b : Bool) (y : ℤ) → Comes a x b y → Bounded x → Bounded y → pos 0 ≤ℤ key a x b y
  not_negative true x true y f bx by = let l = f in omega (arith, ints)
  not_negative true x false y f bx by =
      let (b0, b1) = bx in let (b2, b3) = by in
      let (d0, d1) = db in let (u0, u1) = ub in
      by_lt_z x y (λ h. let e = key_down x y h in omega (arith, ints)) (λ h. let e = key_up x y h in omega (arith, ints))
  not_negative false x true y f bx by = absurd f
  not_negative false x false y f bx by = let (b0, b1) = bx in let (b2, b3) = by in omega (arith, ints)

  -- the net with the lesser key first, two nets cross no more often than they have to
  as_few : (m n : Net) → m.a.height ≢ m.b.height → n.a.height ≢ n.b.height → AreHeights m → AreHeights n → key_of m ≤ℤ key_of n → in_order m n ≤ asked m n
  as_few m n mu nu mh nh le =
      let f = facts m mu mh in
      let g = facts n nu nh in
      let few =
      upper (first_pin m).on_left (first_pin m).height (last_pin m).on_left (last_pin m).height (first_pin n).on_left (first_pin n).height (last_pin n).on_left (last_pin n).height
      (comes (first_pin m) (last_pin m) f.0) (comes (first_pin n) (last_pin n) g.0) f.1 g.1 f.2 f.3 g.2 g.3 le (asked m n)
      (λ w. asked_is m n true
      (either_back m n
      (⊎_elim
      (λ t. inl (before (first_pin m) (first_pin n) t.0, before (first_pin n) (last_pin m) t.1, before (last_pin m) (last_pin n) t.2))
      (λ t. inr (before (first_pin n) (first_pin m) t.0, before (first_pin m) (last_pin n) t.1, before (last_pin n) (last_pin m) t.2))
      w))
      ∙ one_is true) in
      let same = order_count m n ∙ total_ends m n in
      omega arith

  -- of two nets in conflict that do not lead one down and one up, or up and down in the order of the bases, the first has the lesser key
  ahead : (a : Bool) (x : ℤ) (b : Bool) (y : ℤ) (c : Bool) (p : ℤ) (e : Bool) (q h : ℤ) → Comes a x b y → Comes c p e q → x ≢ y → p ≢ q
      → Bounded x → Bounded y → Bounded p → Bounded q → LeftAt a x b y h → RightAt c p e q h
      → (x <ℤ y → q <ℤ p → (dn +ℤ pos (2 ^ 52)) <ℤ un) → (y <ℤ x → p <ℤ q → (un +ℤ pos (2 ^ 52)) <ℤ dn) → key a x b y <ℤ key c p e q
  ahead true x true y true p true q h f g xy pq bx by bp bq l r du ud = absurd (no_right p q h r)
  ahead true x true y true p false q h f g xy pq bx by bp bq l r du ud =
      let (b0, b1) = bx in let (b2, b3) = by in let (b4, b5) = bp in let (b6, b7) = bq in
      let (d0, d1) = db in let (u0, u1) = ub in
      by_lt_z p q (λ n. let k = key_down p q n in omega (arith, ints)) (λ n. let k = key_up p q n in omega (arith, ints))
  ahead true x true y false p true q h f g xy pq bx by bp bq l r du ud = absurd g
  ahead true x true y false p false q h f g xy pq bx by bp bq l r du ud =
      let (b0, b1) = bx in let (b2, b3) = by in let (b4, b5) = bp in let (b6, b7) = bq in
      omega (arith, ints)
  ahead true x false y true p true q h f g xy pq bx by bp bq l r du ud = absurd (no_right p q h r)
  ahead true x false y true p false q h f g xy pq bx by bp bq l r du ud =
      let at = left_is x y h l in
      let to = right_is p q h r in
      let (b0, b1) = bx in let (b2, b3) = by in let (b4, b5) = bp in let (b6, b7) = bq in
      tri x y xy
      (λ m. let km = key_down x y m in tri p q pq
      (λ n. let kn = key_down p q n in omega (arith, ints))
      (λ n. let kn = key_up p q (omega (arith, ints)) in let k = du m n in omega (arith, ints)))
      (λ m. let km = key_up x y (omega (arith, ints)) in tri p q pq
      (λ n. let kn = key_down p q n in let k = ud m n in omega (arith, ints))
      (λ n. let kn = key_up p q (omega (arith, ints)) in omega (arith, ints)))
  ahead true x false y false p true q h f g xy pq bx by bp bq l r du ud = absurd g
  ahead true x false y false p false q h f g xy pq bx by bp bq l r du ud =
      let (b0, b1) = bx in let (b2, b3) = by in let (b4, b5) = bp in let (b6, b7) = bq in
      let (d0, d1) = db in let (u0, u1) = ub in
      by_lt_z x y (λ n. let k = key_down x y n in omega (arith, ints)) (λ n. let k = key_up x y n in omega (arith, ints))
  ahead false x true y c p e q h f g xy pq bx by bp bq l r du ud = absurd f
  ahead false x false y c p e q h f g xy pq bx by bp bq l r du ud = absurd (no_left x y h l)

  -- Where conflicts lead on in the order of the bases, the nets can be ranked.
  pub ranked_by : (nets : List Net) → All IsNet nets → All AreHeights nets
      → ((j k : ℕ) → Conflict nets j k → LeadsDown (net_at nets j) → LeadsUp (net_at nets k) → (dn +ℤ pos (2 ^ 52)) <ℤ un)
      → ((j k : ℕ) → Conflict nets j k → LeadsUp (net_at nets j) → LeadsDown (net_at nets k) → (un +ℤ pos (2 ^ 52)) <ℤ dn) → IsOrderable nets
  ranked_by nets pins heights du ud = record { rank = λ k. natural (key_of (net_at nets k)); behind = behind }
    where
      high : (k : ℕ) → k < length nets → AreHeights (net_at nets k)
      high k l = All-get_or AreHeights nets k (record { a = record { on_left = false; height = pos 0 }; b = record { on_left = false; height = pos 0 } }) l heights

      rises : (j k : ℕ) → j < length nets → (IsStraightNet (net_at nets j) → ⊥) → key_of (net_at nets j) <ℤ key_of (net_at nets k) → natural (key_of (net_at nets j)) < natural (key_of (net_at nets k))
      rises j k l bent less =
          let mu = uneven (net_at nets j) (all_proper nets pins j l) bent in
          let f = facts (net_at nets j) mu (high j l) in
          natural_less (key_of (net_at nets j)) (key_of (net_at nets k))
          (not_negative (first_pin (net_at nets j)).on_left (first_pin (net_at nets j)).height (last_pin (net_at nets j)).on_left (last_pin (net_at nets j)).height
          (comes (first_pin (net_at nets j)) (last_pin (net_at nets j)) f.0) f.2 f.3) less

      conflict : (j k : ℕ) → Conflict nets j k → key_of (net_at nets j) <ℤ key_of (net_at nets k)
      conflict j k c =
          let m = net_at nets j in
          let n = net_at nets k in
          let f = facts (net_at nets j) (uneven (net_at nets j) (all_proper nets pins j c.j_in) c.j_bent) (high j c.j_in) in
          let g = facts (net_at nets k) (uneven (net_at nets k) (all_proper nets pins k c.k_in) c.k_bent) (high k c.k_in) in
          ahead (first_pin m).on_left (first_pin m).height (last_pin m).on_left (last_pin m).height (first_pin n).on_left (first_pin n).height (last_pin n).on_left (last_pin n).height c.left.height
          (comes (first_pin m) (last_pin m) f.0) (comes (first_pin n) (last_pin n) g.0) f.1 g.1 f.2 f.3 g.2 g.3
          (⊎_elim
          (λ (e : first_pin m ≡ c.left). inl (ap (λ (z : Pin). z.on_left) e ∙ c.on_left, ap (λ (z : Pin). z.height) e))
          (λ (e : last_pin m ≡ c.left). inr (ap (λ (z : Pin). z.on_left) e ∙ c.on_left, ap (λ (z : Pin). z.height) e))
          (both_ends m c.left c.has_left))
          (⊎_elim
          (λ (e : first_pin n ≡ c.right). inl (ap (λ (z : Pin). z.on_left) e ∙ c.on_right, ap (λ (z : Pin). z.height) e ∙ sym c.one_height))
          (λ (e : last_pin n ≡ c.right). inr (ap (λ (z : Pin). z.on_left) e ∙ c.on_right, ap (λ (z : Pin). z.height) e ∙ sym c.one_height))
          (both_ends n c.right c.has_right))
          (du j k c) (ud j k c)

      behind : (j k : ℕ) → Precedes nets j k → natural (key_of (net_at nets j)) < natural (key_of (net_at nets k))
      behind j k p =
          ⊎_elim
          (λ (c : Conflict nets j k). rises j k c.j_in c.j_bent (conflict j k c))
          (λ (c : CrossMore nets j k).
          let mu = uneven (net_at nets j) (all_proper nets pins j c.j_in) c.j_bent in
          let nu = uneven (net_at nets k) (all_proper nets pins k c.k_in) c.k_bent in
          by_lt_z (key_of (net_at nets j)) (key_of (net_at nets k))
          (λ less. rises j k c.j_in c.j_bent less)
          (λ ge. absurd
          (let few = as_few (net_at nets k) (net_at nets j) nu mu (high k c.k_in) (high j c.j_in) ge in
          let flipped = asked_flipped (net_at nets j) (net_at nets k) in
          let more = c.more in
          omega arith)))
          p

low_base : IsBase (pos (2 ^ 53))
low_base = (omega (arith, ints), omega (arith, ints))

high_base : IsBase (pos (2 ^ 55))
high_base = (omega (arith, ints), omega (arith, ints))

spread : (pos (2 ^ 53) +ℤ pos (2 ^ 52)) <ℤ pos (2 ^ 55)
spread = omega (arith, ints)

downs_first : (nets : List Net) → All IsNet nets → All AreHeights nets → ((j k : ℕ) → Conflict nets j k → LeadsUp (net_at nets j) → LeadsDown (net_at nets k) → ⊥) → IsOrderable nets
downs_first nets pins heights none = ranked_by (pos (2 ^ 53)) (pos (2 ^ 55)) low_base high_base nets pins heights (λ j k c l m. spread) (λ j k c l m. absurd (none j k c l m))

ups_first : (nets : List Net) → All IsNet nets → All AreHeights nets → ((j k : ℕ) → Conflict nets j k → LeadsDown (net_at nets j) → LeadsUp (net_at nets k) → ⊥) → IsOrderable nets
ups_first nets pins heights none = ranked_by (pos (2 ^ 55)) (pos (2 ^ 53)) high_base low_base nets pins heights (λ j k c l m. absurd (none j k c l m)) (λ j k c l m. spread)

pub orderable : (nets : List Net) → All IsNet nets → All AreHeights nets → HasNoConflict nets → IsOrderable nets
orderable nets pins heights none = downs_first nets pins heights (λ j k c l m. none j k c)

-- with one conflict at most, one of the two orders serves
pub one_orderable : (nets : List Net) → All IsNet nets → All AreHeights nets → HasAtMostOneConflict nets → (IsOrderable nets → ⊥) → ⊥
one_orderable nets pins heights one none = none (downs_first nets pins heights mixed)
  where
    mixed : (j k : ℕ) → Conflict nets j k → LeadsUp (net_at nets j) → LeadsDown (net_at nets k) → ⊥
    mixed j k c rises falls =
        none
        (ups_first nets pins heights
        (λ i m w down up.
        let same = one j k i m c w in
        let now : LeadsDown (net_at nets j) = subst (λ z. LeadsDown (net_at nets z)) (sym same.0) down in
        omega (arith, ints)))
