-- A leg: the way from one pin of a net to the other, before a way that begins at that other pin.
use Rattle.std.proofs.Common.{◌≡◌, ◌≢◌, inl, inr, refl, subst, sym, ℕ, ◌<◌, Bool, true, false, List, ◌∷◌, ◌++◌, reverse, ℤ, ◌<ℤ◌, arith}
use Rattle.std.proofs.lemmas.Int.{ints, by_lt_z}
use Rattle.drawing_types.specs.declared.shape.Point.{Point}
use Rattle.net_routes.specs.declared.Net.{Net}
use Rattle.net_routes.specs.declared.NetRoute.{NetRoute}
use Rattle.net_routes.specs.declared.NetRoute.TheVariants.{Straight, One, Two}
use Rattle.net_routes.specs.Pieces.{slot, Corner, corner, border_of, pin_corner, corners, IsPieceOf, IsStraightPiece, IsAbscissa}
use Rattle.net_routes.specs.GapFree.{IsStraightNet}
use Rattle.route_lines.specs.Points.{PlainGap, stand, point_at, leg_points, corner_points}
use Rattle.route_lines.specs.Tidied.{Heading, up, down, left, right, Goes, opposite}
use Rattle.plan_laws.proofs.Ways.{Comes, Passes, pass, leave, turn}

-- the heading from a border of a gap into the gap, and from the gap to that border; true is the left border
abbrev pub outof : Bool → Heading
outof true = right
outof false = left

abbrev pub into : Bool → Heading
into true = left
into false = right

-- y lies strictly on from x by that heading
abbrev pub Beyond : Bool → ℤ → ℤ → Type 0
Beyond true x y = x <ℤ y
Beyond false x y = y <ℤ x

goes_out : (b : Bool) (p q : Point) → p.y ≡ q.y → Beyond b p.x q.x → Goes (outof b) p q
goes_out true p q e l = (e, l)
goes_out false p q e l = (e, l)

goes_in : (b : Bool) (p q : Point) → p.y ≡ q.y → Beyond b q.x p.x → Goes (into b) p q
goes_in true p q e l = (e, l)
goes_in false p q e l = (e, l)

-- upright and level headings
abbrev IsUp : Heading → Type 0
IsUp up = Unit {0}
IsUp down = Unit {0}
IsUp left = ⊥
IsUp right = ⊥

abbrev IsFlat : Heading → Type 0
IsFlat up = ⊥
IsFlat down = ⊥
IsFlat left = Unit {0}
IsFlat right = Unit {0}

up_flat : (h j : Heading) → IsUp h → IsFlat j → j ≢ opposite h
up_flat up up u f e = absurd f
up_flat up down u f e = absurd f
up_flat up left u f e = absurd cc
up_flat up right u f e = absurd cc
up_flat down up u f e = absurd f
up_flat down down u f e = absurd f
up_flat down left u f e = absurd cc
up_flat down right u f e = absurd cc
up_flat left j u f e = absurd u
up_flat right j u f e = absurd u

flat_up : (h j : Heading) → IsFlat h → IsUp j → j ≢ opposite h
flat_up left up f u e = absurd cc
flat_up left down f u e = absurd cc
flat_up left left f u e = absurd u
flat_up left right f u e = absurd u
flat_up right up f u e = absurd cc
flat_up right down f u e = absurd cc
flat_up right left f u e = absurd u
flat_up right right f u e = absurd u
flat_up up j f u e = absurd f
flat_up down j f u e = absurd f

out_flat : (b : Bool) → IsFlat (outof b)
out_flat true = tt
out_flat false = tt

in_flat : (b : Bool) → IsFlat (into b)
in_flat true = tt
in_flat false = tt

-- two different points of one x, or of one y
record Climbs (a b : Point) : Type 0 where
  by : Heading
  is_up : IsUp by
  goes : Goes by a b

record Shifts (a b : Point) : Type 0 where
  by : Heading
  is_flat : IsFlat by
  goes : Goes by a b

climbs : (a b : Point) → a.x ≡ b.x → a.y ≢ b.y → Climbs a b
climbs a b e n =
    by_lt_z a.y b.y
    (λ l. record { by = down; is_up = tt; goes = (e, l) })
    (λ l. by_lt_z b.y a.y
    (λ m. record { by = up; is_up = tt; goes = (e, m) })
    (λ m. absurd (n (omega (arith, ints)))))

shifts : (a b : Point) → a.y ≡ b.y → a.x ≢ b.x → Shifts a b
shifts a b e n =
    by_lt_z a.x b.x
    (λ l. record { by = right; is_flat = tt; goes = (e, l) })
    (λ l. by_lt_z b.x a.x
    (λ m. record { by = left; is_flat = tt; goes = (e, m) })
    (λ m. absurd (n (omega (arith, ints)))))

-- through one slot
bend_one : (Q : Point → Point → Type 0) (k : Heading) (z : Point) (s t : Bool) (a b c d : Point) (ps ks : List Point)
    → Goes (outof s) a b → b.x ≡ c.x → b.y ≢ c.y → Goes (into t) c d → Q a b → Q b c → Q c d
    → Comes Q k z (into t) d ps ks → Passes Q k z (outof s) a (a ∷ b ∷ c ∷ ps) (b ∷ c ∷ ks)
bend_one Q k z s t a b c d ps ks ab e n cd qa qb qc w =
    let v = climbs b c e n in
    let at_c = leave Q k z (into t) c d ps ks cd qc w in
    let at_b = leave Q k z v.by b c _ _ v.goes qb (turn Q k z v.by (into t) c _ _ (up_flat v.by (into t) v.is_up (in_flat t)) at_c) in
    pass Q k z (outof s) a b _ _ ab qa (turn Q k z (outof s) v.by b _ _ (flat_up (outof s) v.by (out_flat s) v.is_up) at_b)

-- through two slots, by a height between them
bend_two : (Q : Point → Point → Type 0) (k : Heading) (z : Point) (s t : Bool) (a b c d f g : Point) (ps ks : List Point)
    → Goes (outof s) a b → b.x ≡ c.x → b.y ≢ c.y → c.y ≡ d.y → c.x ≢ d.x → d.x ≡ f.x → d.y ≢ f.y → Goes (into t) f g
    → Q a b → Q b c → Q c d → Q d f → Q f g
    → Comes Q k z (into t) g ps ks → Passes Q k z (outof s) a (a ∷ b ∷ c ∷ d ∷ f ∷ ps) (b ∷ c ∷ d ∷ f ∷ ks)
bend_two Q k z s t a b c d f g ps ks ab bx by cy cx dx dy fg qa qb qc qd qf w =
    let v = climbs d f dx dy in
    let u = climbs b c bx by in
    let m = shifts c d cy cx in
    let at_f = leave Q k z (into t) f g ps ks fg qf w in
    let at_d = leave Q k z v.by d f _ _ v.goes qd (turn Q k z v.by (into t) f _ _ (up_flat v.by (into t) v.is_up (in_flat t)) at_f) in
    let at_c = leave Q k z m.by c d _ _ m.goes qc (turn Q k z m.by v.by d _ _ (flat_up m.by v.by m.is_flat v.is_up) at_d) in
    let at_b = leave Q k z u.by b c _ _ u.goes qb (turn Q k z u.by m.by c _ _ (up_flat u.by m.by u.is_up m.is_flat) at_c) in
    pass Q k z (outof s) a b _ _ ab qa (turn Q k z (outof s) u.by b _ _ (flat_up (outof s) u.by (out_flat s) u.is_up) at_b)

-- the point of a corner of a gap
abbrev pub at_corner : PlainGap → Corner → Point
at_corner g c = point_at (stand g c.at) c.height

-- What a net and its route need: the slots lie strictly within the borders of its pins, and strictly apart; the net is level
-- where it is straight, its pins differ in height otherwise, and a height between two slots is neither's.
pub record NetRuns (g : PlainGap) (n : Net) (r : NetRoute) : Type 0 where
  pub from_a : (s : ℕ) → s < g.count → Beyond n.a.on_left (stand g (border_of n.a.on_left)) (stand g (slot s))
  pub from_b : (s : ℕ) → s < g.count → Beyond n.b.on_left (stand g (border_of n.b.on_left)) (stand g (slot s))
  pub across : n.a.on_left ≢ n.b.on_left → Beyond n.a.on_left (stand g (border_of n.a.on_left)) (stand g (border_of n.b.on_left))
  pub apart : (s t : ℕ) → s < g.count → t < g.count → s ≢ t → stand g (slot s) ≢ stand g (slot t)
  pub level : r ≡ Straight → IsStraightNet n
  pub bent : (r ≡ Straight → ⊥) → n.a.height ≢ n.b.height
  pub one_in : (s : ℕ) → r ≡ One s → s < g.count
  pub two_in : (s : ℕ) (h : ℤ) (t : ℕ) → r ≡ Two s h t → (s < g.count) × (t < g.count)
  pub fresh : (s : ℕ) (h : ℤ) (t : ℕ) → r ≡ Two s h t → (s ≢ t) × (n.a.height ≢ h) × (n.b.height ≢ h)

-- each piece of the net is of the kind that is asked for
abbrev pub EachPiece : PlainGap → Net → NetRoute → (Point → Point → Type 0) → Type 0
EachPiece g n r Q =
    (a b : Corner) → IsPieceOf (corners n r) a b → IsStraightPiece a b → IsAbscissa g.count a.at → IsAbscissa g.count b.at → Q (at_corner g a) (at_corner g b)

not_same : (x y : ℤ) → x ≢ y → y ≢ x
not_same x y n e = n (sym e)

in_border : (n : ℕ) (b : Bool) → IsAbscissa n (border_of b)
in_border n true = tt
in_border n false = tt

-- a straight net leads on by one heading
outof_into : (s t : Bool) → s ≢ t → outof s ≡ into t
outof_into true true n = absurd (n refl)
outof_into true false n = refl
outof_into false true n = refl
outof_into false false n = absurd (n refl)

beyond_back : (s t : Bool) (x y : ℤ) → s ≢ t → Beyond s x y → Beyond t y x
beyond_back true true x y n l = absurd (n refl)
beyond_back true false x y n l = l
beyond_back false true x y n l = l
beyond_back false false x y n l = absurd (n refl)

pub leg_from_a : (Q : Point → Point → Type 0) (k : Heading) (z : Point) (g : PlainGap) (n : Net) (r : NetRoute) (before after : ℤ) (ps ks : List Point)
    → NetRuns g n r → EachPiece g n r Q → before ≡ n.a.height → after ≡ n.b.height
    → Comes Q k z (into n.b.on_left) (at_corner g (pin_corner n.b)) (at_corner g (pin_corner n.b) ∷ ps) ks
    → Passes Q k z (outof n.a.on_left) (at_corner g (pin_corner n.a)) (corner_points g (corners n r) ++ ps) (leg_points g r true before after ++ ks)
leg_from_a Q k z g n Straight before after ps ks w each eb ea c =
    let level = w.level refl in
    let h = outof_into n.a.on_left n.b.on_left level.0 in
    pass Q k z (outof n.a.on_left) (at_corner g (pin_corner n.a)) (at_corner g (pin_corner n.b)) _ ks
    (goes_out n.a.on_left _ _ level.1 (w.across level.0))
    (each (pin_corner n.a) (pin_corner n.b) (record { i = 0; i_in = omega arith; ends = inl (refl, refl) }) (inl level.1) (in_border _ n.a.on_left) (in_border _ n.b.on_left))
    (subst (λ j. Comes Q k z j (at_corner g (pin_corner n.b)) (at_corner g (pin_corner n.b) ∷ ps) ks) (sym h) c)
leg_from_a Q k z g n (One s) before after ps ks w each eb ea c =
    let inside = w.one_in s refl in
    let bent = w.bent (λ e. absurd cc) in
    let m1 = corner (slot s) n.a.height in
    let m2 = corner (slot s) n.b.height in
    subst (λ y. Passes Q k z (outof n.a.on_left) (at_corner g (pin_corner n.a)) (corner_points g (corners n (One s)) ++ ps) (leg_points g (One s) true y after ++ ks)) (sym eb)
    (subst (λ y. Passes Q k z (outof n.a.on_left) (at_corner g (pin_corner n.a)) (corner_points g (corners n (One s)) ++ ps) (leg_points g (One s) true n.a.height y ++ ks)) (sym ea)
    (bend_one Q k z n.a.on_left n.b.on_left (at_corner g (pin_corner n.a)) (at_corner g m1) (at_corner g m2) (at_corner g (pin_corner n.b)) _ ks
    (goes_out n.a.on_left _ _ refl (w.from_a s inside)) refl bent (goes_in n.b.on_left _ _ refl (w.from_b s inside))
    (each (pin_corner n.a) m1 (record { i = 0; i_in = omega arith; ends = inl (refl, refl) }) (inl refl) (in_border _ n.a.on_left) inside)
    (each m1 m2 (record { i = 1; i_in = omega arith; ends = inl (refl, refl) }) (inr (s, refl, refl)) inside inside)
    (each m2 (pin_corner n.b) (record { i = 2; i_in = omega arith; ends = inl (refl, refl) }) (inl refl) inside (in_border _ n.b.on_left))
    c))
leg_from_a Q k z g n (Two s h t) before after ps ks w each eb ea c =
    let inside = w.two_in s h t refl in
    let fresh = w.fresh s h t refl in
    let m1 = corner (slot s) n.a.height in
    let m2 = corner (slot s) h in
    let m3 = corner (slot t) h in
    let m4 = corner (slot t) n.b.height in
    subst (λ y. Passes Q k z (outof n.a.on_left) (at_corner g (pin_corner n.a)) (corner_points g (corners n (Two s h t)) ++ ps) (leg_points g (Two s h t) true y after ++ ks)) (sym eb)
    (subst (λ y. Passes Q k z (outof n.a.on_left) (at_corner g (pin_corner n.a)) (corner_points g (corners n (Two s h t)) ++ ps) (leg_points g (Two s h t) true n.a.height y ++ ks)) (sym ea)
    (bend_two Q k z n.a.on_left n.b.on_left (at_corner g (pin_corner n.a)) (at_corner g m1) (at_corner g m2) (at_corner g m3) (at_corner g m4) (at_corner g (pin_corner n.b)) _ ks
    (goes_out n.a.on_left _ _ refl (w.from_a s inside.0)) refl fresh.1 refl (w.apart s t inside.0 inside.1 fresh.0) refl (not_same _ _ fresh.2) (goes_in n.b.on_left _ _ refl (w.from_b t inside.1))
    (each (pin_corner n.a) m1 (record { i = 0; i_in = omega arith; ends = inl (refl, refl) }) (inl refl) (in_border _ n.a.on_left) inside.0)
    (each m1 m2 (record { i = 1; i_in = omega arith; ends = inl (refl, refl) }) (inr (s, refl, refl)) inside.0 inside.0)
    (each m2 m3 (record { i = 2; i_in = omega arith; ends = inl (refl, refl) }) (inl refl) inside.0 inside.1)
    (each m3 m4 (record { i = 3; i_in = omega arith; ends = inl (refl, refl) }) (inr (t, refl, refl)) inside.1 inside.1)
    (each m4 (pin_corner n.b) (record { i = 4; i_in = omega arith; ends = inl (refl, refl) }) (inl refl) inside.1 (in_border _ n.b.on_left))
    c))

pub leg_from_b : (Q : Point → Point → Type 0) (k : Heading) (z : Point) (g : PlainGap) (n : Net) (r : NetRoute) (before after : ℤ) (ps ks : List Point)
    → NetRuns g n r → EachPiece g n r Q → before ≡ n.b.height → after ≡ n.a.height
    → Comes Q k z (into n.a.on_left) (at_corner g (pin_corner n.a)) (at_corner g (pin_corner n.a) ∷ ps) ks
    → Passes Q k z (outof n.b.on_left) (at_corner g (pin_corner n.b)) (reverse (corner_points g (corners n r)) ++ ps) (leg_points g r false before after ++ ks)
leg_from_b Q k z g n Straight before after ps ks w each eb ea c =
    let level = w.level refl in
    let differ : n.b.on_left ≢ n.a.on_left = λ e. level.0 (sym e) in
    let h = outof_into n.b.on_left n.a.on_left differ in
    pass Q k z (outof n.b.on_left) (at_corner g (pin_corner n.b)) (at_corner g (pin_corner n.a)) _ ks
    (goes_out n.b.on_left _ _ (sym level.1) (beyond_back n.a.on_left n.b.on_left _ _ level.0 (w.across level.0)))
    (each (pin_corner n.b) (pin_corner n.a) (record { i = 0; i_in = omega arith; ends = inr (refl, refl) }) (inl (sym level.1)) (in_border _ n.b.on_left) (in_border _ n.a.on_left))
    (subst (λ j. Comes Q k z j (at_corner g (pin_corner n.a)) (at_corner g (pin_corner n.a) ∷ ps) ks) (sym h) c)
leg_from_b Q k z g n (One s) before after ps ks w each eb ea c =
    let inside = w.one_in s refl in
    let bent = w.bent (λ e. absurd cc) in
    let m1 = corner (slot s) n.a.height in
    let m2 = corner (slot s) n.b.height in
    subst (λ y. Passes Q k z (outof n.b.on_left) (at_corner g (pin_corner n.b)) (reverse (corner_points g (corners n (One s))) ++ ps) (leg_points g (One s) false y after ++ ks)) (sym eb)
    (subst (λ y. Passes Q k z (outof n.b.on_left) (at_corner g (pin_corner n.b)) (reverse (corner_points g (corners n (One s))) ++ ps) (leg_points g (One s) false n.b.height y ++ ks)) (sym ea)
    (bend_one Q k z n.b.on_left n.a.on_left (at_corner g (pin_corner n.b)) (at_corner g m2) (at_corner g m1) (at_corner g (pin_corner n.a)) _ ks
    (goes_out n.b.on_left _ _ refl (w.from_b s inside)) refl (not_same _ _ bent) (goes_in n.a.on_left _ _ refl (w.from_a s inside))
    (each (pin_corner n.b) m2 (record { i = 2; i_in = omega arith; ends = inr (refl, refl) }) (inl refl) (in_border _ n.b.on_left) inside)
    (each m2 m1 (record { i = 1; i_in = omega arith; ends = inr (refl, refl) }) (inr (s, refl, refl)) inside inside)
    (each m1 (pin_corner n.a) (record { i = 0; i_in = omega arith; ends = inr (refl, refl) }) (inl refl) inside (in_border _ n.a.on_left))
    c))
leg_from_b Q k z g n (Two s h t) before after ps ks w each eb ea c =
    let inside = w.two_in s h t refl in
    let fresh = w.fresh s h t refl in
    let m1 = corner (slot s) n.a.height in
    let m2 = corner (slot s) h in
    let m3 = corner (slot t) h in
    let m4 = corner (slot t) n.b.height in
    let is_reversed : t ≢ s = λ e. fresh.0 (sym e) in
    subst (λ y. Passes Q k z (outof n.b.on_left) (at_corner g (pin_corner n.b)) (reverse (corner_points g (corners n (Two s h t))) ++ ps) (leg_points g (Two s h t) false y after ++ ks)) (sym eb)
    (subst (λ y. Passes Q k z (outof n.b.on_left) (at_corner g (pin_corner n.b)) (reverse (corner_points g (corners n (Two s h t))) ++ ps) (leg_points g (Two s h t) false n.b.height y ++ ks)) (sym ea)
    (bend_two Q k z n.b.on_left n.a.on_left (at_corner g (pin_corner n.b)) (at_corner g m4) (at_corner g m3) (at_corner g m2) (at_corner g m1) (at_corner g (pin_corner n.a)) _ ks
    (goes_out n.b.on_left _ _ refl (w.from_b t inside.1)) refl fresh.2 refl (w.apart t s inside.1 inside.0 is_reversed) refl (not_same _ _ fresh.1) (goes_in n.a.on_left _ _ refl (w.from_a s inside.0))
    (each (pin_corner n.b) m4 (record { i = 4; i_in = omega arith; ends = inr (refl, refl) }) (inl refl) (in_border _ n.b.on_left) inside.1)
    (each m4 m3 (record { i = 3; i_in = omega arith; ends = inr (refl, refl) }) (inr (t, refl, refl)) inside.1 inside.1)
    (each m3 m2 (record { i = 2; i_in = omega arith; ends = inr (refl, refl) }) (inl refl) inside.1 inside.0)
    (each m2 m1 (record { i = 1; i_in = omega arith; ends = inr (refl, refl) }) (inr (s, refl, refl)) inside.0 inside.0)
    (each m1 (pin_corner n.a) (record { i = 0; i_in = omega arith; ends = inr (refl, refl) }) (inl refl) inside.0 (in_border _ n.a.on_left))
    c))
