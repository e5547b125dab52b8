-- The ways of an edge's route between borders of columns: through a net, and along a lane.
use Rattle.std.proofs.Common.{◌≡◌, ◌≢◌, ◌⊎◌, ⊎_elim, inl, inr, refl, subst, sym, ap, ℕ, ◌+◌, ◌<◌, ◌≤◌, Bool, true, false, not, List, [], ◌∷◌, ◌++◌, append_assoc, reverse, ℤ, ◌≤ℤ◌, ◌<ℤ◌, length, arith}
use Rattle.std.proofs.lemmas.Int.{ints, clamps}
use Rattle.std.proofs.lemmas.Bool.{cases_lt}
use Rattle.drawing_types.specs.declared.shape.Point.{Point}
use Rattle.drawing_types.specs.declared.shape.Side.{Side}
use Rattle.drawing_types.specs.declared.shape.Side.TheVariants.{East, West}
use Rattle.drawing_types.specs.Segments.{IsBetween}
use Rattle.net_routes.specs.declared.Pin.{Pin}
use Rattle.net_routes.specs.declared.Net.{Net}
use Rattle.net_routes.specs.declared.NetRoute.TheVariants.{Straight}
use Rattle.net_routes.specs.Pieces.{slot, border_of, pin_corner, corners, net_at, route_at, IsPieceOf}
use Rattle.net_routes.specs.GapFree.{IsStraightNet, StandsIn}
use Rattle.route_lines.specs.declared.Step.{Step}
use Rattle.route_lines.specs.declared.Step.TheVariants.{Lane, Leg}
use Rattle.route_lines.specs.Points.{gap_in, stand, point_at, net_leg, points_on, corner_points, net_points, fine_on, height_next}
use Rattle.route_lines.specs.Tidied.{Heading, left, right}
use Rattle.level_model.specs.Stage.{Stage, Line, unit_of_line, InUse, Reaches, IsLane, InGap, Stands}
use Rattle.level_model.specs.Law.{IsPart, lane_part, net_part}
use Rattle.plan_laws.proofs.Ways.{Comes, Passes, slide}
use Rattle.plan_laws.proofs.Legs.{outof, into, Beyond, at_corner, NetRuns, EachPiece, leg_from_a, leg_from_b}

-- the x of a column's border: true is the right one, which is the left border of the gap behind the column
abbrev pub border : Stage → ℕ → Bool → ℤ
border s r true = s.col_right r
border s r false = s.col_left r

abbrev pub side_at : Bool → Side
side_at true = East
side_at false = West

-- where a line ends at a border of its column, and the gap there
abbrev pub door : Stage → Line → Bool → Point
door s m b = point_at (border s (s.layer (unit_of_line s m)) b) (s.height m)

abbrev pub gap_beside : Stage → Line → Bool → ℕ
gap_beside s m true = s.layer (unit_of_line s m) + 1
gap_beside s m false = s.layer (unit_of_line s m)

abbrev pub pin_of : Stage → Line → Bool → Pin
pin_of s m b = record { on_left = b; height = s.height m }

abbrev pub net_between : Stage → Line → Bool → Line → Bool → Net
net_between s m b l c = record { a = pin_of s m b; b = pin_of s l c }

-- The net is one of e and joins two different lines: m at its border b, and l at its border c.
pub record Joins (s : Stage) (e g n : ℕ) (m : Line) (b : Bool) (l : Line) (c : Bool) : Type 0 where
  pub gap_there : g < length s.gaps
  pub net_there : n < length (gap_in s.gaps g).nets
  pub owner : s.net_edge g n ≡ e
  pub net_is : net_at (gap_in s.gaps g).nets n ≡ net_between s m b l c
  pub a_use : InUse s e m
  pub b_use : InUse s e l
  pub a_gap : gap_beside s m b ≡ g
  pub b_gap : gap_beside s l c ≡ g
  pub a_x : stand (gap_in s.gaps g) (border_of b) ≡ border s (s.layer (unit_of_line s m)) b
  pub b_x : stand (gap_in s.gaps g) (border_of c) ≡ border s (s.layer (unit_of_line s l)) c
  pub a_reaches : Reaches (side_at b) m
  pub b_reaches : Reaches (side_at c) l
  pub differ : m ≢ l
  pub one_unit : b ≡ c → unit_of_line s m ≡ unit_of_line s l

-- ---- what a net of the stage needs

-- slots lie strictly within a border at which a line in use ends
off_border : (s : Stage) (e g i : ℕ) (m : Line) (b : Bool) → Stands s → g < length s.gaps → InUse s e m → gap_beside s m b ≡ g
    → stand (gap_in s.gaps g) (border_of b) ≡ border s (s.layer (unit_of_line s m)) b → i < (gap_in s.gaps g).count
    → Beyond b (stand (gap_in s.gaps g) (border_of b)) (stand (gap_in s.gaps g) (slot i))
off_border s e g i m true st there used beside x h =
    let r = s.layer (unit_of_line s m) in
    let before : r < g = omega (arith, beside) in
    rw x ((st.gap g there).slot_after r i before (st.lines.column e m used) h)
off_border s e g i m false st there used beside x h =
    let r = s.layer (unit_of_line s m) in
    let after : g ≤ r = omega (arith, beside) in
    rw x ((st.gap g there).slot_before r i after (st.lines.column e m used) h)

-- the borders of a gap between two columns are strictly apart
off_other : (s : Stage) (e g : ℕ) (m l : Line) (b c : Bool) → Stands s → g < length s.gaps → InUse s e m → InUse s e l → gap_beside s m b ≡ g → gap_beside s l c ≡ g
    → stand (gap_in s.gaps g) (border_of b) ≡ border s (s.layer (unit_of_line s m)) b → stand (gap_in s.gaps g) (border_of c) ≡ border s (s.layer (unit_of_line s l)) c
    → b ≢ c → Beyond b (stand (gap_in s.gaps g) (border_of b)) (stand (gap_in s.gaps g) (border_of c))
off_other s e g m l true true st there um ul gm gl xm xl n = absurd (n refl)
off_other s e g m l true false st there um ul gm gl xm xl n =
    let r = s.layer (unit_of_line s m) in
    let before : r < g = omega (arith, gm) in
    let inside : g < s.layers = subst (λ z. z < s.layers) gl (st.lines.column e l ul) in
    rw xm ((st.inner g there).right_apart r before inside)
off_other s e g m l false true st there um ul gm gl xm xl n =
    let r = s.layer (unit_of_line s l) in
    let before : r < g = omega (arith, gl) in
    let inside : g < s.layers = subst (λ z. z < s.layers) gm (st.lines.column e m um) in
    rw xl ((st.inner g there).right_apart r before inside)
off_other s e g m l false false st there um ul gm gl xm xl n = absurd (n refl)

slots_apart : (s : Stage) (g i j : ℕ) → InGap s g → i < (gap_in s.gaps g).count → j < (gap_in s.gaps g).count → i ≢ j
    → stand (gap_in s.gaps g) (slot i) ≢ stand (gap_in s.gaps g) (slot j)
slots_apart s g i j gap hi hj n e =
    ⊎_elim
    (λ l. absurd (less _ _ e (gap.slots i j l hj)))
    (λ k. ⊎_elim
    (λ l. absurd (less _ _ (sym e) (gap.slots j i l hi)))
    (λ l. absurd (n (omega arith)))
    (cases_lt j i))
    (cases_lt i j)
  where
    less : (x y : ℤ) → x ≡ y → x <ℤ y → ⊥
    less x y h l = absurd (omega (arith, ints))

cases_bool : (b c : Bool) → (b ≡ c) ⊎ (b ≢ c)
cases_bool true true = inl refl
cases_bool true false = inr (λ e. absurd cc)
cases_bool false true = inr (λ e. absurd cc)
cases_bool false false = inl refl

-- two lines whose ends a net joins at one border differ in height; at two borders the net would be straight
heights_differ : (s : Stage) (e g n : ℕ) (m : Line) (b : Bool) (l : Line) (c : Bool) → Stands s → Joins s e g n m b l c
    → (route_at (gap_in s.gaps g).routes n ≡ Straight → ⊥) → s.height m ≢ s.height l
heights_differ s e g n m b l c st j bent same =
    ⊎_elim
    (λ e1. j.differ (st.lines.differ e e m l (side_at b) j.a_use j.b_use j.a_reaches (subst (λ z. Reaches (side_at z) l) (sym e1) j.b_reaches) (j.one_unit e1) same))
    (λ two. bent (((st.nets g j.gap_there).free.straight n j.net_there).1 (subst (λ z. IsStraightNet z) (sym j.net_is) (two, same))))
    (cases_bool b c)

net_runs : (s : Stage) (e g n : ℕ) (m : Line) (b : Bool) (l : Line) (c : Bool) → Stands s → Joins s e g n m b l c
    → NetRuns (gap_in s.gaps g) (net_between s m b l c) (route_at (gap_in s.gaps g).routes n)
net_runs s e g n m b l c st j =
    let free = (st.nets g j.gap_there).free in
    record {
      from_a = λ i h. off_border s e g i m b st j.gap_there j.a_use j.a_gap j.a_x h;
      from_b = λ i h. off_border s e g i l c st j.gap_there j.b_use j.b_gap j.b_x h;
      across = off_other s e g m l b c st j.gap_there j.a_use j.b_use j.a_gap j.b_gap j.a_x j.b_x;
      apart = λ i k hi hk. slots_apart s g i k (st.gap g j.gap_there) hi hk;
      level = λ h. subst (λ z. IsStraightNet z) j.net_is ((free.straight n j.net_there).0 h);
      bent = heights_differ s e g n m b l c st j;
      one_in = λ i h. free.slots_in n i j.net_there (subst (λ r. StandsIn r i) (sym h) refl);
      two_in = λ i h k r. (free.slots_in n i j.net_there (subst (λ z. StandsIn z i) (sym r) (inl refl)), free.slots_in n k j.net_there (subst (λ z. StandsIn z k) (sym r) (inr refl)));
      fresh = λ i h k r.
          let f = free.fresh n i h k j.net_there r in
          let off = subst (λ (z : Net). ((z.a.height ≡ h) ⊎ (z.b.height ≡ h)) → ⊥) j.net_is (f.no_pin n j.net_there) in
          (f.differ, (λ z. off (inl z)), (λ z. off (inr z)));
    }

each_piece : (s : Stage) (e g n : ℕ) (m : Line) (b : Bool) (l : Line) (c : Bool) → Joins s e g n m b l c
    → EachPiece (gap_in s.gaps g) (net_between s m b l c) (route_at (gap_in s.gaps g).routes n) (IsPart s e)
each_piece s e g n m b l c j = λ from to piece straight from_in to_in.
    net_part (record {
      gap = g;
      net = n;
      from = from;
      to = to;
      gap_there = j.gap_there;
      net_there = j.net_there;
      owner = j.owner;
      piece = subst (λ z. IsPieceOf (corners z (route_at (gap_in s.gaps g).routes n)) from to) (sym j.net_is) piece;
      straight = straight;
      from_in = from_in;
      to_in = to_in;
      a_is = refl;
      b_is = refl;
    })

-- ---- ways along steps

-- the way of the steps from an end of a line m at its border b, which it comes to, to the end z
pub record Arrives (s : Stage) (e : ℕ) (k : Heading) (z : Point) (m : Line) (b : Bool) (steps : List Step) : Type 0 where
  pub way : Comes (IsPart s e) k z (into b) (door s m b) (door s m b ∷ (fine_on s.gaps z steps ++ z ∷ [])) (points_on s.gaps z (s.height m) steps ++ z ∷ [])
  pub next : height_next z steps ≡ s.height m

-- the same for steps that begin with a leg, at which the way leaves the column
pub record Departs (s : Stage) (e : ℕ) (k : Heading) (z : Point) (m : Line) (b : Bool) (steps : List Step) : Type 0 where
  pub way : Passes (IsPart s e) k z (outof b) (door s m b) (fine_on s.gaps z steps ++ z ∷ []) (points_on s.gaps z (s.height m) steps ++ z ∷ [])

-- the way to an end of a line, at the pin of a net there
arrives_at_pin : (s : Stage) (e g : ℕ) (k : Heading) (z : Point) (m : Line) (b : Bool) (steps : List Step) → Arrives s e k z m b steps
    → stand (gap_in s.gaps g) (border_of b) ≡ border s (s.layer (unit_of_line s m)) b
    → Comes (IsPart s e) k z (into b) (at_corner (gap_in s.gaps g) (pin_corner (pin_of s m b))) (at_corner (gap_in s.gaps g) (pin_corner (pin_of s m b)) ∷ (fine_on s.gaps z steps ++ z ∷ [])) (points_on s.gaps z (height_next z steps) steps ++ z ∷ [])
arrives_at_pin s e g k z m b steps w x =
    subst (λ h. Comes (IsPart s e) k z (into b) (at_corner (gap_in s.gaps g) (pin_corner (pin_of s m b))) (at_corner (gap_in s.gaps g) (pin_corner (pin_of s m b)) ∷ (fine_on s.gaps z steps ++ z ∷ [])) (points_on s.gaps z h steps ++ z ∷ [])) (sym w.next)
    (subst (λ p. Comes (IsPart s e) k z (into b) p (p ∷ (fine_on s.gaps z steps ++ z ∷ [])) (points_on s.gaps z (s.height m) steps ++ z ∷ [])) (ap (λ y. point_at y (s.height m)) (sym x)) w.way)

-- a way from a pin is one from the end of its line
departs_at_door : (s : Stage) (e g : ℕ) (k : Heading) (z : Point) (m : Line) (b : Bool) (ps qs rs ts : List Point)
    → stand (gap_in s.gaps g) (border_of b) ≡ border s (s.layer (unit_of_line s m)) b
    → Passes (IsPart s e) k z (outof b) (at_corner (gap_in s.gaps g) (pin_corner (pin_of s m b))) (ps ++ (qs ++ z ∷ [])) (rs ++ (ts ++ z ∷ []))
    → Passes (IsPart s e) k z (outof b) (door s m b) ((ps ++ qs) ++ z ∷ []) ((rs ++ ts) ++ z ∷ [])
departs_at_door s e g k z m b ps qs rs ts x w =
    subst (λ p. Passes (IsPart s e) k z (outof b) p ((ps ++ qs) ++ z ∷ []) ((rs ++ ts) ++ z ∷ [])) (ap (λ y. point_at y (s.height m)) x)
    (subst (λ us. Passes (IsPart s e) k z (outof b) (at_corner (gap_in s.gaps g) (pin_corner (pin_of s m b))) us ((rs ++ ts) ++ z ∷ [])) (sym (append_assoc ps qs (z ∷ [])))
    (subst (λ us. Passes (IsPart s e) k z (outof b) (at_corner (gap_in s.gaps g) (pin_corner (pin_of s m b))) (ps ++ (qs ++ z ∷ [])) us) (sym (append_assoc rs ts (z ∷ []))) w))

-- a leg from pin a to pin b, and one back
pub leg : (s : Stage) (e g n : ℕ) (k : Heading) (z : Point) (m : Line) (b : Bool) (l : Line) (c : Bool) (steps : List Step) → Stands s → Joins s e g n m b l c
    → Arrives s e k z l c steps → Departs s e k z m b (Leg g n true ∷ steps)
leg s e g n k z m b l c steps st j w =
    record {
      way =
          departs_at_door s e g k z m b (net_points (gap_in s.gaps g) n true) (fine_on s.gaps z steps) (net_leg s.gaps g n true (s.height m) (height_next z steps)) (points_on s.gaps z (height_next z steps) steps) j.a_x
          (subst (λ y. Passes (IsPart s e) k z (outof b) (at_corner (gap_in s.gaps g) (pin_corner (pin_of s m b))) (corner_points (gap_in s.gaps g) (corners y (route_at (gap_in s.gaps g).routes n)) ++ (fine_on s.gaps z steps ++ z ∷ [])) (net_leg s.gaps g n true (s.height m) (height_next z steps) ++ (points_on s.gaps z (height_next z steps) steps ++ z ∷ []))) (sym j.net_is)
          (leg_from_a (IsPart s e) k z (gap_in s.gaps g) (net_between s m b l c) (route_at (gap_in s.gaps g).routes n) (s.height m) (height_next z steps) _ _
          (net_runs s e g n m b l c st j) (each_piece s e g n m b l c j) refl w.next (arrives_at_pin s e g k z l c steps w j.b_x)));
    }

pub leg_back : (s : Stage) (e g n : ℕ) (k : Heading) (z : Point) (m : Line) (b : Bool) (l : Line) (c : Bool) (steps : List Step) → Stands s → Joins s e g n m b l c
    → Arrives s e k z m b steps → Departs s e k z l c (Leg g n false ∷ steps)
leg_back s e g n k z m b l c steps st j w =
    record {
      way =
          departs_at_door s e g k z l c (net_points (gap_in s.gaps g) n false) (fine_on s.gaps z steps) (net_leg s.gaps g n false (s.height l) (height_next z steps)) (points_on s.gaps z (height_next z steps) steps) j.b_x
          (subst (λ y. Passes (IsPart s e) k z (outof c) (at_corner (gap_in s.gaps g) (pin_corner (pin_of s l c))) (reverse (corner_points (gap_in s.gaps g) (corners y (route_at (gap_in s.gaps g).routes n))) ++ (fine_on s.gaps z steps ++ z ∷ [])) (net_leg s.gaps g n false (s.height l) (height_next z steps) ++ (points_on s.gaps z (height_next z steps) steps ++ z ∷ []))) (sym j.net_is)
          (leg_from_b (IsPart s e) k z (gap_in s.gaps g) (net_between s m b l c) (route_at (gap_in s.gaps g).routes n) (s.height l) (height_next z steps) _ _
          (net_runs s e g n m b l c st j) (each_piece s e g n m b l c j) refl w.next (arrives_at_pin s e g k z m b steps w j.a_x)));
    }

-- ---- lanes

between_of : (p q x : ℤ) → p ≤ℤ x → x ≤ℤ q → IsBetween p q x
between_of p q x h k = (omega (arith, ints, clamps), omega (arith, ints, clamps))

-- a piece on a lane within its column
pub on_lane : (s : Stage) (e : ℕ) (m : Line) (a b : Point) → InUse s e m → IsLane m → a.y ≡ s.height m → b.y ≡ s.height m
    → s.col_left (s.layer (unit_of_line s m)) ≤ℤ a.x → a.x ≤ℤ s.col_right (s.layer (unit_of_line s m))
    → s.col_left (s.layer (unit_of_line s m)) ≤ℤ b.x → b.x ≤ℤ s.col_right (s.layer (unit_of_line s m)) → IsPart s e a b
on_lane s e m a b used is ya yb al ar bl br =
    lane_part (record { lane = m; in_use = used; is_lane = is; a_y = ya; b_y = yb; a_x = between_of _ _ _ al ar; b_x = between_of _ _ _ bl br })

at_self : (z : ℤ) → z ≤ℤ z
at_self z = omega (arith, ints)

-- from one border of the column to the other
pub lane : (s : Stage) (e g n : ℕ) (k : Heading) (z : Point) (m : Line) (b t : Bool) (steps : List Step) → Stands s → InUse s e m → IsLane m
    → Departs s e k z m b (Leg g n t ∷ steps) → Arrives s e k z m (not b) (Lane (s.height m) ∷ Leg g n t ∷ steps)
lane s e g n k z m true t steps st used is w =
    let wide = st.row.columns (s.layer (unit_of_line s m)) (st.lines.column e m used) in
    record {
      way =
          slide (IsPart s e) k z right (door s m false) (door s m true) _ _ (refl, wide)
          (on_lane s e m (door s m false) (door s m true) used is refl refl (at_self _) wide wide (at_self _)) w.way.comes;
      next = refl;
    }
lane s e g n k z m false t steps st used is w =
    let wide = st.row.columns (s.layer (unit_of_line s m)) (st.lines.column e m used) in
    record {
      way =
          slide (IsPart s e) k z left (door s m true) (door s m false) _ _ (refl, wide)
          (on_lane s e m (door s m true) (door s m false) used is refl refl wide (at_self _) (at_self _) wide) w.way.comes;
      next = refl;
    }
