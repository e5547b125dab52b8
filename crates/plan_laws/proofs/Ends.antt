-- The two ends of a route: at an anchor on the east or west side, and at one on the north or south side.
use Rattle.std.proofs.Common.{◌≡◌, ◌≢◌, ⊎_elim, inl, inr, refl, subst, sym, ap, ◌∙◌, ℕ, ◌<◌, Bool, true, false, List, [], ◌∷◌, ◌++◌, ℤ, ◌≤ℤ◌, ◌<ℤ◌, arith}
use Rattle.std.proofs.lemmas.Int.{ints, clamps, by_lt_z}
use Rattle.drawing_types.specs.declared.shape.Point.{Point}
use Rattle.drawing_types.specs.declared.shape.Side.{Side}
use Rattle.drawing_types.specs.declared.shape.Side.TheVariants.{North, East, South, West}
use Rattle.drawing_types.specs.Shapes.{bottom_of}
use Rattle.drawing_types.specs.Segments.{IsBetween}
use Rattle.route_lines.specs.declared.Step.{Step}
use Rattle.route_lines.specs.declared.Step.TheVariants.{Lane, Leg}
use Rattle.route_lines.specs.Points.{point_at, points_on, fine_on, fine_points, trace_points}
use Rattle.route_lines.specs.Tidied.{Heading, left, right, Goes, opposite, DropsSome, none, more, IsTidied}
use Rattle.level_model.specs.Stage.{Stage, Line, anchor_line, unit_of_line, InUse, IsLane, Stands}
use Rattle.level_model.specs.Law.{IsNorthOrSouth, IsEastOrWest, IsPart, stub, border_part, outward, IsLawful}
use Rattle.level_model.proofs.Zones.{le_trans}
use Rattle.plan_laws.proofs.Ways.{Along, Comes, Passes, Leaves, finish, slide, leave, leave_on, turn}
use Rattle.plan_laws.proofs.Legs.{outof, into}
use Rattle.plan_laws.proofs.Doors.{border, side_at, door, Arrives, Departs, on_lane}

-- an end on the east side (b is true) or on the west side
pub record IsPlainEnd (s : Stage) (e : ℕ) (t b : Bool) : Type 0 where
  pub edge_in : e < s.edges
  pub side : (s.dock e t).side ≡ side_at b
  pub in_use : InUse s e (anchor_line (s.dock e t))
  pub height : s.height (anchor_line (s.dock e t)) ≡ (s.anchor e t).y

-- An end on the north or south side, and a lane at its child that lies beyond the outline on that side.
pub record IsUprightEnd (s : Stage) (e : ℕ) (t : Bool) (m : Line) : Type 0 where
  pub edge_in : e < s.edges
  pub upright : IsNorthOrSouth (s.dock e t).side
  pub in_use : InUse s e m
  pub is_lane : IsLane m
  pub unit : unit_of_line s m ≡ s.unit_of (s.dock e t).node
  pub north : (s.dock e t).side ≡ North → s.height m <ℤ (s.outline (s.dock e t).node).y
  pub south : (s.dock e t).side ≡ South → bottom_of (s.outline (s.dock e t).node) <ℤ s.height m

-- the way of a whole route from its source
abbrev pub IsWay : Stage → ℕ → List Step → Type 0
IsWay s e steps =
    Leaves (IsPart s e) (opposite (outward (s.dock e false).side)) (s.anchor e false) (outward (s.dock e true).side) (s.anchor e true)
    (fine_points s.gaps (s.anchor e true) steps (s.anchor e false)) (trace_points s.gaps (s.anchor e true) steps (s.anchor e false))

drops_on : (ps qs rs : List Point) → DropsSome ps qs → DropsSome qs rs → DropsSome ps rs
drops_on ps _ rs (none _) y = y
drops_on _ _ rs (more ps qs ts d ds) y = more ps qs rs d (drops_on qs ts rs ds y)

-- such a route is lawful once it is tidied
pub lawful_way : (s : Stage) (e : ℕ) (steps : List Step) (points : List Point) → IsWay s e steps
    → IsTidied (trace_points s.gaps (s.anchor e true) steps (s.anchor e false)) points → IsLawful s e points
lawful_way s e steps points w t =
    record {
      fine = fine_points s.gaps (s.anchor e true) steps (s.anchor e false);
      parts = w.parts;
      tidied = record { dropped = drops_on _ _ _ w.drops t.dropped; tidy = t.tidy };
      starts = w.starts;
      ends = w.ends;
      runs = λ n. w.runs;
    }

-- ---- where anchors lie

lt_on : (a b c : ℤ) → a <ℤ b → b ≤ℤ c → a <ℤ c
lt_on a b c h k = omega (arith, ints)

lt_after : (a b c : ℤ) → a ≤ℤ b → b <ℤ c → a <ℤ c
lt_after a b c h k = omega (arith, ints)

lt_le : (a b : ℤ) → a <ℤ b → a ≤ℤ b
lt_le a b h = omega (arith, ints)

le_self : (a : ℤ) → a ≤ℤ a
le_self a = omega (arith, ints)

pub between_ends : (p q : ℤ) → IsBetween p q p × IsBetween p q q
between_ends p q = ((omega (arith, ints, clamps), omega (arith, ints, clamps)), (omega (arith, ints, clamps), omega (arith, ints, clamps)))

-- the anchor lies in the column of its child
anchor_left : (s : Stage) (e : ℕ) (t : Bool) → Stands s → e < s.edges → s.col_left (s.layer (s.unit_of (s.dock e t).node)) ≤ℤ (s.anchor e t).x
anchor_left s e t st h = let w = st.ends e t h in le_trans _ _ _ w.child.left w.in_outline.left

anchor_right : (s : Stage) (e : ℕ) (t : Bool) → Stands s → e < s.edges → (s.anchor e t).x ≤ℤ s.col_right (s.layer (s.unit_of (s.dock e t).node))
anchor_right s e t st h = let w = st.ends e t h in le_trans _ _ _ w.in_outline.right w.child.right

-- ---- plain ends

outward_plain : (b : Bool) (side : Side) → side ≡ side_at b → outward side ≡ outof b
outward_plain true side e = ap outward e
outward_plain false side e = ap outward e

inward_plain : (b : Bool) (side : Side) → side ≡ side_at b → opposite (outward side) ≡ into b
inward_plain true side e = ap (λ z. opposite (outward z)) e
inward_plain false side e = ap (λ z. opposite (outward z)) e

pub level_side : (b : Bool) (side : Side) → side ≡ side_at b → IsEastOrWest side
level_side true side e = inl e
level_side false side e = inr e

-- a piece between the anchor and the border of the column
border_piece : (s : Stage) (e : ℕ) (t b : Bool) (p q : Point) → Stands s → IsPlainEnd s e t b
    → p.y ≡ (s.anchor e t).y → q.y ≡ (s.anchor e t).y
    → IsBetween (s.anchor e t).x (border s (s.layer (s.unit_of (s.dock e t).node)) b) p.x
    → IsBetween (s.anchor e t).x (border s (s.layer (s.unit_of (s.dock e t).node)) b) q.x → IsPart s e p q
border_piece s e t true p q st w py qy px qx =
    let end = st.ends e t w.edge_in in
    let child = end.child in
    border_part (record {
      edge_in = w.edge_in;
      at_source = t;
      in_use = w.in_use;
      height = w.height;
      level = inl w.side;
      reach = s.col_right (s.layer (s.unit_of (s.dock e t).node));
      reach_left = st.row.columns _ child.column;
      reach_right = le_self _;
      outside_east = λ h. le_trans _ _ _ child.box_right child.right;
      outside_west = λ h. absurd (not_both _ w.side h);
      a_y = py;
      b_y = qy;
      a_x = px;
      b_x = qx;
    })
  where
    not_both : (z : Side) → z ≡ East → z ≡ West → ⊥
    not_both z h k = let bad : East ≡ West = sym h ∙ k in absurd cc
border_piece s e t false p q st w py qy px qx =
    let end = st.ends e t w.edge_in in
    let child = end.child in
    border_part (record {
      edge_in = w.edge_in;
      at_source = t;
      in_use = w.in_use;
      height = w.height;
      level = inr w.side;
      reach = s.col_left (s.layer (s.unit_of (s.dock e t).node));
      reach_left = le_self _;
      reach_right = st.row.columns _ child.column;
      outside_east = λ h. absurd (not_both _ w.side h);
      outside_west = λ h. le_trans _ _ _ child.left child.box_left;
      a_y = py;
      b_y = qy;
      a_x = px;
      b_x = qx;
    })
  where
    not_both : (z : Side) → z ≡ West → z ≡ East → ⊥
    not_both z h k = let bad : West ≡ East = sym h ∙ k in absurd cc

-- from the end of the anchor's line to the anchor, and back
to_anchor : (s : Stage) (e : ℕ) (t b : Bool) → Stands s → IsPlainEnd s e t b → Along (into b) (door s (anchor_line (s.dock e t)) b) (s.anchor e t)
to_anchor s e t true st w = (w.height, anchor_right s e t st w.edge_in)
to_anchor s e t false st w = (w.height, anchor_left s e t st w.edge_in)

from_anchor : (s : Stage) (e : ℕ) (t b : Bool) → Stands s → IsPlainEnd s e t b → Along (outof b) (s.anchor e t) (door s (anchor_line (s.dock e t)) b)
from_anchor s e t true st w = (sym w.height, anchor_right s e t st w.edge_in)
from_anchor s e t false st w = (sym w.height, anchor_left s e t st w.edge_in)

pub end_plain : (s : Stage) (e : ℕ) (b : Bool) → Stands s → IsPlainEnd s e false b
    → Arrives s e (opposite (outward (s.dock e false).side)) (s.anchor e false) (anchor_line (s.dock e false)) b []
end_plain s e b st w =
    let k = opposite (outward (s.dock e false).side) in
    let z = s.anchor e false in
    let p = door s (anchor_line (s.dock e false)) b in
    let ends = between_ends z.x (border s (s.layer (s.unit_of (s.dock e false).node)) b) in
    let last : Comes (IsPart s e) k z (into b) z (z ∷ []) (z ∷ []) = subst (λ h. Comes (IsPart s e) k z h z (z ∷ []) (z ∷ [])) (inward_plain b _ w.side) (finish (IsPart s e) k z) in
    record {
      way =
          slide (IsPart s e) k z (into b) p z _ _ (to_anchor s e false b st w)
          (border_piece s e false b p z st w w.height refl ends.1 ends.0) last;
      next = sym w.height;
    }

pub start_plain : (s : Stage) (e g n : ℕ) (b t : Bool) (steps : List Step) → Stands s → IsPlainEnd s e true b
    → Departs s e (opposite (outward (s.dock e false).side)) (s.anchor e false) (anchor_line (s.dock e true)) b (Leg g n t ∷ steps)
    → IsWay s e (Leg g n t ∷ steps)
start_plain s e g n b t steps st w d =
    let k = opposite (outward (s.dock e false).side) in
    let z = s.anchor e false in
    let a = s.anchor e true in
    let p = door s (anchor_line (s.dock e true)) b in
    let ends = between_ends a.x (border s (s.layer (s.unit_of (s.dock e true).node)) b) in
    subst (λ h. Leaves (IsPart s e) k z h a (fine_points s.gaps a (Leg g n t ∷ steps) z) (trace_points s.gaps a (Leg g n t ∷ steps) z)) (sym (outward_plain b _ w.side))
    (leave_on (IsPart s e) k z (outof b) a p _ _ (from_anchor s e true b st w)
    (border_piece s e true b a p st w refl w.height ends.0 ends.1)
    (subst (λ y. Passes (IsPart s e) k z (outof b) p (fine_on s.gaps z (Leg g n t ∷ steps) ++ z ∷ []) (points_on s.gaps z y (Leg g n t ∷ steps) ++ z ∷ [])) w.height d.way))

-- ---- upright ends

-- the point on the lane above or below the anchor
abbrev on_stub : Stage → ℕ → Bool → Line → Point
on_stub s e t m = point_at (s.anchor e t).x (s.height m)

outward_goes : (s : Stage) (e : ℕ) (t : Bool) (m : Line) → Stands s → IsUprightEnd s e t m
    → Goes (outward (s.dock e t).side) (s.anchor e t) (on_stub s e t m) × Goes (opposite (outward (s.dock e t).side)) (on_stub s e t m) (s.anchor e t)
outward_goes s e t m st w =
    let end = st.ends e t w.edge_in in
    ⊎_elim
    (λ h. subst (λ z. Goes (outward z) (s.anchor e t) (on_stub s e t m) × Goes (opposite (outward z)) (on_stub s e t m) (s.anchor e t)) (sym h)
    (let below : s.height m <ℤ (s.anchor e t).y = lt_on _ _ _ (w.north h) end.in_outline.top in ((refl, below), (refl, below))))
    (λ h. subst (λ z. Goes (outward z) (s.anchor e t) (on_stub s e t m) × Goes (opposite (outward z)) (on_stub s e t m) (s.anchor e t)) (sym h)
    (let above : (s.anchor e t).y <ℤ s.height m = lt_after _ _ _ end.in_outline.bottom (w.south h) in ((refl, above), (refl, above))))
    w.upright

stub_piece : (s : Stage) (e : ℕ) (t : Bool) (m : Line) (p q : Point) → Stands s → IsUprightEnd s e t m
    → p.x ≡ (s.anchor e t).x → q.x ≡ (s.anchor e t).x → IsBetween (s.anchor e t).y (s.height m) p.y → IsBetween (s.anchor e t).y (s.height m) q.y → IsPart s e p q
stub_piece s e t m p q st w px qx py qy =
    let end = st.ends e t w.edge_in in
    let child = end.child in
    stub (record {
      edge_in = w.edge_in;
      at_source = t;
      upright = w.upright;
      reach = s.height m;
      reach_top = subst (λ u. s.top u ≤ℤ s.height m) w.unit (st.lines.top e m w.in_use);
      reach_bottom = subst (λ u. s.height m ≤ℤ s.bottom u) w.unit (st.lines.bottom e m w.in_use);
      outside_north = λ h. lt_le _ _ (lt_on _ _ _ (w.north h) child.box_top);
      outside_south = λ h. lt_le _ _ (lt_after _ _ _ child.box_bottom (w.south h));
      a_x = px;
      b_x = qx;
      a_y = py;
      b_y = qy;
    })

-- a turn between a stub and a lane
turn_level : (b : Bool) (side : Side) → IsNorthOrSouth side → outof b ≢ opposite (outward side)
turn_level true side lies e = ⊎_elim (λ h. let bad : outof true ≡ opposite (outward North) = e ∙ ap (λ z. opposite (outward z)) h in absurd cc) (λ h. let bad : outof true ≡ opposite (outward South) = e ∙ ap (λ z. opposite (outward z)) h in absurd cc) lies
turn_level false side lies e = ⊎_elim (λ h. let bad : outof false ≡ opposite (outward North) = e ∙ ap (λ z. opposite (outward z)) h in absurd cc) (λ h. let bad : outof false ≡ opposite (outward South) = e ∙ ap (λ z. opposite (outward z)) h in absurd cc) lies

turn_upright : (b : Bool) (side : Side) → IsNorthOrSouth side → opposite (outward side) ≢ opposite (into b)
turn_upright true side lies e = ⊎_elim (λ h. let bad : opposite (outward North) ≡ opposite (into true) = sym (ap (λ z. opposite (outward z)) h) ∙ e in absurd cc) (λ h. let bad : opposite (outward South) ≡ opposite (into true) = sym (ap (λ z. opposite (outward z)) h) ∙ e in absurd cc) lies
turn_upright false side lies e = ⊎_elim (λ h. let bad : opposite (outward North) ≡ opposite (into false) = sym (ap (λ z. opposite (outward z)) h) ∙ e in absurd cc) (λ h. let bad : opposite (outward South) ≡ opposite (into false) = sym (ap (λ z. opposite (outward z)) h) ∙ e in absurd cc) lies

-- the anchor lies in the column of the lane
stub_left : (s : Stage) (e : ℕ) (t : Bool) (m : Line) → Stands s → IsUprightEnd s e t m → s.col_left (s.layer (unit_of_line s m)) ≤ℤ (s.anchor e t).x
stub_left s e t m st w = subst (λ u. s.col_left (s.layer u) ≤ℤ (s.anchor e t).x) (sym w.unit) (anchor_left s e t st w.edge_in)

stub_right : (s : Stage) (e : ℕ) (t : Bool) (m : Line) → Stands s → IsUprightEnd s e t m → (s.anchor e t).x ≤ℤ s.col_right (s.layer (unit_of_line s m))
stub_right s e t m st w = subst (λ u. (s.anchor e t).x ≤ℤ s.col_right (s.layer u)) (sym w.unit) (anchor_right s e t st w.edge_in)

-- from a border along the lane to that point, and from it to a border
to_stub : (s : Stage) (e : ℕ) (t : Bool) (m : Line) (b : Bool) → Stands s → IsUprightEnd s e t m
    → Along (into b) (door s m b) (on_stub s e t m) × Along (outof b) (on_stub s e t m) (door s m b) × IsPart s e (door s m b) (on_stub s e t m) × IsPart s e (on_stub s e t m) (door s m b)
to_stub s e t m true st w =
    let l = stub_left s e t m st w in
    let r = stub_right s e t m st w in
    let wide = st.row.columns _ (st.lines.column e m w.in_use) in
    ((refl, r), (refl, r), on_lane s e m _ _ w.in_use w.is_lane refl refl wide (le_self _) l r, on_lane s e m _ _ w.in_use w.is_lane refl refl l r wide (le_self _))
to_stub s e t m false st w =
    let l = stub_left s e t m st w in
    let r = stub_right s e t m st w in
    let wide = st.row.columns _ (st.lines.column e m w.in_use) in
    ((refl, l), (refl, l), on_lane s e m _ _ w.in_use w.is_lane refl refl (le_self _) wide l r, on_lane s e m _ _ w.in_use w.is_lane refl refl l r (le_self _) wide)

-- the last step of a route that ends on the north or south side
end_stub : (s : Stage) (e : ℕ) (m : Line) → Stands s → IsUprightEnd s e false m
    → Leaves (IsPart s e) (opposite (outward (s.dock e false).side)) (s.anchor e false) (opposite (outward (s.dock e false).side)) (on_stub s e false m)
    (on_stub s e false m ∷ s.anchor e false ∷ []) (on_stub s e false m ∷ s.anchor e false ∷ [])
end_stub s e m st w =
    let k = opposite (outward (s.dock e false).side) in
    let z = s.anchor e false in
    let ends = between_ends z.y (s.height m) in
    leave (IsPart s e) k z k (on_stub s e false m) z _ _ (outward_goes s e false m st w).1
    (stub_piece s e false m (on_stub s e false m) z st w refl refl ends.1 ends.0) (finish (IsPart s e) k z)

pub end_upright : (s : Stage) (e : ℕ) (m : Line) (b : Bool) → Stands s → IsUprightEnd s e false m
    → Arrives s e (opposite (outward (s.dock e false).side)) (s.anchor e false) m b (Lane (s.height m) ∷ [])
end_upright s e m b st w =
    let k = opposite (outward (s.dock e false).side) in
    let z = s.anchor e false in
    let to = to_stub s e false m b st w in
    record {
      way =
          slide (IsPart s e) k z (into b) (door s m b) (on_stub s e false m) _ _ to.0 to.2
          (turn (IsPart s e) k z (into b) k (on_stub s e false m) _ _ (turn_upright b _ w.upright) (end_stub s e m st w));
      next = refl;
    }

-- the first step of one that starts there
start_stub : (s : Stage) (e : ℕ) (m : Line) (k : Heading) (z : Point) (h : Heading) (ps ks : List Point) → Stands s → IsUprightEnd s e true m
    → h ≢ opposite (outward (s.dock e true).side) → Leaves (IsPart s e) k z h (on_stub s e true m) ps ks
    → Leaves (IsPart s e) k z (outward (s.dock e true).side) (s.anchor e true) (s.anchor e true ∷ ps) (s.anchor e true ∷ ks)
start_stub s e m k z h ps ks st w n way =
    let a = s.anchor e true in
    let ends = between_ends a.y (s.height m) in
    leave (IsPart s e) k z (outward (s.dock e true).side) a (on_stub s e true m) _ _ (outward_goes s e true m st w).0
    (stub_piece s e true m a (on_stub s e true m) st w refl refl ends.0 ends.1)
    (turn (IsPart s e) k z (outward (s.dock e true).side) h (on_stub s e true m) _ _ n way)

pub start_upright : (s : Stage) (e g n : ℕ) (m : Line) (b t : Bool) (steps : List Step) → Stands s → IsUprightEnd s e true m
    → Departs s e (opposite (outward (s.dock e false).side)) (s.anchor e false) m b (Leg g n t ∷ steps)
    → IsWay s e (Lane (s.height m) ∷ Leg g n t ∷ steps)
start_upright s e g n m b t steps st w d =
    let k = opposite (outward (s.dock e false).side) in
    let z = s.anchor e false in
    let to = to_stub s e true m b st w in
    start_stub s e m k z (outof b) _ _ st w (turn_level b _ w.upright)
    (leave_on (IsPart s e) k z (outof b) (on_stub s e true m) (door s m b) _ _ to.1 to.3 d.way)

-- ---- from one side of a child along a lane to the same side

pub along_lane : (s : Stage) (e : ℕ) (m : Line) → Stands s → IsUprightEnd s e true m → IsUprightEnd s e false m
    → (s.anchor e true).x ≢ (s.anchor e false).x → IsWay s e (Lane (s.height m) ∷ [])
along_lane s e m st v w n =
    let k = opposite (outward (s.dock e false).side) in
    let z = s.anchor e false in
    let p = on_stub s e true m in
    let q = on_stub s e false m in
    let part = on_lane s e m p q v.in_use v.is_lane refl refl (stub_left s e true m st v) (stub_right s e true m st v) (stub_left s e false m st w) (stub_right s e false m st w) in
    let rest = end_stub s e m st w in
    by_lt_z p.x q.x
    (λ l. start_stub s e m k z right _ _ st v (turn_level true _ v.upright) (leave (IsPart s e) k z right p q _ _ (refl, l) part (turn (IsPart s e) k z right k q _ _ (turn_upright false _ w.upright) rest)))
    (λ l. by_lt_z q.x p.x
    (λ j. start_stub s e m k z left _ _ st v (turn_level false _ v.upright) (leave (IsPart s e) k z left p q _ _ (refl, j) part (turn (IsPart s e) k z left k q _ _ (turn_upright true _ w.upright) rest)))
    (λ j. absurd (n (omega (arith, ints)))))
