-- The nets of a level by their names: where each stands in its gap, and which ends of lines it joins.
use Rattle.std.proofs.Common.{◌≡◌, ◌≢◌, inl, ⊎_elim, ℕ, ◌<◌, eqb, Bool, true, false, ◌&&◌, ◌||◌, List, [], ◌∷◌, ◌++◌, map, length, refl, sym, subst, ap, ◌∙◌, arith}
use Rattle.std.proofs.lemmas.List.{get_or-map, length-map}
use Rattle.std.proofs.lemmas.Bool.{and_parts, and_from, eqb-true, eq-eqb, or_left, or_right}
use Rattle.std.specs.Prelude.{nat_lt}
use Rattle.std.specs.List.{filter, list_any, range_with_len}
use Rattle.drawing_types.specs.declared.shape.Side.{Side}
use Rattle.drawing_types.specs.declared.shape.Side.TheVariants.{East, West}
use Rattle.drawing_types.specs.Shapes.{is_side}
use Rattle.net_routes.specs.Pieces.{border_of, net_at}
use Rattle.route_lines.specs.Points.{gap_in, stand}
use Rattle.self_loops.specs.Loops.{passes_left, passes_right}
use Rattle.level_model.specs.Stage.{Line, loop_lane, unit_of_line, InUse, Reaches, Stands}
use Rattle.level_model.specs.Level.{PlainLevel, PlainPlan, Orders, end_at, is_loop, all_ends, dock_of}
use Rattle.level_model.specs.Lanes.{line_eq, has_one_dock, loop_sides}
use Rattle.level_model.specs.Nets.{Name, of_link, of_dock, of_loop, name_eq, is_inverted, if_passed, loop_names, all_names, gap_of, edge_of, a_line, b_line, a_on_left, b_on_left, net_of, names_in, place_of_name}
use Rattle.level_model.specs.FromPlan.{LevelDrawing, IsDrawnFrom}
use Rattle.level_model.specs.Drawing.{stage, name_at, is_anchor_line, is_in_use}
use Rattle.level_model.proofs.Lists.{Has, has_filter, has_map, has_left, has_right, has_range, has_any}
use Rattle.level_model.proofs.FirstPlaces as places
use Rattle.level_model.proofs.SpotLemmas.{end_there}
use Rattle.level_model.proofs.NumberedSpots.{end_eq-same, end_eq-self}
use Rattle.level_model.proofs.SameLines.{line_eq-self}
use Rattle.plan_laws.proofs.Doors.{border, side_at, gap_beside, net_between, Joins}
use Rattle.port_order.proofs.OrderLemmas.{side_same, side_itself}

-- ---- names

pub name_eq-same : (m n : Name) → name_eq m n ≡ true → m ≡ n
name_eq-same (of_link j) (of_link k) h = ap of_link (eqb-true j k h)
name_eq-same (of_link j) (of_dock n) h = absurd cc
name_eq-same (of_link j) (of_loop f t) h = absurd cc
name_eq-same (of_dock m) (of_link k) h = absurd cc
name_eq-same (of_dock m) (of_dock n) h = ap of_dock (end_eq-same m n h)
name_eq-same (of_dock m) (of_loop f t) h = absurd cc
name_eq-same (of_loop e s) (of_link k) h = absurd cc
name_eq-same (of_loop e s) (of_dock n) h = absurd cc
name_eq-same (of_loop e s) (of_loop f t) h =
    let x = and_parts (eqb e f) (is_side s t) h in
    ap (λ n. of_loop n s) (eqb-true e f x.0) ∙ ap (of_loop f) (side_same s t x.1)

pub name_eq-self : (n : Name) → name_eq n n ≡ true
name_eq-self (of_link k) = eq-eqb k k refl
name_eq-self (of_dock n) = end_eq-self n
name_eq-self (of_loop e s) = and_from (eqb e e) (is_side s s) (eq-eqb e e refl) (side_itself s)

if_has : (b : Bool) (e : ℕ) (side : Side) → b ≡ true → Has (if_passed b e side) (of_loop e side)
if_has true e side h = inl refl
if_has false e side h = absurd cc

module _ (l : PlainLevel) (p : PlainPlan) (o : Orders) where
  pub link_named : (k : ℕ) → k < length p.layered.links → Has (all_names l p o) (of_link k)
  link_named k h =
      has_left (map of_link (range_with_len 0 (length p.layered.links)) ++ map of_dock (filter (is_inverted l p o) (all_ends l))) (loop_names l p o (range_with_len 0 (length l.edges))) (of_link k)
      (has_left (map of_link (range_with_len 0 (length p.layered.links))) (map of_dock (filter (is_inverted l p o) (all_ends l))) (of_link k)
      (has_map of_link (range_with_len 0 (length p.layered.links)) k (has_range 0 (length p.layered.links) k (omega arith) (omega (arith, h)))))

  pub dock_named : (e : ℕ) (t : Bool) → e < length l.edges → is_inverted l p o (end_at e t) ≡ true → Has (all_names l p o) (of_dock (end_at e t))
  dock_named e t h inverted =
      has_left (map of_link (range_with_len 0 (length p.layered.links)) ++ map of_dock (filter (is_inverted l p o) (all_ends l))) (loop_names l p o (range_with_len 0 (length l.edges))) (of_dock (end_at e t))
      (has_right (map of_link (range_with_len 0 (length p.layered.links))) (map of_dock (filter (is_inverted l p o) (all_ends l))) (of_dock (end_at e t))
      (has_map of_dock (filter (is_inverted l p o) (all_ends l)) (end_at e t)
      (has_filter (is_inverted l p o) (all_ends l) (end_at e t) (end_there l e t h) inverted)))

  -- whether a self-loop passes the gap on a side
  abbrev pub passes : ℕ → Side → Bool
  passes e West = passes_left (dock_of l p o (end_at e true)).side (dock_of l p o (end_at e false)).side (has_one_dock l p o e)
  passes e _ = passes_right (dock_of l p o (end_at e true)).side (dock_of l p o (end_at e false)).side (has_one_dock l p o e)

  loop_in : (es : List ℕ) (e : ℕ) (b : Bool) → Has es e → is_loop l e ≡ true → passes e (side_at b) ≡ true → Has (loop_names l p o es) (of_loop e (side_at b))
  loop_in [] e b h loop pass = absurd h
  loop_in (f ∷ es) e b h loop pass =
      ⊎_elim
      (λ (same : f ≡ e).
      has_left (if_passed (is_loop l f && passes f West) f West ++ if_passed (is_loop l f && passes f East) f East) (loop_names l p o es) (of_loop e (side_at b))
      (subst (λ z. Has (if_passed (is_loop l z && passes z West) z West ++ if_passed (is_loop l z && passes z East) z East) (of_loop e (side_at b))) (sym same) (here b pass)))
      (λ rest. has_right (if_passed (is_loop l f && passes f West) f West ++ if_passed (is_loop l f && passes f East) f East) (loop_names l p o es) (of_loop e (side_at b)) (loop_in es e b rest loop pass))
      h
    where
      here : (b : Bool) → passes e (side_at b) ≡ true → Has (if_passed (is_loop l e && passes e West) e West ++ if_passed (is_loop l e && passes e East) e East) (of_loop e (side_at b))
      here true pass =
          has_right (if_passed (is_loop l e && passes e West) e West) (if_passed (is_loop l e && passes e East) e East) (of_loop e East)
          (if_has (is_loop l e && passes e East) e East (and_from (is_loop l e) (passes e East) loop pass))
      here false pass =
          has_left (if_passed (is_loop l e && passes e West) e West) (if_passed (is_loop l e && passes e East) e East) (of_loop e West)
          (if_has (is_loop l e && passes e West) e West (and_from (is_loop l e) (passes e West) loop pass))

  pub loop_named : (e : ℕ) (b : Bool) → e < length l.edges → is_loop l e ≡ true → passes e (side_at b) ≡ true → Has (all_names l p o) (of_loop e (side_at b))
  loop_named e b h loop pass =
      has_right (map of_link (range_with_len 0 (length p.layered.links)) ++ map of_dock (filter (is_inverted l p o) (all_ends l))) (loop_names l p o (range_with_len 0 (length l.edges))) (of_loop e (side_at b))
      (loop_in (range_with_len 0 (length l.edges)) e b (has_range 0 (length l.edges) e (omega arith) (omega (arith, h))) loop pass)

  -- both lines of a net are in use by its edge
  pub joined_in_use : (n : Name) (m : Line) → Has (all_names l p o) n → (line_eq (a_line l p o n) m || line_eq (b_line l p o n) m) ≡ true → is_in_use l p o (edge_of p n) m ≡ true
  joined_in_use n m h one =
      let e = edge_of p n in
      or_left
      (list_any (λ k. eqb (edge_of p k) e && (line_eq (a_line l p o k) m || line_eq (b_line l p o k) m)) (all_names l p o) || (nat_lt e (length l.edges) && (is_anchor_line (dock_of l p o (end_at e true)) m || is_anchor_line (dock_of l p o (end_at e false)) m)))
      (nat_lt e (length l.edges) && is_loop l e && list_any (λ side. line_eq (loop_lane e side) m) (loop_sides l p o e))
      (or_left
      (list_any (λ k. eqb (edge_of p k) e && (line_eq (a_line l p o k) m || line_eq (b_line l p o k) m)) (all_names l p o))
      (nat_lt e (length l.edges) && (is_anchor_line (dock_of l p o (end_at e true)) m || is_anchor_line (dock_of l p o (end_at e false)) m))
      (has_any (λ k. eqb (edge_of p k) e && (line_eq (a_line l p o k) m || line_eq (b_line l p o k) m)) (all_names l p o) n h
      (and_from (eqb e e) (line_eq (a_line l p o n) m || line_eq (b_line l p o n) m) (eq-eqb e e refl) one)))

  pub a_in_use : (n : Name) → Has (all_names l p o) n → is_in_use l p o (edge_of p n) (a_line l p o n) ≡ true
  a_in_use n h = joined_in_use n (a_line l p o n) h (or_left (line_eq (a_line l p o n) (a_line l p o n)) (line_eq (b_line l p o n) (a_line l p o n)) (line_eq-self (a_line l p o n)))

  pub b_in_use : (n : Name) → Has (all_names l p o) n → is_in_use l p o (edge_of p n) (b_line l p o n) ≡ true
  b_in_use n h = joined_in_use n (b_line l p o n) h (or_right (line_eq (a_line l p o n) (b_line l p o n)) (line_eq (b_line l p o n) (b_line l p o n)) (line_eq-self (b_line l p o n)))

  -- ---- a net in the drawing

  module _ (d : LevelDrawing) (drawn : IsDrawnFrom l p o d) (st : Stands (stage l p o d)) where
    abbrev number : Name → ℕ
    number n = place_of_name (names_in l p o (gap_of l p o n)) n

    in_gap : (n : Name) → Has (all_names l p o) n → Has (names_in l p o (gap_of l p o n)) n
    in_gap n h = has_filter (λ k. eqb (gap_of l p o k) (gap_of l p o n)) (all_names l p o) n h (eq-eqb (gap_of l p o n) (gap_of l p o n) refl)

    number_within : (n : Name) → Has (all_names l p o) n → number n < length (names_in l p o (gap_of l p o n))
    number_within n h = places.place_within name_eq name_eq-same name_eq-self place_of_name (λ m ms k. refl) (names_in l p o (gap_of l p o n)) n (in_gap n h)

    name_there : (n : Name) → Has (all_names l p o) n → name_at (names_in l p o (gap_of l p o n)) (number n) ≡ n
    name_there n h = places.place_holds name_eq name_eq-same name_eq-self place_of_name (λ m ms k. refl) (names_in l p o (gap_of l p o n)) n (of_link 0) (in_gap n h)

    -- a line in use ends at a gap of the drawing
    gap_there : (e g : ℕ) (m : Line) (b : Bool) → InUse (stage l p o d) e m → gap_beside (stage l p o d) m b ≡ g → g < length d.gaps
    gap_there e g m true used beside = let column = st.lines.column e m used in let count = drawn.gap_count in omega (arith, column, count, beside)
    gap_there e g m false used beside = let column = st.lines.column e m used in let count = drawn.gap_count in omega (arith, column, count, beside)

    door_x : (g : ℕ) (m : Line) (b : Bool) → gap_beside (stage l p o d) m b ≡ g
        → stand (gap_in d.gaps g) (border_of b) ≡ border (stage l p o d) ((stage l p o d).layer (unit_of_line (stage l p o d) m)) b
    door_x g m true e = ap (λ z. (gap_in d.gaps z).left) (sym e)
    door_x g m false e = ap (λ z. (gap_in d.gaps z).right) (sym e)

    net_named : (n : Name) → Has (all_names l p o) n → gap_of l p o n < length d.gaps
        → (number n < length (gap_in d.gaps (gap_of l p o n)).nets) × (net_at (gap_in d.gaps (gap_of l p o n)).nets (number n) ≡ net_of l p o d.top n)
    net_named n h there =
        let g = gap_of l p o n in
        let nets = (drawn.gaps g there).nets in
        let known = number_within n h in (
          subst (λ z. number n < z) (sym (ap length nets ∙ length-map (names_in l p o g) (net_of l p o d.top))) known,
          ap (λ ns. net_at ns (number n)) nets ∙ get_or-map (net_of l p o d.top) (names_in l p o g) (number n) (of_link 0) _ known ∙ ap (net_of l p o d.top) (name_there n h),
        )

    -- The net joins these lines at these borders.
    pub joins : (n : Name) (m k : Line) (b c : Bool) → Has (all_names l p o) n → a_line l p o n ≡ m → a_on_left l p o n ≡ b → b_line l p o n ≡ k → b_on_left l p o n ≡ c
        → gap_beside (stage l p o d) m b ≡ gap_of l p o n → gap_beside (stage l p o d) k c ≡ gap_of l p o n → Reaches (side_at b) m → Reaches (side_at c) k → m ≢ k
        → (b ≡ c → unit_of_line (stage l p o d) m ≡ unit_of_line (stage l p o d) k)
        → Joins (stage l p o d) (edge_of p n) (gap_of l p o n) (place_of_name (names_in l p o (gap_of l p o n)) n) m b k c
    joins n m k b c h am ab bm bb ag bg ar br differ one =
        let g = gap_of l p o n in
        let au : InUse (stage l p o d) (edge_of p n) m = subst (λ z. is_in_use l p o (edge_of p n) z ≡ true) am (a_in_use n h) in
        let bu : InUse (stage l p o d) (edge_of p n) k = subst (λ z. is_in_use l p o (edge_of p n) z ≡ true) bm (b_in_use n h) in
        let there = gap_there (edge_of p n) g m b au ag in
        let net = net_named n h there in
        record {
          gap_there = there;
          net_there = net.0;
          owner = ap (edge_of p) (name_there n h);
          net_is =
              net.1
              ∙ ap (λ z. net_between (stage l p o d) z (a_on_left l p o n) (b_line l p o n) (b_on_left l p o n)) am
              ∙ ap (λ z. net_between (stage l p o d) m z (b_line l p o n) (b_on_left l p o n)) ab
              ∙ ap (λ z. net_between (stage l p o d) m b z (b_on_left l p o n)) bm
              ∙ ap (λ z. net_between (stage l p o d) m b k z) bb;
          a_use = au;
          b_use = bu;
          a_gap = ag;
          b_gap = bg;
          a_x = door_x g m b ag;
          b_x = door_x g k c bg;
          a_reaches = ar;
          b_reaches = br;
          differ = differ;
          one_unit = one;
        }
