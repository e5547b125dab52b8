-- The routes of self-loops between two docks, by the sides of the docks.
use Rattle.std.proofs.Common.{◌≡◌, ◌≢◌, inl, inr, ℕ, ◌+◌, ◌<◌, cond, Bool, true, false, not, List, [], ◌∷◌, length, refl, sym, subst, ap, ◌∙◌}
use Rattle.drawing_types.specs.declared.shape.Side.{Side}
use Rattle.drawing_types.specs.declared.shape.Side.TheVariants.{North, East, South, West}
use Rattle.drawing_types.specs.declared.shape.Dock.{Dock}
use Rattle.drawing_types.specs.Shapes.{is_side}
use Rattle.elk_layers.specs.Layered.{layer_of}
use Rattle.self_loops.specs.Loops.{sides_of_pair, sides_of_lanes, passes_left, passes_right}
use Rattle.level_model.specs.Stage.{Line, anchor_line, loop_lane, unit_of_line, Reaches, Stands}
use Rattle.route_lines.specs.Tidied.{opposite}
use Rattle.level_model.specs.Law.{IsNorthOrSouth, outward}
use Rattle.plan_laws.proofs.AtDocks.{same_stub}
use Rattle.level_model.specs.Level.{PlainLevel, PlainPlan, Orders, end_at, edge_at, is_loop, dock_of}
use Rattle.level_model.specs.Lanes.{dock_eq, has_one_dock, loop_sides}
use Rattle.level_model.specs.Nets.{of_loop, lane_side_of_end, loop_line, unit_of, gap_of, names_in, place_of_name}
use Rattle.level_model.specs.Traces.{lane_step, leg_step, loop_steps}
use Rattle.level_model.specs.FromPlan.{LevelDrawing, IsDrawnFrom}
use Rattle.level_model.specs.Drawing.{stage}
use Rattle.level_model.specs.Ready.{IsReady}
use Rattle.level_model.proofs.Lists.{Has}
use Rattle.level_model.proofs.SameLines.{dock_eq-self}
use Rattle.plan_laws.proofs.Doors.{side_at, gap_beside, Joins, Arrives, leg, lane}
use Rattle.plan_laws.proofs.Ends.{IsWay, end_plain, end_upright, start_plain, start_upright, along_lane}
use Rattle.plan_laws.proofs.NetNames.{passes, loop_named, joins}
use Rattle.plan_laws.proofs.Edges.{east_test, not_not}
use Rattle.plan_laws.proofs.RouteEnds.{plain_end, upright_loop, loop_node}

module _ (l : PlainLevel) (p : PlainPlan) (o : Orders) (d : LevelDrawing) (layers : List ℕ) (ready : IsReady l p o layers) (drawn : IsDrawnFrom l p o d) (st : Stands (stage l p o d)) (e : ℕ) (h : e < length l.edges) (loop : is_loop l e ≡ true) (two : has_one_dock l p o e ≡ false) where
  abbrev here : Bool → Dock
  here t = dock_of l p o (end_at e t)

  docks_differ : here true ≢ here false
  docks_differ same =
      let one : has_one_dock l p o e ≡ true = ap (dock_eq (here true)) (sym same) ∙ dock_eq-self (here true) in
      let bad : true ≡ false = sym one ∙ two in
      absurd cc

  -- the line by which an end comes to the gap at a border of its column
  record IsLoopLine (t b : Bool) (m : Line) : Type 0 where
    line : loop_line e (here t) (side_at b) ≡ m
    unit : unit_of_line (stage l p o d) m ≡ unit_of p (edge_at l e).source.child
    reaches : Reaches (side_at b) m

  by_anchor : (t b : Bool) → (here t).side ≡ side_at b → IsLoopLine t b (anchor_line (here t))
  by_anchor t b side =
      record {
        line = ap (λ s. cond (is_side s (side_at b)) (anchor_line (here t)) (loop_lane e (lane_side_of_end s))) side ∙ own b;
        unit = ap (unit_of p) (sym (loop_node l p o d e t loop));
        reaches = side;
      }
    where
      own : (b : Bool) → cond (is_side (side_at b) (side_at b)) (anchor_line (here t)) (loop_lane e (lane_side_of_end (side_at b))) ≡ anchor_line (here t)
      own true = refl
      own false = refl

  by_lane : (t b : Bool) (s : Side) → (here t).side ≡ s → is_side s (side_at b) ≡ false → IsLoopLine t b (loop_lane e (lane_side_of_end s))
  by_lane t b s side other =
      record {
        line =
            ap (λ z. cond (is_side z (side_at b)) (anchor_line (here t)) (loop_lane e (lane_side_of_end z))) side
            ∙ ap (λ x. cond x (anchor_line (here t)) (loop_lane e (lane_side_of_end s))) other;
        unit = refl;
        reaches = tt;
      }

  -- the net of the loop in the gap at a border
  loop_joins : (b : Bool) (m n : Line) → passes l p o e (side_at b) ≡ true → IsLoopLine true b m → IsLoopLine false b n → m ≢ n
      → Joins (stage l p o d) e (gap_of l p o (of_loop e (side_at b))) (place_of_name (names_in l p o (gap_of l p o (of_loop e (side_at b)))) (of_loop e (side_at b))) m b n b
  loop_joins b m n pass x y differ =
      joins l p o d drawn st (of_loop e (side_at b)) m n b b (loop_named l p o e b h loop pass) x.line (east_test b) y.line (east_test b) (gap_is b m x.unit) (gap_is b n y.unit) x.reaches y.reaches differ (λ same. x.unit ∙ sym y.unit)
    where
      gap_is : (b : Bool) (m : Line) → unit_of_line (stage l p o d) m ≡ unit_of p (edge_at l e).source.child → gap_beside (stage l p o d) m b ≡ gap_of l p o (of_loop e (side_at b))
      gap_is true m u = ap (λ v. layer_of p.layered v + 1) u
      gap_is false m u = ap (layer_of p.layered) u

  -- which lanes the loop has, and which gaps it passes
  has_side : (s t q : Side) → (here true).side ≡ s → (here false).side ≡ t → Has (sides_of_pair s t) q → Has (loop_sides l p o e) q
  has_side s t q es et has =
      let same : loop_sides l p o e ≡ sides_of_pair s t =
      ap (λ z. sides_of_lanes z (here false).side (has_one_dock l p o e)) es ∙ ap (λ z. sides_of_lanes s z (has_one_dock l p o e)) et ∙ ap (sides_of_lanes s t) two in
      subst (λ zs. Has zs q) (sym same) has

  pass_right : (s t : Side) → (here true).side ≡ s → (here false).side ≡ t → passes_right s t false ≡ true → passes l p o e (side_at true) ≡ true
  pass_right s t es et pass =
      ap (λ z. passes_right z (here false).side (has_one_dock l p o e)) es ∙ ap (λ z. passes_right s z (has_one_dock l p o e)) et ∙ ap (passes_right s t) two ∙ pass

  pass_left : (s t : Side) → (here true).side ≡ s → (here false).side ≡ t → passes_left s t false ≡ true → passes l p o e (side_at false) ≡ true
  pass_left s t es et pass =
      ap (λ z. passes_left z (here false).side (has_one_dock l p o e)) es ∙ ap (λ z. passes_left s z (has_one_dock l p o e)) et ∙ ap (passes_left s t) two ∙ pass

  not_lane : (k : Dock) (s : Side) → anchor_line k ≢ loop_lane e s
  not_lane k s same = absurd cc

  not_anchor : (s : Side) (k : Dock) → loop_lane e s ≢ anchor_line k
  not_anchor s k same = absurd cc

  -- both docks on one north or south side: along one lane
  along_side : (s : Side) → IsNorthOrSouth s → (here true).side ≡ s → (here false).side ≡ s → Has (loop_sides l p o e) s → IsWay (stage l p o d) e (lane_step l p o d.top (loop_lane e s) ∷ [])
  along_side s lies es et has =
      along_lane (stage l p o d) e (loop_lane e s) st (upright_loop l p o d layers ready e true s h loop es lies has) (upright_loop l p o d layers ready e false s h loop et lies has)
      (λ one. docks_differ (same_stub (stage l p o d) e e true false s st h h lies (loop_node l p o d e false loop) es et one))

  -- both on one east or west side: through one gap
  beside : (b : Bool) → (here true).side ≡ side_at b → (here false).side ≡ side_at b → passes l p o e (side_at b) ≡ true → IsWay (stage l p o d) e (leg_step l p o (of_loop e (side_at b)) true ∷ [])
  beside b es et pass =
      let differ : anchor_line (here true) ≢ anchor_line (here false) = λ same. docks_differ (ap dock_in same) in
      start_plain (stage l p o d) e _ _ b true [] st (plain_end l p o d st e true b h es)
      (leg (stage l p o d) e _ _ _ _ (anchor_line (here true)) b (anchor_line (here false)) b [] st (loop_joins b _ _ pass (by_anchor true b es) (by_anchor false b et) differ)
      (end_plain (stage l p o d) e b st (plain_end l p o d st e false b h et)))
    where
      dock_in : Line → Dock
      dock_in (anchor_line k) = k
      dock_in _ = here true

  -- from one border over the northern lane to the other
  across : (b : Bool) → (here true).side ≡ side_at b → (here false).side ≡ side_at (not b) → passes l p o e (side_at b) ≡ true → passes l p o e (side_at (not b)) ≡ true
      → IsLoopLine false b (loop_lane e North) → IsLoopLine true (not b) (loop_lane e North)
      → IsWay (stage l p o d) e (leg_step l p o (of_loop e (side_at b)) true ∷ lane_step l p o d.top (loop_lane e North) ∷ leg_step l p o (of_loop e (side_at (not b))) true ∷ [])
  across b es et pass other x y =
      let one = loop_joins b _ _ pass (by_anchor true b es) x (not_lane (here true) North) in
      let net = loop_joins (not b) _ _ other y (by_anchor false (not b) et) (not_anchor North (here false)) in
      let last = end_plain (stage l p o d) e (not b) st (plain_end l p o d st e false (not b) h et) in
      let back = leg (stage l p o d) e _ _ _ _ (loop_lane e North) (not b) (anchor_line (here false)) (not b) [] st net last in
      let on = lane (stage l p o d) e _ _ _ _ (loop_lane e North) (not b) true [] st one.b_use tt back in
      start_plain (stage l p o d) e _ _ b true _ st (plain_end l p o d st e true b h es)
      (leg (stage l p o d) e _ _ _ _ (anchor_line (here true)) b (loop_lane e North) b _ st one
      (subst (λ c. Arrives (stage l p o d) e (opposite (outward (here false).side)) ((stage l p o d).anchor e false) (loop_lane e North) c (lane_step l p o d.top (loop_lane e North) ∷ leg_step l p o (of_loop e (side_at (not b))) true ∷ [])) (not_not b) on))

  -- from the north or south side to the east or west side, and back
  to_border : (s : Side) (b : Bool) → IsNorthOrSouth s → (here true).side ≡ s → (here false).side ≡ side_at b → Has (loop_sides l p o e) s → passes l p o e (side_at b) ≡ true
      → IsLoopLine true b (loop_lane e s) → IsWay (stage l p o d) e (lane_step l p o d.top (loop_lane e s) ∷ leg_step l p o (of_loop e (side_at b)) true ∷ [])
  to_border s b lies es et has pass x =
      start_upright (stage l p o d) e _ _ (loop_lane e s) b true [] st (upright_loop l p o d layers ready e true s h loop es lies has)
      (leg (stage l p o d) e _ _ _ _ (loop_lane e s) b (anchor_line (here false)) b [] st (loop_joins b _ _ pass x (by_anchor false b et) (not_anchor s (here false)))
      (end_plain (stage l p o d) e b st (plain_end l p o d st e false b h et)))

  from_border : (b : Bool) (s : Side) → IsNorthOrSouth s → (here true).side ≡ side_at b → (here false).side ≡ s → Has (loop_sides l p o e) s → passes l p o e (side_at b) ≡ true
      → IsLoopLine false b (loop_lane e s) → IsWay (stage l p o d) e (leg_step l p o (of_loop e (side_at b)) true ∷ lane_step l p o d.top (loop_lane e s) ∷ [])
  from_border b s lies es et has pass y =
      start_plain (stage l p o d) e _ _ b true _ st (plain_end l p o d st e true b h es)
      (leg (stage l p o d) e _ _ _ _ (anchor_line (here true)) b (loop_lane e s) b _ st (loop_joins b _ _ pass (by_anchor true b es) y (not_lane (here true) s))
      (end_upright (stage l p o d) e (loop_lane e s) b st (upright_loop l p o d layers ready e false s h loop et lies has)))

  -- from the north to the south side, or back, through the gap on the right
  around : (s t : Side) → IsNorthOrSouth s → IsNorthOrSouth t → s ≢ t → (here true).side ≡ s → (here false).side ≡ t → Has (loop_sides l p o e) s → Has (loop_sides l p o e) t → passes l p o e (side_at true) ≡ true
      → IsLoopLine true true (loop_lane e s) → IsLoopLine false true (loop_lane e t)
      → IsWay (stage l p o d) e (lane_step l p o d.top (loop_lane e s) ∷ leg_step l p o (of_loop e East) true ∷ lane_step l p o d.top (loop_lane e t) ∷ [])
  around s t ls lt differ es et hs ht pass x y =
      start_upright (stage l p o d) e _ _ (loop_lane e s) true true _ st (upright_loop l p o d layers ready e true s h loop es ls hs)
      (leg (stage l p o d) e _ _ _ _ (loop_lane e s) true (loop_lane e t) true _ st (loop_joins true _ _ pass x y (λ same. differ (ap side_in same)))
      (end_upright (stage l p o d) e (loop_lane e t) true st (upright_loop l p o d layers ready e false t h loop et lt ht)))
    where
      side_in : Line → Side
      side_in (loop_lane f q) = q
      side_in _ = s

  -- all pairs of sides
  pub loop_way : (s t : Side) → (here true).side ≡ s → (here false).side ≡ t → IsWay (stage l p o d) e (loop_steps l p o d.top e s t)
  loop_way North North es et = along_side North (inl refl) es et (has_side North North North es et (inl refl))
  loop_way North East es et = to_border North true (inl refl) es et (has_side North East North es et (inl refl)) (pass_right North East es et refl) (by_lane true true North es refl)
  loop_way North South es et =
      around North South (inl refl) (inr refl) (λ same. absurd cc) es et (has_side North South North es et (inl refl)) (has_side North South South es et (inr (inl refl)))
      (pass_right North South es et refl) (by_lane true true North es refl) (by_lane false true South et refl)
  loop_way North West es et = to_border North false (inl refl) es et (has_side North West North es et (inl refl)) (pass_left North West es et refl) (by_lane true false North es refl)
  loop_way East North es et = from_border true North (inl refl) es et (has_side East North North es et (inl refl)) (pass_right East North es et refl) (by_lane false true North et refl)
  loop_way East East es et = beside true es et (pass_right East East es et refl)
  loop_way East South es et = from_border true South (inr refl) es et (has_side East South South es et (inl refl)) (pass_right East South es et refl) (by_lane false true South et refl)
  loop_way East West es et = across true es et (pass_right East West es et refl) (pass_left East West es et refl) (by_lane false true West et refl) (by_lane true false East es refl)
  loop_way South North es et =
      around South North (inr refl) (inl refl) (λ same. absurd cc) es et (has_side South North South es et (inr (inl refl))) (has_side South North North es et (inl refl))
      (pass_right South North es et refl) (by_lane true true South es refl) (by_lane false true North et refl)
  loop_way South East es et = to_border South true (inr refl) es et (has_side South East South es et (inl refl)) (pass_right South East es et refl) (by_lane true true South es refl)
  loop_way South South es et = along_side South (inr refl) es et (has_side South South South es et (inl refl))
  loop_way South West es et = to_border South false (inr refl) es et (has_side South West South es et (inl refl)) (pass_left South West es et refl) (by_lane true false South es refl)
  loop_way West North es et = from_border false North (inl refl) es et (has_side West North North es et (inl refl)) (pass_left West North es et refl) (by_lane false false North et refl)
  loop_way West East es et = across false es et (pass_left West East es et refl) (pass_right West East es et refl) (by_lane false false East et refl) (by_lane true true West es refl)
  loop_way West South es et = from_border false South (inr refl) es et (has_side West South South es et (inl refl)) (pass_left West South es et refl) (by_lane false false South et refl)
  loop_way West West es et = beside false es et (pass_left West West es et refl)
