-- The names of nets, and the lines in use.
use Rattle.std.proofs.Common.{◌≡◌, ◌⊎◌, inl, inr, ⊎_elim, ℕ, ◌<◌, eqb, cond, Bool, true, false, not, ◌&&◌, ◌||◌, List, [], ◌∷◌, ◌++◌, map, length, refl, subst, ap, ◌∙◌, arith}
use Rattle.std.proofs.lemmas.Bool.{and_parts, or_cases, or_parts, or_right, eqb-true, ltb-true, not-true}
use Rattle.std.specs.Prelude.{nat_lt}
use Rattle.std.specs.List.{filter, list_any, range_with_len}
use Rattle.drawing_types.specs.declared.shape.Side.{Side}
use Rattle.drawing_types.specs.declared.shape.Side.TheVariants.{North, East, South, West}
use Rattle.drawing_types.specs.Shapes.{is_side}
use Rattle.elk_layers.specs.Layered.{link_at, is_child}
use Rattle.self_loops.specs.Loops.{is_upright, passes_left, passes_right}
use Rattle.level_model.specs.Stage.{Line, anchor_line, dock_lane, loop_lane, long_lane}
use Rattle.level_model.specs.Level.{PlainLevel, PlainPlan, Orders, End, end_at, edge_at, spoke, is_loop, enters, holds, tail_end, head_end, ends_of_edges, all_ends, dock_of}
use Rattle.level_model.specs.Lanes.{line_eq, has_one_dock, loop_sides, lane_side}
use Rattle.level_model.specs.Nets.{Name, of_link, of_dock, of_loop, inverts, is_inverted, line_of_end, tail_line, head_line, if_passed, loop_names, all_names, lane_side_of_end, loop_line, a_line, b_line, edge_of}
use Rattle.level_model.specs.Drawing.{lane_edge, is_anchor_line, is_in_use}
use Rattle.level_model.specs.Ready.{IsReady}
use Rattle.level_model.proofs.SpotLemmas.{spoke_there}
use Rattle.level_model.proofs.Lists.{Has, filter_has, map_has, append_has, range_has, below_has, any_has, has_any}
use Rattle.level_model.proofs.SameLines.{line_eq-same}
use Rattle.level_model.proofs.LoopSides.{lane_upright, end_upright, source_left, target_left, source_right, target_right}
use Rattle.level_model.proofs.LinkLemmas.{Ends, at_child_unit, at_lane, tail_ends, head_ends, edge_there, no_loop}
use Rattle.level_model.proofs.LaneLemmas.{IsLaneOf, end_lane, loop_has_lane}
use Rattle.port_order.proofs.OrderLemmas.{side_same, side_itself}

-- what is true of a name of a net of the level
abbrev pub IsName : PlainLevel → PlainPlan → Orders → Name → Type 0
IsName l p o (of_link k) = k < length p.layered.links
IsName l p o (of_dock n) = (n.edge < length l.edges) × (is_inverted l p o n ≡ true)
IsName l p o (of_loop e side) =
    (e < length l.edges) × (is_loop l e ≡ true)
    × (((side ≡ West) × (passes_left (dock_of l p o (end_at e true)).side (dock_of l p o (end_at e false)).side (has_one_dock l p o e) ≡ true))
    ⊎ ((side ≡ East) × (passes_right (dock_of l p o (end_at e true)).side (dock_of l p o (end_at e false)).side (has_one_dock l p o e) ≡ true)))

pub ends_edge : (es : List ℕ) (n : End) → Has (ends_of_edges es) n → Has es n.edge
ends_edge [] n h = absurd h
ends_edge (e ∷ es) n h =
    ⊎_elim (λ (same : end_at e true ≡ n). inl (ap (λ (m : End). m.edge) same)) (λ rest. ⊎_elim (λ (same : end_at e false ≡ n). inl (ap (λ (m : End). m.edge) same)) (λ more. inr (ends_edge es n more)) rest) h

passed_has : (b : Bool) (e : ℕ) (side : Side) (n : Name) → Has (if_passed b e side) n → (b ≡ true) × (of_loop e side ≡ n)
passed_has true e side n h = ⊎_elim (λ same. (refl, same)) (λ none. absurd none) h
passed_has false e side n h = absurd h

module _ (l : PlainLevel) (p : PlainPlan) (o : Orders) where
  abbrev left_passed : ℕ → Bool
  left_passed e = passes_left (dock_of l p o (end_at e true)).side (dock_of l p o (end_at e false)).side (has_one_dock l p o e)

  abbrev right_passed : ℕ → Bool
  right_passed e = passes_right (dock_of l p o (end_at e true)).side (dock_of l p o (end_at e false)).side (has_one_dock l p o e)

  loop_is_name : (es : List ℕ) (n : Name) → ((e : ℕ) → Has es e → e < length l.edges) → Has (loop_names l p o es) n → IsName l p o n
  loop_is_name [] n known h = absurd h
  loop_is_name (e ∷ es) n known h =
      ⊎_elim
      (λ first.
      ⊎_elim
      (λ west. let q = passed_has (is_loop l e && left_passed e) e West n west in let b = and_parts (is_loop l e) (left_passed e) q.0 in subst (IsName l p o) q.1 (known e (inl refl), b.0, inl (refl, b.1)))
      (λ east. let q = passed_has (is_loop l e && right_passed e) e East n east in let b = and_parts (is_loop l e) (right_passed e) q.0 in subst (IsName l p o) q.1 (known e (inl refl), b.0, inr (refl, b.1)))
      (append_has (if_passed (is_loop l e && left_passed e) e West) (if_passed (is_loop l e && right_passed e) e East) n first))
      (λ rest. loop_is_name es n (λ f k. known f (inr k)) rest)
      (append_has (if_passed (is_loop l e && left_passed e) e West ++ if_passed (is_loop l e && right_passed e) e East) (loop_names l p o es) n h)

  pub name_is : (n : Name) → Has (all_names l p o) n → IsName l p o n
  name_is n h =
      ⊎_elim
      (λ front. ⊎_elim (λ link. of_links link) (λ dock. of_docks dock) (append_has (map of_link (range_with_len 0 (length p.layered.links))) (map of_dock (filter (is_inverted l p o) (all_ends l))) n front))
      (λ loop. loop_is_name (range_with_len 0 (length l.edges)) n (λ e k. below_has (length l.edges) e k) loop)
      (append_has (map of_link (range_with_len 0 (length p.layered.links)) ++ map of_dock (filter (is_inverted l p o) (all_ends l))) (loop_names l p o (range_with_len 0 (length l.edges))) n h)
    where
      of_links : Has (map of_link (range_with_len 0 (length p.layered.links))) n → IsName l p o n
      of_links h = let r = map_has of_link (range_with_len 0 (length p.layered.links)) n h in subst (IsName l p o) r.2 (let b = range_has 0 (length p.layered.links) r.0 r.1 in omega (arith, b))

      of_docks : Has (map of_dock (filter (is_inverted l p o) (all_ends l))) n → IsName l p o n
      of_docks h =
          let r = map_has of_dock (filter (is_inverted l p o) (all_ends l)) n h in
          let q = filter_has (is_inverted l p o) (all_ends l) r.0 r.1 in
          let b = range_has 0 (length l.edges) r.0.edge (ends_edge (range_with_len 0 (length l.edges)) r.0 q.0) in
          let less : r.0.edge < length l.edges = omega (arith, b) in
          subst (IsName l p o) r.2 (less, q.1)

-- what is true of a line that is in use
abbrev pub IsLine : PlainLevel → PlainPlan → Orders → ℕ → Line → Type 0
IsLine l p o e (anchor_line d) = (e < length l.edges) × ((t : Bool) × (dock_of l p o (end_at e t) ≡ d)) × (is_upright d.side ≡ false)
IsLine l p o e (dock_lane d) = (e < length l.edges) × ((t : Bool) × (dock_of l p o (end_at e t) ≡ d)) × IsLaneOf l p o d.node (lane_side l d) (dock_lane d)
IsLine l p o e (loop_lane f side) = (e < length l.edges) × (f ≡ e) × IsLaneOf l p o (edge_at l f).source.child side (loop_lane f side)
IsLine l p o e (long_lane u) = (e < length l.edges) × (lane_edge p u ≡ e) × (u < length p.layered.units) × (is_child p.layered u ≡ false)

pub inverts_level : (side : Side) (b : Bool) → inverts side b ≡ true → is_upright side ≡ false
inverts_level North b h = absurd cc
inverts_level East b h = refl
inverts_level South b h = absurd cc
inverts_level West b h = refl

side_level : (d side : Side) → is_side d side ≡ true → (side ≡ West) ⊎ (side ≡ East) → is_upright d ≡ false
side_level d side same level =
    ap is_upright (side_same d side same) ∙ ⊎_elim (λ west. ap is_upright west) (λ east. ap is_upright east) level

-- an edge runs on the lines that its nets join
abbrev on_nets : PlainLevel → PlainPlan → Orders → ℕ → Line → Bool
on_nets l p o e m = list_any (λ n. eqb (edge_of p n) e && (line_eq (a_line l p o n) m || line_eq (b_line l p o n) m)) (all_names l p o)

module _ (l : PlainLevel) (p : PlainPlan) (o : Orders) (layers : List ℕ) (ready : IsReady l p o layers) where
  -- an end of a link runs on its dock's lane or leaves from its anchor
  pub end_line : (e : ℕ) (t : Bool) → e < length l.edges → is_loop l e ≡ false → IsLine l p o e (line_of_end l p o (end_at e t))
  end_line e t h loop = step (is_upright (dock_of l p o (end_at e t)).side || is_inverted l p o (end_at e t)) refl
    where
      step : (b : Bool) → (is_upright (dock_of l p o (end_at e t)).side || is_inverted l p o (end_at e t)) ≡ b → IsLine l p o e (cond b (dock_lane (dock_of l p o (end_at e t))) (anchor_line (dock_of l p o (end_at e t))))
      step true lies = (h, (t, refl), end_lane l p o e t ready.level h (spoke_there l e t ready.level h).child loop (rw loop at lies))
      step false lies = (h, (t, refl), (or_parts (is_upright (dock_of l p o (end_at e t)).side) (is_inverted l p o (end_at e t)) lies).0)

  tail_line_is : (k : ℕ) → k < length p.layered.links → IsLine l p o (link_at p.layered.links k).edge (tail_line l p o k)
  tail_line_is k h = step (tail_ends l p layers ready.level ready.units.linked ready.sound ready.layers_are k h)
    where
      step : Ends p (link_at p.layered.links k).edge (link_at p.layered.links k).tail (spoke l (tail_end p (link_at p.layered.links k).edge)).child → IsLine l p o (link_at p.layered.links k).edge (tail_line l p o k)
      step (at_child_unit child same) = rw child (end_line (link_at p.layered.links k).edge (not (holds p.reversed (link_at p.layered.links k).edge)) (edge_there l p o layers ready k h) (no_loop l p o layers ready k h))
      step (at_lane lane own) = rw lane (edge_there l p o layers ready k h, own, (ready.sound.links_are k h).tail, lane)

  head_line_is : (k : ℕ) → k < length p.layered.links → IsLine l p o (link_at p.layered.links k).edge (head_line l p o k)
  head_line_is k h = step (head_ends l p layers ready.level ready.units.linked ready.sound ready.layers_are k h)
    where
      step : Ends p (link_at p.layered.links k).edge (link_at p.layered.links k).head (spoke l (head_end p (link_at p.layered.links k).edge)).child → IsLine l p o (link_at p.layered.links k).edge (head_line l p o k)
      step (at_child_unit child same) = rw child (end_line (link_at p.layered.links k).edge (holds p.reversed (link_at p.layered.links k).edge) (edge_there l p o layers ready k h) (no_loop l p o layers ready k h))
      step (at_lane lane own) = rw lane (edge_there l p o layers ready k h, own, (ready.sound.links_are k h).head, lane)

  inverted_parts : (n : End) → is_inverted l p o n ≡ true → (is_loop l n.edge ≡ false) × (inverts (dock_of l p o n).side (enters p n) ≡ true)
  inverted_parts n h = let q = and_parts (not (is_loop l n.edge)) (inverts (dock_of l p o n).side (enters p n)) h in (not-true (is_loop l n.edge) q.0, q.1)

  dock_line_is : (e : ℕ) (t : Bool) → e < length l.edges → is_inverted l p o (end_at e t) ≡ true → IsLine l p o e (dock_lane (dock_of l p o (end_at e t)))
  dock_line_is e t h inverted =
      let q = inverted_parts (end_at e t) inverted in
      (h, (t, refl), end_lane l p o e t ready.level h (spoke_there l e t ready.level h).child q.0 (or_right (is_upright (dock_of l p o (end_at e t)).side) (inverts (dock_of l p o (end_at e t)).side (enters p (end_at e t))) q.1))

  anchor_line_is : (e : ℕ) (t : Bool) → e < length l.edges → is_inverted l p o (end_at e t) ≡ true → IsLine l p o e (anchor_line (dock_of l p o (end_at e t)))
  anchor_line_is e t h inverted = (h, (t, refl), inverts_level (dock_of l p o (end_at e t)).side (enters p (end_at e t)) (inverted_parts (end_at e t) inverted).1)

  -- a self-loop comes to a gap by an anchor or by its lane
  loop_line_is : (e : ℕ) (t : Bool) (side : Side) → e < length l.edges → is_loop l e ≡ true → (side ≡ West) ⊎ (side ≡ East)
      → (is_side (dock_of l p o (end_at e t)).side side ≡ false → list_any (is_side (lane_side_of_end (dock_of l p o (end_at e t)).side)) (loop_sides l p o e) ≡ true)
      → IsLine l p o e (loop_line e (dock_of l p o (end_at e t)) side)
  loop_line_is e t side h loop level laned = step (is_side (dock_of l p o (end_at e t)).side side) refl
    where
      step : (b : Bool) → is_side (dock_of l p o (end_at e t)).side side ≡ b → IsLine l p o e (cond b (anchor_line (dock_of l p o (end_at e t))) (loop_lane e (lane_side_of_end (dock_of l p o (end_at e t)).side)))
      step true same = (h, (t, refl), side_level (dock_of l p o (end_at e t)).side side same level)
      step false other =
          (h, refl, loop_has_lane l p o e (lane_side_of_end (dock_of l p o (end_at e t)).side) h (spoke_there l e true ready.level h).child loop (end_upright (dock_of l p o (end_at e t)).side) (laned other))

  -- both lines of a net are lines of its edge
  pub a_line_is : (n : Name) → IsName l p o n → IsLine l p o (edge_of p n) (a_line l p o n)
  a_line_is (of_link k) h = tail_line_is k h
  a_line_is (of_dock n) h = dock_line_is n.edge n.at_source h.0 h.1
  a_line_is (of_loop e side) h =
      ⊎_elim
      (λ (west : (side ≡ West) × (left_passed l p o e ≡ true)). rw west.0 (loop_line_is e true West h.0 h.1 (inl refl) (source_left (dock_of l p o (end_at e true)).side (dock_of l p o (end_at e false)).side (has_one_dock l p o e) west.1)))
      (λ (east : (side ≡ East) × (right_passed l p o e ≡ true)). rw east.0 (loop_line_is e true East h.0 h.1 (inr refl) (source_right (dock_of l p o (end_at e true)).side (dock_of l p o (end_at e false)).side (has_one_dock l p o e) east.1)))
      h.2

  pub b_line_is : (n : Name) → IsName l p o n → IsLine l p o (edge_of p n) (b_line l p o n)
  b_line_is (of_link k) h = head_line_is k h
  b_line_is (of_dock n) h = anchor_line_is n.edge n.at_source h.0 h.1
  b_line_is (of_loop e side) h =
      ⊎_elim
      (λ (west : (side ≡ West) × (left_passed l p o e ≡ true)). rw west.0 (loop_line_is e false West h.0 h.1 (inl refl) (target_left (dock_of l p o (end_at e true)).side (dock_of l p o (end_at e false)).side (has_one_dock l p o e) west.1)))
      (λ (east : (side ≡ East) × (right_passed l p o e ≡ true)). rw east.0 (loop_line_is e false East h.0 h.1 (inr refl) (target_right (dock_of l p o (end_at e true)).side (dock_of l p o (end_at e false)).side (has_one_dock l p o e) east.1)))
      h.2

  net_line_is : (e : ℕ) (m : Line) → on_nets l p o e m ≡ true → IsLine l p o e m
  net_line_is e m h =
      let f = any_has (λ n. eqb (edge_of p n) e && (line_eq (a_line l p o n) m || line_eq (b_line l p o n) m)) (all_names l p o) h in
      let named = name_is l p o f.0 f.1 in
      let q = and_parts (eqb (edge_of p f.0) e) (line_eq (a_line l p o f.0) m || line_eq (b_line l p o f.0) m) f.2 in
      subst (λ z. IsLine l p o z m) (eqb-true (edge_of p f.0) e q.0)
      (⊎_elim
      (λ a. subst (IsLine l p o (edge_of p f.0)) (line_eq-same (a_line l p o f.0) m a) (a_line_is f.0 named))
      (λ b. subst (IsLine l p o (edge_of p f.0)) (line_eq-same (b_line l p o f.0) m b) (b_line_is f.0 named))
      (or_cases (line_eq (a_line l p o f.0) m) (line_eq (b_line l p o f.0) m) q.1))

  own_anchor_is : (e : ℕ) (t : Bool) (m : Line) → e < length l.edges → is_anchor_line (dock_of l p o (end_at e t)) m ≡ true → IsLine l p o e m
  own_anchor_is e t m h a =
      let q = and_parts (not (is_upright (dock_of l p o (end_at e t)).side)) (line_eq (anchor_line (dock_of l p o (end_at e t))) m) a in
      subst (IsLine l p o e) (line_eq-same (anchor_line (dock_of l p o (end_at e t))) m q.1) (h, (t, refl), not-true (is_upright (dock_of l p o (end_at e t)).side) q.0)

  own_lane_is : (e : ℕ) (m : Line) → e < length l.edges → is_loop l e ≡ true → list_any (λ side. line_eq (loop_lane e side) m) (loop_sides l p o e) ≡ true → IsLine l p o e m
  own_lane_is e m h loop a =
      let f = any_has (λ side. line_eq (loop_lane e side) m) (loop_sides l p o e) a in
      let there : list_any (is_side f.0) (loop_sides l p o e) ≡ true = has_any (is_side f.0) (loop_sides l p o e) f.0 f.1 (side_itself f.0) in
      subst (IsLine l p o e) (line_eq-same (loop_lane e f.0) m f.2)
      (h, refl, loop_has_lane l p o e f.0 h (spoke_there l e true ready.level h).child loop (lane_upright (dock_of l p o (end_at e true)).side (dock_of l p o (end_at e false)).side f.0 (has_one_dock l p o e) there) there)

  -- each line in use is a line of its edge
  pub line_is : (e : ℕ) (m : Line) → is_in_use l p o e m ≡ true → IsLine l p o e m
  line_is e m h =
      ⊎_elim
      (λ early. ⊎_elim (λ net. net_line_is e m net) (λ anchor. anchors anchor) (or_cases ((on_nets l p o e m)) (nat_lt e (length l.edges) && (is_anchor_line (dock_of l p o (end_at e true)) m || is_anchor_line (dock_of l p o (end_at e false)) m)) early))
      (λ lane. lanes lane)
      (or_cases ((on_nets l p o e m) || (nat_lt e (length l.edges) && (is_anchor_line (dock_of l p o (end_at e true)) m || is_anchor_line (dock_of l p o (end_at e false)) m))) (nat_lt e (length l.edges) && is_loop l e && list_any (λ side. line_eq (loop_lane e side) m) (loop_sides l p o e)) h)
    where
      anchors : (nat_lt e (length l.edges) && (is_anchor_line (dock_of l p o (end_at e true)) m || is_anchor_line (dock_of l p o (end_at e false)) m)) ≡ true → IsLine l p o e m
      anchors a =
          let q = and_parts (nat_lt e (length l.edges)) (is_anchor_line (dock_of l p o (end_at e true)) m || is_anchor_line (dock_of l p o (end_at e false)) m) a in
          ⊎_elim (own_anchor_is e true m (ltb-true e (length l.edges) q.0)) (own_anchor_is e false m (ltb-true e (length l.edges) q.0)) (or_cases (is_anchor_line (dock_of l p o (end_at e true)) m) (is_anchor_line (dock_of l p o (end_at e false)) m) q.1)

      lanes : (nat_lt e (length l.edges) && is_loop l e && list_any (λ side. line_eq (loop_lane e side) m) (loop_sides l p o e)) ≡ true → IsLine l p o e m
      lanes a =
          let q = and_parts (nat_lt e (length l.edges) && is_loop l e) (list_any (λ side. line_eq (loop_lane e side) m) (loop_sides l p o e)) a in
          let r = and_parts (nat_lt e (length l.edges)) (is_loop l e) q.0 in
          own_lane_is e m (ltb-true e (length l.edges) r.0) r.1 q.1
