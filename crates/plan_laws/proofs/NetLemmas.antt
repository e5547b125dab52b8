-- Each pin of a net is the end of a line of the net's edge, at the border of the column beside the gap.
use Rattle.std.proofs.Common.{◌≡◌, ◌⊎◌, inl, inr, ⊎_elim, ℕ, ◌+◌, ◌<◌, eqb, cond, Bool, true, false, not, ◌||◌, List, length, refl, sym, subst, ap, ◌∙◌}
use Rattle.std.proofs.lemmas.Bool.{and_parts, or_left, or_right, or_parts, eqb-true}
use Rattle.std.proofs.lemmas.List.{get_or-map, length-map}
use Rattle.drawing_types.specs.declared.shape.Side.{Side}
use Rattle.drawing_types.specs.declared.shape.Side.TheVariants.{North, East, South, West}
use Rattle.drawing_types.specs.declared.shape.Dock.{Dock}
use Rattle.drawing_types.specs.Shapes.{is_side}
use Rattle.elk_layers.specs.Layered.{link_at, layer_of}
use Rattle.self_loops.specs.Loops.{is_upright}
use Rattle.net_routes.specs.declared.Pin.{Pin}
use Rattle.net_routes.specs.Pieces.{net_at}
use Rattle.net_routes.specs.GapFree.{HasPin}
use Rattle.route_lines.specs.Points.{gap_in}
use Rattle.level_model.specs.Stage.{Line, anchor_line, dock_lane, loop_lane, long_lane, Reaches, IsPinOf, NetsStand}
use Rattle.level_model.specs.Level.{PlainLevel, PlainPlan, Orders, End, end_at, edge_at, spoke, is_loop, enters, tail_end, head_end, dock_of}
use Rattle.level_model.specs.Lanes.{line_eq}
use Rattle.level_model.specs.Nets.{Name, of_link, of_dock, of_loop, unit_of, unit_of_line, gap_beside, gap_of, edge_of, inverts, is_inverted, line_of_end, tail_line, head_line, loop_line, lane_side_of_end, a_line, b_line, a_on_left, b_on_left, net_of, all_names, names_in, nets_in}
use Rattle.level_model.specs.FromPlan.{LevelDrawing, IsDrawnFrom}
use Rattle.level_model.specs.Drawing.{stage, name_at}
use Rattle.level_model.specs.Ready.{IsReady}
use Rattle.level_model.proofs.Lists.{Has, filter_has, has_at}
use Rattle.level_model.proofs.SameLines.{line_eq-self}
use Rattle.level_model.proofs.LinkLemmas.{Ends, at_child_unit, at_lane, tail_ends, head_ends, no_loop, tail_leaves, head_enters}
use Rattle.level_model.proofs.NameLemmas.{IsName, name_is}
use Rattle.level_model.proofs.LineLemmas.{on_unit}
use Rattle.level_model.proofs.GapLemmas.{gap_free}
use Rattle.plan_laws.proofs.NetNames.{joined_in_use}
use Rattle.port_order.proofs.OrderLemmas.{side_same}

-- The line leads to a gap: from the column before the gap by the gap's left border, from the one behind it by its right.
pub record Leads (l : PlainLevel) (p : PlainPlan) (g : ℕ) (on_left : Bool) (m : Line) : Type 0 where
  pub left : on_left ≡ true → (layer_of p.layered (unit_of_line l p m) + 1 ≡ g) × Reaches East m
  pub right : on_left ≡ false → (layer_of p.layered (unit_of_line l p m) ≡ g) × Reaches West m

leads_left : (l : PlainLevel) (p : PlainPlan) (g : ℕ) (m : Line) → layer_of p.layered (unit_of_line l p m) + 1 ≡ g → Reaches East m → Leads l p g true m
leads_left l p g m layer reaches = record { left = λ e. (layer, reaches); right = λ e. absurd cc }

leads_right : (l : PlainLevel) (p : PlainPlan) (g : ℕ) (m : Line) → layer_of p.layered (unit_of_line l p m) ≡ g → Reaches West m → Leads l p g false m
leads_right l p g m layer reaches = record { left = λ e. absurd cc; right = λ e. (layer, reaches) }

-- an anchor that is neither on the north or south side nor inverted faces the way of the edge
leaves_east : (side : Side) (b : Bool) → b ≡ false → is_upright side ≡ false → inverts side b ≡ false → side ≡ East
leaves_east North b e u i = absurd cc
leaves_east East b e u i = refl
leaves_east South b e u i = absurd cc
leaves_east West true e u i = absurd cc
leaves_east West false e u i = absurd cc

enters_west : (side : Side) (b : Bool) → b ≡ true → is_upright side ≡ false → inverts side b ≡ false → side ≡ West
enters_west North b e u i = absurd cc
enters_west East true e u i = absurd cc
enters_west East false e u i = absurd cc
enters_west South b e u i = absurd cc
enters_west West b e u i = refl

module _ (l : PlainLevel) (p : PlainPlan) (o : Orders) (layers : List ℕ) (ready : IsReady l p o layers) where
  end_reaches : (n : End) (side : Side) → (is_upright (dock_of l p o n).side ≡ false → is_inverted l p o n ≡ false → (dock_of l p o n).side ≡ side) → Reaches side (line_of_end l p o n)
  end_reaches n side faces = step (is_upright (dock_of l p o n).side || is_inverted l p o n) refl
    where
      step : (b : Bool) → (is_upright (dock_of l p o n).side || is_inverted l p o n) ≡ b → Reaches side (cond b (dock_lane (dock_of l p o n)) (anchor_line (dock_of l p o n)))
      step true e = tt
      step false e = let q = or_parts (is_upright (dock_of l p o n).side) (is_inverted l p o n) e in faces q.0 q.1

  end_unit : (n : End) → unit_of_line l p (line_of_end l p o n) ≡ unit_of p (spoke l n).child
  end_unit n = step (is_upright (dock_of l p o n).side || is_inverted l p o n)
    where
      step : (b : Bool) → unit_of_line l p (cond b (dock_lane (dock_of l p o n)) (anchor_line (dock_of l p o n))) ≡ unit_of p (spoke l n).child
      step true = refl
      step false = refl

  not_inverted : (n : End) → is_loop l n.edge ≡ false → is_inverted l p o n ≡ false → inverts (dock_of l p o n).side (enters p n) ≡ false
  not_inverted n loop e = rw loop at e

  tail_leads : (k : ℕ) → k < length p.layered.links → Leads l p (layer_of p.layered (link_at p.layered.links k).head) true (tail_line l p o k)
  tail_leads k h = step (tail_ends l p layers ready.level ready.units.linked ready.sound ready.layers_are k h)
    where
      next : layer_of p.layered (link_at p.layered.links k).tail + 1 ≡ layer_of p.layered (link_at p.layered.links k).head
      next = sym ((ready.sound.links_are k h).next_layer)

      step : Ends p (link_at p.layered.links k).edge (link_at p.layered.links k).tail (spoke l (tail_end p (link_at p.layered.links k).edge)).child → Leads l p (layer_of p.layered (link_at p.layered.links k).head) true (tail_line l p o k)
      step (at_child_unit child same) =
          let n = tail_end p (link_at p.layered.links k).edge in
          rw child
          (leads_left l p _ (line_of_end l p o n) (ap (λ u. layer_of p.layered u + 1) (end_unit n ∙ sym same) ∙ next)
          (end_reaches n East (λ u i. leaves_east (dock_of l p o n).side (enters p n) (tail_leaves p (link_at p.layered.links k).edge) u (not_inverted n (no_loop l p o layers ready k h) i))))
      step (at_lane lane own) = rw lane (leads_left l p _ (long_lane (link_at p.layered.links k).tail) next tt)

  head_leads : (k : ℕ) → k < length p.layered.links → Leads l p (layer_of p.layered (link_at p.layered.links k).head) false (head_line l p o k)
  head_leads k h = step (head_ends l p layers ready.level ready.units.linked ready.sound ready.layers_are k h)
    where
      step : Ends p (link_at p.layered.links k).edge (link_at p.layered.links k).head (spoke l (head_end p (link_at p.layered.links k).edge)).child → Leads l p (layer_of p.layered (link_at p.layered.links k).head) false (head_line l p o k)
      step (at_child_unit child same) =
          let n = head_end p (link_at p.layered.links k).edge in
          rw child
          (leads_right l p _ (line_of_end l p o n) (ap (layer_of p.layered) (end_unit n ∙ sym same))
          (end_reaches n West (λ u i. enters_west (dock_of l p o n).side (enters p n) (head_enters p (link_at p.layered.links k).edge) u (not_inverted n (no_loop l p o layers ready k h) i))))
      step (at_lane lane own) = rw lane (leads_right l p _ (long_lane (link_at p.layered.links k).head) refl tt)

  -- an inverted dock lies on the east or west side
  beside_leads : (side : Side) (c : ℕ) (m : Line) → unit_of_line l p m ≡ unit_of p c → (side ≡ East) ⊎ (side ≡ West) → Reaches side m → Leads l p (gap_beside p c side) (is_side side East) m
  beside_leads side c m unit level reaches =
      ⊎_elim
      (λ (east : side ≡ East). subst (λ z. Leads l p (gap_beside p c z) (is_side z East) m) (sym east) (leads_left l p _ m (ap (λ u. layer_of p.layered u + 1) unit) (subst (λ z. Reaches z m) east reaches)))
      (λ (west : side ≡ West). subst (λ z. Leads l p (gap_beside p c z) (is_side z East) m) (sym west) (leads_right l p _ m (ap (layer_of p.layered) unit) (subst (λ z. Reaches z m) west reaches)))
      level

  inverted_level : (side : Side) (b : Bool) → inverts side b ≡ true → (side ≡ East) ⊎ (side ≡ West)
  inverted_level North b h = absurd cc
  inverted_level East b h = inl refl
  inverted_level South b h = absurd cc
  inverted_level West b h = inr refl

  loop_reaches : (e : ℕ) (d : Dock) (side : Side) → Reaches side (loop_line e d side)
  loop_reaches e d side = step (is_side d.side side) refl
    where
      step : (b : Bool) → is_side d.side side ≡ b → Reaches side (cond b (anchor_line d) (loop_lane e (lane_side_of_end d.side)))
      step true same = side_same d.side side same
      step false other = tt

  loop_unit : (e : ℕ) (d : Dock) (side : Side) → d.node ≡ (edge_at l e).source.child → unit_of_line l p (loop_line e d side) ≡ unit_of p (edge_at l e).source.child
  loop_unit e d side node = step (is_side d.side side)
    where
      step : (b : Bool) → unit_of_line l p (cond b (anchor_line d) (loop_lane e (lane_side_of_end d.side))) ≡ unit_of p (edge_at l e).source.child
      step true = ap (unit_of p) node
      step false = refl

  passed_level : (e : ℕ) (side : Side) → IsName l p o (of_loop e side) → (side ≡ East) ⊎ (side ≡ West)
  passed_level e side h = ⊎_elim (λ west. inr west.0) (λ east. inl east.0) h.2

  a_leads : (n : Name) → IsName l p o n → Leads l p (gap_of l p o n) (a_on_left l p o n) (a_line l p o n)
  a_leads (of_link k) h = tail_leads k h
  a_leads (of_dock n) h =
      beside_leads (dock_of l p o n).side (spoke l n).child (dock_lane (dock_of l p o n)) refl (inverted_level (dock_of l p o n).side (enters p n) (and_parts (not (is_loop l n.edge)) (inverts (dock_of l p o n).side (enters p n)) h.1).1) tt
  a_leads (of_loop e side) h =
      beside_leads side (edge_at l e).source.child (loop_line e (dock_of l p o (end_at e true)) side) (loop_unit e (dock_of l p o (end_at e true)) side refl) (passed_level e side h) (loop_reaches e (dock_of l p o (end_at e true)) side)

  b_leads : (n : Name) → IsName l p o n → Leads l p (gap_of l p o n) (b_on_left l p o n) (b_line l p o n)
  b_leads (of_link k) h = head_leads k h
  b_leads (of_dock n) h =
      beside_leads (dock_of l p o n).side (spoke l n).child (anchor_line (dock_of l p o n)) refl (inverted_level (dock_of l p o n).side (enters p n) (and_parts (not (is_loop l n.edge)) (inverts (dock_of l p o n).side (enters p n)) h.1).1) refl
  b_leads (of_loop e side) h =
      beside_leads side (edge_at l e).source.child (loop_line e (dock_of l p o (end_at e false)) side) (loop_unit e (dock_of l p o (end_at e false)) side (sym (eqb-true (edge_at l e).source.child (edge_at l e).target.child h.1))) (passed_level e side h) (loop_reaches e (dock_of l p o (end_at e false)) side)

  module _ (d : LevelDrawing) (drawn : IsDrawnFrom l p o d) where
    pin_of : (n : Name) (g : ℕ) (on_left : Bool) (m : Line) (z : Pin) → Has (all_names l p o) n → gap_of l p o n ≡ g → (line_eq (a_line l p o n) m || line_eq (b_line l p o n) m) ≡ true
        → Leads l p (gap_of l p o n) on_left m → record { on_left = on_left; height = (stage l p o d).height m } ≡ z → IsPinOf (stage l p o d) (edge_of p n) g z
    pin_of n g on_left m z h gap one leads is =
        subst (IsPinOf (stage l p o d) (edge_of p n) g) is
        (record {
          line = m;
          in_use = joined_in_use l p o n m h one;
          height = refl;
          left = λ e. let q = leads.left e in (ap (λ u. layer_of p.layered u + 1) (on_unit l p o d m) ∙ q.0 ∙ gap, q.1);
          right = λ e. let q = leads.right e in (ap (layer_of p.layered) (on_unit l p o d m) ∙ q.0 ∙ gap, q.1);
        })

    name_pin : (n : Name) (g : ℕ) (z : Pin) → Has (names_in l p o g) n → HasPin (net_of l p o d.top n) z → IsPinOf (stage l p o d) (edge_of p n) g z
    name_pin n g z h pin =
        let q = filter_has (λ k. eqb (gap_of l p o k) g) (all_names l p o) n h in
        let gap = eqb-true (gap_of l p o n) g q.1 in
        let known = name_is l p o n q.0 in
        ⊎_elim
        (λ a. pin_of n g (a_on_left l p o n) (a_line l p o n) z q.0 gap (or_left (line_eq (a_line l p o n) (a_line l p o n)) (line_eq (b_line l p o n) (a_line l p o n)) (line_eq-self (a_line l p o n))) (a_leads n known) a)
        (λ b. pin_of n g (b_on_left l p o n) (b_line l p o n) z q.0 gap (or_right (line_eq (a_line l p o n) (b_line l p o n)) (line_eq (b_line l p o n) (b_line l p o n)) (line_eq-self (b_line l p o n))) (b_leads n known) b)
        pin

    pub nets_stand : (g : ℕ) → g < length d.gaps → NetsStand (stage l p o d) g
    nets_stand g h =
        let gap = drawn.gaps g h in
        record { free = gap_free l p o d g gap; pins = pins gap.nets }
      where
        pins : (gap_in d.gaps g).nets ≡ nets_in l p o d.top g → (k : ℕ) (z : Pin) → k < length (gap_in d.gaps g).nets → HasPin (net_at (gap_in d.gaps g).nets k) z → IsPinOf (stage l p o d) ((stage l p o d).net_edge g k) g z
        pins nets k z less pin =
            let known : k < length (names_in l p o g) = subst (λ n. k < n) (ap length nets ∙ length-map (names_in l p o g) (net_of l p o d.top)) less in
            let here : net_at (gap_in d.gaps g).nets k ≡ net_of l p o d.top (name_at (names_in l p o g) k) = ap (λ ns. net_at ns k) nets ∙ get_or-map (net_of l p o d.top) (names_in l p o g) k (of_link 0) _ known in
            name_pin (name_at (names_in l p o g) k) g z (has_at (names_in l p o g) k (of_link 0) known) (subst (λ n. HasPin n z) here pin)
