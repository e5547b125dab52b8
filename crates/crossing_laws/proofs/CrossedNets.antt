-- In the drawing of a level the slots of a gap stand within its borders, so nets cross as often as their routes do by their slots.
use Rattle.std.proofs.Common.{◌≡◌, ℕ, ◌+◌, ◌<◌, true, false, List, ℤ, pos, ◌<ℤ◌, length, subst, arith}
use Rattle.std.proofs.lemmas.Int.{ints}
use Rattle.elk_doc.specs.Sound.{IsDistance}
use Rattle.net_routes.specs.declared.Pin.{Pin}
use Rattle.net_routes.specs.Pieces.{slot, net_at}
use Rattle.net_routes.specs.GapFree.{HasPin}
use Rattle.route_lines.specs.Points.{gap_in, stand}
use Rattle.crossing_laws.specs.Crossed.{IsSpread}
use Rattle.level_model.specs.Level.{PlainLevel, PlainPlan, Orders}
use Rattle.level_model.specs.FromPlan.{LevelDrawing, IsDrawnFrom}
use Rattle.level_model.specs.Ready.{IsReady}
use Rattle.level_model.specs.Stage.{unit_of_line, Stands}
use Rattle.level_model.specs.Drawing.{stage}
use Rattle.level_model.proofs.GapLemmas.{gap_free}
use Rattle.crossing_laws.proofs.Crossing.{nets_cross_as_drawn}
use Rattle.crossing_laws.specs.Drawn.{DrawnNetsCross}
use Rattle.plan_laws.proofs.Whole.{stage_stands}

step_up : (x y : ℤ) → x ≡ y → IsDistance y → pos 0 <ℤ x
step_up x y e w = let low = w.above in omega (arith, ints, e, low)

module _ (l : PlainLevel) (p : PlainPlan) (o : Orders) (d : LevelDrawing) (stands : Stands (stage l p o d)) (g : ℕ) (there : g < length d.gaps) where
  right_of_border : (k u : ℕ) (q : Pin) → k < length (gap_in d.gaps g).nets → HasPin (net_at (gap_in d.gaps g).nets k) q → q.on_left ≡ true → u < (gap_in d.gaps g).count
      → (gap_in d.gaps g).left <ℤ stand (gap_in d.gaps g) (slot u)
  right_of_border k u q inside has e h =
      let pin = (stands.nets g there).pins k q inside has in
      let r = (stage l p o d).layer (unit_of_line (stage l p o d) pin.line) in
      let at : r + 1 ≡ g = (pin.left e).0 in
      let before : r < g = omega (arith, at) in
      subst (λ z. (gap_in d.gaps z).left <ℤ stand (gap_in d.gaps g) (slot u)) at
      ((stands.gap g there).slot_after r u before (stands.lines.column ((stage l p o d).net_edge g k) pin.line pin.in_use) h)

  left_of_border : (k u : ℕ) (q : Pin) → k < length (gap_in d.gaps g).nets → HasPin (net_at (gap_in d.gaps g).nets k) q → q.on_left ≡ false → u < (gap_in d.gaps g).count
      → stand (gap_in d.gaps g) (slot u) <ℤ (gap_in d.gaps g).right
  left_of_border k u q inside has e h =
      let pin = (stands.nets g there).pins k q inside has in
      let at = (pin.right e).0 in
      let column = subst (λ z. z < (stage l p o d).layers) at (stands.lines.column ((stage l p o d).net_edge g k) pin.line pin.in_use) in
      (stands.gap g there).slot_before g u (omega arith) column h

  pub spread : (layers : List ℕ) → IsReady l p o layers → IsDrawnFrom l p o d → IsSpread (gap_in d.gaps g)
  spread layers ready drawn =
      record {
        step = step_up _ _ (drawn.gaps g there).step ready.level.spacing.edge_edge_layers;
        left = right_of_border;
        right = left_of_border;
      }

pub drawn_nets_cross : DrawnNetsCross
drawn_nets_cross l p o d layers g j k from_a to_b ready drawn there j_in k_in =
    nets_cross_as_drawn (gap_in d.gaps g) j k from_a to_b (gap_free l p o d g (drawn.gaps g there)) (spread l p o d (stage_stands l p o d layers ready drawn) g there layers ready drawn) j_in k_in
