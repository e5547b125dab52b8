-- The line of an end lies within the unit of its child, by the orders of sides alone.
use Rattle.std.proofs.Common.{◌≡◌, ℕ, ◌<◌, Bool, true, false, not, ◌&&◌, ◌||◌, cond, length, refl, sym, ap, ◌∙◌}
use Rattle.std.proofs.lemmas.Bool.{or_parts}
use Rattle.self_loops.specs.Loops.{is_upright}
use Rattle.level_model.specs.Stage.{anchor_line, dock_lane}
use Rattle.level_model.specs.Conditions.{IsLevel}
use Rattle.level_model.specs.Level.{PlainLevel, PlainPlan, Orders, End, end_at, enters, spoke, dock_of, is_loop}
use Rattle.level_model.specs.Lanes.{lane_side, unit_height}
use Rattle.level_model.specs.Nets.{below_top, inverts, is_inverted, line_of_end}
use Rattle.level_model.specs.Units.{AreOrders}
use Rattle.level_model.proofs.SpotLemmas.{spoke_there}
use Rattle.level_model.proofs.LaneLemmas.{end_lane}
use Rattle.level_model.proofs.LaneHeights.{IsUpTo, lane_within}
use Rattle.level_model.proofs.LineLemmas.{anchor_within}

-- an edge that is no self-loop is inverted where its dock is
pub inverted_is : (l : PlainLevel) (p : PlainPlan) (o : Orders) (n : End) → is_loop l n.edge ≡ false
    → (is_upright (dock_of l p o n).side || is_inverted l p o n) ≡ (is_upright (dock_of l p o n).side || inverts (dock_of l p o n).side (enters p n))
inverted_is l p o n loop = ap (λ b. is_upright (dock_of l p o n).side || (not b && inverts (dock_of l p o n).side (enters p n))) loop

pub end_within : (l : PlainLevel) (p : PlainPlan) (o : Orders) (level : IsLevel l) (orders : AreOrders l p o) (e : ℕ) (t : Bool) → e < length l.edges → is_loop l e ≡ false
    → IsUpTo (unit_height l p o (spoke l (end_at e t)).child) (below_top l p o (line_of_end l p o (end_at e t)))
end_within l p o level orders e t h loop = step (is_upright (dock_of l p o (end_at e t)).side || is_inverted l p o (end_at e t)) refl
  where
    step : (b : Bool) → (is_upright (dock_of l p o (end_at e t)).side || is_inverted l p o (end_at e t)) ≡ b
        → IsUpTo (unit_height l p o (spoke l (end_at e t)).child) (below_top l p o (cond b (dock_lane (dock_of l p o (end_at e t))) (anchor_line (dock_of l p o (end_at e t)))))
    step true lies =
        lane_within l p o level orders (spoke l (end_at e t)).child (lane_side l (dock_of l p o (end_at e t))) (dock_lane (dock_of l p o (end_at e t)))
        (end_lane l p o e t level h (spoke_there l e t level h).child loop (sym (inverted_is l p o (end_at e t) loop) ∙ lies))
    step false lies = anchor_within l p o level orders e t h (or_parts (is_upright (dock_of l p o (end_at e t)).side) (is_inverted l p o (end_at e t)) lies).0
