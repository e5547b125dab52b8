-- The steps of traces, read off the table of a level and the places of its nets.
use Rattle.std.specs.Prelude.{ℕ, cond, Bool, true, false, List, [], ◌∷◌, ◌++◌, map, ◌+ℤ◌, ◌-ℤ◌, slice_index}
use Rattle.drawing_types.specs.declared.shape.Point.{Point}
use Rattle.drawing_types.specs.declared.shape.Side.{Side}
use Rattle.drawing_types.specs.declared.shape.Side.TheVariants.{North, East, South, West}
use Rattle.elk_layers.specs.Layered.{unit_at, link_at, layer_of}
use Rattle.elk_layers.specs.Lines.{top_of}
use Rattle.self_loops.specs.Loops.{is_upright, way}
use Rattle.route_lines.specs.declared.Step.{Step}
use Rattle.route_lines.specs.declared.Step.TheVariants.{Lane, Leg}
use Rattle.route_lines.specs.Points.{PlainGap, gap_in}
use Rattle.level_model.specs.Level.{End, end_at, is_loop, holds, spoke, tail_end, head_end}
use Rattle.level_model.specs.Traces.{chain, reversed_steps}
use Rattle.level_model.specs.Table.{child_in, loop_in, end_number}
use Rattle.level_nets.specs.declared.routing.Routing.{Routing}
use Rattle.level_nets.specs.Parts.{Parts, plan_of}
use Rattle.level_nets.specs.Held.{legs_at}
use Rattle.level_nets.specs.Read.{at_end, dock_at, gap_at, below_unit, dock_inverts, is_one_dock}

-- the lane of an end's dock, and the net between that lane and the anchor
abbrev pub dock_lane_step : Parts → End → Step
dock_lane_step s n = Lane (below_unit s (dock_at s n) (at_end s n).lane)

abbrev pub dock_leg : Parts → Routing → End → Bool → Step
dock_leg s r n from_a = Leg (gap_at s (dock_at s n) (dock_at s n).side) (slice_index r.docks (end_number n)) from_a

-- from a dock to the first link of its edge, and from the last link to a dock
abbrev pub leaving : Parts → Routing → End → Bool → Bool → List Step
leaving s r n true upright = dock_leg s r n false ∷ dock_lane_step s n ∷ []
leaving s r n false true = dock_lane_step s n ∷ []
leaving s r n false false = []

abbrev pub entering : Parts → Routing → End → Bool → Bool → List Step
entering s r n true upright = dock_lane_step s n ∷ dock_leg s r n true ∷ []
entering s r n false true = dock_lane_step s n ∷ []
entering s r n false false = []

-- the links of an edge and the lanes between them
abbrev pub link_leg : Parts → Routing → ℕ → Step
link_leg s r k = Leg (layer_of s.layered (link_at s.layered.links k).head) (slice_index r.links k) true

abbrev pub long_lane_step : Parts → ℕ → Step
long_lane_step s k = Lane (top_of s.tops (link_at s.layered.links k).head)

-- from a link over the lane that it enters to the next link
abbrev pub next_steps : Parts → Routing → ℕ → ℕ → List Step
next_steps s r k j = long_lane_step s k ∷ link_leg s r j ∷ []

abbrev pub chain_steps : Parts → Routing → List ℕ → List Step
chain_steps s r [] = []
chain_steps s r (k ∷ []) = link_leg s r k ∷ []
chain_steps s r (k ∷ j ∷ ks) = link_leg s r k ∷ long_lane_step s k ∷ chain_steps s r (j ∷ ks)

-- the links of an edge, from its tail to its head
unfoldable pub links_of : Parts → ℕ → List ℕ
links_of s e = chain (plan_of s []) e

abbrev pub steps_out : Parts → Routing → End → List Step
steps_out s r n = leaving s r n (dock_inverts s n) (is_upright (dock_at s n).side)

abbrev pub steps_in : Parts → Routing → End → List Step
steps_in s r n = entering s r n (dock_inverts s n) (is_upright (dock_at s n).side)

-- the end at which the oriented edge leaves, and the one at which it enters
abbrev pub tail_of : Parts → ℕ → End
tail_of s e = tail_end (plan_of s []) e

abbrev pub head_of : Parts → ℕ → End
head_of s e = head_end (plan_of s []) e

abbrev pub oriented_steps : Parts → Routing → ℕ → List Step
oriented_steps s r e = steps_out s r (tail_of s e) ++ chain_steps s r (links_of s e) ++ steps_in s r (head_of s e)

-- the lanes of a self-loop, and its nets in the gaps beside its child
abbrev pub loop_lane : Parts → ℕ → Side → Step
loop_lane s e South = Lane (below_unit s (dock_at s (end_at e true)) (loop_in s.table.loops e).south)
loop_lane s e _ = Lane (below_unit s (dock_at s (end_at e true)) (loop_in s.table.loops e).north)

abbrev pub loop_leg : Parts → Routing → ℕ → Side → Step
loop_leg s r e West = Leg (gap_at s (dock_at s (end_at e true)) West) (legs_at r.loops e).west true
loop_leg s r e _ = Leg (gap_at s (dock_at s (end_at e true)) East) (legs_at r.loops e).east true

-- the step of a self-loop on a side of its child
abbrev pub loop_step : Parts → Routing → ℕ → Side → Step
loop_step s r e North = loop_lane s e North
loop_step s r e East = loop_leg s r e East
loop_step s r e South = loop_lane s e South
loop_step s r e West = loop_leg s r e West

-- the steps of a self-loop from one side to the other
abbrev pub loop_steps : Parts → Routing → ℕ → Side → Side → List Step
loop_steps s r e from to = map (loop_step s r e) (way from to)

-- the steps of an edge from its source to its target
abbrev pub steps_of : Parts → Routing → ℕ → List Step
steps_of s r e =
    cond (is_loop s.level e)
    (cond (is_one_dock s e) [] (loop_steps s r e (dock_at s (end_at e true)).side (dock_at s (end_at e false)).side))
    (cond (holds s.reversed e) (reversed_steps (oriented_steps s r e)) (oriented_steps s r e))

-- the box of a child: its outline flush at the right border of the gap before its column, its top by its unit
abbrev pub box_at : Parts → List PlainGap → ℕ → Point
box_at s gaps c =
    let v = child_in s.table.children c in
    record {
      x = (gap_in gaps (layer_of s.layered v.unit)).right -ℤ v.outline.x;
      y = top_of s.tops v.unit +ℤ ((unit_at s.layered.units v.unit).body_top -ℤ v.outline.y);
    }

-- the point that lies so far from the corner of a box
abbrev pub point_from : Point → Point → Point
point_from corner by = record { x = corner.x +ℤ by.x; y = corner.y +ℤ by.y }

-- the anchor of an end, from the boxes
abbrev pub anchor_in : Parts → (ℕ → Point) → End → Point
anchor_in s boxes n = point_from (boxes (spoke s.level n).child) (at_end s n).anchor
