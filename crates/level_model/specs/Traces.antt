-- The lanes and nets that the route of each edge passes.
use Rattle.std.specs.Prelude.{ℕ, ◌==◌, cond, Bool, true, false, not, ◌&&◌, List, [], ◌∷◌, ◌++◌, ℤ, ◌-ℤ◌, reverse, map, length}
use Rattle.std.specs.List.{filter, range_with_len}
use Rattle.drawing_types.specs.declared.shape.Side.{Side}
use Rattle.drawing_types.specs.declared.shape.Side.TheVariants.{North, East, South, West}
use Rattle.elk_layers.specs.Layered.{link_at, layer_of}
use Rattle.self_loops.specs.Loops.{is_upright, way}
use Rattle.route_lines.specs.declared.Step.{Step}
use Rattle.route_lines.specs.declared.Step.TheVariants.{Lane, Leg}
use Rattle.level_model.specs.Stage.{Line, dock_lane, loop_lane, long_lane}
use Rattle.level_model.specs.Level.{PlainLevel, PlainPlan, Orders, End, end_at, tail_end, head_end, holds, is_loop, dock_of}
use Rattle.level_model.specs.Lanes.{has_one_dock}
use Rattle.level_model.specs.Nets.{Name, of_link, of_dock, of_loop, height_of, gap_of, names_in, place_of_name, is_inverted}

-- the step along a line, and the step through a net
abbrev pub lane_step : PlainLevel → PlainPlan → Orders → ℤ → Line → Step
lane_step l p o shift m = Lane (height_of l p o m -ℤ shift)

abbrev pub leg_step : PlainLevel → PlainPlan → Orders → Name → Bool → Step
leg_step l p o n from_a = Leg (gap_of l p o n) (place_of_name (names_in l p o (gap_of l p o n)) n) from_a

-- From a dock at which the edge leaves, to the tail of its first link: through the dock's lane where it has one, and
-- before that through the gap beside an inverted dock.
abbrev pub leaving : PlainLevel → PlainPlan → Orders → ℤ → End → Bool → Bool → List Step
leaving l p o shift n true upright = leg_step l p o (of_dock n) false ∷ lane_step l p o shift (dock_lane (dock_of l p o n)) ∷ []
leaving l p o shift n false true = lane_step l p o shift (dock_lane (dock_of l p o n)) ∷ []
leaving l p o shift n false false = []

-- the same from the head of the last link to a dock that the edge enters
abbrev pub entering : PlainLevel → PlainPlan → Orders → ℤ → End → Bool → Bool → List Step
entering l p o shift n true upright = lane_step l p o shift (dock_lane (dock_of l p o n)) ∷ leg_step l p o (of_dock n) true ∷ []
entering l p o shift n false true = lane_step l p o shift (dock_lane (dock_of l p o n)) ∷ []
entering l p o shift n false false = []

-- the links of an edge, from its tail to its head
abbrev pub links_at : PlainPlan → ℕ → ℕ → List ℕ
links_at p e r =
    filter (λ k. ((link_at p.layered.links k).edge == e) && (layer_of p.layered (link_at p.layered.links k).tail == r))
    (range_with_len 0 (length p.layered.links))

abbrev pub links_from : PlainPlan → ℕ → List ℕ → List ℕ
links_from p e [] = []
links_from p e (r ∷ rs) = links_at p e r ++ links_from p e rs

abbrev pub chain : PlainPlan → ℕ → List ℕ
chain p e = links_from p e (range_with_len 0 p.layers)

-- the legs of a chain, and the lanes of the long edge between them
abbrev pub chain_steps : PlainLevel → PlainPlan → Orders → ℤ → List ℕ → List Step
chain_steps l p o shift [] = []
chain_steps l p o shift (k ∷ []) = leg_step l p o (of_link k) true ∷ []
chain_steps l p o shift (k ∷ j ∷ ks) =
    leg_step l p o (of_link k) true ∷ lane_step l p o shift (long_lane (link_at p.layered.links k).head) ∷ chain_steps l p o shift (j ∷ ks)

-- from the tail to the head of the oriented edge
abbrev pub oriented_steps : PlainLevel → PlainPlan → Orders → ℤ → ℕ → List Step
oriented_steps l p o shift e =
    leaving l p o shift (tail_end p e) (is_inverted l p o (tail_end p e)) (is_upright (dock_of l p o (tail_end p e)).side)
    ++ chain_steps l p o shift (chain p e)
    ++ entering l p o shift (head_end p e) (is_inverted l p o (head_end p e)) (is_upright (dock_of l p o (head_end p e)).side)

-- the steps the other way
abbrev pub reversed_step : Step → Step
reversed_step (Lane h) = Lane h
reversed_step (Leg g n from_a) = Leg g n (not from_a)

abbrev pub reversed_steps : List Step → List Step
reversed_steps steps = reverse (map reversed_step steps)

-- the step of a self-loop on a side of its child: along its lane above or below, or through its net in the gap beside it
abbrev pub loop_step : PlainLevel → PlainPlan → Orders → ℤ → ℕ → Side → Step
loop_step l p o shift e North = lane_step l p o shift (loop_lane e North)
loop_step l p o shift e East = leg_step l p o (of_loop e East) true
loop_step l p o shift e South = lane_step l p o shift (loop_lane e South)
loop_step l p o shift e West = leg_step l p o (of_loop e West) true

-- the steps of a self-loop, by the sides of its two docks
abbrev pub loop_steps : PlainLevel → PlainPlan → Orders → ℤ → ℕ → Side → Side → List Step
loop_steps l p o shift e s t = map (loop_step l p o shift e) (way s t)

-- the steps of an edge from its source to its target; none for a self-loop at one dock
abbrev pub steps_of : PlainLevel → PlainPlan → Orders → ℤ → ℕ → List Step
steps_of l p o shift e =
    cond (is_loop l e)
    (cond (has_one_dock l p o e) [] (loop_steps l p o shift e (dock_of l p o (end_at e true)).side (dock_of l p o (end_at e false)).side))
    (cond (holds p.reversed e) (reversed_steps (oriented_steps l p o shift e)) (oriented_steps l p o shift e))
