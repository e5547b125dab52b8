-- The steps of an edge, and the nets of a gap, after a further shift of the level.
use Rattle.std.proofs.Common.{◌≡◌, ℕ, Bool, true, false, cond, List, [], ◌∷◌, ◌++◌, map, ℤ, ◌+ℤ◌, ◌-ℤ◌, arith, refl, sym, ◌∙◌, ap, ap₂, reverse}
use Rattle.std.proofs.lemmas.Int.{ints}
use Rattle.std.proofs.lemmas.List.{map-append, reverse-append}
use Rattle.drawing_types.specs.declared.shape.Side.{Side}
use Rattle.drawing_types.specs.declared.shape.Side.TheVariants.{North, East, South, West}
use Rattle.net_routes.specs.declared.Pin.{Pin}
use Rattle.net_routes.specs.declared.Net.{Net}
use Rattle.self_loops.specs.Loops.{is_upright, way}
use Rattle.route_lines.specs.declared.Step.{Step}
use Rattle.route_lines.specs.declared.Step.TheVariants.{Lane, Leg}
use Rattle.elk_layers.specs.Layered.{link_at}
use Rattle.level_model.specs.Stage.{Line, dock_lane, loop_lane, long_lane}
use Rattle.level_model.specs.Level.{PlainLevel, PlainPlan, Orders, End, end_at, tail_end, head_end, holds, is_loop, dock_of}
use Rattle.level_model.specs.Lanes.{has_one_dock}
use Rattle.level_model.specs.Nets.{Name, of_link, of_dock, height_of, is_inverted, pin_at, net_of, nets_in, names_in, a_on_left, b_on_left, a_line, b_line}
use Rattle.level_model.specs.Traces.{lane_step, leg_step, leaving, entering, chain, chain_steps, oriented_steps, reversed_step, reversed_steps, loop_step, loop_steps, steps_of}
use Rattle.working_frame.specs.Moved.{moved_pin, moved_net, moved_step}

further : (h t y : ℤ) → h -ℤ (t +ℤ y) ≡ (h -ℤ t) -ℤ y
further h t y = omega (arith, ints)

map_reverse : {X Y : Type 0} (f : X → Y) (xs : List X) → map f (reverse xs) ≡ reverse (map f xs)
map_reverse f [] = refl
map_reverse f (x ∷ xs) =
    ap (map f) (reverse-append (x ∷ []) xs) ∙ map-append f (reverse xs) (x ∷ [])
    ∙ ap (λ zs. zs ++ f x ∷ []) (map_reverse f xs) ∙ sym (reverse-append (f x ∷ []) (map f xs))

module _ (l : PlainLevel) (p : PlainPlan) (o : Orders) (t y : ℤ) where
  abbrev move : List Step → List Step
  move steps = map (moved_step y) steps

  lane_moves : (m : Line) → lane_step l p o (t +ℤ y) m ≡ moved_step y (lane_step l p o t m)
  lane_moves m = ap Lane (further (height_of l p o m) t y)

  one_lane : (m : Line) → lane_step l p o (t +ℤ y) m ∷ [] ≡ move (lane_step l p o t m ∷ [])
  one_lane m = ap (λ s. s ∷ []) (lane_moves m)

  leaving_moves : (n : End) (inverted upright : Bool) → leaving l p o (t +ℤ y) n inverted upright ≡ move (leaving l p o t n inverted upright)
  leaving_moves n true upright = ap (λ s. leg_step l p o (of_dock n) false ∷ s ∷ []) (lane_moves (dock_lane (dock_of l p o n)))
  leaving_moves n false true = one_lane (dock_lane (dock_of l p o n))
  leaving_moves n false false = refl

  entering_moves : (n : End) (inverted upright : Bool) → entering l p o (t +ℤ y) n inverted upright ≡ move (entering l p o t n inverted upright)
  entering_moves n true upright = ap (λ s. s ∷ leg_step l p o (of_dock n) true ∷ []) (lane_moves (dock_lane (dock_of l p o n)))
  entering_moves n false true = one_lane (dock_lane (dock_of l p o n))
  entering_moves n false false = refl

  chain_moves : (ks : List ℕ) → chain_steps l p o (t +ℤ y) ks ≡ move (chain_steps l p o t ks)
  chain_moves [] = refl
  chain_moves (k ∷ []) = refl
  chain_moves (k ∷ j ∷ ks) =
      ap₂ (λ (s : Step) (steps : List Step). leg_step l p o (of_link k) true ∷ s ∷ steps)
      (lane_moves (long_lane (link_at p.layered.links k).head)) (chain_moves (j ∷ ks))

  abbrev steps_out : ℕ → ℤ → List Step
  steps_out e s = leaving l p o s (tail_end p e) (is_inverted l p o (tail_end p e)) (is_upright (dock_of l p o (tail_end p e)).side)

  abbrev steps_in : ℕ → ℤ → List Step
  steps_in e s = entering l p o s (head_end p e) (is_inverted l p o (head_end p e)) (is_upright (dock_of l p o (head_end p e)).side)

  oriented_moves : (e : ℕ) → oriented_steps l p o (t +ℤ y) e ≡ move (oriented_steps l p o t e)
  oriented_moves e =
      let out : steps_out e (t +ℤ y) ≡ move (steps_out e t) = leaving_moves (tail_end p e) (is_inverted l p o (tail_end p e)) (is_upright (dock_of l p o (tail_end p e)).side) in
      let into : steps_in e (t +ℤ y) ≡ move (steps_in e t) = entering_moves (head_end p e) (is_inverted l p o (head_end p e)) (is_upright (dock_of l p o (head_end p e)).side) in
      let first : steps_out e (t +ℤ y) ++ chain_steps l p o (t +ℤ y) (chain p e) ≡ move (steps_out e t ++ chain_steps l p o t (chain p e)) =
      ap₂ (λ (a b : List Step). a ++ b) out (chain_moves (chain p e)) ∙ sym (map-append (moved_step y) (steps_out e t) (chain_steps l p o t (chain p e))) in
      ap₂ (λ (a b : List Step). a ++ b) first into ∙ sym (map-append (moved_step y) (steps_out e t ++ chain_steps l p o t (chain p e)) (steps_in e t))

  rotate_moves : (steps : List Step) → map reversed_step (move steps) ≡ move (map reversed_step steps)
  rotate_moves [] = refl
  rotate_moves (Lane h ∷ steps) = ap (λ rest. Lane (h -ℤ y) ∷ rest) (rotate_moves steps)
  rotate_moves (Leg g n from_a ∷ steps) = ap (λ rest. reversed_step (Leg g n from_a) ∷ rest) (rotate_moves steps)

  rotated_moves : (steps : List Step) → reversed_steps (move steps) ≡ move (reversed_steps steps)
  rotated_moves steps = ap reverse (rotate_moves steps) ∙ sym (map_reverse (moved_step y) (map reversed_step steps))

  loop_step_moves : (e : ℕ) (side : Side) → loop_step l p o (t +ℤ y) e side ≡ moved_step y (loop_step l p o t e side)
  loop_step_moves e North = lane_moves (loop_lane e North)
  loop_step_moves e East = refl
  loop_step_moves e South = lane_moves (loop_lane e South)
  loop_step_moves e West = refl

  along_moves : (e : ℕ) (sides : List Side) → map (loop_step l p o (t +ℤ y) e) sides ≡ move (map (loop_step l p o t e) sides)
  along_moves e [] = refl
  along_moves e (side ∷ sides) = ap₂ (λ (s : Step) (steps : List Step). s ∷ steps) (loop_step_moves e side) (along_moves e sides)

  loop_moves : (e : ℕ) (from to : Side) → loop_steps l p o (t +ℤ y) e from to ≡ move (loop_steps l p o t e from to)
  loop_moves e from to = along_moves e (way from to)

  either : (b : Bool) (u v u' v' : List Step) → u' ≡ move u → v' ≡ move v → cond b u' v' ≡ move (cond b u v)
  either true u v u' v' f g = f
  either false u v u' v' f g = g

  pub steps_move : (e : ℕ) → steps_of l p o (t +ℤ y) e ≡ move (steps_of l p o t e)
  steps_move e =
      let from = (dock_of l p o (end_at e true)).side in
      let to = (dock_of l p o (end_at e false)).side in
      let oriented = oriented_moves e in
      either (is_loop l e) _ _ _ _
      (either (has_one_dock l p o e) [] (loop_steps l p o t e from to) [] (loop_steps l p o (t +ℤ y) e from to) refl (loop_moves e from to))
      (either (holds p.reversed e) (reversed_steps (oriented_steps l p o t e)) (oriented_steps l p o t e) (reversed_steps (oriented_steps l p o (t +ℤ y) e)) (oriented_steps l p o (t +ℤ y) e)
      (ap reversed_steps oriented ∙ rotated_moves (oriented_steps l p o t e)) oriented)

  -- nets

  pin_moves : (left : Bool) (m : Line) → pin_at l p o (t +ℤ y) left m ≡ moved_pin y (pin_at l p o t left m)
  pin_moves left m = ap (λ h. let r : Pin = record { on_left = left; height = h } in r) (further (height_of l p o m) t y)

  net_moves : (n : Name) → net_of l p o (t +ℤ y) n ≡ moved_net y (net_of l p o t n)
  net_moves n =
      ap₂ (λ (a b : Pin). let r : Net = record { a = a; b = b } in r)
      (pin_moves (a_on_left l p o n) (a_line l p o n)) (pin_moves (b_on_left l p o n) (b_line l p o n))

  names_move : (ns : List Name) → map (net_of l p o (t +ℤ y)) ns ≡ map (moved_net y) (map (net_of l p o t) ns)
  names_move [] = refl
  names_move (n ∷ ns) = ap₂ (λ (a : Net) (rest : List Net). a ∷ rest) (net_moves n) (names_move ns)

  pub nets_move : (g : ℕ) → nets_in l p o (t +ℤ y) g ≡ map (moved_net y) (nets_in l p o t g)
  nets_move g = names_move (names_in l p o g)
