-- The route of an edge between two children: a chain with its two ends, each at its anchor, over its dock's lane, or beside
-- an inverted dock.
use Rattle.std.proofs.Common.{◌≡◌, inl, inr, ⊎_elim, ℕ, ◌<◌, cond, Bool, true, false, not, ◌&&◌, ◌||◌, List, [], ◌∷◌, ◌++◌, append_assoc, length, refl, sym, subst, ap, ◌∙◌}
use Rattle.std.proofs.lemmas.Bool.{cases_Bool}
use Rattle.std.specs.Prelude.{is_some}
use Rattle.drawing_types.specs.declared.shape.Side.{Side}
use Rattle.drawing_types.specs.declared.shape.Side.TheVariants.{North, East, South, West}
use Rattle.drawing_types.specs.declared.shape.Dock.{Dock}
use Rattle.drawing_types.specs.Shapes.{is_side}
use Rattle.elk_layers.specs.Layered.{link_at, is_child}
use Rattle.self_loops.specs.Loops.{is_upright}
use Rattle.route_lines.specs.declared.Step.{Step}
use Rattle.route_lines.specs.declared.Step.TheVariants.{Leg}
use Rattle.route_lines.specs.Tidied.{opposite}
use Rattle.level_model.specs.Stage.{Line, anchor_line, dock_lane, long_lane, unit_of_line, InUse, Reaches, Stands}
use Rattle.level_model.specs.Law.{IsNorthOrSouth, outward}
use Rattle.level_model.specs.Level.{PlainLevel, PlainPlan, Orders, End, end_at, edge_at, spoke, is_loop, holds, enters, tail_end, head_end, dock_of}
use Rattle.level_model.specs.Nets.{of_dock, inverts, is_inverted, line_of_end, unit_of, gap_of, names_in, place_of_name}
use Rattle.level_model.specs.Nets as nets
use Rattle.level_model.specs.Traces.{leaving, entering, chain, chain_steps, oriented_steps, reversed_steps, loop_steps, steps_of}
use Rattle.level_model.specs.Lanes.{has_one_dock}
use Rattle.level_model.specs.FromPlan.{LevelDrawing, IsDrawnFrom}
use Rattle.level_model.specs.Drawing.{stage}
use Rattle.level_model.specs.Ready.{IsReady}
use Rattle.plan_laws.proofs.Doors.{side_at, gap_beside, Joins, Arrives, Departs, leg, leg_back, lane}
use Rattle.plan_laws.proofs.Ends.{IsWay, end_plain, end_upright, start_plain, start_upright}
use Rattle.plan_laws.proofs.NetNames.{dock_named, joins}
use Rattle.plan_laws.proofs.RouteEnds.{plain_end, upright_dock}
use Rattle.plan_laws.proofs.Chains.{IsChain, chain_of, last_of, last_has, reversed_append, StartsWithLeg, chain_first, reversed_first, IsTailLine, IsHeadLine, tail_in_use, head_in_use, forward, backward}

-- ---- sides of ends; b is the border at which the chain leaves the child or comes to it, true the right one

plain_side : (s : Side) (b : Bool) → is_upright s ≡ false → inverts s (not b) ≡ false → s ≡ side_at b
plain_side North b u v = absurd cc
plain_side East true u v = refl
plain_side East false u v = absurd cc
plain_side South b u v = absurd cc
plain_side West true u v = absurd cc
plain_side West false u v = refl

inverted_side : (s : Side) (b : Bool) → inverts s (not b) ≡ true → s ≡ side_at (not b)
inverted_side North b v = absurd cc
inverted_side East true v = absurd cc
inverted_side East false v = refl
inverted_side South b v = absurd cc
inverted_side West true v = refl
inverted_side West false v = absurd cc

inverted_level : (s : Side) (b : Bool) → inverts s b ≡ true → is_upright s ≡ true → ⊥
inverted_level North b v u = absurd cc
inverted_level East b v u = absurd cc
inverted_level South b v u = absurd cc
inverted_level West b v u = absurd cc

upright_side : (s : Side) → is_upright s ≡ true → IsNorthOrSouth s
upright_side North u = inl refl
upright_side East u = absurd cc
upright_side South u = inr refl
upright_side West u = absurd cc

pub east_test : (b : Bool) → is_side (side_at b) East ≡ b
east_test true = refl
east_test false = refl

pub not_not : (b : Bool) → not (not b) ≡ b
not_not true = refl
not_not false = refl

-- steps of ends, the other way
reversed_leaving : (l : PlainLevel) (p : PlainPlan) (o : Orders) (d : LevelDrawing) (n : End) (inverted upright : Bool) → reversed_steps (leaving l p o d.top n inverted upright) ≡ entering l p o d.top n inverted upright
reversed_leaving l p o d n true upright = refl
reversed_leaving l p o d n false true = refl
reversed_leaving l p o d n false false = refl

reversed_entering : (l : PlainLevel) (p : PlainPlan) (o : Orders) (d : LevelDrawing) (n : End) (inverted upright : Bool) → reversed_steps (entering l p o d.top n inverted upright) ≡ leaving l p o d.top n inverted upright
reversed_entering l p o d n true upright = refl
reversed_entering l p o d n false true = refl
reversed_entering l p o d n false false = refl

abbrev leaving_end : PlainLevel → PlainPlan → Orders → LevelDrawing → End → List Step
leaving_end l p o d n = leaving l p o d.top n (is_inverted l p o n) (is_upright (dock_of l p o n).side)

abbrev entering_end : PlainLevel → PlainPlan → Orders → LevelDrawing → End → List Step
entering_end l p o d n = entering l p o d.top n (is_inverted l p o n) (is_upright (dock_of l p o n).side)

module _ (l : PlainLevel) (p : PlainPlan) (o : Orders) (d : LevelDrawing) (layers : List ℕ) (ready : IsReady l p o layers) (drawn : IsDrawnFrom l p o d) (st : Stands (stage l p o d)) (e : ℕ) (h : e < length l.edges) (loop : is_loop l e ≡ false) where
  abbrev here : Bool → Dock
  here t = dock_of l p o (end_at e t)

  inverts_is : (t b : Bool) → enters p (end_at e t) ≡ not b → is_inverted l p o (end_at e t) ≡ inverts (here t).side (not b)
  inverts_is t b in_is = ap (λ x. not x && inverts (here t).side (enters p (end_at e t))) loop ∙ ap (inverts (here t).side) in_is

  -- the line of an end, at its child
  record IsEndLine (t b : Bool) (m : Line) : Type 0 where
    unit : unit_of_line (stage l p o d) m ≡ unit_of p (spoke l (end_at e t)).child
    reaches : Reaches (side_at b) m

  end_line : (t b : Bool) → enters p (end_at e t) ≡ not b → IsEndLine t b (line_of_end l p o (end_at e t))
  end_line t b in_is = step (is_upright (here t).side) (is_inverted l p o (end_at e t)) refl refl
    where
      step : (u v : Bool) → is_upright (here t).side ≡ u → is_inverted l p o (end_at e t) ≡ v → IsEndLine t b (cond (u || v) (dock_lane (here t)) (anchor_line (here t)))
      step true v eu ev = record { unit = refl; reaches = tt }
      step false true eu ev = record { unit = refl; reaches = tt }
      step false false eu ev = record { unit = refl; reaches = plain_side (here t).side b eu (sym (inverts_is t b in_is) ∙ ev) }

  -- the net between an inverted dock's lane and its anchor
  dock_joins : (t c : Bool) → is_inverted l p o (end_at e t) ≡ true → (here t).side ≡ side_at c
      → Joins (stage l p o d) e (gap_of l p o (of_dock (end_at e t))) (place_of_name (names_in l p o (gap_of l p o (of_dock (end_at e t)))) (of_dock (end_at e t))) (dock_lane (here t)) c (anchor_line (here t)) c
  dock_joins t c inverted side =
      let on_left : is_side (here t).side East ≡ c = ap (λ s. is_side s East) side ∙ east_test c in
      joins l p o d drawn st (of_dock (end_at e t)) (dock_lane (here t)) (anchor_line (here t)) c c (dock_named l p o e t h inverted) refl on_left refl on_left (gap_is c side) (gap_is c side) tt side (λ same. absurd cc) (λ same. refl)
    where
      gap_is : (c : Bool) → (here t).side ≡ side_at c → gap_beside (stage l p o d) (dock_lane (here t)) c ≡ gap_of l p o (of_dock (end_at e t))
      gap_is true s = ap (nets.gap_beside p (spoke l (end_at e t)).child) (sym s)
      gap_is false s = ap (nets.gap_beside p (spoke l (end_at e t)).child) (sym s)

  -- the end of the route at the target
  arrives_end : (b : Bool) → enters p (end_at e false) ≡ not b → InUse (stage l p o d) e (line_of_end l p o (end_at e false))
      → Arrives (stage l p o d) e (opposite (outward (here false).side)) ((stage l p o d).anchor e false) (line_of_end l p o (end_at e false)) b (entering_end l p o d (end_at e false))
  arrives_end b in_is used = step (is_upright (here false).side) (is_inverted l p o (end_at e false)) refl refl used
    where
      step : (u v : Bool) → is_upright (here false).side ≡ u → is_inverted l p o (end_at e false) ≡ v → InUse (stage l p o d) e (cond (u || v) (dock_lane (here false)) (anchor_line (here false)))
          → Arrives (stage l p o d) e (opposite (outward (here false).side)) ((stage l p o d).anchor e false) (cond (u || v) (dock_lane (here false)) (anchor_line (here false))) b (entering l p o d.top (end_at e false) v u)
      step true true eu ev used = absurd (inverted_level (here false).side (not b) (sym (inverts_is false b in_is) ∙ ev) eu)
      step true false eu ev used = end_upright (stage l p o d) e (dock_lane (here false)) b st (upright_dock l p o d layers ready e false h (upright_side (here false).side eu) used)
      step false true eu ev used =
          let side = inverted_side (here false).side b (sym (inverts_is false b in_is) ∙ ev) in
          let last = end_plain (stage l p o d) e (not b) st (plain_end l p o d st e false (not b) h side) in
          let net = leg (stage l p o d) e _ _ _ _ (dock_lane (here false)) (not b) (anchor_line (here false)) (not b) [] st (dock_joins false (not b) ev side) last in
          let on = lane (stage l p o d) e _ _ _ _ (dock_lane (here false)) (not b) true [] st used tt net in
          subst (λ c. Arrives (stage l p o d) e (opposite (outward (here false).side)) ((stage l p o d).anchor e false) (dock_lane (here false)) c (entering l p o d.top (end_at e false) true false)) (not_not b) on
      step false false eu ev used = end_plain (stage l p o d) e b st (plain_end l p o d st e false b h (plain_side (here false).side b eu (sym (inverts_is false b in_is) ∙ ev)))

  -- the start of the route at the source
  start_way : (b : Bool) (steps : List Step) → enters p (end_at e true) ≡ not b → InUse (stage l p o d) e (line_of_end l p o (end_at e true)) → StartsWithLeg steps
      → Departs (stage l p o d) e (opposite (outward (here false).side)) ((stage l p o d).anchor e false) (line_of_end l p o (end_at e true)) b steps
      → IsWay (stage l p o d) e (leaving_end l p o d (end_at e true) ++ steps)
  start_way b steps in_is used first w =
      subst (λ xs. IsWay (stage l p o d) e (leaving_end l p o d (end_at e true) ++ xs)) (sym first.4)
      (step (is_upright (here true).side) (is_inverted l p o (end_at e true)) refl refl used
      (subst (λ xs. Departs (stage l p o d) e (opposite (outward (here false).side)) ((stage l p o d).anchor e false) (line_of_end l p o (end_at e true)) b xs) first.4 w))
    where
      step : (u v : Bool) → is_upright (here true).side ≡ u → is_inverted l p o (end_at e true) ≡ v → InUse (stage l p o d) e (cond (u || v) (dock_lane (here true)) (anchor_line (here true)))
          → Departs (stage l p o d) e (opposite (outward (here false).side)) ((stage l p o d).anchor e false) (cond (u || v) (dock_lane (here true)) (anchor_line (here true))) b (Leg first.0 first.1 first.2 ∷ first.3)
          → IsWay (stage l p o d) e (leaving l p o d.top (end_at e true) v u ++ Leg first.0 first.1 first.2 ∷ first.3)
      step true true eu ev used w = absurd (inverted_level (here true).side (not b) (sym (inverts_is true b in_is) ∙ ev) eu)
      step true false eu ev used w = start_upright (stage l p o d) e first.0 first.1 (dock_lane (here true)) b first.2 first.3 st (upright_dock l p o d layers ready e true h (upright_side (here true).side eu) used) w
      step false true eu ev used w =
          let side = inverted_side (here true).side b (sym (inverts_is true b in_is) ∙ ev) in
          let on = lane (stage l p o d) e first.0 first.1 _ _ (dock_lane (here true)) b first.2 first.3 st used tt w in
          let net = leg_back (stage l p o d) e _ _ _ _ (dock_lane (here true)) (not b) (anchor_line (here true)) (not b) _ st (dock_joins true (not b) ev side) on in
          start_plain (stage l p o d) e _ _ (not b) false _ st (plain_end l p o d st e true (not b) h side) net
      step false false eu ev used w =
          start_plain (stage l p o d) e first.0 first.1 b first.2 first.3 st (plain_end l p o d st e true b h (plain_side (here true).side b eu (sym (inverts_is true b in_is) ∙ ev))) w

  -- ---- the whole route

  child_is : (t : Bool) → is_child p.layered (unit_of p (spoke l (end_at e t)).child) ≡ true
  child_is true = ap is_some (ready.units.linked.children (edge_at l e).source.child (ready.level.edges e h).source.child).child
  child_is false = ap is_some (ready.units.linked.children (edge_at l e).target.child (ready.level.edges e h).target.child).child

  -- the first link's tail and the last one's head lie on the lines of the ends
  first_tail : (t : Bool) (c : IsChain l p e) → tail_end p e ≡ end_at e t → enters p (end_at e t) ≡ false → IsTailLine l p o d c.first (line_of_end l p o (end_at e t))
  first_tail t c end in_is =
      let own = c.each c.first (inl refl) in
      let from : (link_at p.layered.links c.first).tail ≡ unit_of p (spoke l (end_at e t)).child = c.from ∙ ap (λ n. unit_of p (spoke l n).child) end in
      let child : is_child p.layered (link_at p.layered.links c.first).tail ≡ true = ap (is_child p.layered) from ∙ child_is t in
      let at = end_line t true in_is in
      record {
        line =
            ap (λ b. cond b (line_of_end l p o (tail_end p (link_at p.layered.links c.first).edge)) (long_lane (link_at p.layered.links c.first).tail)) child
            ∙ ap (λ f. line_of_end l p o (tail_end p f)) own.1 ∙ ap (line_of_end l p o) end;
        unit = at.unit ∙ sym from;
        reaches = at.reaches;
      }

  last_head : (t : Bool) (c : IsChain l p e) → head_end p e ≡ end_at e t → enters p (end_at e t) ≡ true → IsHeadLine l p o d (last_of c.first c.others) (line_of_end l p o (end_at e t))
  last_head t c end in_is =
      let k = last_of c.first c.others in
      let own = c.each k (last_has c.first c.others) in
      let to : (link_at p.layered.links k).head ≡ unit_of p (spoke l (end_at e t)).child = c.to ∙ ap (λ n. unit_of p (spoke l n).child) end in
      let child : is_child p.layered (link_at p.layered.links k).head ≡ true = ap (is_child p.layered) to ∙ child_is t in
      let at = end_line t false in_is in
      record {
        line =
            ap (λ b. cond b (line_of_end l p o (head_end p (link_at p.layered.links k).edge)) (long_lane (link_at p.layered.links k).head)) child
            ∙ ap (λ f. line_of_end l p o (head_end p f)) own.1 ∙ ap (line_of_end l p o) end;
        unit = at.unit ∙ sym to;
        reaches = at.reaches;
      }

  -- an edge that keeps its direction
  kept_way : (c : IsChain l p e) → holds p.reversed e ≡ false → IsWay (stage l p o d) e (oriented_steps l p o d.top e)
  kept_way c kept =
      let tails : tail_end p e ≡ end_at e true = ap (λ b. end_at e (not b)) kept in
      let heads : head_end p e ≡ end_at e false = ap (end_at e) kept in
      let goes : enters p (end_at e false) ≡ true = ap not kept in
      let tail = first_tail true c tails kept in
      let head = last_head false c heads goes in
      let own = c.each c.first (inl refl) in
      let last = c.each (last_of c.first c.others) (last_has c.first c.others) in
      let ends = arrives_end false goes (head_in_use l p o d layers ready drawn st e _ _ last head) in
      let way = forward l p o d layers ready drawn st e c.first c.others (entering_end l p o d (end_at e false)) _ _ _ _ c.each c.joined tail head ends in
      let whole = start_way true _ kept (tail_in_use l p o d layers ready drawn st e _ _ own tail) (chain_first l p o d c.first c.others (entering_end l p o d (end_at e false))) way in
      let same : oriented_steps l p o d.top e ≡ leaving_end l p o d (end_at e true) ++ (chain_steps l p o d.top (c.first ∷ c.others) ++ entering_end l p o d (end_at e false)) =
      ap (λ n. (leaving_end l p o d n ++ chain_steps l p o d.top (chain p e)) ++ entering_end l p o d (head_end p e)) tails
      ∙ ap (λ n. (leaving_end l p o d (end_at e true) ++ chain_steps l p o d.top (chain p e)) ++ entering_end l p o d n) heads
      ∙ ap (λ ks. (leaving_end l p o d (end_at e true) ++ chain_steps l p o d.top ks) ++ entering_end l p o d (end_at e false)) c.chain_is
      ∙ append_assoc (leaving_end l p o d (end_at e true)) (chain_steps l p o d.top (c.first ∷ c.others)) (entering_end l p o d (end_at e false)) in
      subst (λ xs. IsWay (stage l p o d) e xs) (sym same) whole

  -- an edge that is reversed
  reversed_way : (c : IsChain l p e) → holds p.reversed e ≡ true → IsWay (stage l p o d) e (reversed_steps (oriented_steps l p o d.top e))
  reversed_way c is_reversed =
      let tails : tail_end p e ≡ end_at e false = ap (λ b. end_at e (not b)) is_reversed in
      let heads : head_end p e ≡ end_at e true = ap (end_at e) is_reversed in
      let goes : enters p (end_at e false) ≡ false = ap not is_reversed in
      let tail = first_tail false c tails goes in
      let head = last_head true c heads is_reversed in
      let own = c.each c.first (inl refl) in
      let last = c.each (last_of c.first c.others) (last_has c.first c.others) in
      let ends = arrives_end true goes (tail_in_use l p o d layers ready drawn st e _ _ own tail) in
      let way = backward l p o d layers ready drawn st e c.first c.others (entering_end l p o d (end_at e false)) _ _ _ _ c.each c.joined tail head ends in
      let whole = start_way false _ is_reversed (head_in_use l p o d layers ready drawn st e _ _ last head) (reversed_first l p o d c.first c.others (entering_end l p o d (end_at e false))) way in
      let same : oriented_steps l p o d.top e ≡ (leaving_end l p o d (end_at e false) ++ chain_steps l p o d.top (c.first ∷ c.others)) ++ entering_end l p o d (end_at e true) =
      ap (λ n. (leaving_end l p o d n ++ chain_steps l p o d.top (chain p e)) ++ entering_end l p o d (head_end p e)) tails
      ∙ ap (λ n. (leaving_end l p o d (end_at e false) ++ chain_steps l p o d.top (chain p e)) ++ entering_end l p o d n) heads
      ∙ ap (λ ks. (leaving_end l p o d (end_at e false) ++ chain_steps l p o d.top ks) ++ entering_end l p o d (end_at e true)) c.chain_is in
      let back : reversed_steps (oriented_steps l p o d.top e) ≡ leaving_end l p o d (end_at e true) ++ (reversed_steps (chain_steps l p o d.top (c.first ∷ c.others)) ++ entering_end l p o d (end_at e false)) =
      ap reversed_steps same
      ∙ reversed_append (leaving_end l p o d (end_at e false) ++ chain_steps l p o d.top (c.first ∷ c.others)) (entering_end l p o d (end_at e true))
      ∙ ap (λ xs. xs ++ reversed_steps (leaving_end l p o d (end_at e false) ++ chain_steps l p o d.top (c.first ∷ c.others))) (reversed_entering l p o d (end_at e true) (is_inverted l p o (end_at e true)) (is_upright (here true).side))
      ∙ ap (λ xs. leaving_end l p o d (end_at e true) ++ xs) (reversed_append (leaving_end l p o d (end_at e false)) (chain_steps l p o d.top (c.first ∷ c.others)))
      ∙ ap (λ xs. leaving_end l p o d (end_at e true) ++ (reversed_steps (chain_steps l p o d.top (c.first ∷ c.others)) ++ xs)) (reversed_leaving l p o d (end_at e false) (is_inverted l p o (end_at e false)) (is_upright (here false).side)) in
      subst (λ xs. IsWay (stage l p o d) e xs) (sym back) whole

  pub edge_way : IsWay (stage l p o d) e (steps_of l p o d.top e)
  edge_way =
      let c = chain_of l p e (ready.units.linked.chains e h loop) in
      subst (λ b. IsWay (stage l p o d) e (cond b (cond (has_one_dock l p o e) [] (loop_steps l p o d.top e (here true).side (here false).side)) (cond (holds p.reversed e) (reversed_steps (oriented_steps l p o d.top e)) (oriented_steps l p o d.top e)))) (sym loop)
      (⊎_elim
      (λ t. subst (λ b. IsWay (stage l p o d) e (cond b (reversed_steps (oriented_steps l p o d.top e)) (oriented_steps l p o d.top e))) (sym t) (reversed_way c t))
      (λ f. subst (λ b. IsWay (stage l p o d) e (cond b (reversed_steps (oriented_steps l p o d.top e)) (oriented_steps l p o d.top e))) (sym f) (kept_way c f))
      (cases_Bool (holds p.reversed e)))
