-- Lanes and legs alternate along the steps of each edge.
use Rattle.std.proofs.Common.{◌≡◌, ℕ, ◌<◌, cond, Bool, true, false, not, List, [], ◌∷◌, ◌++◌, append_assoc, ℤ, length, refl, sym, subst, ap, ◌∙◌}
use Rattle.drawing_types.specs.declared.shape.Side.{Side}
use Rattle.drawing_types.specs.declared.shape.Side.TheVariants.{North, East, South, West}
use Rattle.self_loops.specs.Loops.{is_upright}
use Rattle.route_lines.specs.declared.Step.{Step}
use Rattle.route_lines.specs.declared.Step.TheVariants.{Lane, Leg}
use Rattle.route_lines.specs.Points.{Alternates, none, one, lane_leg, leg_lane}
use Rattle.level_model.specs.Level.{PlainLevel, PlainPlan, Orders, End, end_at, tail_end, head_end, holds, is_loop, dock_of}
use Rattle.level_model.specs.Lanes.{has_one_dock}
use Rattle.level_model.specs.Nets.{is_inverted}
use Rattle.level_model.specs.Traces.{leaving, entering, chain_steps, oriented_steps, reversed_step, reversed_steps, loop_steps, steps_of}
use Rattle.level_model.specs.Ready.{IsReady}
use Rattle.plan_laws.proofs.Chains.{chain_of, reversed_append}
use Rattle.plan_laws.specs.Joins.{StepsAlternate}

-- what may follow a leg
abbrev AfterLeg : List Step → Type 0
AfterLeg steps = (g n : ℕ) (from_a : Bool) → Alternates (Leg g n from_a ∷ steps)

-- ---- reversed steps

pub reversed_one : (s : Step) (xs ys : List Step) → reversed_steps (s ∷ xs) ++ ys ≡ reversed_steps xs ++ reversed_step s ∷ ys
reversed_one s xs ys = ap (λ zs. zs ++ ys) (reversed_append (s ∷ []) xs) ∙ append_assoc (reversed_steps xs) (reversed_step s ∷ []) ys

-- what may stand behind reversed steps
abbrev MayFollow : List Step → List Step → Type 0
MayFollow [] ys = Alternates ys
MayFollow (s ∷ xs) ys = Alternates (reversed_step s ∷ ys)

reversed_before : (xs ys : List Step) → Alternates xs → MayFollow xs ys → Alternates (reversed_steps xs ++ ys)
reversed_before _ ys none m = m
reversed_before _ ys (one s) m = m
reversed_before _ ys (lane_leg h g n from_a steps a) m =
    subst Alternates (sym (reversed_one (Lane h) (Leg g n from_a ∷ steps) ys))
    (reversed_before (Leg g n from_a ∷ steps) (Lane h ∷ ys) a (leg_lane h g n (not from_a) ys m))
reversed_before _ ys (leg_lane h g n from_a steps a) m =
    subst Alternates (sym (reversed_one (Leg g n from_a) (Lane h ∷ steps) ys))
    (reversed_before (Lane h ∷ steps) (Leg g n (not from_a) ∷ ys) a (lane_leg h g n (not from_a) ys m))

pub append_none : (xs : List Step) → xs ++ [] ≡ xs
append_none [] = refl
append_none (x ∷ xs) = ap (λ ys. x ∷ ys) (append_none xs)

reversed_alternates : (xs : List Step) → Alternates xs → Alternates (reversed_steps xs)
reversed_alternates xs a = subst Alternates (append_none (reversed_steps xs)) (reversed_before xs [] a (alone xs))
  where
    alone : (xs : List Step) → MayFollow xs []
    alone [] = none
    alone (s ∷ xs) = one (reversed_step s)

module _ (l : PlainLevel) (p : PlainPlan) (o : Orders) (shift : ℤ) where
  -- ---- from tail to head

  after_chain : (n : End) (inverted upright : Bool) → AfterLeg (entering l p o shift n inverted upright)
  after_chain n true upright = λ g m from_a. leg_lane _ g m from_a _ (lane_leg _ _ _ _ [] (one _))
  after_chain n false true = λ g m from_a. leg_lane _ g m from_a [] (one _)
  after_chain n false false = λ g m from_a. one _

  behind_lane : (k : ℕ) (ks : List ℕ) (h : ℤ) (ts : List Step) → AfterLeg ts → Alternates (Lane h ∷ (chain_steps l p o shift (k ∷ ks) ++ ts))
  behind_lane k [] h ts after = lane_leg h _ _ _ ts (after _ _ _)
  behind_lane k (j ∷ ks) h ts after = lane_leg h _ _ _ _ (leg_lane _ _ _ _ _ (behind_lane j ks _ ts after))

  chain_alternates : (k : ℕ) (ks : List ℕ) (ts : List Step) → AfterLeg ts → Alternates (chain_steps l p o shift (k ∷ ks) ++ ts)
  chain_alternates k [] ts after = after _ _ _
  chain_alternates k (j ∷ ks) ts after = leg_lane _ _ _ _ _ (behind_lane j ks _ ts after)

  between_ends : (n : End) (inverted upright : Bool) (k : ℕ) (ks : List ℕ) (ts : List Step) → AfterLeg ts
      → Alternates ((leaving l p o shift n inverted upright ++ chain_steps l p o shift (k ∷ ks)) ++ ts)
  between_ends n true upright k ks ts after = leg_lane _ _ _ _ _ (behind_lane k ks _ ts after)
  between_ends n false true k ks ts after = behind_lane k ks _ ts after
  between_ends n false false k ks ts after = chain_alternates k ks ts after

  -- ---- self-loops

  loop_alternates : (e : ℕ) (s t : Side) → Alternates (loop_steps l p o shift e s t)
  loop_alternates e North North = one _
  loop_alternates e South South = one _
  loop_alternates e East East = one _
  loop_alternates e West West = one _
  loop_alternates e North South = lane_leg _ _ _ _ _ (leg_lane _ _ _ _ [] (one _))
  loop_alternates e South North = lane_leg _ _ _ _ _ (leg_lane _ _ _ _ [] (one _))
  loop_alternates e East West = leg_lane _ _ _ _ _ (lane_leg _ _ _ _ [] (one _))
  loop_alternates e West East = leg_lane _ _ _ _ _ (lane_leg _ _ _ _ [] (one _))
  loop_alternates e North East = lane_leg _ _ _ _ [] (one _)
  loop_alternates e North West = lane_leg _ _ _ _ [] (one _)
  loop_alternates e South East = lane_leg _ _ _ _ [] (one _)
  loop_alternates e South West = lane_leg _ _ _ _ [] (one _)
  loop_alternates e East North = leg_lane _ _ _ _ [] (one _)
  loop_alternates e East South = leg_lane _ _ _ _ [] (one _)
  loop_alternates e West North = leg_lane _ _ _ _ [] (one _)
  loop_alternates e West South = leg_lane _ _ _ _ [] (one _)

  -- ---- all edges

  module _ (layers : List ℕ) (ready : IsReady l p o layers) (e : ℕ) (h : e < length l.edges) where
    oriented_alternates : is_loop l e ≡ false → Alternates (oriented_steps l p o shift e)
    oriented_alternates plain =
        let c = chain_of l p e (ready.units.linked.chains e h plain) in
        subst (λ ks. Alternates ((leaving l p o shift (tail_end p e) (is_inverted l p o (tail_end p e)) (is_upright (dock_of l p o (tail_end p e)).side) ++ chain_steps l p o shift ks) ++ entering l p o shift (head_end p e) (is_inverted l p o (head_end p e)) (is_upright (dock_of l p o (head_end p e)).side))) (sym c.chain_is)
        (between_ends (tail_end p e) (is_inverted l p o (tail_end p e)) (is_upright (dock_of l p o (tail_end p e)).side) c.first c.others _
        (after_chain (head_end p e) (is_inverted l p o (head_end p e)) (is_upright (dock_of l p o (head_end p e)).side)))

    cond_alternates : (b : Bool) (xs ys : List Step) → (b ≡ true → Alternates xs) → (b ≡ false → Alternates ys) → Alternates (cond b xs ys)
    cond_alternates true xs ys f g = f refl
    cond_alternates false xs ys f g = g refl

    pub edge_alternates : Alternates (steps_of l p o shift e)
    edge_alternates =
        cond_alternates (is_loop l e) _ _
        (λ loop. cond_alternates (has_one_dock l p o e) _ _ (λ same. none) (λ two. loop_alternates e (dock_of l p o (end_at e true)).side (dock_of l p o (end_at e false)).side))
        (λ plain. cond_alternates (holds p.reversed e) _ _ (λ is_reversed. reversed_alternates _ (oriented_alternates plain)) (λ kept. oriented_alternates plain))

pub steps_alternate : StepsAlternate
steps_alternate l p o shift layers ready e h = edge_alternates l p o shift layers ready e h
