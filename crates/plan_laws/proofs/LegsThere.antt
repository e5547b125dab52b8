-- Each leg of each edge names a net of a gap.
use Rattle.std.proofs.Common.{◌≡◌, inl, inr, ℕ, ◌<◌, cond, Bool, true, false, not, List, [], ◌∷◌, ◌++◌, ℤ, length, refl, sym, subst, ap, ◌∙◌}
use Rattle.std.specs.List.{All}
use Rattle.std.proofs.lemmas.List.Elements.{All-nil, All-cons}
use Rattle.drawing_types.specs.declared.shape.Side.{Side}
use Rattle.drawing_types.specs.declared.shape.Side.TheVariants.{North, East, South, West}
use Rattle.self_loops.specs.Loops.{is_upright, passes_left, passes_right}
use Rattle.route_lines.specs.declared.Step.{Step}
use Rattle.route_lines.specs.declared.Step.TheVariants.{Lane, Leg}
use Rattle.route_lines.specs.Points.{PlainGap, IsStepIn}
use Rattle.level_model.specs.Level.{PlainLevel, PlainPlan, Orders, end_at, tail_end, head_end, holds, is_loop, dock_of}
use Rattle.level_model.specs.Lanes.{has_one_dock}
use Rattle.level_model.specs.Nets.{of_link, of_dock, of_loop, is_inverted}
use Rattle.level_model.specs.Traces.{leg_step, leaving, entering, chain_steps, oriented_steps, reversed_step, reversed_steps, loop_steps, steps_of}
use Rattle.level_model.specs.Ready.{IsReady}
use Rattle.level_model.proofs.Lists.{Has}
use Rattle.plan_laws.proofs.Doors.{side_at}
use Rattle.plan_laws.proofs.NetNames.{link_named, dock_named, loop_named, passes}
use Rattle.plan_laws.proofs.Chains.{IsLinkOf, chain_of}
use Rattle.plan_laws.specs.Joins.{HoldNets, LegsAreThere, TracesJoin}
use Rattle.plan_laws.proofs.Alternating.{reversed_one, append_none, steps_alternate}
use Rattle.plan_laws.proofs.NetsThere.{leg_there}

-- each step is in the gaps, along the list
abbrev Each : List PlainGap → List Step → Type 0
Each gaps [] = Unit {0}
Each gaps (s ∷ steps) = IsStepIn gaps s × Each gaps steps

each_all : (gaps : List PlainGap) (steps : List Step) → Each gaps steps → All (IsStepIn gaps) steps
each_all gaps [] h = All-nil (IsStepIn gaps)
each_all gaps (s ∷ steps) h = All-cons (IsStepIn gaps) s steps h.0 (each_all gaps steps h.1)

each_append : (gaps : List PlainGap) (xs ys : List Step) → Each gaps xs → Each gaps ys → Each gaps (xs ++ ys)
each_append gaps [] ys h k = k
each_append gaps (s ∷ xs) ys h k = (h.0, each_append gaps xs ys h.1 k)

-- ---- reversed steps

reversed_in : (gaps : List PlainGap) (s : Step) → IsStepIn gaps s → IsStepIn gaps (reversed_step s)
reversed_in gaps (Lane h) k = tt
reversed_in gaps (Leg g n from_a) k = k

reversed_before : (gaps : List PlainGap) (xs ys : List Step) → Each gaps xs → Each gaps ys → Each gaps (reversed_steps xs ++ ys)
reversed_before gaps [] ys h k = k
reversed_before gaps (s ∷ xs) ys h k =
    subst (Each gaps) (sym (reversed_one s xs ys)) (reversed_before gaps xs (reversed_step s ∷ ys) h.1 (reversed_in gaps s h.0, k))

reversed_each : (gaps : List PlainGap) (xs : List Step) → Each gaps xs → Each gaps (reversed_steps xs)
reversed_each gaps xs h = subst (Each gaps) (append_none (reversed_steps xs)) (reversed_before gaps xs [] h tt)

module _ (l : PlainLevel) (p : PlainPlan) (o : Orders) (shift : ℤ) (layers : List ℕ) (gaps : List PlainGap) (ready : IsReady l p o layers) (hold : HoldNets l p o shift gaps) (e : ℕ) (h : e < length l.edges) where
  -- ---- from tail to head

  leaving_each : (t inverted upright : Bool) → is_inverted l p o (end_at e t) ≡ inverted → Each gaps (leaving l p o shift (end_at e t) inverted upright)
  leaving_each t true upright is = (leg_there l p o layers ready shift gaps hold (of_dock (end_at e t)) false (dock_named l p o e t h is), (tt, tt))
  leaving_each t false true is = (tt, tt)
  leaving_each t false false is = tt

  entering_each : (t inverted upright : Bool) → is_inverted l p o (end_at e t) ≡ inverted → Each gaps (entering l p o shift (end_at e t) inverted upright)
  entering_each t true upright is = (tt, (leg_there l p o layers ready shift gaps hold (of_dock (end_at e t)) true (dock_named l p o e t h is), tt))
  entering_each t false true is = (tt, tt)
  entering_each t false false is = tt

  link_there : (k : ℕ) → IsLinkOf p e k → IsStepIn gaps (leg_step l p o (of_link k) true)
  link_there k own = leg_there l p o layers ready shift gaps hold (of_link k) true (link_named l p o k own.0)

  chain_each : (k : ℕ) (ks : List ℕ) → ((j : ℕ) → Has (k ∷ ks) j → IsLinkOf p e j) → Each gaps (chain_steps l p o shift (k ∷ ks))
  chain_each k [] each = (link_there k (each k (inl refl)), tt)
  chain_each k (j ∷ ks) each = (link_there k (each k (inl refl)), (tt, chain_each j ks (λ i has. each i (inr has))))

  oriented_each : is_loop l e ≡ false → Each gaps (oriented_steps l p o shift e)
  oriented_each plain =
      let c = chain_of l p e (ready.units.linked.chains e h plain) in
      each_append gaps _ _
      (each_append gaps _ _
      (leaving_each (not (holds p.reversed e)) (is_inverted l p o (tail_end p e)) (is_upright (dock_of l p o (tail_end p e)).side) refl)
      (subst (λ ks. Each gaps (chain_steps l p o shift ks)) (sym c.chain_is) (chain_each c.first c.others c.each)))
      (entering_each (holds p.reversed e) (is_inverted l p o (head_end p e)) (is_upright (dock_of l p o (head_end p e)).side) refl)

  -- ---- self-loops

  -- whether a loop between two docks passes the gap at a border
  abbrev passes_by : Side → Side → Bool → Bool
  passes_by s t true = passes_right s t false
  passes_by s t false = passes_left s t false

  passage : (b : Bool) → is_loop l e ≡ true → has_one_dock l p o e ≡ false → passes_by (dock_of l p o (end_at e true)).side (dock_of l p o (end_at e false)).side b ≡ true
      → IsStepIn gaps (leg_step l p o (of_loop e (side_at b)) true)
  passage b loop two pass = leg_there l p o layers ready shift gaps hold (of_loop e (side_at b)) true (loop_named l p o e b h loop (passed b pass))
    where
      passed : (b : Bool) → passes_by (dock_of l p o (end_at e true)).side (dock_of l p o (end_at e false)).side b ≡ true → passes l p o e (side_at b) ≡ true
      passed true k = ap (passes_right (dock_of l p o (end_at e true)).side (dock_of l p o (end_at e false)).side) two ∙ k
      passed false k = ap (passes_left (dock_of l p o (end_at e true)).side (dock_of l p o (end_at e false)).side) two ∙ k

  loop_each : (s t : Side) → ((b : Bool) → passes_by s t b ≡ true → IsStepIn gaps (leg_step l p o (of_loop e (side_at b)) true)) → Each gaps (loop_steps l p o shift e s t)
  loop_each North North f = (tt, tt)
  loop_each South South f = (tt, tt)
  loop_each East East f = (f true refl, tt)
  loop_each West West f = (f false refl, tt)
  loop_each North South f = (tt, (f true refl, (tt, tt)))
  loop_each South North f = (tt, (f true refl, (tt, tt)))
  loop_each East West f = (f true refl, (tt, (f false refl, tt)))
  loop_each West East f = (f false refl, (tt, (f true refl, tt)))
  loop_each North East f = (tt, (f true refl, tt))
  loop_each North West f = (tt, (f false refl, tt))
  loop_each South East f = (tt, (f true refl, tt))
  loop_each South West f = (tt, (f false refl, tt))
  loop_each East North f = (f true refl, (tt, tt))
  loop_each East South f = (f true refl, (tt, tt))
  loop_each West North f = (f false refl, (tt, tt))
  loop_each West South f = (f false refl, (tt, tt))

  -- ---- all edges

  cond_each : (b : Bool) (xs ys : List Step) → (b ≡ true → Each gaps xs) → (b ≡ false → Each gaps ys) → Each gaps (cond b xs ys)
  cond_each true xs ys f g = f refl
  cond_each false xs ys f g = g refl

  edge_each : Each gaps (steps_of l p o shift e)
  edge_each =
      cond_each (is_loop l e) _ _
      (λ loop. cond_each (has_one_dock l p o e) _ _ (λ same. tt) (λ two. loop_each (dock_of l p o (end_at e true)).side (dock_of l p o (end_at e false)).side (λ b pass. passage b loop two pass)))
      (λ plain. cond_each (holds p.reversed e) _ _ (λ is_reversed. reversed_each gaps _ (oriented_each plain)) (λ kept. oriented_each plain))

  edge_all : All (IsStepIn gaps) (steps_of l p o shift e)
  edge_all = each_all gaps (steps_of l p o shift e) edge_each

pub legs_there : LegsAreThere
legs_there l p o shift layers gaps ready hold e h = edge_all l p o shift layers gaps ready hold e h

pub traces_join : TracesJoin
traces_join l p o shift layers gaps ready hold e h =
    record { alternates = steps_alternate l p o shift layers ready e h; in_range = edge_all l p o shift layers gaps ready hold e h }
