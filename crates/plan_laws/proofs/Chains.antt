-- The chain of an edge, and the way along its links, from tail to head and back.
use Rattle.std.proofs.Common.{◌≡◌, inl, inr, ⊎_elim, ℕ, suc, ◌+◌, ◌-◌, ◌<◌, eqb, cond, Bool, true, false, ◌&&◌, List, [], ◌∷◌, ◌++◌, append_assoc, reverse, map, length, get_or, refl, sym, subst, ap, ◌∙◌, arith}
use Rattle.std.proofs.lemmas.Bool.{and_parts, eqb-true}
use Rattle.std.proofs.lemmas.List.{map-append, reverse-append}
use Rattle.std.specs.Prelude.{is_some}
use Rattle.std.specs.List.{range_with_len}
use Rattle.drawing_types.specs.declared.shape.Point.{Point}
use Rattle.drawing_types.specs.declared.shape.Side.TheVariants.{East, West}
use Rattle.elk_layers.specs.Layered.{link_at, is_child, layer_of}
use Rattle.route_lines.specs.declared.Step.{Step}
use Rattle.route_lines.specs.declared.Step.TheVariants.{Leg}
use Rattle.route_lines.specs.Tidied.{Heading}
use Rattle.level_model.specs.Stage.{Line, long_lane, unit_of_line, InUse, Reaches, Stands}
use Rattle.level_model.specs.Level.{PlainLevel, PlainPlan, Orders, spoke, tail_end, head_end}
use Rattle.level_model.specs.Nets.{of_link, unit_of, line_of_end, tail_line, head_line, gap_of, names_in, place_of_name}
use Rattle.level_model.specs.Traces.{lane_step, leg_step, links_at, links_from, chain, chain_steps, reversed_step, reversed_steps}
use Rattle.level_model.specs.Units.{IsLaneUnit, HasChain}
use Rattle.level_model.specs.FromPlan.{LevelDrawing, IsDrawnFrom}
use Rattle.level_model.specs.Drawing.{stage, is_in_use}
use Rattle.level_model.specs.Ready.{IsReady}
use Rattle.level_model.proofs.Lists.{Has, filter_has, append_has, range_has}
use Rattle.plan_laws.proofs.Doors.{Joins, Arrives, Departs, leg, leg_back, lane}
use Rattle.plan_laws.proofs.NetNames.{link_named, a_in_use, b_in_use, joins}

-- ---- the chain as a list

-- a link of the edge
abbrev pub IsLinkOf : PlainPlan → ℕ → ℕ → Type 0
IsLinkOf p e k = (k < length p.layered.links) × ((link_at p.layered.links k).edge ≡ e)

links_are : (p : PlainPlan) (e k : ℕ) (rs : List ℕ) → Has (links_from p e rs) k → IsLinkOf p e k
links_are p e k [] h = absurd h
links_are p e k (r ∷ rs) h =
    ⊎_elim
    (λ here.
    let q = filter_has (λ j. eqb (link_at p.layered.links j).edge e && eqb (layer_of p.layered (link_at p.layered.links j).tail) r) (range_with_len 0 (length p.layered.links)) k here in
    let b = range_has 0 (length p.layered.links) k q.0 in
    let f = and_parts (eqb (link_at p.layered.links k).edge e) (eqb (layer_of p.layered (link_at p.layered.links k).tail) r) q.1 in
    (omega (arith, b), eqb-true (link_at p.layered.links k).edge e f.0))
    (λ rest. links_are p e k rs rest)
    (append_has (links_at p e r) (links_from p e rs) k h)

-- one link leads to a lane that the next leaves
abbrev pub Leads : PlainPlan → ℕ → ℕ → Type 0
Leads p k j = ((link_at p.layered.links k).head ≡ (link_at p.layered.links j).tail) × IsLaneUnit p (link_at p.layered.links k).head

abbrev pub Joined : PlainPlan → ℕ → List ℕ → Type 0
Joined p k [] = Unit {0}
Joined p k (j ∷ ks) = Leads p k j × Joined p j ks

abbrev pub last_of : ℕ → List ℕ → ℕ
last_of k [] = k
last_of k (j ∷ ks) = last_of j ks

joined_from : (p : PlainPlan) (k : ℕ) (ks : List ℕ) → ((i : ℕ) → i + 1 < length (k ∷ ks) → Leads p (get_or (k ∷ ks) i 0) (get_or (k ∷ ks) (i + 1) 0)) → Joined p k ks
joined_from p k [] f = tt
joined_from p k (j ∷ ks) f = (
  f 0 (omega arith),
  joined_from p j ks (λ i h.
      let one : suc i + 1 ≡ suc (i + 1) = omega arith in
      subst (λ n. Leads p (get_or (j ∷ ks) i 0) (get_or (k ∷ j ∷ ks) n 0)) one (f (suc i) (omega (arith, h)))),
)

last_at : (k : ℕ) (ks : List ℕ) → get_or (k ∷ ks) (length (k ∷ ks) - 1) 0 ≡ last_of k ks
last_at k [] = refl
last_at k (j ∷ ks) =
    let one : length (k ∷ j ∷ ks) - 1 ≡ suc (length (j ∷ ks) - 1) = omega arith in
    ap (λ n. get_or (k ∷ j ∷ ks) n 0) one ∙ last_at j ks

pub last_has : (k : ℕ) (ks : List ℕ) → Has (k ∷ ks) (last_of k ks)
last_has k [] = inl refl
last_has k (j ∷ ks) = inr (last_has j ks)

pub record IsChain (l : PlainLevel) (p : PlainPlan) (e : ℕ) : Type 0 where
  pub first : ℕ
  pub others : List ℕ
  pub chain_is : chain p e ≡ first ∷ others
  pub each : (j : ℕ) → Has (first ∷ others) j → IsLinkOf p e j
  pub joined : Joined p first others
  pub from : (link_at p.layered.links first).tail ≡ unit_of p (spoke l (tail_end p e)).child
  pub to : (link_at p.layered.links (last_of first others)).head ≡ unit_of p (spoke l (head_end p e)).child

pub chain_of : (l : PlainLevel) (p : PlainPlan) (e : ℕ) → HasChain l p e → IsChain l p e
chain_of l p e w =
    step (chain p e) refl w.some (λ j h. links_are p e j (range_with_len 0 p.layers) h) (λ i h. (w.joined i h, w.lanes i h)) w.from w.to
  where
    step : (ks : List ℕ) → chain p e ≡ ks → 0 < length ks → ((j : ℕ) → Has ks j → IsLinkOf p e j) → ((i : ℕ) → i + 1 < length ks → Leads p (get_or ks i 0) (get_or ks (i + 1) 0))
        → (link_at p.layered.links (get_or ks 0 0)).tail ≡ unit_of p (spoke l (tail_end p e)).child
        → (link_at p.layered.links (get_or ks (length ks - 1) 0)).head ≡ unit_of p (spoke l (head_end p e)).child → IsChain l p e
    step [] e1 some each leads from to = absurd (omega (arith, some))
    step (k ∷ ks) e1 some each leads from to =
        record {
          first = k;
          others = ks;
          chain_is = e1;
          each = each;
          joined = joined_from p k ks leads;
          from = from;
          to = ap (λ j. (link_at p.layered.links j).head) (sym (last_at k ks)) ∙ to;
        }

-- ---- steps the other way

pub reversed_append : (xs ys : List Step) → reversed_steps (xs ++ ys) ≡ reversed_steps ys ++ reversed_steps xs
reversed_append xs ys = ap reverse (map-append reversed_step xs ys) ∙ reverse-append (map reversed_step xs) (map reversed_step ys)

reversed_two : (a b : Step) (xs ts : List Step) → reversed_steps (a ∷ b ∷ xs) ++ ts ≡ reversed_steps xs ++ reversed_step b ∷ reversed_step a ∷ ts
reversed_two a b xs ts =
    ap (λ zs. zs ++ ts) (reversed_append (a ∷ b ∷ []) xs) ∙ append_assoc (reversed_steps xs) (reversed_step b ∷ reversed_step a ∷ []) ts

-- a list of steps begins with a leg
abbrev pub StartsWithLeg : List Step → Type 0
StartsWithLeg xs = (g : ℕ) × (n : ℕ) × (t : Bool) × (rest : List Step) × (xs ≡ Leg g n t ∷ rest)

pub chain_first : (l : PlainLevel) (p : PlainPlan) (o : Orders) (d : LevelDrawing) (k : ℕ) (ks : List ℕ) (ts : List Step) → StartsWithLeg (chain_steps l p o d.top (k ∷ ks) ++ ts)
chain_first l p o d k [] ts = (_, _, _, _, refl)
chain_first l p o d k (j ∷ ks) ts = (_, _, _, _, refl)

pub reversed_first : (l : PlainLevel) (p : PlainPlan) (o : Orders) (d : LevelDrawing) (k : ℕ) (ks : List ℕ) (ts : List Step) → StartsWithLeg (reversed_steps (chain_steps l p o d.top (k ∷ ks)) ++ ts)
reversed_first l p o d k [] ts = (_, _, _, _, refl)
reversed_first l p o d k (j ∷ ks) ts =
    subst StartsWithLeg (sym (reversed_two (leg_step l p o (of_link k) true) (lane_step l p o d.top (long_lane (link_at p.layered.links k).head)) (chain_steps l p o d.top (j ∷ ks)) ts))
    (reversed_first l p o d j ks _)

-- ---- the lines of a link

-- the line of a link's tail, and of its head
pub record IsTailLine (l : PlainLevel) (p : PlainPlan) (o : Orders) (d : LevelDrawing) (k : ℕ) (m : Line) : Type 0 where
  pub line : tail_line l p o k ≡ m
  pub unit : unit_of_line (stage l p o d) m ≡ (link_at p.layered.links k).tail
  pub reaches : Reaches East m

pub record IsHeadLine (l : PlainLevel) (p : PlainPlan) (o : Orders) (d : LevelDrawing) (k : ℕ) (m : Line) : Type 0 where
  pub line : head_line l p o k ≡ m
  pub unit : unit_of_line (stage l p o d) m ≡ (link_at p.layered.links k).head
  pub reaches : Reaches West m

-- at a lane of a long edge
tail_at_lane : (l : PlainLevel) (p : PlainPlan) (o : Orders) (d : LevelDrawing) (k j : ℕ) → Leads p k j → IsTailLine l p o d j (long_lane (link_at p.layered.links k).head)
tail_at_lane l p o d k j w =
    let none : is_child p.layered (link_at p.layered.links j).tail ≡ false = ap (is_child p.layered) (sym w.0) ∙ ap is_some w.1.no_child in
    record {
      line = ap (λ b. cond b (line_of_end l p o (tail_end p (link_at p.layered.links j).edge)) (long_lane (link_at p.layered.links j).tail)) none ∙ ap long_lane (sym w.0);
      unit = w.0;
      reaches = tt;
    }

head_at_lane : (l : PlainLevel) (p : PlainPlan) (o : Orders) (d : LevelDrawing) (k j : ℕ) → Leads p k j → IsHeadLine l p o d k (long_lane (link_at p.layered.links k).head)
head_at_lane l p o d k j w =
    let none : is_child p.layered (link_at p.layered.links k).head ≡ false = ap is_some w.1.no_child in
    record {
      line = ap (λ b. cond b (line_of_end l p o (head_end p (link_at p.layered.links k).edge)) (long_lane (link_at p.layered.links k).head)) none;
      unit = refl;
      reaches = tt;
    }

module _ (l : PlainLevel) (p : PlainPlan) (o : Orders) (d : LevelDrawing) (layers : List ℕ) (ready : IsReady l p o layers) (drawn : IsDrawnFrom l p o d) (st : Stands (stage l p o d)) (e : ℕ) where
  -- both lines of a link are in use
  pub tail_in_use : (k : ℕ) (m : Line) → IsLinkOf p e k → IsTailLine l p o d k m → InUse (stage l p o d) e m
  tail_in_use k m own tail = subst (λ z. is_in_use l p o e z ≡ true) tail.line (subst (λ f. is_in_use l p o f (tail_line l p o k) ≡ true) own.1 (a_in_use l p o (of_link k) (link_named l p o k own.0)))

  pub head_in_use : (k : ℕ) (m : Line) → IsLinkOf p e k → IsHeadLine l p o d k m → InUse (stage l p o d) e m
  head_in_use k m own head = subst (λ z. is_in_use l p o e z ≡ true) head.line (subst (λ f. is_in_use l p o f (head_line l p o k) ≡ true) own.1 (b_in_use l p o (of_link k) (link_named l p o k own.0)))

  link_joins : (k : ℕ) (m n : Line) → IsLinkOf p e k → IsTailLine l p o d k m → IsHeadLine l p o d k n
      → Joins (stage l p o d) e (gap_of l p o (of_link k)) (place_of_name (names_in l p o (gap_of l p o (of_link k))) (of_link k)) m true n false
  link_joins k m n own tail head =
      let next = (ready.sound.links_are k own.0).next_layer in
      subst (λ z. Joins (stage l p o d) z (gap_of l p o (of_link k)) (place_of_name (names_in l p o (gap_of l p o (of_link k))) (of_link k)) m true n false) own.1
      (joins l p o d drawn st (of_link k) m n true false (link_named l p o k own.0) tail.line refl head.line refl
      (ap (λ u. layer_of p.layered u + 1) tail.unit ∙ sym next) (ap (layer_of p.layered) head.unit) tail.reaches head.reaches
      (λ same.
      let one : layer_of p.layered (link_at p.layered.links k).tail ≡ layer_of p.layered (link_at p.layered.links k).head = ap (layer_of p.layered) (sym tail.unit ∙ ap (unit_of_line (stage l p o d)) same ∙ head.unit) in
      absurd (omega (arith, next, one)))
      (λ same. absurd cc))

  -- from the tail of the first link to the head of the last
  pub forward : (k : ℕ) (ks : List ℕ) (ts : List Step) (m n : Line) (q : Heading) (z : Point) → ((j : ℕ) → Has (k ∷ ks) j → IsLinkOf p e j) → Joined p k ks
      → IsTailLine l p o d k m → IsHeadLine l p o d (last_of k ks) n → Arrives (stage l p o d) e q z n false ts → Departs (stage l p o d) e q z m true (chain_steps l p o d.top (k ∷ ks) ++ ts)
  forward k [] ts m n q z each joined tail head w =
      leg (stage l p o d) e _ _ q z m true n false ts st (link_joins k m n (each k (inl refl)) tail head) w
  forward k (j ∷ ks) ts m n q z each joined tail head w =
      let u = (link_at p.layered.links k).head in
      let net = link_joins k m (long_lane u) (each k (inl refl)) tail (head_at_lane l p o d k j joined.0) in
      let rest = forward j ks ts (long_lane u) n q z (λ i h. each i (inr h)) joined.1 (tail_at_lane l p o d k j joined.0) head w in
      let first = chain_first l p o d j ks ts in
      let on = lane (stage l p o d) e first.0 first.1 q z (long_lane u) true first.2 first.3 st net.b_use tt (subst (λ xs. Departs (stage l p o d) e q z (long_lane u) true xs) first.4 rest) in
      leg (stage l p o d) e _ _ q z m true (long_lane u) false _ st net
      (subst (λ xs. Arrives (stage l p o d) e q z (long_lane u) false (lane_step l p o d.top (long_lane u) ∷ xs)) (sym first.4) on)

  -- from the head of the last to the tail of the first
  pub backward : (k : ℕ) (ks : List ℕ) (ts : List Step) (m n : Line) (q : Heading) (z : Point) → ((j : ℕ) → Has (k ∷ ks) j → IsLinkOf p e j) → Joined p k ks
      → IsTailLine l p o d k m → IsHeadLine l p o d (last_of k ks) n → Arrives (stage l p o d) e q z m true ts
      → Departs (stage l p o d) e q z n false (reversed_steps (chain_steps l p o d.top (k ∷ ks)) ++ ts)
  backward k [] ts m n q z each joined tail head w =
      leg_back (stage l p o d) e _ _ q z m true n false ts st (link_joins k m n (each k (inl refl)) tail head) w
  backward k (j ∷ ks) ts m n q z each joined tail head w =
      let u = (link_at p.layered.links k).head in
      let net = link_joins k m (long_lane u) (each k (inl refl)) tail (head_at_lane l p o d k j joined.0) in
      let back = leg_back (stage l p o d) e _ _ q z m true (long_lane u) false ts st net w in
      let on = lane (stage l p o d) e _ _ q z (long_lane u) false false ts st net.b_use tt back in
      subst (λ xs. Departs (stage l p o d) e q z n false xs) (sym (reversed_two (leg_step l p o (of_link k) true) (lane_step l p o d.top (long_lane u)) (chain_steps l p o d.top (j ∷ ks)) ts))
      (backward j ks _ (long_lane u) n q z (λ i h. each i (inr h)) joined.1 (tail_at_lane l p o d k j joined.0) head on)
