-- The links of an edge: each stands in its chain, from a child over lanes of the edge to a child.
use Rattle.std.proofs.Common.{◌≡◌, inl, inr, ⊎_elim, ℕ, zero, suc, ◌+◌, ◌-◌, ◌<◌, eqb, cond, Bool, true, false, not, ◌&&◌, List, [], ◌∷◌, length, refl, sym, subst, ap, ◌∙◌, arith}
use Rattle.std.proofs.lemmas.Bool.{and_parts, and_from, eqb-true, eq-eqb, cases_eq}
use Rattle.std.specs.Prelude.{is_some}
use Rattle.std.specs.List.{filter, range_with_len}
use Rattle.elk_layers.specs.Layered.{IsSound, link_at, is_child, layer_of}
use Rattle.level_model.specs.Level.{PlainLevel, PlainPlan, Orders, end_at, spoke, is_loop, enters, holds, tail_end, head_end, first_or}
use Rattle.level_model.specs.Nets.{unit_of}
use Rattle.level_model.specs.Traces.{links_at, links_from, chain}
use Rattle.level_model.specs.Units.{AreLinked, IsLaneUnit, HasChain, chain_at}
use Rattle.level_model.specs.Drawing.{lane_edge}
use Rattle.level_model.specs.Conditions.{IsLevel}
use Rattle.level_model.specs.Ready.{IsReady}
use Rattle.level_model.proofs.SpotLemmas.{spoke_there}
use Rattle.level_model.proofs.Lists.{Has, has_filter, filter_has, has_left, has_right, append_has, has_range, range_has, has_at, at_has}

pub links_have : (p : PlainPlan) (e r k : ℕ) (rs : List ℕ) → Has rs r → Has (links_at p e r) k → Has (links_from p e rs) k
links_have p e r k [] h has = absurd h
links_have p e r k (q ∷ rs) h has =
    ⊎_elim
    (λ (same : q ≡ r). has_left (links_at p e q) (links_from p e rs) k (subst (λ z. Has (links_at p e z) k) (sym same) has))
    (λ rest. has_right (links_at p e q) (links_from p e rs) k (links_have p e r k rs rest has))
    h

pub links_are : (p : PlainPlan) (e k : ℕ) (rs : List ℕ) → Has (links_from p e rs) k → (k < length p.layered.links) × ((link_at p.layered.links k).edge ≡ e)
links_are p e k [] h = absurd h
links_are p e k (r ∷ rs) h =
    ⊎_elim
    (λ here.
    let q = filter_has (λ j. eqb (link_at p.layered.links j).edge e && eqb (layer_of p.layered (link_at p.layered.links j).tail) r) (range_with_len 0 (length p.layered.links)) k here in
    let b = range_has 0 (length p.layered.links) k q.0 in
    let f = and_parts (eqb (link_at p.layered.links k).edge e) (eqb (layer_of p.layered (link_at p.layered.links k).tail) r) q.1 in
    (omega (arith, b), eqb-true (link_at p.layered.links k).edge e f.0))
    (λ rest. links_are p e k rs rest)
    (append_has (links_at p e r) (links_from p e rs) k h)

-- the links of a chain are those of its edge
pub chain_are : (p : PlainPlan) (e i : ℕ) → i < length (chain p e) → (chain_at p e i < length p.layered.links) × ((link_at p.layered.links (chain_at p e i)).edge ≡ e)
chain_are p e i h = links_are p e (chain_at p e i) (range_with_len 0 p.layers) (has_at (chain p e) i 0 h)

first_has : (xs : List ℕ) (x d : ℕ) → Has xs x → Has xs (first_or xs d)
first_has [] x d h = absurd h
first_has (y ∷ ys) x d h = inl refl

-- the edge of a lane is that of the link that enters it
pub lane_edge_is : (p : PlainPlan) (u j : ℕ) → IsLaneUnit p u → j < length p.layered.links → (link_at p.layered.links j).head ≡ u → lane_edge p u ≡ (link_at p.layered.links j).edge
lane_edge_is p u j lane h e =
    let found : List ℕ = filter (λ k. eqb (link_at p.layered.links k).head u) (range_with_len 0 (length p.layered.links)) in
    let has : Has found j = has_filter (λ k. eqb (link_at p.layered.links k).head u) (range_with_len 0 (length p.layered.links)) j (has_range 0 (length p.layered.links) j (omega arith) (omega (arith, h))) (eq-eqb (link_at p.layered.links j).head u e) in
    let q = filter_has (λ k. eqb (link_at p.layered.links k).head u) (range_with_len 0 (length p.layered.links)) (first_or found 0) (first_has found j 0 has) in
    let b = range_has 0 (length p.layered.links) (first_or found 0) q.0 in
    ap (λ k. (link_at p.layered.links k).edge) (lane.once (first_or found 0) j (omega (arith, b)) h (eqb-true (link_at p.layered.links (first_or found 0)).head u q.1) e)

-- the ends of the oriented edge
pub tail_leaves : (p : PlainPlan) (e : ℕ) → enters p (tail_end p e) ≡ false
tail_leaves p e = step (holds p.reversed e)
  where
    step : (b : Bool) → cond (not b) b (not b) ≡ false
    step true = refl
    step false = refl

pub head_enters : (p : PlainPlan) (e : ℕ) → enters p (head_end p e) ≡ true
head_enters p e = step (holds p.reversed e)
  where
    step : (b : Bool) → cond b b (not b) ≡ true
    step true = refl
    step false = refl

-- the end of a link: at the unit of a child, or at a lane of the link's edge
pub data Ends (p : PlainPlan) (e u child : ℕ) : Type 0 where
  at_child_unit : is_child p.layered u ≡ true → u ≡ unit_of p child → Ends p e u child
  at_lane : is_child p.layered u ≡ false → lane_edge p u ≡ e → Ends p e u child

-- the unit of a child at an end of a link is that of the end's child
pub unit_of_end : {p : PlainPlan} {e u child : ℕ} → Ends p e u child → is_child p.layered u ≡ true → u ≡ unit_of p child
unit_of_end (at_child_unit is same) h = same
unit_of_end (at_lane lane own) h = absurd (let bad : true ≡ false = sym h ∙ lane in cc)

module _ (l : PlainLevel) (p : PlainPlan) (layers : List ℕ) (level : IsLevel l) (linked : AreLinked l p layers) (sound : IsSound p.layered) (layers_are : p.layers ≡ p.layered.layers) where
  abbrev links : ℕ
  links = length p.layered.links

  abbrev edge_of_link : ℕ → ℕ
  edge_of_link k = (link_at p.layered.links k).edge

  has_chain : (k : ℕ) → k < links → HasChain l p (edge_of_link k)
  has_chain k h = let is = linked.links k h in linked.chains (edge_of_link k) is.edge_in is.no_loop

  -- where a link stands in the chain of its edge
  in_chain : (k : ℕ) → k < links → (i : ℕ) × (i < length (chain p (edge_of_link k))) × (chain_at p (edge_of_link k) i ≡ k)
  in_chain k h =
      let e = edge_of_link k in
      let r = layer_of p.layered (link_at p.layered.links k).tail in
      let below = sound.layers_are (link_at p.layered.links k).tail (sound.links_are k h).tail in
      let there : r < p.layers = omega (arith, below, layers_are) in
      let here : Has (links_at p e r) k =
      has_filter (λ j. eqb (link_at p.layered.links j).edge e && eqb (layer_of p.layered (link_at p.layered.links j).tail) r) (range_with_len 0 links) k (has_range 0 links k (omega arith) (omega (arith, h)))
      (and_from (eqb e e) (eqb r r) (eq-eqb e e refl) (eq-eqb r r refl))
      in
      at_has (chain p e) 0 k (links_have p e r k (range_with_len 0 p.layers) (has_range 0 p.layers r (omega arith) (omega (arith, there))) here)

  child_end : (e u : ℕ) (t : Bool) → e < length l.edges → u ≡ unit_of p (spoke l (end_at e t)).child → Ends p e u (spoke l (end_at e t)).child
  child_end e u t h same = at_child_unit (ap (is_child p.layered) same ∙ ap is_some (linked.children (spoke l (end_at e t)).child (spoke_there l e t level h).child).child) same

  lane_end : (e u j child : ℕ) → IsLaneUnit p u → j < links → edge_of_link j ≡ e → (link_at p.layered.links j).head ≡ u → Ends p e u child
  lane_end e u j child lane h own head = at_lane (ap is_some lane.no_child) (lane_edge_is p u j lane h head ∙ own)

  pub tail_ends : (k : ℕ) → k < links → Ends p (edge_of_link k) (link_at p.layered.links k).tail (spoke l (tail_end p (edge_of_link k))).child
  tail_ends k h = let at = in_chain k h in step at.0 at.1 at.2
    where
      step : (i : ℕ) → i < length (chain p (edge_of_link k)) → chain_at p (edge_of_link k) i ≡ k → Ends p (edge_of_link k) (link_at p.layered.links k).tail (spoke l (tail_end p (edge_of_link k))).child
      step zero less same = child_end (edge_of_link k) _ (not (holds p.reversed (edge_of_link k))) (linked.links k h).edge_in (ap (λ j. (link_at p.layered.links j).tail) (sym same) ∙ (has_chain k h).from)
      step (suc i) less same =
          let e = edge_of_link k in
          let chained = has_chain k h in
          let one : i + 1 ≡ suc i = omega arith in
          let more : i + 1 < length (chain p e) = omega (arith, less) in
          let before : i < length (chain p e) = omega (arith, less) in
          let own = chain_are p e i before in
          let join : (link_at p.layered.links (chain_at p e i)).head ≡ (link_at p.layered.links k).tail = chained.joined i more ∙ ap (λ j. (link_at p.layered.links j).tail) (ap (chain_at p e) one ∙ same) in
          lane_end e (link_at p.layered.links k).tail (chain_at p e i) _ (subst (IsLaneUnit p) join (chained.lanes i more)) own.0 own.1 join

  pub head_ends : (k : ℕ) → k < links → Ends p (edge_of_link k) (link_at p.layered.links k).head (spoke l (head_end p (edge_of_link k))).child
  head_ends k h =
      let e = edge_of_link k in
      let chained = has_chain k h in
      let at = in_chain k h in
      let less = at.1 in
      elim (cases_eq (at.0 + 1) (length (chain p e))) [
        | inl last ↦ (let same : length (chain p e) - 1 ≡ at.0 = omega (arith, last) in
            child_end e _ (holds p.reversed e) (linked.links k h).edge_in (ap (λ j. (link_at p.layered.links j).head) (sym (ap (chain_at p e) same ∙ at.2)) ∙ chained.to))
        | inr inner ↦ (let lane = chained.lanes at.0 (omega (arith, less, inner)) in
            lane_end e _ k _ (subst (λ j. IsLaneUnit p (link_at p.layered.links j).head) at.2 lane) h refl refl)
      ]

module _ (l : PlainLevel) (p : PlainPlan) (o : Orders) (layers : List ℕ) (ready : IsReady l p o layers) where
  pub edge_there : (k : ℕ) → k < length p.layered.links → (link_at p.layered.links k).edge < length l.edges
  edge_there k h = (ready.units.linked.links k h).edge_in

  pub no_loop : (k : ℕ) → k < length p.layered.links → is_loop l (link_at p.layered.links k).edge ≡ false
  no_loop k h = (ready.units.linked.links k h).no_loop

  pub child_is : (c : ℕ) → c < length l.children → is_child p.layered (unit_of p c) ≡ true
  child_is c h = ap is_some (ready.units.linked.children c h).child
