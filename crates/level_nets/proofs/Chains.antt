-- Each link is one of its edge's chain. So a link that begins or ends at a child does so at that of the edge's end, and an edge
-- has one link in a gap.
use Rattle.std.proofs.Common.{◌≡◌, ◌⊎◌, ⊎_elim, ℕ, zero, suc, ◌+◌, ◌-◌, ◌<◌, eqb, cond, Bool, true, false, ◌&&◌, ◌||◌, List, length, refl, sym, subst, ap, ◌∙◌, arith}
use Rattle.std.proofs.lemmas.Bool.{and_from, eq-eqb, cases_order}
use Rattle.std.specs.Prelude.{is_some}
use Rattle.std.specs.List.{range_with_len}
use Rattle.elk_layers.specs.Layered.{unit_at, link_at, is_child, layer_of}
use Rattle.self_loops.specs.Loops.{is_upright}
use Rattle.level_model.specs.Stage.{anchor_line, dock_lane, long_lane}
use Rattle.level_model.specs.Level.{PlainLevel, PlainPlan, Orders, End, spoke, tail_end, head_end, dock_of}
use Rattle.level_model.specs.Nets.{unit_of, unit_of_line, is_inverted, line_of_end, tail_line, head_line}
use Rattle.level_model.specs.Traces.{chain}
use Rattle.level_model.specs.Units.{IsLaneUnit, HasChain, chain_at}
use Rattle.level_model.specs.Ready.{IsReady}
use Rattle.level_model.proofs.Lists.{Has, has_filter, has_range, at_has, has_at}
use Rattle.level_model.proofs.LinkLemmas.{links_have, links_are as from_has}

-- a lane is no child
lane_no_child : (p : PlainPlan) (u : ℕ) → IsLaneUnit p u → is_child p.layered u ≡ true → ⊥
lane_no_child p u lane child = let none : is_some (unit_at p.layered.units u).child ≡ false = ap is_some lane.no_child in let bad : true ≡ false = sym child ∙ none in absurd cc

-- the line of an end lies in the unit of the end's child
pub end_line_unit : (l : PlainLevel) (p : PlainPlan) (o : Orders) (n : End) → unit_of_line l p (line_of_end l p o n) ≡ unit_of p (spoke l n).child
end_line_unit l p o n = step (is_upright (dock_of l p o n).side) (is_inverted l p o n)
  where
    pick : (b : Bool) → unit_of_line l p (cond b (dock_lane (dock_of l p o n)) (anchor_line (dock_of l p o n))) ≡ unit_of p (spoke l n).child
    pick true = refl
    pick false = refl

    step : (a b : Bool) → unit_of_line l p (cond (a || b) (dock_lane (dock_of l p o n)) (anchor_line (dock_of l p o n))) ≡ unit_of p (spoke l n).child
    step a b = pick (a || b)

module _ (l : PlainLevel) (p : PlainPlan) (o : Orders) (layers : List ℕ) (ready : IsReady l p o layers) where
  tail_in : (k : ℕ) → k < length p.layered.links → layer_of p.layered (link_at p.layered.links k).tail < p.layers
  tail_in k h =
      let less = ready.sound.layers_are (link_at p.layered.links k).tail (ready.sound.links_are k h).tail in
      let same = ready.layers_are in
      omega (arith, less, same)

  pub in_chain : (k : ℕ) → k < length p.layered.links → Has (chain p (link_at p.layered.links k).edge) k
  in_chain k h =
      let e = (link_at p.layered.links k).edge in
      let r = layer_of p.layered (link_at p.layered.links k).tail in
      links_have p e r k (range_with_len 0 p.layers) (has_range 0 p.layers r (omega arith) (let less = tail_in k h in omega (arith, less)))
      (has_filter (λ j. eqb (link_at p.layered.links j).edge e && eqb (layer_of p.layered (link_at p.layered.links j).tail) r) (range_with_len 0 (length p.layered.links)) k
      (has_range 0 (length p.layered.links) k (omega arith) (omega (arith, h)))
      (and_from (eqb (link_at p.layered.links k).edge e) (eqb (layer_of p.layered (link_at p.layered.links k).tail) r) (eq-eqb e e refl) (eq-eqb r r refl)))

  -- an edge that has links is none of the loops
  pub chain_of : (k : ℕ) → k < length p.layered.links → HasChain l p (link_at p.layered.links k).edge
  chain_of k h = let found = ready.units.linked.links k h in ready.units.linked.chains (link_at p.layered.links k).edge found.edge_in found.no_loop

  -- a link at a place of the chain
  chain_link : (e i : ℕ) → i < length (chain p e) → (chain_at p e i < length p.layered.links) × ((link_at p.layered.links (chain_at p e i)).edge ≡ e)
  chain_link e i h = from_has p e (chain_at p e i) (range_with_len 0 p.layers) (has_at (chain p e) i 0 h)

  -- the tail of a link at a child is the unit of the edge's tail, and its head that of the edge's head
  tail_at_place : (e i k : ℕ) → HasChain l p e → i < length (chain p e) → chain_at p e i ≡ k → is_child p.layered (link_at p.layered.links k).tail ≡ true
      → (link_at p.layered.links k).tail ≡ unit_of p (spoke l (tail_end p e)).child
  tail_at_place e zero k has h at child = ap (λ j. (link_at p.layered.links j).tail) (sym at) ∙ has.from
  tail_at_place e (suc i) k has h at child =
      let next : i + 1 ≡ suc i = omega arith in
      let joined : (link_at p.layered.links (chain_at p e i)).head ≡ (link_at p.layered.links k).tail =
      has.joined i (omega (arith, h)) ∙ ap (λ j. (link_at p.layered.links (chain_at p e j)).tail) next ∙ ap (λ j. (link_at p.layered.links j).tail) at in
      absurd (lane_no_child p (link_at p.layered.links k).tail (subst (IsLaneUnit p) joined (has.lanes i (omega (arith, h)))) child)

  pub tail_is : (k : ℕ) → k < length p.layered.links → is_child p.layered (link_at p.layered.links k).tail ≡ true
      → (link_at p.layered.links k).tail ≡ unit_of p (spoke l (tail_end p (link_at p.layered.links k).edge)).child
  tail_is k h child =
      let at = at_has (chain p (link_at p.layered.links k).edge) 0 k (in_chain k h) in
      tail_at_place (link_at p.layered.links k).edge at.0 k (chain_of k h) at.1 at.2 child

  pub head_is : (k : ℕ) → k < length p.layered.links → is_child p.layered (link_at p.layered.links k).head ≡ true
      → (link_at p.layered.links k).head ≡ unit_of p (spoke l (head_end p (link_at p.layered.links k).edge)).child
  head_is k h child =
      let e = (link_at p.layered.links k).edge in
      let has = chain_of k h in
      let at = at_has (chain p e) 0 k (in_chain k h) in
      let i = at.0 in
      let within = at.1 in
      ⊎_elim
      (λ (last : i + 1 ≡ length (chain p e)).
      let same : length (chain p e) - 1 ≡ i = omega (arith, last) in
      ap (λ j. (link_at p.layered.links j).head) (sym at.2) ∙ ap (λ j. (link_at p.layered.links (chain_at p e j)).head) (sym same) ∙ has.to)
      (λ (order : (i + 1 < length (chain p e)) ⊎ (length (chain p e) < i + 1)).
      ⊎_elim
      (λ (less : i + 1 < length (chain p e)). absurd (lane_no_child p (link_at p.layered.links k).head (subst (λ j. IsLaneUnit p (link_at p.layered.links j).head) at.2 (has.lanes i less)) child))
      (λ more. absurd (omega (arith, more, within)))
      order)
      (cases_order (i + 1) (length (chain p e)))

  -- the lines of a link lie in its tail and its head
  pub tail_line_unit : (k : ℕ) → k < length p.layered.links → unit_of_line l p (tail_line l p o k) ≡ (link_at p.layered.links k).tail
  tail_line_unit k h = step (is_child p.layered (link_at p.layered.links k).tail) refl
    where
      step : (b : Bool) → is_child p.layered (link_at p.layered.links k).tail ≡ b
          → unit_of_line l p (cond b (line_of_end l p o (tail_end p (link_at p.layered.links k).edge)) (long_lane (link_at p.layered.links k).tail)) ≡ (link_at p.layered.links k).tail
      step true child = end_line_unit l p o (tail_end p (link_at p.layered.links k).edge) ∙ sym (tail_is k h child)
      step false none = refl

  pub head_line_unit : (k : ℕ) → k < length p.layered.links → unit_of_line l p (head_line l p o k) ≡ (link_at p.layered.links k).head
  head_line_unit k h = step (is_child p.layered (link_at p.layered.links k).head) refl
    where
      step : (b : Bool) → is_child p.layered (link_at p.layered.links k).head ≡ b
          → unit_of_line l p (cond b (line_of_end l p o (head_end p (link_at p.layered.links k).edge)) (long_lane (link_at p.layered.links k).head)) ≡ (link_at p.layered.links k).head
      step true child = end_line_unit l p o (head_end p (link_at p.layered.links k).edge) ∙ sym (head_is k h child)
      step false none = refl

  -- the chain leads from layer to layer
  next_layer : (e i : ℕ) → HasChain l p e → i + 1 < length (chain p e)
      → layer_of p.layered (link_at p.layered.links (chain_at p e (i + 1))).tail ≡ layer_of p.layered (link_at p.layered.links (chain_at p e i)).tail + 1
  next_layer e i has h =
      ap (λ u. layer_of p.layered u) (sym (has.joined i h)) ∙ (ready.sound.links_are (chain_at p e i) (chain_link e i (omega (arith, h))).0).next_layer

  layers_rise : (e i d : ℕ) → HasChain l p e → i + suc d < length (chain p e)
      → layer_of p.layered (link_at p.layered.links (chain_at p e i)).tail < layer_of p.layered (link_at p.layered.links (chain_at p e (i + suc d))).tail
  layers_rise e i zero has h = let next = next_layer e i has h in omega (arith, next)
  layers_rise e i (suc d) has h =
      let up = layers_rise e i d has (omega (arith, h)) in
      let same : i + suc d + 1 ≡ i + suc (suc d) = omega arith in
      let next = subst (λ j. layer_of p.layered (link_at p.layered.links (chain_at p e j)).tail ≡ layer_of p.layered (link_at p.layered.links (chain_at p e (i + suc d))).tail + 1) same (next_layer e (i + suc d) has (omega (arith, h))) in
      omega (arith, up, next)

  before : (e i j : ℕ) → HasChain l p e → i < j → j < length (chain p e)
      → layer_of p.layered (link_at p.layered.links (chain_at p e i)).tail ≡ layer_of p.layered (link_at p.layered.links (chain_at p e j)).tail → ⊥
  before e i j has less h same =
      let at : i + suc (j - suc i) ≡ j = omega (arith, less) in
      let up = subst (λ m. layer_of p.layered (link_at p.layered.links (chain_at p e i)).tail < layer_of p.layered (link_at p.layered.links (chain_at p e m)).tail) at
      (layers_rise e i (j - suc i) has (omega (arith, less, h))) in
      omega (arith, up, same)

  -- an edge has one link in a gap
  pub one_link : (j k : ℕ) → j < length p.layered.links → k < length p.layered.links → (link_at p.layered.links j).edge ≡ (link_at p.layered.links k).edge
      → layer_of p.layered (link_at p.layered.links j).head ≡ layer_of p.layered (link_at p.layered.links k).head → j ≡ k
  one_link j k hj hk edges layers =
      let e = (link_at p.layered.links k).edge in
      let has = chain_of k hk in
      let aj = at_has (chain p e) 0 j (subst (λ f. Has (chain p f) j) edges (in_chain j hj)) in
      let ak = at_has (chain p e) 0 k (in_chain k hk) in
      let nj = (ready.sound.links_are j hj).next_layer in
      let nk = (ready.sound.links_are k hk).next_layer in
      let tails : layer_of p.layered (link_at p.layered.links j).tail ≡ layer_of p.layered (link_at p.layered.links k).tail = omega (arith, nj, nk, layers) in
      let same : layer_of p.layered (link_at p.layered.links (chain_at p e aj.0)).tail ≡ layer_of p.layered (link_at p.layered.links (chain_at p e ak.0)).tail =
      ap (λ m. layer_of p.layered (link_at p.layered.links m).tail) aj.2 ∙ tails ∙ ap (λ m. layer_of p.layered (link_at p.layered.links m).tail) (sym ak.2) in
      ⊎_elim
      (λ (one : aj.0 ≡ ak.0). sym aj.2 ∙ ap (λ i. chain_at p e i) one ∙ ak.2)
      (λ (order : (aj.0 < ak.0) ⊎ (ak.0 < aj.0)).
      ⊎_elim (λ less. absurd (before e aj.0 ak.0 has less ak.1 same)) (λ more. absurd (before e ak.0 aj.0 has more aj.1 (sym same))) order)
      (cases_order aj.0 ak.0)
