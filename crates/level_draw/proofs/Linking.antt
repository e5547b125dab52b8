-- The chains of a plan's edges, as the walk along their links meets them.
use Rattle.std.proofs.Common.{◌≡◌, ℕ, zero, suc, ◌+◌, ◌<◌, ◌^◌, ℤ, pos, ◌+ℤ◌, ◌≤ℤ◌, ◌<ℤ◌, Bool, true, false, List, [], ◌∷◌, ◌++◌, length, arith, refl, sym, ◌∙◌, ap, subst}
use Rattle.std.proofs.lemmas.Int.{ints}
use Rattle.std.specs.Prelude.{is_some}
use Rattle.std.specs.List.{range_with_len}
use Rattle.drawing_types.specs.declared.shape.Dock.{Dock}
use Rattle.elk_layers.specs.Layered.{unit_at, link_at, is_child, layer_of, IsFromZero}
use Rattle.elk_layers.specs.Lines.{top_of}
use Rattle.level_model.specs.Table.{child_in}
use Rattle.level_model.specs.Level.{PlainLevel, PlainPlan, Orders, End, end_at, spoke, is_loop, tail_end, head_end}
use Rattle.level_model.specs.Nets.{unit_of, layer_of_child}
use Rattle.level_model.specs.Traces.{chain, links_at, links_from}
use Rattle.level_model.specs.Units.{HasChain, IsLaneUnit, chain_at}
use Rattle.level_model.proofs.Lists.{at_has}
use Rattle.level_model.proofs.LinkLemmas.{chain_are}
use Rattle.level_nets.specs.Parts.{Parts, plan_of, ArePlanned, EndAbove}
use Rattle.level_nets.specs.Read.{dock_at}
use Rattle.level_nets.proofs.Chains.{in_chain, chain_of, one_link}
use Rattle.level_nets.proofs.Names.{dock_is, child_below, unit_is}
use Rattle.level_draw.specs.Chains.{leaves_child, AreSingle, IsChain, end_layer}
use Rattle.level_draw.specs.Read.{links_of, tail_of, head_of}
use Rattle.level_draw.specs.Reach.{IsLinked}

body_in : (b v h t : ℤ) → pos 0 ≤ℤ b → pos 0 ≤ℤ v → (b +ℤ v) ≤ℤ h → pos 0 ≤ℤ t → (t +ℤ h) <ℤ pos (2 ^ 49) → IsFromZero b (pos (2 ^ 49))
body_in b v h t low deep within top end = (low, omega (arith, ints, deep, within, top, end))

module _ (s : Parts) (rows : List (List ℕ)) (o : Orders) (layers : List ℕ) (planned : ArePlanned s rows o layers) where
  abbrev l : PlainLevel
  l = s.level

  abbrev p : PlainPlan
  p = plan_of s rows

  -- where a link stands in its edge's chain
  abbrev Stands : ℕ → Type 0
  Stands k = (i : ℕ) × (i < length (chain (plan_of s rows) (link_at s.layered.links k).edge)) × (chain_at (plan_of s rows) (link_at s.layered.links k).edge i ≡ k)

  stands : (k : ℕ) → k < length s.layered.links → Stands k
  stands k h = at_has (chain (plan_of s rows) (link_at s.layered.links k).edge) 0 k (in_chain s.level (plan_of s rows) o layers planned.ready k h)

  chained : (k : ℕ) → k < length s.layered.links → HasChain s.level (plan_of s rows) (link_at s.layered.links k).edge
  chained k h = chain_of s.level (plan_of s rows) o layers planned.ready k h

  lane_leaves : (u : ℕ) → IsLaneUnit (plan_of s rows) u → is_child s.layered u ≡ false
  lane_leaves u lane = ap is_some lane.no_child

  clash : {b : Bool} → b ≡ true → b ≡ false → ⊥
  clash t f = let bad : true ≡ false = sym t ∙ f in absurd cc

  -- the first link of a chain leaves a child, every later one a lane
  later_lane : (e i : ℕ) → HasChain s.level (plan_of s rows) e → i + 1 < length (chain (plan_of s rows) e) → leaves_child s (chain_at (plan_of s rows) e (i + 1)) ≡ false
  unfolding leaves_child
  later_lane e i has h = ap (is_child s.layered) (sym (has.joined i h)) ∙ lane_leaves _ (has.lanes i h)

  -- a link that leaves a child is the first of its chain
  is_first : (k : ℕ) → k < length s.layered.links → leaves_child s k ≡ true → chain_at (plan_of s rows) (link_at s.layered.links k).edge 0 ≡ k
  is_first k h leaves = step (stands k h).0 (stands k h).1 (stands k h).2
    where
      step : (i : ℕ) → i < length (chain (plan_of s rows) (link_at s.layered.links k).edge) → chain_at (plan_of s rows) (link_at s.layered.links k).edge i ≡ k
          → chain_at (plan_of s rows) (link_at s.layered.links k).edge 0 ≡ k
      step zero less at = at
      step (suc i) less at =
          let next : suc i ≡ i + 1 = omega arith in
          let lane = later_lane (link_at s.layered.links k).edge i (chained k h) (omega (arith, less)) in
          absurd (clash leaves (sym (ap (leaves_child s) (sym (ap (chain_at (plan_of s rows) (link_at s.layered.links k).edge) next) ∙ at)) ∙ lane))

  -- a link that leaves a lane follows the link that enters it
  record Follows (k : ℕ) : Type 0 where
    place : ℕ
    inside : place + 1 < length (chain (plan_of s rows) (link_at s.layered.links k).edge)
    there : chain_at (plan_of s rows) (link_at s.layered.links k).edge (place + 1) ≡ k

  follows : (k : ℕ) → k < length s.layered.links → leaves_child s k ≡ false → Follows k
  unfolding leaves_child
  follows k h lane = step (stands k h).0 (stands k h).1 (stands k h).2
    where
      step : (i : ℕ) → i < length (chain (plan_of s rows) (link_at s.layered.links k).edge) → chain_at (plan_of s rows) (link_at s.layered.links k).edge i ≡ k → Follows k
      step zero less at =
          let e = (link_at s.layered.links k).edge in
          let found = planned.ready.units.linked.links k h in
          let tail : (link_at s.layered.links k).tail ≡ unit_of (plan_of s rows) (spoke s.level (tail_end (plan_of s rows) e)).child = ap (λ j. (link_at s.layered.links j).tail) (sym at) ∙ (chained k h).from in
          let child : is_child s.layered (link_at s.layered.links k).tail ≡ true =
          ap (is_child s.layered) tail ∙ ap is_some (planned.ready.units.linked.children (spoke s.level (tail_end (plan_of s rows) e)).child (child_below s rows o layers planned (tail_end (plan_of s rows) e) found.edge_in)).child in
          absurd (clash child lane)
      step (suc i) less at =
          let next : suc i ≡ i + 1 = omega arith in
          record { place = i; inside = omega (arith, less); there = sym (ap (chain_at (plan_of s rows) (link_at s.layered.links k).edge) next) ∙ at }

  pub are_single : AreSingle s
  are_single =
      record {
        edges = λ k h. (planned.ready.units.linked.links k h).edge_in;
        firsts = λ j k hj hk cj ck same.
            sym (is_first j hj cj) ∙ ap (λ e. chain_at (plan_of s rows) e 0) same ∙ is_first k hk ck;
        outs = λ j k hj hk lj lk same.
            let fj = follows j hj lj in
            let fk = follows k hk lk in
            one_out j k hj hk fj fk same;
      }
    where
      one_out : (j k : ℕ) → j < length s.layered.links → k < length s.layered.links → Follows j → Follows k → (link_at s.layered.links j).tail ≡ (link_at s.layered.links k).tail → j ≡ k
      one_out j k hj hk fj fk same =
          let ej = (link_at s.layered.links j).edge in
          let ek = (link_at s.layered.links k).edge in
          let before_j = chain_at (plan_of s rows) ej fj.place in
          let before_k = chain_at (plan_of s rows) ek fk.place in
          let ij = fj.inside in
          let ik = fk.inside in
          let aj = chain_are (plan_of s rows) ej fj.place (omega (arith, ij)) in
          let ak = chain_are (plan_of s rows) ek fk.place (omega (arith, ik)) in
          let head_j : (link_at s.layered.links before_j).head ≡ (link_at s.layered.links j).tail = (chained j hj).joined fj.place ij ∙ ap (λ i. (link_at s.layered.links i).tail) fj.there in
          let head_k : (link_at s.layered.links before_k).head ≡ (link_at s.layered.links k).tail = (chained k hk).joined fk.place ik ∙ ap (λ i. (link_at s.layered.links i).tail) fk.there in
          let lane : IsLaneUnit (plan_of s rows) (link_at s.layered.links k).tail = subst (IsLaneUnit (plan_of s rows)) head_k ((chained k hk).lanes fk.place ik) in
          let one : before_j ≡ before_k = lane.once before_j before_k aj.0 ak.0 (head_j ∙ same) head_k in
          let edges : ej ≡ ek = sym aj.1 ∙ ap (λ i. (link_at s.layered.links i).edge) one ∙ ak.1 in
          let nj = (planned.ready.sound.links_are j hj).next_layer in
          let nk = (planned.ready.sound.links_are k hk).next_layer in
          let tails : layer_of s.layered (link_at s.layered.links j).tail ≡ layer_of s.layered (link_at s.layered.links k).tail = ap (layer_of s.layered) same in
          one_link s.level (plan_of s rows) o layers planned.ready j k hj hk edges (omega (arith, nj, nk, tails))

  -- the layer of an end's child
  end_layer_is : (n : End) → n.edge < length s.level.edges → end_layer s n ≡ layer_of_child (plan_of s rows) (spoke s.level n).child
  end_layer_is n h =
      ap (layer_of s.layered)
      (unit_is s rows o layers planned (dock_at s n) (spoke s.level n).child (ap (λ (d : Dock). d.node) (dock_is s rows o layers planned n h)) (child_below s rows o layers planned n h))

  links_same : (e : ℕ) (rs : List ℕ) → links_from (plan_of s []) e rs ≡ links_from (plan_of s rows) e rs
  links_same e [] = refl
  links_same e (q ∷ rs) = ap (λ ks. links_at (plan_of s rows) e q ++ ks) (links_same e rs)

  pub chain_same : (e : ℕ) → links_of s e ≡ chain (plan_of s rows) e
  unfolding links_of
  chain_same e = links_same e (range_with_len 0 s.layered.layers)

  chain_is : (e : ℕ) → e < length s.level.edges → is_loop s.level e ≡ false → IsChain s e (tail_of s e) (head_of s e) (chain (plan_of s rows) e)
  unfolding leaves_child
  chain_is e h loop =
      let has = planned.ready.units.linked.chains e h loop in
      let tail = tail_end (plan_of s rows) e in
      let head = head_end (plan_of s rows) e in
      record {
        long = ap (λ n. n + length (chain (plan_of s rows) e)) (end_layer_is tail h) ∙ has.long ∙ sym (end_layer_is head h);
        some = has.some;
        there = λ i k. (chain_are (plan_of s rows) e i k).0;
        first_edge = (chain_are (plan_of s rows) e 0 has.some).1;
        first_leaves = ap (is_child s.layered) has.from
            ∙ ap is_some (planned.ready.units.linked.children (spoke s.level tail).child (child_below s rows o layers planned tail h)).child;
        joined = has.joined;
        lanes = λ i k. later_lane e i has k;
      }

  -- the outline of a child begins within its unit
  body_is : EndAbove s → (c : ℕ) → c < length s.level.children → IsFromZero (unit_at s.layered.units (child_in s.table.children c).unit).body_top (pos (2 ^ 49))
  body_is ends c h =
      let unit = planned.ready.units.linked.children c h in
      let u = unit_of (plan_of s rows) c in
      let body = planned.ready.sound.bodies u unit.in_range (ap is_some unit.child) in
      subst (λ v. IsFromZero (unit_at s.layered.units v).body_top (pos (2 ^ 49))) (sym (planned.table.children c h).unit)
      (body_in (unit_at s.layered.units u).body_top (unit_at s.layered.units u).body_height (unit_at s.layered.units u).height (top_of s.tops u)
      body.top body.height body.bottom (planned.ready.apart.from_zero u unit.in_range) (ends u unit.in_range))

  pub is_linked : EndAbove s → IsLinked s
  is_linked above =
      record {
        single = are_single;
        chains = λ e h loop. subst (IsChain s e (tail_of s e) (head_of s e)) (sym (chain_same e)) (chain_is e h loop);
        ends = λ e t h. child_below s rows o layers planned (end_at e t) h;
        few = planned.ready.level.few_children;
        bodies = body_is above;
      }
