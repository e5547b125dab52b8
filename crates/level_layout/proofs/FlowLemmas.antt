-- Flows of one edge more, the bound of a span, and what a certificate is made from.
use Rattle.std.proofs.Common.{◌≡◌, ℕ, suc, ◌+◌, ◌*◌, ◌^◌, ◌<◌, ◌≤◌, not, ℤ, pos, negsuc, ◌-ℤ◌, ◌≤ℤ◌, ◌<ℤ◌, List, [], ◌∷◌, ◌++◌, length, map, take, get_or, arith, sym, ap, subst, inl, inr, ◌∙◌, IsTrue, IsFalse, true≢false}
use Rattle.std.proofs.lemmas.Int.{ints}
use Rattle.std.proofs.lemmas.Bool.{cases_lt}
use Rattle.std.proofs.lemmas.List.{get_or_append_left, get_or_push, length_push, map_push, take_more}
use Rattle.std.proofs.Math.Nat.{mul-le-mul_left}
use Rattle.network_laws.specs.declared.network.NetEdge.{NetEdge}
use Rattle.network_laws.specs.Network.{edge_at as net_at}
use Rattle.network_laws.specs.Layering.{layer_of, natural, rise, weighed, weights, IsSolution}
use Rattle.level_model.specs.Conditions.{IsLevel}
use Rattle.level_model.specs.Level.{PlainLevel, is_loop}
use Rattle.level_layout.specs.Certificate.{flow_at, links, links_to, network}
use Rattle.level_layout.specs.Flows.{AreFlows}
use Rattle.network_parts.proofs.RangeLemmas.{map_same, one_more}
use Rattle.level_layout.proofs.LowLayers.{layers_low}
use Rattle.level_layout.proofs.NetLemmas.{ends_below, few_network, is_plain, link_no, link_yes, weight_low}

flow_left : (flows : List ℕ) (x e : ℕ) → e < length flows → flow_at (flows ++ x ∷ []) e ≡ flow_at flows e
flow_left flows x e h = get_or_append_left flows (x ∷ []) 0 e h

flow_last : (flows : List ℕ) (x e : ℕ) → length flows ≡ e → flow_at (flows ++ x ∷ []) e ≡ x
flow_last flows x e h = get_or_push flows x 0 e h

-- the flows of earlier edges stay
kept : (l : PlainLevel) (flow : List ℕ) (n next x : ℕ) (flows : List ℕ) → AreFlows l flow n next flows → map (flow_at (flows ++ x ∷ [])) (links_to l n) ≡ take next flow
kept l flow n next x flows are =
    let many = are.as_many in
    map_same (λ e. not (is_loop l e)) (flow_at (flows ++ x ∷ [])) (flow_at flows) n (λ e h t. flow_left flows x e (omega (arith, h, many))) ∙ are.links_are

pub flows_loop : (l : PlainLevel) (flow : List ℕ) (n next : ℕ) (flows more : List ℕ) → AreFlows l flow n next flows → IsTrue (is_loop l n) → more ≡ flows ++ 0 ∷ [] → AreFlows l flow (n + 1) next more
flows_loop l flow n next flows more are loop pushed =
    let many = are.as_many in
    subst (AreFlows l flow (n + 1) next) (sym pushed) (record {
      as_many = length_push flows 0 ∙ ap (λ k. k + 1) many;
      next_is = are.next_is ∙ ap length (sym (link_no l n loop));
      loops = λ e h is. elim (cases_lt e n) [
        | inl less ↦ flow_left flows 0 e (omega (arith, less, many)) ∙ are.loops e less is
        | inr most ↦ flow_last flows 0 e (omega (arith, h, most, many))
      ];
      links_are = ap (map (flow_at (flows ++ 0 ∷ []))) (link_no l n loop) ∙ kept l flow n next 0 flows are;
    })

-- there is a flow for one link more
pub flow_there : (l : PlainLevel) (flow : List ℕ) (n next : ℕ) (flows : List ℕ) → AreFlows l flow n next flows → IsFalse (is_loop l n) → n < length l.edges → length flow ≡ length (links l) → next < length flow
flow_there l flow n next flows are no_loop inside long =
    let up = one_more (λ e. not (is_loop l e)) n (length l.edges) (ap not no_loop) inside in
    let is = are.next_is in
    omega (arith, up, is, long)

pub flows_link : (l : PlainLevel) (flow : List ℕ) (n next x : ℕ) (flows more : List ℕ) → AreFlows l flow n next flows → IsFalse (is_loop l n) → next < length flow → x ≡ get_or flow next 0 → more ≡ flows ++ x ∷ []
    → AreFlows l flow (n + 1) (next + 1) more
flows_link l flow n next x flows more are no_loop there value pushed =
    let many = are.as_many in
    subst (AreFlows l flow (n + 1) (next + 1)) (sym pushed) (record {
      as_many = length_push flows x ∙ ap (λ k. k + 1) many;
      next_is = ap (λ k. k + 1) are.next_is ∙ sym (length_push (links_to l n) n) ∙ ap length (sym (link_yes l n no_loop));
      loops = λ e h is. elim (cases_lt e n) [
        | inl less ↦ flow_left flows x e (omega (arith, less, many)) ∙ are.loops e less is
        | inr most ↦
            let same : e ≡ n = omega (arith, h, most) in
            absurd (true≢false (sym is ∙ ap (is_loop l) same ∙ no_loop))
      ];
      links_are = ap (map (flow_at (flows ++ x ∷ []))) (link_yes l n no_loop) ∙ map_push (flow_at (flows ++ x ∷ [])) (links_to l n) n
          ∙ ap (λ ys. ys ++ flow_at (flows ++ x ∷ []) n ∷ []) (kept l flow n next x flows are)
          ∙ ap (λ y. take next flow ++ y ∷ []) (flow_last flows x n many ∙ value) ∙ sym (take_more flow next 0 there);
    })

-- ---- layers and span are in range

pub layers_below : (l : PlainLevel) (rs : List ℕ) (layers : List ℤ) (flow : List ℕ) (total : ℕ) → IsLevel l → IsSolution (length l.children) (network l rs) layers flow total → (v : ℕ) → v < length layers → layer_of layers v <ℤ pos (length l.children)
layers_below l rs layers flow total level s v h = layers_low (length l.children) (network l rs) layers flow total (ends_below l rs level) (is_plain l rs level) s v (subst (λ n. v < n) s.layer_for_each h)

product_low : (a b : ℕ) → a ≤ 2 ^ 20 → b ≤ 2048 → a * b ≤ 2 ^ 31
product_low a b h g =
    let up = mul-le-mul_left a g in
    omega (arith, up, h)

weighed_low : (g : NetEdge → ℕ) (edges : List NetEdge) → ((k : ℕ) → k < length edges → (net_at edges k).weight ≤ 2 ^ 20) → ((k : ℕ) → k < length edges → g (net_at edges k) ≤ 2048) → weighed g edges (weights edges) ≤ length edges * 2 ^ 31
weighed_low g [] light low = omega arith
weighed_low g (e ∷ es) light low =
    let here = product_low e.weight (g e) (light 0 (omega arith)) (low 0 (omega arith)) in
    let rest = weighed_low g es (λ k h. light (suc k) (omega (arith, h))) (λ k h. low (suc k) (omega (arith, h))) in
    omega (arith, here, rest)

natural_low : (z : ℤ) (n : ℕ) → z ≤ℤ pos n → natural z ≤ n
natural_low (pos m) n h = omega (arith, ints, h)
natural_low (negsuc m) n h = omega arith

pub span_low : (l : PlainLevel) (rs : List ℕ) (layers : List ℤ) (flow : List ℕ) (total : ℕ) → IsLevel l → IsSolution (length l.children) (network l rs) layers flow total → total < 2 ^ 64
span_low l rs layers flow total level s =
    let ends = ends_below l rs level in
    let many = s.layer_for_each in
    let children = level.few_children in
    let rises : (k : ℕ) → k < length (network l rs) → rise layers (net_at (network l rs) k) ≤ 2048 =
    λ k h. let tail = (ends k h).0 in
    let head = (ends k h).1 in
    let low = s.from_zero.none_below (net_at (network l rs) k).tail tail in
    let high = layers_below l rs layers flow total level s (net_at (network l rs) k).head (omega (arith, head, many)) in
    natural_low (layer_of layers (net_at (network l rs) k).head -ℤ layer_of layers (net_at (network l rs) k).tail) 2048 (omega (arith, ints, low, high, children))
    in
    let most = weighed_low (rise layers) (network l rs) (λ k h. (weight_low l rs level k h).1) rises in
    let few = few_network l rs in
    let edges = level.few_edges in
    let is = s.cost_is in
    omega (arith, most, few, edges, is)
