-- The flow of a placing's network: what it brings to links, to units and to the pairs that are held by their rooms.
use Rattle.std.proofs.Common.{◌≡◌, ◌≢◌, ℕ, zero, suc, ◌+◌, ◌*◌, ◌<◌, ◌≤◌, ◌==◌, cond, int_lt, ℤ, pos, negsuc, ◌+ℤ◌, ◌-ℤ◌, ◌*ℤ◌, ◌<ℤ◌, List, [], ◌∷◌, ◌++◌, length, map, drop, get_or, Bool, true, false, arith, refl, ◌∙◌, ap, inl, inr, eq-eqb, ne_eqb}
use Rattle.std.proofs.lemmas.Int.{ints}
use Rattle.std.proofs.lemmas.Bool.{cases_Bool}
use Rattle.std.specs.List.{All}
use Rattle.std.proofs.lemmas.List.Elements.{All-nil, All-cons, All-head, All-tail, All-append}
use Rattle.elk_layers.specs.declared.units.Link.{Link}
use Rattle.elk_layers.specs.Layered.{Plain, link_at}
use Rattle.network_laws.specs.declared.network.NetEdge.{NetEdge}
use Rattle.network_laws.specs.Layering.{natural, weighed, weights, at_node, Balances, flow_value}
use Rattle.ns_place.specs.declared.least.PairFlow.{PairFlow}
use Rattle.ns_place.specs.Pairs.{distance, IsPair}
use Rattle.ns_place.specs.Heights.{of_links, of_pairs, links_value, pairs_value}
use Rattle.ns_place.specs.Flows.{flow_at}
use Rattle.ns_place.specs.Weighed.{weight_at, AreWeights}
use Rattle.ns_place.specs.Network.{joining, edge_for, alone_of, edges_of, HasPins}
use Rattle.ns_place.proofs.NetworkLemmas.{joining_all, edges_all}
use Rattle.network_laws.proofs.Duality.{natural_is}

abbrev pub head_of : NetEdge → ℕ
head_of e = e.head

abbrev pub tail_of : NetEdge → ℕ
tail_of e = e.tail

-- sums over two lists of edges

at_no_flow : (end : NetEdge → ℕ) (es : List NetEdge) (v : ℕ) → at_node end es [] v ≡ 0
at_no_flow end [] v = refl
at_no_flow end (e ∷ es) v = refl

weighed_nothing : (g : NetEdge → ℕ) (es : List NetEdge) → weighed g es [] ≡ 0
weighed_nothing g [] = refl
weighed_nothing g (e ∷ es) = refl

at_append : (end : NetEdge → ℕ) (es es' : List NetEdge) (flow : List ℕ) (v : ℕ) → at_node end (es ++ es') flow v ≡ at_node end es flow v + at_node end es' (drop (length es) flow) v
at_append end [] es' flow v = omega arith
at_append end (e ∷ es) es' [] v = let a = at_no_flow end es' v in omega (arith, a)
at_append end (e ∷ es) es' (a ∷ flow) v = let h = at_append end es es' flow v in omega (arith, h)

weighed_append : (g : NetEdge → ℕ) (es es' : List NetEdge) (flow : List ℕ) → weighed g (es ++ es') flow ≡ weighed g es flow + weighed g es' (drop (length es) flow)
weighed_append g [] es' flow = omega arith
weighed_append g (e ∷ es) es' [] = let a = weighed_nothing g es' in omega (arith, a)
weighed_append g (e ∷ es) es' (a ∷ flow) = let h = weighed_append g es es' flow in omega (arith, h)

at_weights : (end : NetEdge → ℕ) (es es' : List NetEdge) (v : ℕ) → at_node end (es ++ es') (weights (es ++ es')) v ≡ at_node end es (weights es) v + at_node end es' (weights es') v
at_weights end [] es' v = omega arith
at_weights end (e ∷ es) es' v = let h = at_weights end es es' v in omega (arith, h)

pub weighed_weights : (g : NetEdge → ℕ) (es es' : List NetEdge) → weighed g (es ++ es') (weights (es ++ es')) ≡ weighed g es (weights es) + weighed g es' (weights es')
weighed_weights g [] es' = omega arith
weighed_weights g (e ∷ es) es' = let h = weighed_weights g es es' in omega (arith, h)

at_none : (end : NetEdge → ℕ) (es : List NetEdge) (flow : List ℕ) (v : ℕ) → All (λ (e : NetEdge). end e ≢ v) es → at_node end es flow v ≡ 0
at_none end [] flow v h = refl
at_none end (e ∷ es) [] v h = refl
at_none end (e ∷ es) (a ∷ flow) v h =
    let rest = at_none end es flow v (All-tail (λ (x : NetEdge). end x ≢ v) e es h) in
    rw (ne_eqb (end e) v (All-head (λ (x : NetEdge). end x ≢ v) e es h)) (omega (arith, rest))

cond_nothing : (b : Bool) → cond b 0 0 + 0 ≡ 0
cond_nothing true = refl
cond_nothing false = refl

pairs_no_weight : (l : Plain) (alone : ℕ) (end : NetEdge → ℕ) (pairs : List PairFlow) (v : ℕ) → at_node end (map (edge_for l alone) pairs) (weights (map (edge_for l alone) pairs)) v ≡ 0
pairs_no_weight l alone end [] v = refl
pairs_no_weight l alone end (p ∷ pairs) v =
    let rest = pairs_no_weight l alone end pairs v in
    let none = cond_nothing (end (edge_for l alone p) == v) in
    omega (arith, rest, none)

pub pairs_cost_nothing : (l : Plain) (alone : ℕ) (g : NetEdge → ℕ) (pairs : List PairFlow) → weighed g (map (edge_for l alone) pairs) (weights (map (edge_for l alone) pairs)) ≡ 0
pairs_cost_nothing l alone g [] = refl
pairs_cost_nothing l alone g (p ∷ pairs) = let rest = pairs_cost_nothing l alone g pairs in omega (arith, rest)

-- the flows of pairs

abbrev pub flows_of : List PairFlow → List ℕ
flows_of pairs = map (λ (p : PairFlow). p.flow) pairs

pairs_in : (l : Plain) (alone : ℕ) (pairs : List PairFlow) (u : ℕ) → at_node head_of (map (edge_for l alone) pairs) (flows_of pairs) u ≡ of_pairs (λ p. p.lower) pairs u
pairs_in l alone [] u = refl
pairs_in l alone (p ∷ pairs) u = let h = pairs_in l alone pairs u in omega (arith, h)

-- pairs that their rooms hold apart carry no flow
abbrev pub NoneBelow : Plain → PairFlow → Type 0
NoneBelow l p = distance l p <ℤ pos 0 → p.flow ≡ 0

pub below_from_test : (d : ℤ) → int_lt d (pos 0) ≡ true → d <ℤ pos 0
below_from_test d t = omega (arith, ints, t)

test_from_below : (d : ℤ) → d <ℤ pos 0 → int_lt d (pos 0) ≡ true
test_from_below d h = grind (arith, ints)

cond_zero : (b : Bool) (n : ℕ) → n ≡ 0 → cond b n 0 ≡ 0
cond_zero true n h = h
cond_zero false n h = refl

pairs_out : (l : Plain) (alone : ℕ) (pairs : List PairFlow) (u : ℕ) → u ≢ alone → All (NoneBelow l) pairs → at_node tail_of (map (edge_for l alone) pairs) (flows_of pairs) u ≡ of_pairs (λ p. p.upper) pairs u
pairs_out l alone [] u ne h = refl
pairs_out l alone (p ∷ pairs) u ne h =
    let rest = pairs_out l alone pairs u ne (All-tail (NoneBelow l) p pairs h) in
    let none = All-head (NoneBelow l) p pairs h in
    elim (cases_Bool (int_lt (distance l p) (pos 0))) [
      | inl t ↦
          let zero_flow = none (below_from_test (distance l p) t) in
          let a = cond_zero (alone == u) p.flow zero_flow in
          let b = cond_zero (p.upper == u) p.flow zero_flow in
          rw t (omega (arith, rest, a, b))
      | inr f ↦ rw f (omega (arith, rest))
    ]

none_from : (l : Plain) (alone : ℕ) (pairs : List PairFlow) → at_node tail_of (map (edge_for l alone) pairs) (flows_of pairs) alone ≡ 0 → All (NoneBelow l) pairs
none_from l alone [] h = All-nil (NoneBelow l)
none_from l alone (p ∷ pairs) h =
    let sum : cond (cond (int_lt (distance l p) (pos 0)) alone p.upper == alone) p.flow 0 + at_node tail_of (map (edge_for l alone) pairs) (flows_of pairs) alone ≡ 0 = h in
    All-cons (NoneBelow l) p pairs
    (λ below. let t = test_from_below (distance l p) below in let q = rw (t, eq-eqb alone alone refl) at sum in omega (arith, q))
    (none_from l alone pairs (omega (arith, sum)))

worth_pair : (a : ℕ) (d : ℤ) → (d <ℤ pos 0 → a ≡ 0) → pos (a * natural d) ≡ pos a *ℤ d
worth_pair a (pos n) h = refl
worth_pair zero (negsuc n) h = omega (arith, ints)
worth_pair (suc a) (negsuc n) h = absurd (let e = h (omega (arith, ints)) in omega (arith, e))

pairs_worth : (l : Plain) (alone : ℕ) (pairs : List PairFlow) → All (NoneBelow l) pairs → pos (weighed (λ (e : NetEdge). e.least) (map (edge_for l alone) pairs) (flows_of pairs)) ≡ pairs_value l pairs
pairs_worth l alone [] h = refl
pairs_worth l alone (p ∷ pairs) h =
    let rest = pairs_worth l alone pairs (All-tail (NoneBelow l) p pairs h) in
    let here = worth_pair p.flow (distance l p) (All-head (NoneBelow l) p pairs h) in
    omega (arith, ints, rest, here)

-- the flows of links

-- of each link's two edges the flows are twice its weight together, and its number is less than the first by its weight
abbrev pub AreLinkFlows : List Link → List ℕ → List ℕ → List ℤ → Type 0
AreLinkFlows [] ws flow fs = Unit {0}
AreLinkFlows (l ∷ ls) [] flow fs = ⊥
AreLinkFlows (l ∷ ls) (w ∷ ws) [] fs = ⊥
AreLinkFlows (l ∷ ls) (w ∷ ws) (a ∷ []) fs = ⊥
AreLinkFlows (l ∷ ls) (w ∷ ws) (a ∷ b ∷ flow) [] = ⊥
AreLinkFlows (l ∷ ls) (w ∷ ws) (a ∷ b ∷ flow) (f ∷ fs) = ((f +ℤ pos w ≡ pos a) × (a + b ≡ 2 * w)) × AreLinkFlows ls ws flow fs

twice : (k : ℕ) → 2 * suc k ≡ suc (suc (2 * k))
twice k = omega arith

twice_more : (k : ℕ) → suc (suc (2 * k)) + 1 ≡ suc (suc (2 * k + 1))
twice_more k = omega arith

pub link_flows_are : (ls : List Link) (ws flow : List ℕ) (fs : List ℤ) → length ws ≡ length ls → 2 * length ls ≤ length flow → length fs ≡ length ls
    → ((k : ℕ) → k < length ls → flow_at fs k +ℤ pos (weight_at ws k) ≡ pos (get_or flow (2 * k) 0)) → ((k : ℕ) → k < length ls → get_or flow (2 * k) 0 + get_or flow (2 * k + 1) 0 ≡ 2 * weight_at ws k)
    → AreLinkFlows ls ws flow fs
link_flows_are [] ws flow fs each long same told sum = tt
link_flows_are (l ∷ ls) [] flow fs each long same told sum = absurd (omega (arith, each))
link_flows_are (l ∷ ls) (w ∷ ws) [] fs each long same told sum = absurd (omega (arith, long))
link_flows_are (l ∷ ls) (w ∷ ws) (a ∷ []) fs each long same told sum = absurd (omega (arith, long))
link_flows_are (l ∷ ls) (w ∷ ws) (a ∷ b ∷ flow) [] each long same told sum = absurd (omega (arith, same))
link_flows_are (l ∷ ls) (w ∷ ws) (a ∷ b ∷ flow) (f ∷ fs) each long same told sum = (
  (told 0 (omega arith), sum 0 (omega arith)),
  link_flows_are ls ws flow fs (omega (arith, each)) (omega (arith, long)) (omega (arith, same))
      (λ k h. rw (twice k) at (told (suc k) (omega (arith, h))))
      (λ k h. rw (twice k, twice_more k) at (sum (suc k) (omega (arith, h)))),
)

pull_one : (x y : Bool) (a b w m m' : ℕ) (f g g' : ℤ) → f +ℤ pos w ≡ pos a → a + b ≡ 2 * w → pos m +ℤ g ≡ pos m' +ℤ g'
    → pos (cond x a 0 + (cond y b 0 + m)) +ℤ (cond y f (pos 0) +ℤ g) ≡ pos (cond x w 0 + (cond y w 0 + m')) +ℤ (cond x f (pos 0) +ℤ g')
pull_one true true a b w m m' f g g' e s h = omega (arith, ints, e, s, h)
pull_one true false a b w m m' f g g' e s h = omega (arith, ints, e, s, h)
pull_one false true a b w m m' f g g' e s h = omega (arith, ints, e, s, h)
pull_one false false a b w m m' f g g' e s h = omega (arith, ints, e, s, h)

links_pull : (joint : ℕ) (ls : List Link) (ws flow : List ℕ) (fs : List ℤ) (u : ℕ) → AreLinkFlows ls ws flow fs
    → pos (at_node head_of (joining joint ls ws) flow u) +ℤ of_links (λ k. k.head) ls fs u ≡ pos (at_node head_of (joining joint ls ws) (weights (joining joint ls ws)) u) +ℤ of_links (λ k. k.tail) ls fs u
links_pull joint [] ws flow fs u h = refl
links_pull joint (l ∷ ls) [] flow fs u h = absurd h
links_pull joint (l ∷ ls) (w ∷ ws) [] fs u h = absurd h
links_pull joint (l ∷ ls) (w ∷ ws) (a ∷ []) fs u h = absurd h
links_pull joint (l ∷ ls) (w ∷ ws) (a ∷ b ∷ flow) [] u h = absurd h
links_pull joint (l ∷ ls) (w ∷ ws) (a ∷ b ∷ flow) (f ∷ fs) u h =
    pull_one (l.tail == u) (l.head == u) a b w _ _ f _ _ h.0.0 h.0.1 (links_pull (joint + 1) ls ws flow fs u h.1)

-- two flows times two lengths, by the flows' half difference and sum
worth_link : (a b w x y : ℕ) (f z : ℤ) → f +ℤ pos w ≡ pos a → a + b ≡ 2 * w → z ≡ pos x -ℤ pos y → pos (a * x + b * y) ≡ (f *ℤ z) +ℤ pos (w * (x + y))
worth_link a b w x y (pos n) (pos d) e s h =
    let weight : w ≡ n + b = omega (arith, ints, e, s) in
    let more : a ≡ n + n + b = omega (arith, ints, e, s) in
    let long : x ≡ y + d = omega (arith, ints, h) in
    rw (weight, more, long) (omega (arith, ints))
worth_link a b w x y (pos n) (negsuc d) e s h =
    let weight : w ≡ n + b = omega (arith, ints, e, s) in
    let more : a ≡ n + n + b = omega (arith, ints, e, s) in
    let long : y ≡ x + suc d = omega (arith, ints, h) in
    rw (weight, more, long) (omega (arith, ints))
worth_link a b w x y (negsuc n) (pos d) e s h =
    let weight : w ≡ a + suc n = omega (arith, ints, e, s) in
    let more : b ≡ a + suc n + suc n = omega (arith, ints, e, s) in
    let long : x ≡ y + d = omega (arith, ints, h) in
    rw (weight, more, long) (omega (arith, ints))
worth_link a b w x y (negsuc n) (negsuc d) e s h =
    let weight : w ≡ a + suc n = omega (arith, ints, e, s) in
    let more : b ≡ a + suc n + suc n = omega (arith, ints, e, s) in
    let long : y ≡ x + suc d = omega (arith, ints, h) in
    rw (weight, more, long) (omega (arith, ints))

-- how far the pins of these links lie below the tops of their units, each link's times its weight
abbrev pub weighed_pins : List Link → List ℕ → ℕ
weighed_pins [] ws = 0
weighed_pins (l ∷ ls) [] = 0
weighed_pins (l ∷ ls) (w ∷ ws) = w * (natural l.head_at + natural l.tail_at) + weighed_pins ls ws

links_worth : (joint : ℕ) (ls : List Link) (ws flow : List ℕ) (fs : List ℤ) → AreLinkFlows ls ws flow fs → All HasPins ls
    → pos (weighed (λ (e : NetEdge). e.least) (joining joint ls ws) flow) ≡ links_value ls fs +ℤ pos (weighed_pins ls ws)
links_worth joint [] ws flow fs h pins = refl
links_worth joint (l ∷ ls) [] flow fs h pins = absurd h
links_worth joint (l ∷ ls) (w ∷ ws) [] fs h pins = absurd h
links_worth joint (l ∷ ls) (w ∷ ws) (a ∷ []) fs h pins = absurd h
links_worth joint (l ∷ ls) (w ∷ ws) (a ∷ b ∷ flow) [] h pins = absurd h
links_worth joint (l ∷ ls) (w ∷ ws) (a ∷ b ∷ flow) (f ∷ fs) h pins =
    let rest = links_worth (joint + 1) ls ws flow fs h.1 (All-tail HasPins l ls pins) in
    let p = All-head HasPins l ls pins in
    let m = natural_is l.tail_at p.0 in
    let n = natural_is l.head_at p.1 in
    let one = worth_link a b w (natural l.head_at) (natural l.tail_at) f (l.head_at -ℤ l.tail_at) h.0.0 h.0.1 (omega (arith, ints, m, n)) in
    omega (arith, ints, rest, one)

-- what leaves a link's own node

joint_out : (joint : ℕ) (ls : List Link) (ws flow : List ℕ) (k : ℕ) → length ws ≡ length ls → 2 * length ls ≤ length flow → k < length ls
    → at_node tail_of (joining joint ls ws) flow (joint + k) ≡ get_or flow (2 * k) 0 + get_or flow (2 * k + 1) 0
joint_out joint [] ws flow k each long h = absurd (omega (arith, h))
joint_out joint (l ∷ ls) [] flow k each long h = absurd (omega (arith, each))
joint_out joint (l ∷ ls) (w ∷ ws) [] k each long h = absurd (omega (arith, long))
joint_out joint (l ∷ ls) (w ∷ ws) (a ∷ []) k each long h = absurd (omega (arith, long))
joint_out joint (l ∷ ls) (w ∷ ws) (a ∷ b ∷ flow) zero each long h =
    let rest = at_none tail_of (joining (joint + 1) ls ws) flow (joint + 0) (joining_all (λ (e : NetEdge). e.tail ≢ joint + 0) (joint + 1) ls ws (λ i l. (omega arith, omega arith))) in
    rw (eq-eqb joint (joint + 0) (omega arith)) (omega (arith, rest))
joint_out joint (l ∷ ls) (w ∷ ws) (a ∷ b ∷ flow) (suc k) each long h =
    let on : joint + suc k ≡ joint + 1 + k = omega arith in
    let rest = joint_out (joint + 1) ls ws flow k (omega (arith, each)) (omega (arith, long)) (omega (arith, h)) in
    rw (on, ne_eqb joint (joint + 1 + k) (omega arith), twice k, twice_more k) (omega (arith, rest))

joint_both : (joint : ℕ) (ls : List Link) (ws : List ℕ) (k : ℕ) → length ws ≡ length ls → k < length ls
    → at_node tail_of (joining joint ls ws) (weights (joining joint ls ws)) (joint + k) ≡ 2 * weight_at ws k
joint_both joint [] ws k each h = absurd (omega (arith, h))
joint_both joint (l ∷ ls) [] k each h = absurd (omega (arith, each))
joint_both joint (l ∷ ls) (w ∷ ws) zero each h =
    let rest = at_none tail_of (joining (joint + 1) ls ws) (weights (joining (joint + 1) ls ws)) (joint + 0) (joining_all (λ (e : NetEdge). e.tail ≢ joint + 0) (joint + 1) ls ws (λ i l. (omega arith, omega arith))) in
    rw (eq-eqb joint (joint + 0) (omega arith)) (omega (arith, rest))
joint_both joint (l ∷ ls) (w ∷ ws) (suc k) each h =
    let on : joint + suc k ≡ joint + 1 + k = omega arith in
    let rest = joint_both (joint + 1) ls ws k (omega (arith, each)) (omega (arith, h)) in
    rw (on, ne_eqb joint (joint + 1 + k) (omega arith)) (omega (arith, rest))

-- a flow that balances, by links and pairs

module _ (l : Plain) (ws : List ℕ) (weigh : AreWeights l ws) (pairs : List PairFlow) (ends : (k : ℕ) → k < length l.links → ((link_at l.links k).tail < length l.units) × ((link_at l.links k).head < length l.units))
    (are : All (IsPair l) pairs) (flow : List ℕ) (balances : Balances (alone_of l + 1) (edges_of l ws pairs) flow) (long : length flow ≡ 2 * length l.links + length pairs) where
  abbrev count : ℕ
  count = length l.units

  abbrev links : List NetEdge
  links = joining (length l.units) l.links ws

  abbrev between : List NetEdge
  between = map (edge_for l (alone_of l)) pairs

  rest : List ℕ
  rest = drop (length (joining (length l.units) l.links ws)) flow

  no_heads : (v : ℕ) → length l.units ≤ v → All (λ (e : NetEdge). e.head ≢ v) (edges_of l ws pairs)
  no_heads v h =
      All-append (λ (e : NetEdge). e.head ≢ v) (joining (length l.units) l.links ws) (map (edge_for l (alone_of l)) pairs)
      (joining_all (λ (e : NetEdge). e.head ≢ v) (length l.units) l.links ws (λ k less. let e = ends k less in let a = e.0 in let b = e.1 in (omega (arith, a, h), omega (arith, b, h))))
      (edges_all l (alone_of l) (λ (e : NetEdge). e.head ≢ v) (IsPair l) (λ p q. let a = q.lower_is in omega (arith, a, h)) pairs are)

  no_pair_tails : (v : ℕ) → length l.units ≤ v → v < alone_of l → All (λ (e : NetEdge). e.tail ≢ v) (map (edge_for l (alone_of l)) pairs)
  no_pair_tails v h less =
      edges_all l (alone_of l) (λ (e : NetEdge). e.tail ≢ v) (IsPair l) (λ p q. let a = q.upper_is in elim (cases_Bool (int_lt (distance l p) (pos 0))) [
        | inl t ↦ rw t (omega (arith, less))
        | inr f ↦ rw f (omega (arith, a, h))
      ]) pairs are

  -- the flows of a link's two edges are twice its weight together
  pub both_each : (k : ℕ) → k < length l.links → get_or flow (2 * k) 0 + get_or flow (2 * k + 1) 0 ≡ 2 * weight_at ws k
  both_each k h =
      let b = balances (length l.units + k) (omega (arith, h)) in
      let none = no_heads (length l.units + k) (omega arith) in
      let i = at_none head_of (edges_of l ws pairs) flow (length l.units + k) none in
      let i' = at_none head_of (edges_of l ws pairs) (weights (edges_of l ws pairs)) (length l.units + k) none in
      let o = at_append tail_of (joining (length l.units) l.links ws) (map (edge_for l (alone_of l)) pairs) flow (length l.units + k) in
      let o' = at_weights tail_of (joining (length l.units) l.links ws) (map (edge_for l (alone_of l)) pairs) (length l.units + k) in
      let p = at_none tail_of (map (edge_for l (alone_of l)) pairs) (drop (length (joining (length l.units) l.links ws)) flow) (length l.units + k) (no_pair_tails (length l.units + k) (omega arith) (omega (arith, h))) in
      let p' = pairs_no_weight l (alone_of l) tail_of pairs (length l.units + k) in
      let q = joint_out (length l.units) l.links ws flow k weigh.one_each (omega (arith, long)) h in
      let q' = joint_both (length l.units) l.links ws k weigh.one_each h in
      omega (arith, b, i, i', o, o', p, p', q, q')

  module _ (written : drop (length (joining (length l.units) l.links ws)) flow ≡ flows_of pairs) where
    no_joint_tails : (v : ℕ) → (v < length l.units) → All (λ (e : NetEdge). e.tail ≢ v) (joining (length l.units) l.links ws)
    no_joint_tails v h = joining_all (λ (e : NetEdge). e.tail ≢ v) (length l.units) l.links ws (λ k less. (omega (arith, h), omega (arith, h)))

    -- pairs that their rooms hold apart carry no flow
    pub none_below : All (NoneBelow l) pairs
    none_below =
        let v : ℕ = alone_of l in
        let b = balances (alone_of l) (omega arith) in
        let none = no_heads (alone_of l) (omega arith) in
        let i = at_none head_of (edges_of l ws pairs) flow (alone_of l) none in
        let i' = at_none head_of (edges_of l ws pairs) (weights (edges_of l ws pairs)) (alone_of l) none in
        let o = at_append tail_of (joining (length l.units) l.links ws) (map (edge_for l (alone_of l)) pairs) flow (alone_of l) in
        let o' = at_weights tail_of (joining (length l.units) l.links ws) (map (edge_for l (alone_of l)) pairs) (alone_of l) in
        let tails = joining_all (λ (e : NetEdge). e.tail ≢ alone_of l) (length l.units) l.links ws (λ k less. (omega (arith, less), omega (arith, less))) in
        let q' = at_none tail_of (joining (length l.units) l.links ws) (weights (joining (length l.units) l.links ws)) (alone_of l) tails in
        let p' = pairs_no_weight l (alone_of l) tail_of pairs (alone_of l) in
        let e = ap (λ (xs : List ℕ). at_node tail_of (map (edge_for l (alone_of l)) pairs) xs (alone_of l)) written in
        none_from l (alone_of l) pairs (omega (arith, b, i, i', o, o', q', p', e))

    -- at each unit the links bring what the pairs do
    pub unit_balance : (fs : List ℤ) → AreLinkFlows l.links ws flow fs → (u : ℕ) → u < length l.units
        → of_links (λ k. k.head) l.links fs u -ℤ of_links (λ k. k.tail) l.links fs u ≡ pos (of_pairs (λ p. p.lower) pairs u) -ℤ pos (of_pairs (λ p. p.upper) pairs u)
    unit_balance fs told u h =
        let b = balances u (omega (arith, h)) in
        let i = at_append head_of (joining (length l.units) l.links ws) (map (edge_for l (alone_of l)) pairs) flow u in
        let i' = at_weights head_of (joining (length l.units) l.links ws) (map (edge_for l (alone_of l)) pairs) u in
        let o = at_append tail_of (joining (length l.units) l.links ws) (map (edge_for l (alone_of l)) pairs) flow u in
        let o' = at_weights tail_of (joining (length l.units) l.links ws) (map (edge_for l (alone_of l)) pairs) u in
        let tails = no_joint_tails u h in
        let q = at_none tail_of (joining (length l.units) l.links ws) flow u tails in
        let q' = at_none tail_of (joining (length l.units) l.links ws) (weights (joining (length l.units) l.links ws)) u tails in
        let n = pairs_no_weight l (alone_of l) head_of pairs u in
        let n' = pairs_no_weight l (alone_of l) tail_of pairs u in
        let e = ap (λ (xs : List ℕ). at_node head_of (map (edge_for l (alone_of l)) pairs) xs u) written ∙ pairs_in l (alone_of l) pairs u in
        let e' = ap (λ (xs : List ℕ). at_node tail_of (map (edge_for l (alone_of l)) pairs) xs u) written ∙ pairs_out l (alone_of l) pairs u (omega (arith, h)) none_below in
        let pull = links_pull (length l.units) l.links ws flow fs u told in
        omega (arith, ints, b, i, i', o, o', q, q', n, n', e, e', pull)

    -- the value of the flow is that of links and pairs, and the pins
    pub value_split : (fs : List ℤ) → AreLinkFlows l.links ws flow fs → All HasPins l.links
        → pos (flow_value (edges_of l ws pairs) flow) ≡ pairs_value l pairs +ℤ links_value l.links fs +ℤ pos (weighed_pins l.links ws)
    value_split fs told pins =
        let s = weighed_append (λ (e : NetEdge). e.least) (joining (length l.units) l.links ws) (map (edge_for l (alone_of l)) pairs) flow in
        let a = links_worth (length l.units) l.links ws flow fs told pins in
        let b = pairs_worth l (alone_of l) pairs none_below in
        let e = ap (λ (xs : List ℕ). weighed (λ (x : NetEdge). x.least) (map (edge_for l (alone_of l)) pairs) xs) written in
        omega (arith, ints, s, a, b, e)
