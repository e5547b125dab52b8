-- The cost of a layering of a placing's network is at least the weighed heights of the links and their pins, and no
-- more where the links' own nodes stand as low as they may.
use Rattle.std.proofs.Common.{◌≡◌, ℕ, zero, suc, ◌+◌, ◌*◌, ◌<◌, ◌≤◌, int_lt, ℤ, pos, negsuc, ◌+ℤ◌, ◌-ℤ◌, ◌≤ℤ◌, ◌<ℤ◌, ◌⊎◌, List, [], ◌∷◌, ◌++◌, length, map, false, arith, refl, sym, ◌∙◌, ap, subst, inl, inr}
use Rattle.std.proofs.lemmas.Int.{ints, clamps}
use Rattle.std.proofs.Math.Nat.{mul-le-mul_left}
use Rattle.std.specs.Int.{int_min}
use Rattle.std.proofs.lemmas.Bool.{cases_Bool}
use Rattle.std.specs.List.{All}
use Rattle.std.proofs.lemmas.List.{length-map, get_or-map, get_or_append_left, get_or-append-add, get_or_push}
use Rattle.std.proofs.lemmas.List.Elements.{All-nil, All-cons, All-head, All-tail, All-append, All-from_get_or}
use Rattle.elk_layers.specs.declared.units.Link.{Link}
use Rattle.elk_layers.specs.Layered.{Plain, link_at}
use Rattle.elk_layers.specs.Lines.{top_of}
use Rattle.network_laws.specs.declared.network.NetEdge.{NetEdge}
use Rattle.network_laws.specs.Layering.{layer_of, IsLayering, natural, rise, weighed, weights, cost}
use Rattle.ns_place.specs.declared.least.PairFlow.{PairFlow}
use Rattle.ns_place.specs.Pairs.{distance, IsPair}
use Rattle.ns_place.specs.Heights.{size, link_height}
use Rattle.ns_place.specs.Weighed.{weighed_heights}
use Rattle.ns_place.specs.Network.{edge_of, joining, edge_for, alone_of, edges_of, HasPins}
use Rattle.ns_place.specs.Start.{joint_layer, lowest, completed}
use Rattle.ns_place.proofs.PairLemmas.{All-left, All-right, IsApart}
use Rattle.ns_place.proofs.NetworkLemmas.{joining_all, edges_all, all_both}
use Rattle.ns_place.proofs.FlowLemmas.{weighed_weights, pairs_cost_nothing, below_from_test, weighed_pins}
use Rattle.network_laws.proofs.Duality.{natural_is}

pub size_is : (z : ℤ) → (z ≡ pos (size z)) ⊎ (z +ℤ pos (size z) ≡ pos 0)
size_is (pos n) = inl refl
size_is (negsuc n) = inr (omega (arith, ints))

-- the edge's head stands at least its length below its tail
abbrev pub Rises : List ℤ → NetEdge → Type 0
Rises layers e = (layer_of layers e.tail +ℤ pos e.least) ≤ℤ layer_of layers e.head

rise_of : (layers : List ℤ) (e : NetEdge) → Rises layers e → pos (rise layers e) ≡ layer_of layers e.head -ℤ layer_of layers e.tail
rise_of layers e h = natural_is (layer_of layers e.head -ℤ layer_of layers e.tail) (omega (arith, ints, h))

joint_least : (t h z a b : ℤ) (r r' : ℕ) → pos r ≡ t -ℤ z → pos r' ≡ h -ℤ z → (z +ℤ b) ≤ℤ t → (z +ℤ a) ≤ℤ h → (pos (size ((h +ℤ b) -ℤ (t +ℤ a))) +ℤ (a +ℤ b)) ≤ℤ (pos r +ℤ pos r')
joint_least t h z a b r r' e e' k k' = elim (size_is ((h +ℤ b) -ℤ (t +ℤ a))) [
  | inl s ↦ omega (arith, ints, e, e', k, k', s)
  | inr s ↦ omega (arith, ints, e, e', k, k', s)
]

links_cost_least : (joint : ℕ) (ls : List Link) (ws : List ℕ) (layers : List ℤ) → All HasPins ls → All (Rises layers) (joining joint ls ws)
    → weighed_heights layers ls ws + weighed_pins ls ws ≤ weighed (rise layers) (joining joint ls ws) (weights (joining joint ls ws))
links_cost_least joint [] ws layers pins h = omega arith
links_cost_least joint (l ∷ ls) [] layers pins h = omega arith
links_cost_least joint (l ∷ ls) (w ∷ ws) layers pins h =
    let first : NetEdge = edge_of joint l.tail l.head_at w in
    let second : NetEdge = edge_of joint l.head l.tail_at w in
    let more = All-tail (Rises layers) (edge_of joint l.tail l.head_at w) (edge_of joint l.head l.tail_at w ∷ joining (joint + 1) ls ws) h in
    let r = All-head (Rises layers) (edge_of joint l.tail l.head_at w) (edge_of joint l.head l.tail_at w ∷ joining (joint + 1) ls ws) h in
    let r' = All-head (Rises layers) (edge_of joint l.head l.tail_at w) (joining (joint + 1) ls ws) more in
    let rest = links_cost_least (joint + 1) ls ws layers (All-tail HasPins l ls pins) (All-tail (Rises layers) (edge_of joint l.head l.tail_at w) (joining (joint + 1) ls ws) more) in
    let p = All-head HasPins l ls pins in
    let m = natural_is l.tail_at p.0 in
    let n = natural_is l.head_at p.1 in
    let one = joint_least (layer_of layers l.tail) (layer_of layers l.head) (layer_of layers joint) l.tail_at l.head_at (rise layers first) (rise layers second)
    (rise_of layers first r) (rise_of layers second r') (omega (arith, ints, r, n)) (omega (arith, ints, r', m)) in
    let here : link_height layers l + (natural l.head_at + natural l.tail_at) ≤ rise layers first + rise layers second = omega (arith, ints, one, m, n) in
    let times = mul-le-mul_left w here in
    omega (arith, rest, times)

joint_rises : (t h a b z : ℤ) → z ≡ int_min (t +ℤ a) (h +ℤ b) -ℤ (a +ℤ b) → ((z +ℤ b) ≤ℤ t) × ((z +ℤ a) ≤ℤ h)
joint_rises t h a b z e = (omega (arith, ints, clamps, e), omega (arith, ints, clamps, e))

joint_most : (t h a b z : ℤ) (r r' : ℕ) → z ≡ int_min (t +ℤ a) (h +ℤ b) -ℤ (a +ℤ b) → pos r ≡ t -ℤ z → pos r' ≡ h -ℤ z → (pos r +ℤ pos r') ≤ℤ (pos (size ((h +ℤ b) -ℤ (t +ℤ a))) +ℤ (a +ℤ b))
joint_most t h a b z r r' e k k' = elim (size_is ((h +ℤ b) -ℤ (t +ℤ a))) [
  | inl s ↦ omega (arith, ints, clamps, e, k, k', s)
  | inr s ↦ omega (arith, ints, clamps, e, k, k', s)
]

-- the links' own nodes stand there
abbrev StandAtJoints : ℕ → List Link → List ℤ → Type 0
StandAtJoints joint ls layers = (k : ℕ) → k < length ls → layer_of layers (joint + k) ≡ joint_layer layers (link_at ls k)

links_rise : (joint : ℕ) (ls : List Link) (ws : List ℕ) (layers : List ℤ) → All HasPins ls → StandAtJoints joint ls layers → All (Rises layers) (joining joint ls ws)
links_rise joint ls ws layers pins at =
    joining_all (Rises layers) joint ls ws (λ k h.
    let p = pins k (record { edge = 0; tail = 0; head = 0; tail_rank = 0; head_rank = 0; tail_at = pos 0; head_at = pos 0 }) h in
    let m = natural_is (link_at ls k).tail_at p.0 in
    let n = natural_is (link_at ls k).head_at p.1 in
    let j = joint_rises (top_of layers (link_at ls k).tail) (top_of layers (link_at ls k).head) (link_at ls k).tail_at (link_at ls k).head_at (layer_of layers (joint + k)) (at k h) in
    let a = j.0 in
    let b = j.1 in
    (omega (arith, ints, a, n), omega (arith, ints, b, m)))

links_cost_most : (joint : ℕ) (ls : List Link) (ws : List ℕ) (layers : List ℤ) → All HasPins ls → StandAtJoints joint ls layers
    → weighed (rise layers) (joining joint ls ws) (weights (joining joint ls ws)) ≤ weighed_heights layers ls ws + weighed_pins ls ws
links_cost_most joint [] ws layers pins at = omega arith
links_cost_most joint (l ∷ ls) [] layers pins at = omega arith
links_cost_most joint (l ∷ ls) (w ∷ ws) layers pins at =
    let first : NetEdge = edge_of joint l.tail l.head_at w in
    let second : NetEdge = edge_of joint l.head l.tail_at w in
    let same : joint + 0 ≡ joint = omega arith in
    let here : layer_of layers joint ≡ joint_layer layers l = rw same at (at 0 (omega arith)) in
    let rest = links_cost_most (joint + 1) ls ws layers (All-tail HasPins l ls pins) (λ k h. let on : joint + suc k ≡ joint + 1 + k = omega arith in rw on at (at (suc k) (omega (arith, h)))) in
    let p = All-head HasPins l ls pins in
    let m = natural_is l.tail_at p.0 in
    let n = natural_is l.head_at p.1 in
    let j = joint_rises (top_of layers l.tail) (top_of layers l.head) l.tail_at l.head_at (layer_of layers joint) here in
    let a = j.0 in
    let b = j.1 in
    let one = joint_most (top_of layers l.tail) (top_of layers l.head) l.tail_at l.head_at (layer_of layers joint) (rise layers first) (rise layers second) here
    (rise_of layers first (omega (arith, ints, a, n))) (rise_of layers second (omega (arith, ints, b, m))) in
    let both : rise layers first + rise layers second ≤ link_height layers l + (natural l.head_at + natural l.tail_at) = omega (arith, ints, one, m, n) in
    let times = mul-le-mul_left w both in
    omega (arith, rest, times)

-- tops, completed to a layering of the network

lowest_is : (ts : List ℤ) (u : ℕ) → u < length ts → lowest ts ≤ℤ top_of ts u
lowest_is [] u h = absurd (omega (arith, h))
lowest_is (t ∷ ts) zero h = omega (arith, ints, clamps)
lowest_is (t ∷ ts) (suc u) h = let rest = lowest_is ts u (omega (arith, h)) in omega (arith, ints, clamps, rest)

pub at_unit : (tops : List ℤ) (ls : List Link) (u : ℕ) → u < length tops → layer_of (completed tops ls) u ≡ top_of tops u
at_unit tops ls u h = get_or_append_left tops (map (joint_layer tops) ls ++ lowest tops ∷ []) (pos 0) u h

pub at_joint : (tops : List ℤ) (ls : List Link) (k : ℕ) → k < length ls → layer_of (completed tops ls) (length tops + k) ≡ joint_layer tops (link_at ls k)
at_joint tops ls k h =
    let long = length-map ls (joint_layer tops) in
    get_or-append-add tops (map (joint_layer tops) ls ++ lowest tops ∷ []) k (pos 0)
    ∙ get_or_append_left (map (joint_layer tops) ls) (lowest tops ∷ []) (pos 0) k (omega (arith, long, h))
    ∙ get_or-map (joint_layer tops) ls k (record { edge = 0; tail = 0; head = 0; tail_rank = 0; head_rank = 0; tail_at = pos 0; head_at = pos 0 }) (pos 0) h

pub at_alone : (tops : List ℤ) (ls : List Link) → layer_of (completed tops ls) (length tops + length ls) ≡ lowest tops
at_alone tops ls =
    get_or-append-add tops (map (joint_layer tops) ls ++ lowest tops ∷ []) (length ls) (pos 0)
    ∙ get_or_push (map (joint_layer tops) ls) (lowest tops) (pos 0) (length ls) (length-map ls (joint_layer tops))

joint_same : (layers tops : List ℤ) (l : Link) → top_of layers l.tail ≡ top_of tops l.tail → top_of layers l.head ≡ top_of tops l.head → joint_layer layers l ≡ joint_layer tops l
joint_same layers tops l e f =
    ap (λ x. int_min (x +ℤ l.tail_at) (top_of layers l.head +ℤ l.head_at) -ℤ (l.tail_at +ℤ l.head_at)) e
    ∙ ap (λ x. int_min (top_of tops l.tail +ℤ l.tail_at) (x +ℤ l.head_at) -ℤ (l.tail_at +ℤ l.head_at)) f

height_same : (layers tops : List ℤ) (l : Link) → top_of layers l.tail ≡ top_of tops l.tail → top_of layers l.head ≡ top_of tops l.head → link_height layers l ≡ link_height tops l
height_same layers tops l e f =
    ap (λ x. size ((top_of layers l.head +ℤ l.head_at) -ℤ (x +ℤ l.tail_at))) e
    ∙ ap (λ x. size ((x +ℤ l.head_at) -ℤ (top_of tops l.tail +ℤ l.tail_at))) f

-- the ends of a link are among these
abbrev pub HasEndsBelow : ℕ → Link → Type 0
HasEndsBelow n l = (l.tail < n) × (l.head < n)

heights_same : (layers tops : List ℤ) (ls : List Link) (ws : List ℕ) → ((u : ℕ) → u < length tops → top_of layers u ≡ top_of tops u) → All (HasEndsBelow (length tops)) ls → weighed_heights layers ls ws ≡ weighed_heights tops ls ws
heights_same layers tops [] ws same h = refl
heights_same layers tops (l ∷ ls) [] same h = refl
heights_same layers tops (l ∷ ls) (w ∷ ws) same h =
    let rest = heights_same layers tops ls ws same (All-tail (HasEndsBelow (length tops)) l ls h) in
    let e = All-head (HasEndsBelow (length tops)) l ls h in
    let here = ap (λ n. w * n) (height_same layers tops l (same l.tail e.0) (same l.head e.1)) in
    omega (arith, rest, here)

pub cost_split : (l : Plain) (ws : List ℕ) (pairs : List PairFlow) (layers : List ℤ) → cost (edges_of l ws pairs) layers ≡ weighed (rise layers) (joining (length l.units) l.links ws) (weights (joining (length l.units) l.links ws))
cost_split l ws pairs layers =
    let a = weighed_weights (rise layers) (joining (length l.units) l.links ws) (map (edge_for l (alone_of l)) pairs) in
    let b = pairs_cost_nothing l (alone_of l) (rise layers) pairs in
    omega (arith, a, b)

pub cost_least : (l : Plain) (ws : List ℕ) (pairs : List PairFlow) (layers : List ℤ) → All HasPins l.links → IsLayering (edges_of l ws pairs) layers
    → weighed_heights layers l.links ws + weighed_pins l.links ws ≤ cost (edges_of l ws pairs) layers
cost_least l ws pairs layers pins up =
    let all = All-from_get_or (Rises layers) (edges_of l ws pairs) (record { tail = 0; head = 0; least = 0; weight = 0 }) up in
    let a = links_cost_least (length l.units) l.links ws layers pins (All-left (Rises layers) (joining (length l.units) l.links ws) (map (edge_for l (alone_of l)) pairs) all) in
    let b = cost_split l ws pairs layers in
    omega (arith, a, b)

-- the pairs whose distance is not below nothing are apart in each layering
pub layers_apart : (l : Plain) (ws : List ℕ) (pairs : List PairFlow) (layers : List ℤ) → IsLayering (edges_of l ws pairs) layers → All (λ (p : PairFlow). pos 0 ≤ℤ distance l p → IsApart l layers p) pairs
layers_apart l ws pairs layers up =
    let all = All-from_get_or (Rises layers) (edges_of l ws pairs) (record { tail = 0; head = 0; least = 0; weight = 0 }) up in
    from_edges pairs (All-right (Rises layers) (joining (length l.units) l.links ws) (map (edge_for l (alone_of l)) pairs) all)
  where
    from_edges : (ps : List PairFlow) → All (Rises layers) (map (edge_for l (alone_of l)) ps) → All (λ (p : PairFlow). pos 0 ≤ℤ distance l p → IsApart l layers p) ps
    from_edges [] h = All-nil (λ (p : PairFlow). pos 0 ≤ℤ distance l p → IsApart l layers p)
    from_edges (p ∷ ps) h =
        let here = All-head (Rises layers) (edge_for l (alone_of l) p) (map (edge_for l (alone_of l)) ps) h in
        All-cons (λ (q : PairFlow). pos 0 ≤ℤ distance l q → IsApart l layers q) p ps
        (λ low.
        let n = natural_is (distance l p) low in
        elim (cases_Bool (int_lt (distance l p) (pos 0))) [
          | inl t ↦ let b = below_from_test (distance l p) t in absurd (omega (arith, ints, b, low))
          | inr f ↦ let r = rw f at here in omega (arith, ints, r, n)
        ])
        (from_edges ps (All-tail (Rises layers) (edge_for l (alone_of l) p) (map (edge_for l (alone_of l)) ps) h))

module _ (l : Plain) (pairs : List PairFlow) (tops : List ℤ) (long : length tops ≡ length l.units) (ends : All (HasEndsBelow (length l.units)) l.links) (pins : All HasPins l.links)
    (are : All (IsPair l) pairs) (apart : All (IsApart l tops) pairs) where
  abbrev layers : List ℤ
  layers = completed tops l.links

  stand : StandAtJoints (length l.units) l.links (completed tops l.links)
  stand k h =
      let e = ends k (record { edge = 0; tail = 0; head = 0; tail_rank = 0; head_rank = 0; tail_at = pos 0; head_at = pos 0 }) h in
      subst (λ n. layer_of (completed tops l.links) (n + k) ≡ joint_layer tops (link_at l.links k)) long (at_joint tops l.links k h)
      ∙ sym (joint_same (completed tops l.links) tops (link_at l.links k) (at_unit tops l.links (link_at l.links k).tail (rw long e.0)) (at_unit tops l.links (link_at l.links k).head (rw long e.1)))

  pair_rises : (p : PairFlow) → IsPair l p × IsApart l tops p → Rises (completed tops l.links) (edge_for l (alone_of l) p)
  pair_rises p h =
      let low = at_unit tops l.links p.lower (rw long h.0.lower_is) in
      let high = at_unit tops l.links p.upper (rw long h.0.upper_is) in
      let a = h.1 in
      elim (cases_Bool (int_lt (distance l p) (pos 0))) [
        | inl t ↦
            let b = below_from_test (distance l p) t in
            let none = natural_none (distance l p) b in
            let alone : layer_of (completed tops l.links) (alone_of l) ≡ lowest tops = subst (λ n. layer_of (completed tops l.links) (n + length l.links) ≡ lowest tops) long (at_alone tops l.links) in
            let least = lowest_is tops p.lower (rw long h.0.lower_is) in
            rw t (omega (arith, ints, none, alone, least, low))
        | inr f ↦
            let n = natural_is (distance l p) (not_below (distance l p) f) in
            rw f (omega (arith, ints, n, low, high, a))
      ]
    where
      natural_none : (d : ℤ) → d <ℤ pos 0 → natural d ≡ 0
      natural_none (pos n) h = absurd (omega (arith, ints, h))
      natural_none (negsuc n) h = refl

      not_below : (d : ℤ) → int_lt d (pos 0) ≡ false → pos 0 ≤ℤ d
      not_below d f = omega (arith, ints, f)

  -- tops that keep their distances give a layering
  pub is_layering : (ws : List ℕ) → IsLayering (edges_of l ws pairs) (completed tops l.links)
  is_layering ws k h =
      All-append (Rises (completed tops l.links)) (joining (length l.units) l.links ws) (map (edge_for l (alone_of l)) pairs)
      (links_rise (length l.units) l.links ws (completed tops l.links) pins stand)
      (edges_all l (alone_of l) (Rises (completed tops l.links)) (λ p. IsPair l p × IsApart l tops p) pair_rises pairs (all_both (IsPair l) (IsApart l tops) pairs are apart))
      k (record { tail = 0; head = 0; least = 0; weight = 0 }) h

  -- which costs no more than the heights of the links and their pins
  pub cost_most : (ws : List ℕ) → cost (edges_of l ws pairs) (completed tops l.links) ≤ weighed_heights tops l.links ws + weighed_pins l.links ws
  cost_most ws =
      let a = links_cost_most (length l.units) l.links ws (completed tops l.links) pins stand in
      let b = cost_split l ws pairs (completed tops l.links) in
      let c = heights_same (completed tops l.links) tops l.links ws (at_unit tops l.links) (subst (λ n. All (HasEndsBelow n) l.links) (sym long) ends) in
      omega (arith, a, b, c)
