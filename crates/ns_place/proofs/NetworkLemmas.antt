-- The network of a placing is one that the solver takes.
use Rattle.std.proofs.Common.{◌≡◌, ℕ, zero, suc, ◌+◌, ◌*◌, ◌<◌, ◌≤◌, ◌^◌, cond, nat_lt, int_lt, pos, ◌+ℤ◌, ◌<ℤ◌, List, [], ◌∷◌, ◌++◌, length, map, drop, arith, refl, ◌∙◌, ap, subst, inl, inr, lt-ltb, le-ltb, length-append, append_assoc}
use Rattle.std.proofs.lemmas.Int.{ints}
use Rattle.std.proofs.lemmas.Bool.{cases_Bool}
use Rattle.std.specs.List.{All, sum_by}
use Rattle.std.proofs.lemmas.List.{length-map, drop_more}
use Rattle.std.proofs.lemmas.List.Elements.{All-nil, All-cons, All-head, All-tail, All-append, All-from_get_or}
use Rattle.std.proofs.lemmas.List.Sums.{sum_by-cons, sum_by-append}
use Rattle.elk_layers.specs.declared.units.Link.{Link}
use Rattle.elk_layers.specs.Layered.{Plain, IsSound, AreRows, link_at, unit_at, place_of, total_height}
use Rattle.network_laws.specs.declared.network.NetEdge.{NetEdge}
use Rattle.network_laws.specs.Network.{edge_at, Walk, IsNetwork}
use Rattle.network_laws.specs.Layering.{natural}
use Rattle.ns_place.specs.declared.least.PairFlow.{PairFlow}
use Rattle.ns_place.specs.Pairs.{all_pairs, distance, IsPair}
use Rattle.ns_place.specs.Heights.{pins_together}
use Rattle.ns_place.specs.Weighed.{greatest_weight, weight_at, AreWeights}
use Rattle.ns_place.specs.Network.{edge_of, joining, edge_for, alone_of, edges_of, HasPins}
use Rattle.ns_place.proofs.PairLemmas.{are_pairs, pairs_ascend}
use Rattle.ns_place.proofs.SumLemmas.{natural_le, distance_within, most_room, most_rooms, pairs_within, count_units, count_pairs}
use Rattle.network_laws.proofs.Duality.{natural_is}

-- edges added one after the other

pub joints_step : (first : ℕ) (ls : List Link) (ws : List ℕ) (k : ℕ) (now : List NetEdge) (a b : NetEdge) → k < length ls → k < length ws
    → a ≡ edge_of (first + k) (link_at ls k).tail (link_at ls k).head_at (weight_at ws k) → b ≡ edge_of (first + k) (link_at ls k).head (link_at ls k).tail_at (weight_at ws k)
    → ((now ++ a ∷ []) ++ b ∷ []) ++ joining (first + (k + 1)) (drop (k + 1) ls) (drop (k + 1) ws) ≡ now ++ joining (first + k) (drop k ls) (drop k ws)
joints_step first ls ws k now a b h hw ea eb =
    let on : first + (k + 1) ≡ first + k + 1 = omega arith in
    rw (on, drop_more ls k (record { edge = 0; tail = 0; head = 0; tail_rank = 0; head_rank = 0; tail_at = pos 0; head_at = pos 0 }) h, drop_more ws k 0 hw, ea, eb)
    (append_assoc (now ++ edge_of (first + k) (link_at ls k).tail (link_at ls k).head_at (weight_at ws k) ∷ []) (edge_of (first + k) (link_at ls k).head (link_at ls k).tail_at (weight_at ws k) ∷ []) (joining (first + k + 1) (drop (k + 1) ls) (drop (k + 1) ws))
    ∙ append_assoc now (edge_of (first + k) (link_at ls k).tail (link_at ls k).head_at (weight_at ws k) ∷ []) (edge_of (first + k) (link_at ls k).head (link_at ls k).tail_at (weight_at ws k) ∷ joining (first + k + 1) (drop (k + 1) ls) (drop (k + 1) ws)))

-- a fact of all edges of links
pub joining_all : (P : NetEdge → Type 0) (joint : ℕ) (ls : List Link) (ws : List ℕ)
    → ((k : ℕ) → k < length ls → P (edge_of (joint + k) (link_at ls k).tail (link_at ls k).head_at (weight_at ws k)) × P (edge_of (joint + k) (link_at ls k).head (link_at ls k).tail_at (weight_at ws k)))
    → All P (joining joint ls ws)
joining_all P joint [] ws h = All-nil P
joining_all P joint (l ∷ ls) [] h = All-nil P
joining_all P joint (l ∷ ls) (w ∷ ws) h =
    let here = h 0 (omega arith) in
    let same : joint + 0 ≡ joint = omega arith in
    let rest = joining_all P (joint + 1) ls ws (λ k less.
    let there = h (suc k) (omega (arith, less)) in
    let on : joint + suc k ≡ joint + 1 + k = omega arith in (
      subst (λ n. P (edge_of n (link_at ls k).tail (link_at ls k).head_at (weight_at ws k))) on there.0,
      subst (λ n. P (edge_of n (link_at ls k).head (link_at ls k).tail_at (weight_at ws k))) on there.1,
    )) in
    All-cons P (edge_of joint l.tail l.head_at w) (edge_of joint l.head l.tail_at w ∷ joining (joint + 1) ls ws) (subst (λ n. P (edge_of n l.tail l.head_at w)) same here.0)
    (All-cons P (edge_of joint l.head l.tail_at w) (joining (joint + 1) ls ws) (subst (λ n. P (edge_of n l.head l.tail_at w)) same here.1) rest)

-- a fact of all edges of pairs
pub edges_all : (l : Plain) (alone : ℕ) (P : NetEdge → Type 0) (Q : PairFlow → Type 0) → ((p : PairFlow) → Q p → P (edge_for l alone p)) → (pairs : List PairFlow) → All Q pairs → All P (map (edge_for l alone) pairs)
edges_all l alone P Q step [] h = All-nil P
edges_all l alone P Q step (p ∷ pairs) h =
    All-cons P (edge_for l alone p) (map (edge_for l alone) pairs) (step p (All-head Q p pairs h)) (edges_all l alone P Q step pairs (All-tail Q p pairs h))

pub all_both : {X : Type 0} (P Q : X → Type 0) (xs : List X) → All P xs → All Q xs → All (λ x. P x × Q x) xs
all_both P Q xs h k = λ i d l. (h i d l, k i d l)

pub joining_long : (joint : ℕ) (ls : List Link) (ws : List ℕ) → length ws ≡ length ls → length (joining joint ls ws) ≡ 2 * length ls
joining_long joint [] ws same = refl
joining_long joint (l ∷ ls) [] same = absurd (omega (arith, same))
joining_long joint (l ∷ ls) (w ∷ ws) same = let h = joining_long (joint + 1) ls ws (omega (arith, same)) in omega (arith, h)

joining_least : (joint : ℕ) (ls : List Link) (ws : List ℕ) → length ws ≡ length ls → All HasPins ls → pos (sum_by (λ (e : NetEdge). e.least) (joining joint ls ws)) ≡ pins_together ls
joining_least joint [] ws same h = refl
joining_least joint (l ∷ ls) [] same h = absurd (omega (arith, same))
joining_least joint (l ∷ ls) (w ∷ ws) same h =
    let rest = joining_least (joint + 1) ls ws (omega (arith, same)) (All-tail HasPins l ls h) in
    let here = All-head HasPins l ls h in
    let a = sum_by-cons (λ (e : NetEdge). e.least) (edge_of joint l.tail l.head_at w) (edge_of joint l.head l.tail_at w ∷ joining (joint + 1) ls ws) in
    let b = sum_by-cons (λ (e : NetEdge). e.least) (edge_of joint l.head l.tail_at w) (joining (joint + 1) ls ws) in
    let m = natural_is l.tail_at here.0 in
    let n = natural_is l.head_at here.1 in
    omega (arith, ints, rest, a, b, m, n)

joining_weight : (joint : ℕ) (ls : List Link) (ws : List ℕ) → All (λ w. w ≤ greatest_weight) ws → sum_by (λ (e : NetEdge). e.weight) (joining joint ls ws) ≤ 2 * greatest_weight * length ls
joining_weight joint [] ws small = omega arith
joining_weight joint (l ∷ ls) [] small = omega arith
joining_weight joint (l ∷ ls) (w ∷ ws) small =
    let rest = joining_weight (joint + 1) ls ws (All-tail (λ v. v ≤ greatest_weight) w ws small) in
    let here = All-head (λ v. v ≤ greatest_weight) w ws small in
    let a = sum_by-cons (λ (e : NetEdge). e.weight) (edge_of joint l.tail l.head_at w) (edge_of joint l.head l.tail_at w ∷ joining (joint + 1) ls ws) in
    let b = sum_by-cons (λ (e : NetEdge). e.weight) (edge_of joint l.head l.tail_at w) (joining (joint + 1) ls ws) in
    omega (arith, rest, here, a, b)

pairs_weight : (l : Plain) (alone : ℕ) (pairs : List PairFlow) → sum_by (λ (e : NetEdge). e.weight) (map (edge_for l alone) pairs) ≡ 0
pairs_weight l alone [] = refl
pairs_weight l alone (p ∷ pairs) =
    let rest = pairs_weight l alone pairs in
    let a = sum_by-cons (λ (e : NetEdge). e.weight) (edge_for l alone p) (map (edge_for l alone) pairs) in
    omega (arith, rest, a)

-- a pair's distance as a natural number is at most the room of its upper unit
pair_least : (l : Plain) (p : PairFlow) → IsSound l → IsPair l p → natural (distance l p) ≤ most_room (unit_at l.units p.upper)
pair_least l p s h =
    let d = distance_within l p s h in
    let n = natural_is (unit_at l.units p.upper).height (s.heights p.upper h.upper_is) in
    natural_le (distance l p) (most_room (unit_at l.units p.upper)) (omega (arith, ints, d, n))

pairs_least : (l : Plain) (alone : ℕ) (pairs : List PairFlow) → IsSound l → All (IsPair l) pairs → sum_by (λ (e : NetEdge). e.least) (map (edge_for l alone) pairs) ≤ sum_by (λ (p : PairFlow). most_room (unit_at l.units p.upper)) pairs
pairs_least l alone [] s h = omega arith
pairs_least l alone (p ∷ pairs) s h =
    let rest = pairs_least l alone pairs s (All-tail (IsPair l) p pairs h) in
    let here = pair_least l p s (All-head (IsPair l) p pairs h) in
    let a = sum_by-cons (λ (e : NetEdge). e.least) (edge_for l alone p) (map (edge_for l alone) pairs) in
    let b = sum_by-cons (λ (q : PairFlow). most_room (unit_at l.units q.upper)) p pairs in
    omega (arith, rest, here, a, b)

climbs : (rank : ℕ → ℕ) (edges : List NetEdge) → ((k : ℕ) → k < length edges → rank (edge_at edges k).tail < rank (edge_at edges k).head) → (a b n : ℕ) → Walk edges a b n → rank a + n ≤ rank b
climbs rank edges up a b zero w = let e = ap rank w in omega (arith, e)
climbs rank edges up a b (suc n) w =
    let r = climbs rank edges up a w.0 n w.1 in
    let e = w.2 in
    let u = up e.number e.is_there in
    let x = ap rank e.from_is in
    let y = ap rank e.to_is in
    omega (arith, r, u, x, y)

module _ (l : Plain) (rows : List (List ℕ)) (sound : IsSound l) (are : AreRows l rows) where
  abbrev count : ℕ
  count = length l.units

  abbrev alone : ℕ
  alone = alone_of l

  -- nodes of links first, then each row from the top
  abbrev rank : ℕ → ℕ
  rank v = cond (nat_lt v count) (1 + place_of l rows v) 0

  rank_unit : (v : ℕ) → v < count → rank v ≡ 1 + place_of l rows v
  rank_unit v h = rw (lt-ltb v (length l.units) h) refl

  rank_other : (v : ℕ) → count ≤ v → rank v ≡ 0
  rank_other v h = rw (le-ltb v (length l.units) h) refl

  pub link_ends : (k : ℕ) → k < length l.links → ((link_at l.links k).tail < length l.units) × ((link_at l.links k).head < length l.units)
  link_ends k h = let s = sound.links_are k h in (s.tail, s.head)

  pub have_pins : All HasPins l.links
  have_pins = All-from_get_or HasPins l.links (record { edge = 0; tail = 0; head = 0; tail_rank = 0; head_rank = 0; tail_at = pos 0; head_at = pos 0 })
      (λ k h. let s = sound.links_are k h in (s.tail_at.0, s.head_at.0))

  joint_up : (k v : ℕ) → v < count → rank (count + k) < rank v
  joint_up k v h = let a = rank_other (count + k) (omega arith) in let b = rank_unit v h in omega (arith, a, b)

  abbrev Up : NetEdge → Type 0
  Up e = (rank e.tail < rank e.head) × ((e.tail < alone + 1) × (e.head < alone + 1))

  links_up : (ws : List ℕ) → All Up (joining count l.links ws)
  links_up ws = joining_all Up (length l.units) l.links ws (λ k h. let e = link_ends k h in let a = e.0 in let b = e.1 in (
    (joint_up k (link_at l.links k).tail e.0, (omega (arith, h), omega (arith, a))),
    (joint_up k (link_at l.links k).head e.1, (omega (arith, h), omega (arith, b))),
  ))

  pair_up : (p : PairFlow) → IsPair l p × (place_of l rows p.upper < place_of l rows p.lower) → Up (edge_for l (alone_of l) p)
  pair_up p h =
      let u = h.0.upper_is in
      let v = h.0.lower_is in
      let w = h.1 in
      let b = rank_unit p.lower v in
      elim (cases_Bool (int_lt (distance l p) (pos 0))) [
        | inl t ↦ let a = rank_other (alone_of l) (omega arith) in rw t (omega (arith, a, b), (omega arith, omega (arith, v)))
        | inr f ↦ let a = rank_unit p.upper u in rw f (omega (arith, a, b, w), (omega (arith, u), omega (arith, v)))
      ]

  edges_up : (ws : List ℕ) → All Up (edges_of l ws (all_pairs l rows))
  edges_up ws =
      All-append Up (joining (length l.units) l.links ws) (map (edge_for l (alone_of l)) (all_pairs l rows)) (links_up ws)
      (edges_all l (alone_of l) Up (λ p. IsPair l p × (place_of l rows p.upper < place_of l rows p.lower)) pair_up (all_pairs l rows)
      (all_both (IsPair l) (λ p. place_of l rows p.upper < place_of l rows p.lower) (all_pairs l rows) (are_pairs l rows are) (pairs_ascend l rows are)))

  pub few_pairs : length (all_pairs l rows) ≤ 2 * length l.units
  few_pairs =
      let a = pairs_within l rows (λ u. 1) are in
      let b = count_pairs (all_pairs l rows) in
      let c = count_units l.units in
      omega (arith, a, b, c)

  module _ (ws : List ℕ) (weigh : AreWeights l ws) where
    pub edges_long : (pairs : List PairFlow) → length (edges_of l ws pairs) ≡ 2 * length l.links + length pairs
    edges_long pairs =
        let a = length-append (joining (length l.units) l.links ws) (map (edge_for l (alone_of l)) pairs) in
        let b = joining_long (length l.units) l.links ws weigh.one_each in
        let c = length-map pairs (edge_for l (alone_of l)) in
        omega (arith, a, b, c)

    pub is_network : length l.units ≤ 2 ^ 21 → length l.links ≤ 2 ^ 21 → (total_height l.units +ℤ pins_together l.links) <ℤ pos (2 ^ 60) → IsNetwork (alone_of l + 1) (edges_of l ws (all_pairs l rows))
    is_network few_units few_links small =
        let up : (k : ℕ) → k < length (edges_of l ws (all_pairs l rows)) → Up (edge_at (edges_of l ws (all_pairs l rows)) k) = λ k h. edges_up ws k (record { tail = 0; head = 0; least = 0; weight = 0 }) h in
        let long = edges_long (all_pairs l rows) in
        let few = few_pairs in
        let a = joining_least (length l.units) l.links ws weigh.one_each have_pins in
        let b = pairs_least l (alone_of l) (all_pairs l rows) sound (are_pairs l rows are) in
        let c = pairs_within l rows most_room are in
        let d = most_rooms l.units sound.heights in
        let e = sum_by-append (λ (x : NetEdge). x.least) (joining (length l.units) l.links ws) (map (edge_for l (alone_of l)) (all_pairs l rows)) in
        let f = joining_weight (length l.units) l.links ws weigh.small in
        let g = pairs_weight l (alone_of l) (all_pairs l rows) in
        let k = sum_by-append (λ (x : NetEdge). x.weight) (joining (length l.units) l.links ws) (map (edge_for l (alone_of l)) (all_pairs l rows)) in
        record {
          few_nodes = omega (arith, few_units, few_links);
          few_edges = omega (arith, long, few, few_units, few_links);
          ends = λ i h. (up i h).1;
          acyclic = λ v n w. let x = climbs rank (edges_of l ws (all_pairs l rows)) (λ i h. (up i h).0) v v (suc n) w in absurd (omega (arith, x));
          least_fits = omega (arith, ints, a, b, c, d, e, small, few_units);
          weight_fits = omega (arith, f, g, k, few_links);
        }
