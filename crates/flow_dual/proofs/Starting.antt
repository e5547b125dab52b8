-- The first flow, edge by edge, and the first layers.
use Rattle.std.specs.Prelude.{FitsSigned}
use Rattle.std.proofs.Common.{w64, negsuc, ◌≡◌, ◌≢◌, ℕ, zero, suc, ◌+◌, ◌*◌, ◌^◌, ◌<◌, ◌≤◌, eqb, cond, Bool, true, false, ℤ, pos, ◌+ℤ◌, ◌≤ℤ◌, ◌<ℤ◌, List, [], ◌∷◌, length, get_or, set, take, arith, refl, sym, ap, subst, ◌∙◌, inl, inr}
use Rattle.std.specs.List.{sum_by}
use Rattle.std.proofs.lemmas.Int.{ints}
use Rattle.std.proofs.lemmas.Bool.{cases_eq, cases_lt, eq-eqb, ne_eqb}
use Rattle.std.proofs.lemmas.List.{get_or-set_same, get_or-set_other, length-set, take_all}
use Rattle.std.proofs.lemmas.List.Sums.{sum_by-cons}
use Rattle.network_laws.specs.declared.network.NetEdge.{NetEdge}
use Rattle.network_laws.specs.Network.{edge_at, EndsBelow, IsAcyclic, IsNetwork}
use Rattle.network_laws.specs.Layering.{layer_of, IsLayering, at_node, inward, outward, weights, weighed}
use Rattle.network_laws.specs.Paths.{AreGreatestSums}
use Rattle.network_laws.specs.Tight.{IsTightEdge, FlowOnTight}
use Rattle.network_laws.proofs.PathSums.{path_le}
use Rattle.network_laws.proofs.Duality.{over_nodes, at_ends}
use Rattle.flow_dual.specs.declared.Label.{Label}
use Rattle.flow_dual.specs.Rounds.{all_least, surplus}
use Rattle.flow_dual.specs.Searching.{TellsExcess, IsCleared, IsBetween}
use Rattle.flow_dual.specs.Start.{TalliesEdge, BeginsEdge, IsFirstFlow, HasBegun}

-- one edge more at a node
at_node_more : (end : NetEdge → ℕ) (edges : List NetEdge) (i v : ℕ) → i < length edges → at_node end (take (i + 1) edges) (weights (take (i + 1) edges)) v ≡ at_node end (take i edges) (weights (take i edges)) v + cond (eqb (end (edge_at edges i)) v) (edge_at edges i).weight 0
at_node_more end [] i v l = absurd (omega (arith, l))
at_node_more end (e ∷ es) zero v l = omega arith
at_node_more end (e ∷ es) (suc i) v l =
    let rest = at_node_more end es i v (omega (arith, l)) in
    let n : suc i + 1 ≡ suc (i + 1) = omega arith in
    rw n (omega (arith, rest))

same_both : (b : Bool) (z : ℕ) → cond b z z ≡ z
same_both true z = refl
same_both false z = refl

cond_small : (b : Bool) (w : ℕ) → w < 2 ^ 32 → cond b w 0 < 2 ^ 32
cond_small true w l = l
cond_small false w l = omega arith

-- one edge more at a node, for any amounts
amounts_more : (end : NetEdge → ℕ) (edges : List NetEdge) (amounts : List ℕ) (i v : ℕ) → i < length edges → i < length amounts → at_node end (take (i + 1) edges) amounts v ≡ at_node end (take i edges) amounts v + cond (eqb (end (edge_at edges i)) v) (get_or amounts i 0) 0
amounts_more end [] amounts i v l m = absurd (omega (arith, l))
amounts_more end (e ∷ es) [] i v l m = absurd (omega (arith, m))
amounts_more end (e ∷ es) (x ∷ xs) zero v l m = omega arith
amounts_more end (e ∷ es) (x ∷ xs) (suc i) v l m =
    let rest = amounts_more end es xs i v (omega (arith, l)) (omega (arith, m)) in
    let n : suc i + 1 ≡ suc (i + 1) = omega arith in
    rw n (omega (arith, rest))

-- a later edge's amount counts nothing yet
amounts_before : (end : NetEdge → ℕ) (edges : List NetEdge) (amounts : List ℕ) (i k x v : ℕ) → i ≤ k → at_node end (take i edges) (set amounts k x) v ≡ at_node end (take i edges) amounts v
amounts_before end [] amounts zero k x v l = refl
amounts_before end [] amounts (suc i) k x v l = refl
amounts_before end (e ∷ es) amounts zero k x v l = refl
amounts_before end (e ∷ es) [] (suc i) k x v l = refl
amounts_before end (e ∷ es) (a ∷ as') (suc i) zero x v l = absurd (omega (arith, l))
amounts_before end (e ∷ es) (a ∷ as') (suc i) (suc k) x v l = let r = amounts_before end es as' i k x v (omega (arith, l)) in omega (arith, r)

pub begun_start : (edges : List NetEdge) (layers : List ℤ) (flow : List ℕ) (excess : List ℤ) → length excess ≡ length layers → length flow ≡ length edges → ((k : ℕ) → get_or flow k 0 ≡ 0) → ((v : ℕ) → layer_of excess v ≡ pos 0) → HasBegun edges layers 0 flow excess
begun_start edges layers flow excess n m no_flow none = record {
  as_long = n;
  flow_long = m;
  begun = λ k l. absurd (omega (arith, l));
  none_yet = λ k l. no_flow k;
  tells = λ v. let z = none v in omega (arith, ints, z);
  low = λ v. let z = none v in omega (arith, ints, z);
  high = λ v. let z = none v in omega (arith, ints, z);
}

module _ (edges : List NetEdge) (layers : List ℤ) (i : ℕ) (flow flow' : List ℕ) (old new : List ℤ) (l : i < length edges) (small : (edge_at edges i).weight < 2 ^ 32) (t : HasBegun edges layers i flow old) where
  abbrev e : NetEdge
  e = edge_at edges i

  inside : i < length flow
  inside = let n = t.flow_long in omega (arith, n, l)

  filled : IsTightEdge layers e → flow' ≡ set flow i e.weight → new ≡ old → HasBegun edges layers (i + 1) flow' new
  filled tight fill same =
      subst (λ xs. HasBegun edges layers (i + 1) flow' xs) (sym same) (subst (λ fs. HasBegun edges layers (i + 1) fs old) (sym fill) (record {
        as_long = t.as_long;
        flow_long = length-set flow i e.weight ∙ t.flow_long;
        begun = λ k lk. elim (cases_eq k i) [
          | inl is ↦ subst (λ j. IsFirstFlow layers (edge_at edges j) (get_or (set flow i e.weight) j 0)) (sym is) (inl (tight, get_or-set_same flow i e.weight 0 inside))
          | inr ne ↦ subst (λ x. IsFirstFlow layers (edge_at edges k) x) (sym (get_or-set_other flow i k e.weight 0 ne)) (t.begun k (omega (arith, lk, ne)))
        ];
        none_yet = λ k lk. get_or-set_other flow i k e.weight 0 (let d : k ≢ i = omega (arith, lk) in d) ∙ t.none_yet k (omega (arith, lk));
        tells = λ v.
            let a = at_node_more (λ (d : NetEdge). d.head) edges i v l in
            let b = at_node_more (λ (d : NetEdge). d.tail) edges i v l in
            let long = length-set flow i e.weight in
            let now : i < length (set flow i e.weight) = let n = inside in omega (arith, n, long) in
            let is = get_or-set_same flow i e.weight 0 inside in
            let c = amounts_more (λ (d : NetEdge). d.head) edges (set flow i e.weight) i v l now in
            let d = amounts_more (λ (d : NetEdge). d.tail) edges (set flow i e.weight) i v l now in
            let c' = ap (λ x. cond (eqb e.head v) x 0) is in
            let d' = ap (λ x. cond (eqb e.tail v) x 0) is in
            let f = amounts_before (λ (d : NetEdge). d.head) edges flow i i e.weight v (omega arith) in
            let g = amounts_before (λ (d : NetEdge). d.tail) edges flow i i e.weight v (omega arith) in
            let x = t.tells v in
            omega (arith, ints, a, b, c, d, c', d', f, g, x);
        low = λ v. let x = t.low v in omega (arith, ints, x);
        high = λ v. let x = t.high v in omega (arith, ints, x);
      }))

  counted : flow' ≡ flow → TalliesEdge old e new → HasBegun edges layers (i + 1) flow' new
  counted same m =
      subst (λ fs. HasBegun edges layers (i + 1) fs new) (sym same) (record {
        as_long = m.as_long ∙ t.as_long;
        flow_long = t.flow_long;
        begun = λ k lk. elim (cases_eq k i) [
          | inl is ↦ subst (λ j. IsFirstFlow layers (edge_at edges j) (get_or flow j 0)) (sym is) (inr (t.none_yet i (omega arith)))
          | inr ne ↦ t.begun k (omega (arith, lk, ne))
        ];
        none_yet = λ k lk. t.none_yet k (omega (arith, lk));
        tells = λ v.
            let a = at_node_more (λ (d : NetEdge). d.head) edges i v l in
            let b = at_node_more (λ (d : NetEdge). d.tail) edges i v l in
            let c = amounts_more (λ (d : NetEdge). d.head) edges flow i v l inside in
            let d = amounts_more (λ (d : NetEdge). d.tail) edges flow i v l inside in
            let z = t.none_yet i (omega arith) in
            let c' = ap (λ x. cond (eqb e.head v) x 0) z ∙ same_both (eqb e.head v) 0 in
            let d' = ap (λ x. cond (eqb e.tail v) x 0) z ∙ same_both (eqb e.tail v) 0 in
            let y = m.moved v in
            let x = t.tells v in
            omega (arith, ints, a, b, c, d, c', d', y, x);
        low = λ v.
            let x = m.moved v in
            let y = t.low v in
            let a = cond_small (eqb e.head v) e.weight small in
            let b = cond_small (eqb e.tail v) e.weight small in
            omega (arith, ints, x, y, a, b);
        high = λ v.
            let x = m.moved v in
            let y = t.high v in
            let a = cond_small (eqb e.head v) e.weight small in
            let b = cond_small (eqb e.tail v) e.weight small in
            omega (arith, ints, x, y, a, b);
      })

  pub begun_more : BeginsEdge layers e i flow old flow' new → HasBegun edges layers (i + 1) flow' new
  begun_more (inl f) = filled f.0 f.1 f.2
  begun_more (inr f) = counted f.0 f.1

-- the two writes of one edge
pub tallies : (old : List ℤ) (e : NetEdge) (a b : ℤ) → e.tail < length old → e.head < length old → a ≡ layer_of old e.tail +ℤ pos e.weight → b +ℤ pos e.weight ≡ layer_of (set old e.tail a) e.head → TalliesEdge old e (set (set old e.tail a) e.head b)
tallies old e a b lt lh is_a is_b =
    let n = length-set old e.tail a in
    let first : (v : ℕ) → layer_of (set old e.tail a) v ≡ layer_of old v +ℤ pos (cond (eqb e.tail v) e.weight 0) =
    λ v. elim (cases_eq v e.tail) [
      | inl s ↦
          let t : eqb e.tail v ≡ true = eq-eqb e.tail v (sym s) in
          let x = ap (layer_of (set old e.tail a)) s ∙ get_or-set_same old e.tail a (pos 0) lt in
          let y = ap (layer_of old) s in
          rw t (omega (arith, ints, x, y, is_a))
      | inr ne ↦
          let t : eqb e.tail v ≡ false = ne_eqb e.tail v (λ q. ne (sym q)) in
          let x = get_or-set_other old e.tail v a (pos 0) ne in
          rw t (omega (arith, ints, x))
    ]
    in
    record {
      as_long = length-set (set old e.tail a) e.head b ∙ n;
      moved = λ v. let f = first v in elim (cases_eq v e.head) [
        | inl s ↦
            let t : eqb e.head v ≡ true = eq-eqb e.head v (sym s) in
            let x = ap (layer_of (set (set old e.tail a) e.head b)) s ∙ get_or-set_same (set old e.tail a) e.head b (pos 0) (omega (arith, n, lh)) in
            let y = ap (layer_of (set old e.tail a)) s in
            rw t (omega (arith, ints, x, y, is_b, f))
        | inr ne ↦
            let t : eqb e.head v ≡ false = ne_eqb e.head v (λ q. ne (sym q)) in
            let x = get_or-set_other (set old e.tail a) e.head v b (pos 0) ne in
            rw t (omega (arith, ints, x, f))
      ];
    }

pub fits_within : (z : ℤ) → pos 0 ≤ℤ (z +ℤ pos (2 ^ 62)) → z ≤ℤ pos (2 ^ 62) → FitsSigned w64 z
fits_within (pos n) low high = record { sfits = omega (arith, ints, high) }
fits_within (negsuc n) low high = record { sfits = omega (arith, ints, low) }

pub head_low : (old : List ℤ) (t h w : ℕ) (a : ℤ) → t < length old → h < length old → ((v : ℕ) → v < length old → pos 0 ≤ℤ (layer_of old v +ℤ pos (2 ^ 60))) → ((v : ℕ) → v < length old → layer_of old v ≤ℤ pos (2 ^ 60)) → w < 2 ^ 32 → a ≡ layer_of old t +ℤ pos w → (pos 0 ≤ℤ (layer_of (set old t a) h +ℤ pos (2 ^ 60))) × (layer_of (set old t a) h ≤ℤ pos (2 ^ 61))
head_low old t h w a lt lh low high small is =
    elim (cases_eq h t) [
      | inl e ↦
          let x = ap (layer_of (set old t a)) e ∙ get_or-set_same old t a (pos 0) lt in
          let l = low t lt in
          let g = high t lt in
          (omega (arith, ints, x, l, is), omega (arith, ints, x, g, is, small))
      | inr ne ↦
          let x = get_or-set_other old t h a (pos 0) ne in
          let l = low h lh in
          let g = high h lh in
          (omega (arith, ints, x, l), omega (arith, ints, x, g))
    ]

-- where no edge has more flow than its weight, no more flows at a node than its edges weigh
at_node_within : (end : NetEdge → ℕ) (edges : List NetEdge) (flow : List ℕ) (v : ℕ) → ((k : ℕ) → k < length edges → get_or flow k 0 ≤ (edge_at edges k).weight) → at_node end edges flow v ≤ at_node end edges (weights edges) v
at_node_within end [] flow v h = omega arith
at_node_within end (e ∷ es) [] v h = omega arith
at_node_within end (e ∷ es) (f ∷ fs) v h =
    let r = at_node_within end es fs v (λ k l. h (suc k) (omega (arith, l))) in
    let a : f ≤ e.weight = h 0 (omega arith) in
    let c = cond_within (eqb (end e) v) f e.weight a in
    omega (arith, r, c)
  where
    cond_within : (b : Bool) (x y : ℕ) → x ≤ y → cond b x 0 ≤ cond b y 0
    cond_within true x y h = h
    cond_within false x y h = omega arith

-- all surplus together is at most what the weights leave beside the flow
surplus_beside : (edges : List NetEdge) (flow : List ℕ) (n : ℕ) → ((k : ℕ) → k < length edges → get_or flow k 0 ≤ (edge_at edges k).weight) → surplus edges flow n + over_nodes (λ v. outward edges flow v * 1) n ≤ over_nodes (λ v. outward edges (weights edges) v * 1) n
surplus_beside edges flow zero h = omega arith
surplus_beside edges flow (suc n) h =
    let r = surplus_beside edges flow n h in
    let a = at_node_within (λ (e : NetEdge). e.head) edges flow n h in
    let b = at_node_within (λ (e : NetEdge). e.tail) edges flow n h in
    omega (arith, r, a, b)

weight_sum : (edges : List NetEdge) → weighed (λ (e : NetEdge). 1) edges (weights edges) ≡ sum_by (λ (e : NetEdge). e.weight) edges
weight_sum [] = refl
weight_sum (e ∷ es) = let r = weight_sum es in let s = sum_by-cons (λ (e : NetEdge). e.weight) e es in omega (arith, r, s)

-- one edge's flow is part of all
flow_part : (edges : List NetEdge) (flow : List ℕ) (k : ℕ) → k < length edges → get_or flow k 0 ≤ weighed (λ (e : NetEdge). 1) edges flow
flow_part [] flow k l = absurd (omega (arith, l))
flow_part (e ∷ es) [] k l = omega arith
flow_part (e ∷ es) (f ∷ fs) zero l = omega arith
flow_part (e ∷ es) (f ∷ fs) (suc k) l = let r = flow_part es fs k (omega (arith, l)) in omega (arith, r)

module _ (nodes : ℕ) (edges : List NetEdge) (layers : List ℤ) (flow : List ℕ) (excess : List ℤ) (t : HasBegun edges layers (length edges) flow excess) where
  within_weight : (k : ℕ) → k < length edges → get_or flow k 0 ≤ (edge_at edges k).weight
  within_weight k l = elim (t.begun k l) [
    | inl f ↦ let a = f.1 in omega (arith, a)
    | inr z ↦ omega (arith, z)
  ]

  first_flow_low : EndsBelow nodes edges → (k : ℕ) → get_or flow k 0 + surplus edges flow nodes ≤ sum_by (λ (e : NetEdge). e.weight) edges
  first_flow_low ends k =
      let s = surplus_beside edges flow nodes within_weight in
      let a = at_ends (λ v. 1) (λ (e : NetEdge). e.tail) nodes edges flow (λ j l. (ends j l).0) in
      let b = at_ends (λ v. 1) (λ (e : NetEdge). e.tail) nodes edges (weights edges) (λ j l. (ends j l).0) in
      let c = weight_sum edges in
      elim (cases_lt k (length edges)) [
        | inl l ↦ let p = flow_part edges flow k l in omega (arith, s, a, b, c, p)
        | inr past ↦ let z = t.none_yet k past in omega (arith, s, a, b, c, z)
      ]

  first_tight : FlowOnTight edges layers flow
  first_tight k l used = elim (t.begun k l) [
    | inl f ↦ f.0
    | inr z ↦ absurd (omega (arith, z, used))
  ]

  first_tells : TellsExcess nodes edges flow excess
  first_tells v l =
      let whole : take (length edges) edges ≡ edges = take_all (length edges) edges (omega arith) in
      let x : pos (inward edges (weights edges) v) +ℤ pos (outward edges flow v) +ℤ layer_of excess v ≡ pos (inward edges flow v) +ℤ pos (outward edges (weights edges) v) =
      subst (λ es. pos (inward es (weights es) v) +ℤ pos (outward es flow v) +ℤ layer_of excess v ≡ pos (inward es flow v) +ℤ pos (outward es (weights es) v)) whole (t.tells v)
      in
      omega (arith, ints, x)

-- no layer of the start is above the sum of all `least`
pub first_low : (nodes : ℕ) (edges : List NetEdge) (layers : List ℤ) → IsAcyclic edges → AreGreatestSums nodes edges layers → (v : ℕ) → v < nodes → (pos 0 ≤ℤ layer_of layers v) × (layer_of layers v ≤ℤ pos (all_least edges))
first_low nodes edges layers acyclic g v l =
    let a = g.attained v l in
    let p = path_le edges acyclic a.0 v a.2 a.1 a.3 in
    let e = a.4 in
    (omega (arith, ints, e), omega (arith, ints, e, p))

pub first_between : (nodes : ℕ) (edges : List NetEdge) (layers : List ℤ) (flow : List ℕ) (excess : List ℤ) (reached : List Bool) (labels : List Label) (dist : List ℕ) → IsNetwork nodes edges → length layers ≡ nodes → IsLayering edges layers → ((v : ℕ) → v < nodes → pos 0 ≤ℤ layer_of layers v) → ((v : ℕ) → v < nodes → layer_of layers v <ℤ pos (2 ^ 62)) → HasBegun edges layers (length edges) flow excess → IsCleared nodes reached labels → length dist ≡ nodes → IsBetween nodes edges layers flow excess reached labels dist
first_between nodes edges layers flow excess reached labels dist net n up from_zero low t c ld = record {
  round = record {
    layer_for_each = n;
    flow_for_each = t.flow_long;
    layering = up;
    on_tight = first_tight nodes edges layers flow excess t;
    from_zero = from_zero;
    low = λ v l. let a = low v l in omega (arith, ints, a);
    lacking = λ v l less. low v l;
    flow_low = λ k. let b = first_flow_low nodes edges layers flow excess t net.ends k in let w = net.weight_fits in omega (arith, b, w);
  };
  excess_each = t.as_long ∙ n;
  tells = first_tells nodes edges layers flow excess t;
  cleared = c;
  dist_each = ld;
}
