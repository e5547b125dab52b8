-- The answer of a chain: lowered layers, cut values as flow.
use Rattle.std.proofs.Common.{◌≡◌, ℕ, suc, ◌+◌, ◌<◌, ◌≤◌, ◌&&◌, cond, Bool, true, false, ℤ, pos, ◌-ℤ◌, ◌≤ℤ◌, List, length, set, get_or, Some, None, arith, refl, sym, ap, subst, ◌∙◌, inl, inr}
use Rattle.std.specs.Prelude.{int_lt}
use Rattle.std.proofs.lemmas.Bool.{cases_eq}
use Rattle.std.proofs.lemmas.Int.{ints}
use Rattle.std.proofs.lemmas.List.{get_or-set_same, get_or-set_other, length-set, ext_get_or}
use Rattle.std.proofs.lemmas.List.FromFn.{get_or-map-range_with_len, length-map-range_with_len}
use Rattle.network_laws.specs.declared.network.NetEdge.{NetEdge}
use Rattle.network_laws.specs.Network.{EndsBelow, IsNetwork}
use Rattle.network_laws.specs.Layering.{layer_of, natural}
use Rattle.network_laws.specs.Linked.{is_marked}
use Rattle.network_laws.specs.Paths.{AreGreatestSums}
use Rattle.net_simplex.specs.Tree.{State, IsState, cut_value}
use Rattle.net_simplex.specs.Pivots.{is_negative, leaving_edge, first_state, Pivots, NoneNegative, HasNegative, flow_at, flow_of, lowered}
use Rattle.net_simplex.specs.Answer.{RunsOut}
use Rattle.net_simplex.specs.Cuts.{AreCutValues}
use Rattle.net_simplex.specs.Grown.{IsSmall}
use Rattle.net_simplex.specs.Kept.{kept_state, StandsFor, PivotsTo}
use Rattle.net_simplex.specs.Outcome.{Reaches, Outcome}
use Rattle.net_simplex.proofs.Choosing.{Chosen, least_chosen}
use Rattle.net_simplex.proofs.Ending.{last_done}
use Rattle.net_simplex.proofs.Lowering.{least_in, length_lowered, lowered_at, none_less, least_there}
use Rattle.net_simplex.proofs.Spreading.{near_root}
use Rattle.net_simplex.proofs.ChainEnds.{pivot_moved, lowered_moved, negative_moved, flow_moved}

-- no pivot yet
pub reach_none : (nodes : ℕ) (edges : List NetEdge) (tree : List Bool) (layers : List ℤ) → Reaches nodes edges 0 tree layers tree layers
reach_none nodes edges tree layers = λ s h. (s, refl, h)

-- one pivot more
pub reach_more : (nodes : ℕ) (edges : List NetEdge) (n : ℕ) (tree tree' tree'' : List Bool) (layers layers' layers'' : List ℤ) → EndsBelow nodes edges → length layers' ≡ nodes → Reaches nodes edges n tree layers tree' layers' → PivotsTo nodes edges tree' layers' tree'' layers'' → Reaches nodes edges (n + 1) tree layers tree'' layers''
reach_more nodes edges n tree tree' tree'' layers layers' layers'' ends long r p =
    λ s h.
    let m = r s h in
    let t = pivot_moved nodes edges ends m.0 tree' layers' long m.2 tree'' layers'' p in
    let e : suc n ≡ n + 1 = omega arith in
    (t.0, subst (λ k. Pivots nodes edges s k t.0) e (m.0, m.1, t.1), t.2)

-- what the choice of the edge that leaves says of the cut values
pub some_negative : (nodes : ℕ) (edges : List NetEdge) (tree : List Bool) (layers : List ℤ) (k : ℕ) → leaving_edge nodes edges (kept_state tree layers) ≡ Some k → HasNegative nodes edges (kept_state tree layers)
some_negative nodes edges tree layers k e =
    let c = subst (λ o. Chosen (is_negative nodes edges tree) (λ i. 0) (length edges) o) e (least_chosen (is_negative nodes edges tree) (λ i. 0) (length edges)) in
    (k, c.0, c.1)

pub none_negative : (nodes : ℕ) (edges : List NetEdge) (tree : List Bool) (layers : List ℤ) → leaving_edge nodes edges (kept_state tree layers) ≡ None → NoneNegative nodes edges (kept_state tree layers)
none_negative nodes edges tree layers e =
    subst (λ o. Chosen (is_negative nodes edges tree) (λ i. 0) (length edges) o) e (least_chosen (is_negative nodes edges tree) (λ i. 0) (length edges))

module _ (nodes : ℕ) (edges : List NetEdge) (net : IsNetwork nodes edges) (tree : List Bool) (layers : List ℤ) (is : IsState nodes edges (kept_state tree layers)) (root : layer_of layers 0 ≡ pos 0) where
  -- the layers of the last state fit
  pub last_small : (v : ℕ) → v < nodes → IsSmall (layer_of layers v)
  last_small v l =
      let a = near_root nodes edges (kept_state tree layers) net.ends is v l in
      let a0 = a.0 in
      let a1 = a.1 in
      let m = net.least_fits in
      record { from = omega (arith, ints, a1, root, m); to = omega (arith, ints, a0, root, m) }

  module _ (cut : List ℤ) (values : AreCutValues nodes edges tree cut) (none : NoneNegative nodes edges (kept_state tree layers)) where
    pub from_zero : (k : ℕ) → k < length edges → is_marked tree k ≡ true → pos 0 ≤ℤ layer_of cut k
    from_zero k l m =
        let v = values.1 k l m in
        let n = no_less (is_marked tree k) (cut_value nodes edges tree k) m (none k l) in
        omega (arith, ints, v, n)
      where
        no_less : (b : Bool) (z : ℤ) → b ≡ true → (b && int_lt z (pos 0)) ≡ false → pos 0 ≤ℤ z
        no_less false z t h = absurd cc
        no_less true z t h = omega (arith, ints, h)

    pub flow_is : (flow : List ℕ) → length flow ≡ length edges → ((k : ℕ) → k < length edges → get_or flow k 0 ≡ cond (is_marked tree k) (natural (layer_of cut k)) 0) → flow ≡ flow_of nodes edges (kept_state tree layers)
    flow_is flow n h =
        ext_get_or 0 flow (flow_of nodes edges (kept_state tree layers)) (n ∙ sym (length-map-range_with_len (flow_at nodes edges tree) 0 (length edges))) (λ k l.
        let lk : k < length edges = omega (arith, n, l) in
        h k lk ∙ (same (is_marked tree k) (layer_of cut k) (cut_value nodes edges tree k) (values.1 k lk) ∙ sym (get_or-map-range_with_len (flow_at nodes edges tree) 0 (length edges) k k 0 lk (omega arith))))
      where
        same : (b : Bool) (x y : ℤ) → (b ≡ true → x ≡ y) → cond b (natural x) 0 ≡ cond b (natural y) 0
        same true x y e = ap natural (e refl)
        same false x y e = refl

  pub ended : (some : 0 < nodes) (start : List ℤ) (g : AreGreatestSums nodes edges start) (budget n : ℕ) (s t : State) → s ≡ first_state nodes edges start → n ≤ budget → Pivots nodes edges s n t → StandsFor nodes t tree layers → NoneNegative nodes edges (kept_state tree layers) → Outcome nodes edges budget (Some n) (lowered layers) (flow_of nodes edges (kept_state tree layers))
  ended some start g budget n s t is_s le chain stands none = (
    record {
      start = start;
      is_start = g;
      last = t;
      in_budget = le;
      chain = subst (λ x. Pivots nodes edges x n t) is_s chain;
      at_end = λ k l. negative_moved nodes edges net.ends t tree layers is.layer_for_each stands k ∙ none k l;
      layers_are = sym (lowered_moved nodes edges net.ends t tree layers is.layer_for_each stands some);
      flow_is = sym (flow_moved nodes edges net.ends t tree layers is.layer_for_each stands);
    },
    last_done nodes edges (kept_state tree layers) net.ends is none,
  )

  pub ran_out : (start : List ℤ) (g : AreGreatestSums nodes edges start) (budget : ℕ) (s t : State) → s ≡ first_state nodes edges start → Pivots nodes edges s budget t → StandsFor nodes t tree layers → HasNegative nodes edges (kept_state tree layers) → RunsOut nodes edges budget
  ran_out start g budget s t is_s chain stands neg = record {
    start = start;
    is_start = g;
    last = t;
    chain = subst (λ x. Pivots nodes edges x budget t) is_s chain;
    goes_on = (neg.0, neg.1, negative_moved nodes edges net.ends t tree layers is.layer_for_each stands neg.0 ∙ neg.2);
  }

-- the least number of a list
pub least_is : (layers : List ℤ) (z : ℤ) → 0 < length layers → ((v : ℕ) → v < length layers → z ≤ℤ layer_of layers v) → ((v : ℕ) × (v < length layers) × (layer_of layers v ≡ z)) → z ≡ least_in layers
least_is layers z some low there =
    let w = least_there layers some in
    let a = low w.0 w.1 in
    let b = none_less layers there.0 there.1 in
    let c = w.2 in
    let d = there.2 in
    omega (arith, ints, a, b, c, d)

-- the first layers are lowered
pub record IsLoweredTo (by : ℤ) (old : List ℤ) (i : ℕ) (new : List ℤ) : Type 0 where
  pub as_long : length new ≡ length old
  pub done : (u : ℕ) → u < i → layer_of new u ≡ layer_of old u -ℤ by
  pub kept : (u : ℕ) → i ≤ u → layer_of new u ≡ layer_of old u

pub lower_start : (by : ℤ) (old : List ℤ) → IsLoweredTo by old 0 old
lower_start by old = record { as_long = refl; done = λ u l. absurd (omega (arith, l)); kept = λ u l. refl }

pub lower_more : (by : ℤ) (old : List ℤ) (i : ℕ) (new : List ℤ) (z : ℤ) → i < length old → IsLoweredTo by old i new → z ≡ layer_of new i -ℤ by → IsLoweredTo by old (i + 1) (set new i z)
lower_more by old i new z l s is = record {
  as_long = length-set new i z ∙ s.as_long;
  done = λ u lu. elim (cases_eq u i) [
    | inl e ↦
        let a = ap (layer_of (set new i z)) e ∙ get_or-set_same new i z (pos 0) (let n = s.as_long in omega (arith, n, l)) in
        let b = s.kept i (omega arith) in
        let d = ap (layer_of old) e in
        omega (arith, ints, a, b, d, is)
    | inr ne ↦ get_or-set_other new i u z (pos 0) ne ∙ s.done u (omega (arith, lu, ne))
  ];
  kept = λ u lu. get_or-set_other new i u z (pos 0) (omega (arith, lu)) ∙ s.kept u (omega (arith, lu));
}

pub lower_end : (by : ℤ) (old : List ℤ) (i : ℕ) (new : List ℤ) → length old ≤ i → by ≡ least_in old → IsLoweredTo by old i new → new ≡ lowered old
lower_end by old i new all is s =
    let n = s.as_long in
    let m = length_lowered old in
    ext_get_or (pos 0) new (lowered old) (omega (arith, n, m)) (λ u l.
    let a = s.done u (omega (arith, n, l, all)) in
    let b = lowered_at old u (omega (arith, n, l)) in
    omega (arith, ints, a, b, is))
