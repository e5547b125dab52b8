-- How a chain ends: one start, one way, and the same pivots for layers that are moved as a whole.
use Rattle.std.proofs.Common.{◌≡◌, ℕ, ◌<◌, cond, not, Bool, true, false, ℤ, pos, ◌+ℤ◌, ◌-ℤ◌, List, length, set, Option, Some, None, arith, refl, sym, ap, subst, ◌∙◌, inl, inr}
use Rattle.std.proofs.lemmas.Bool.{cases_lt, cases_Bool}
use Rattle.std.proofs.lemmas.Int.{ints}
use Rattle.std.proofs.lemmas.List.{ext_get_or}
use Rattle.network_laws.specs.declared.network.NetEdge.{NetEdge}
use Rattle.network_laws.specs.Network.{edge_at, EndsBelow}
use Rattle.network_laws.specs.Layering.{layer_of, natural}
use Rattle.network_laws.specs.Paths.{AreGreatestSums}
use Rattle.net_simplex.specs.Tree.{State, tail_part}
use Rattle.net_simplex.specs.Pivots.{slack, first_state, shifted, is_negative, least_of, least_slack_edge, leaving_edge, leads_back, entering_edge, exchanged, pivot_at, pivot, Pivots, NoneNegative, flow_of, lowered}
use Rattle.net_simplex.specs.Answer.{OneWay}
use Rattle.net_simplex.specs.Kept.{kept_state, StandsFor, PivotsTo}
use Rattle.net_simplex.proofs.Choosing.{Chosen, least_chosen}
use Rattle.net_simplex.proofs.Lowering.{length_lowered, lowered_at, none_less, least_there}
use Rattle.net_simplex.proofs.Pivoting.{length_shifted, shifted_at, some_state, no_state, pivot_ends, chain_same, chain_through}
use Rattle.net_simplex.proofs.Stepping.{least_same}

-- there is one layering of greatest path sums
pub one_start : (nodes : ℕ) (edges : List NetEdge) (a b : List ℤ) → AreGreatestSums nodes edges a → AreGreatestSums nodes edges b → a ≡ b
one_start nodes edges a b g h =
    ext_get_or (pos 0) a b (g.layer_for_each ∙ sym h.layer_for_each) (λ v l.
    let lv : v < nodes = let n = g.layer_for_each in omega (arith, n, l) in
    let x = g.attained v lv in
    let y = h.attained v lv in
    let p = h.none_above v x.0 x.1 x.2 y.2 lv x.3 y.4 in
    let q = g.none_above v y.0 y.1 y.2 x.2 lv y.3 x.4 in
    let e : x.2 ≡ y.2 = omega (arith, p, q) in
    x.4 ∙ (ap pos e ∙ sym y.4))

pub one_way : OneWay
one_way nodes edges budget pivots layers flow a b =
    let start = b.start in
    let begun = one_start nodes edges a.start b.start a.is_start b.is_start in
    let chain = subst (λ x. Pivots nodes edges (first_state nodes edges x) pivots a.last) begun a.chain in
    let s = b.last in
    let neg = b.goes_on in
    elim (cases_lt pivots budget) [
      | inl l ↦
          let w = chain_through nodes edges (first_state nodes edges start) s pivots budget l b.chain in
          let same = chain_same nodes edges (first_state nodes edges start) a.last w.0 pivots chain w.2 in
          no_state w.1 (sym (pivot_ends nodes edges a.last a.at_end) ∙ (ap (pivot nodes edges) same ∙ w.3))
      | inr l ↦
          let le = a.in_budget in
          let e : pivots ≡ budget = omega (arith, l, le) in
          let same = chain_same nodes edges (first_state nodes edges start) a.last s budget (subst (λ x. Pivots nodes edges (first_state nodes edges start) x a.last) e chain) b.chain in
          let was = subst (λ x. NoneNegative nodes edges x) same a.at_end in
          let bad : false ≡ true = sym (was neg.0 neg.1) ∙ neg.2 in
          absurd cc
    ]

module _ (nodes : ℕ) (edges : List NetEdge) (ends : EndsBelow nodes edges) (m : State) (tree : List Bool) (layers : List ℤ) (long : length layers ≡ nodes) (stands : StandsFor nodes m tree layers) where
  same_slack : (k : ℕ) → k < length edges → slack m.layers (edge_at edges k) ≡ slack layers (edge_at edges k)
  same_slack k l =
      let t = stands.layers_are (edge_at edges k).tail (ends k l).0 in
      let h = stands.layers_are (edge_at edges k).head (ends k l).1 in
      let e : layer_of m.layers (edge_at edges k).head -ℤ layer_of m.layers (edge_at edges k).tail -ℤ pos (edge_at edges k).least ≡ layer_of layers (edge_at edges k).head -ℤ layer_of layers (edge_at edges k).tail -ℤ pos (edge_at edges k).least = omega (arith, ints, t, h) in
      ap natural e

  same_leaving : leaving_edge nodes edges m ≡ leaving_edge nodes edges (kept_state tree layers)
  same_leaving = ap (λ t. least_of (is_negative nodes edges t) (λ k. 0) (length edges)) stands.tree_is

  same_entering : (out : ℕ) → entering_edge edges m (tail_part nodes edges m.tree out) ≡ entering_edge edges (kept_state tree layers) (tail_part nodes edges tree out)
  same_entering out =
      ap (λ t. least_slack_edge edges m.layers (leads_back (tail_part nodes edges t out))) stands.tree_is
      ∙ least_same (λ k. leads_back (tail_part nodes edges tree out) (edge_at edges k)) (λ k. leads_back (tail_part nodes edges tree out) (edge_at edges k)) (λ k. slack m.layers (edge_at edges k)) (λ k. slack layers (edge_at edges k)) (length edges) (λ k l. refl) same_slack

  moved_exchange : (out : ℕ) (o : Option ℕ) → Chosen (λ k. leads_back (tail_part nodes edges tree out) (edge_at edges k)) (λ k. slack layers (edge_at edges k)) (length edges) o → (t' : State) (tree' : List Bool) (layers' : List ℤ) → exchanged edges (kept_state tree layers) out (tail_part nodes edges tree out) o ≡ Some t' → StandsFor nodes t' tree' layers' → (t : State) × (exchanged edges m out (tail_part nodes edges m.tree out) o ≡ Some t) × StandsFor nodes t tree' layers'
  moved_exchange out None c t' tree' layers' e s = absurd (no_state t' e)
  moved_exchange out (Some k) c t' tree' layers' e s =
      let inside = tail_part nodes edges tree out in
      let gap = slack layers (edge_at edges k) in
      let gap' = slack m.layers (edge_at edges k) in
      let same = same_slack k c.0 in
      let t : State = record { tree = set (set m.tree out false) k true; layers = shifted (λ v. not (tail_part nodes edges m.tree out v)) (pos gap') m.layers } in
      let is = some_state (record { tree = set (set tree out false) k true; layers = shifted (λ v. not (inside v)) (pos gap) layers }) t' e in
      let s' : StandsFor nodes (record { tree = set (set tree out false) k true; layers = shifted (λ v. not (inside v)) (pos gap) layers }) tree' layers' = subst (λ x. StandsFor nodes x tree' layers') (sym is) s in (
        t,
        refl,
        record {
          tree_is = ap (λ x. set (set x out false) k true) stands.tree_is ∙ s'.tree_is;
          layer_each = length_shifted (λ v. not (tail_part nodes edges m.tree out v)) (pos gap') m.layers ∙ stands.layer_each;
          by = stands.by +ℤ s'.by;
          layers_are = λ v l.
              let n = stands.layer_each in
              let a = shifted_at (λ v. not (tail_part nodes edges m.tree out v)) (pos gap') m.layers v (omega (arith, n, l)) in
              let b = shifted_at (λ v. not (inside v)) (pos gap) layers v (omega (arith, long, l)) in
              let z = s'.layers_are v l in
              let w = stands.layers_are v l in
              let p = ap (λ x. cond (not (tail_part nodes edges x out v)) (layer_of m.layers v +ℤ pos gap') (layer_of m.layers v)) stands.tree_is in
              elim (cases_Bool (not (inside v))) [
                | inl i ↦
                    let x = ap (λ b. cond b (layer_of m.layers v +ℤ pos gap') (layer_of m.layers v)) i in
                    let y = ap (λ b. cond b (layer_of layers v +ℤ pos gap) (layer_of layers v)) i in
                    omega (arith, ints, a, b, z, w, p, x, y, same)
                | inr i ↦
                    let x = ap (λ b. cond b (layer_of m.layers v +ℤ pos gap') (layer_of m.layers v)) i in
                    let y = ap (λ b. cond b (layer_of layers v +ℤ pos gap) (layer_of layers v)) i in
                    omega (arith, ints, a, b, z, w, p, x, y)
              ];
        },
      )

  moved_leaving : (o : Option ℕ) (tree' : List Bool) (layers' : List ℤ) (t' : State) → pivot_at nodes edges (kept_state tree layers) o ≡ Some t' → StandsFor nodes t' tree' layers' → (t : State) × (pivot_at nodes edges m o ≡ Some t) × StandsFor nodes t tree' layers'
  moved_leaving None tree' layers' t' e s = absurd (no_state t' e)
  moved_leaving (Some out) tree' layers' t' e s =
      let o = entering_edge edges (kept_state tree layers) (tail_part nodes edges tree out) in
      let r = moved_exchange out o (least_chosen (λ k. leads_back (tail_part nodes edges tree out) (edge_at edges k)) (λ k. slack layers (edge_at edges k)) (length edges)) t' tree' layers' e s in
      (r.0, ap (exchanged edges m out (tail_part nodes edges m.tree out)) (same_entering out) ∙ r.1, r.2)

  -- a pivot of the one is a pivot of the other
  pub pivot_moved : (tree' : List Bool) (layers' : List ℤ) → PivotsTo nodes edges tree layers tree' layers' → (t : State) × (pivot nodes edges m ≡ Some t) × StandsFor nodes t tree' layers'
  pivot_moved tree' layers' p =
      let r = moved_leaving (leaving_edge nodes edges (kept_state tree layers)) tree' layers' p.0 p.1 p.2 in
      (r.0, ap (pivot_at nodes edges m) same_leaving ∙ r.1, r.2)

  -- lowered, they are the same
  pub lowered_moved : 0 < nodes → lowered m.layers ≡ lowered layers
  lowered_moved some =
      let n = stands.layer_each in
      let a = length_lowered m.layers in
      let b = length_lowered layers in
      let x = least_there m.layers (omega (arith, n, some)) in
      let y = least_there layers (omega (arith, long, some)) in
      let x_low = none_less layers x.0 (let l = x.1 in omega (arith, l, n, long)) in
      let y_low = none_less m.layers y.0 (let l = y.1 in omega (arith, l, n, long)) in
      let x_is = stands.layers_are x.0 (let l = x.1 in omega (arith, l, n)) in
      let y_is = stands.layers_are y.0 (let l = y.1 in omega (arith, l, long)) in
      let x_at = x.2 in
      let y_at = y.2 in
      ext_get_or (pos 0) (lowered m.layers) (lowered layers) (omega (arith, a, b, n, long)) (λ v l.
      let p = lowered_at m.layers v (omega (arith, a, l)) in
      let q = lowered_at layers v (omega (arith, a, l, n, long)) in
      let w = stands.layers_are v (omega (arith, a, l, n)) in
      omega (arith, ints, p, q, w, x_low, y_low, x_is, y_is, x_at, y_at))

  -- and the cut values are those of the tree
  pub negative_moved : (k : ℕ) → is_negative nodes edges m.tree k ≡ is_negative nodes edges tree k
  negative_moved k = ap (λ t. is_negative nodes edges t k) stands.tree_is

  pub flow_moved : flow_of nodes edges m ≡ flow_of nodes edges (kept_state tree layers)
  flow_moved = ap (λ t. flow_of nodes edges (record { tree = t; layers = layers })) stands.tree_is
