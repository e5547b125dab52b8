-- A pivot keeps a spanning tree of tight edges, and there is one while a cut value is negative.
use Rattle.std.proofs.Common.{◌≡◌, ℕ, zero, suc, ◌<◌, ◌≤◌, ◌&&◌, cond, not, Bool, true, false, ℤ, pos, ◌+ℤ◌, ◌-ℤ◌, ◌≤ℤ◌, List, [], ◌∷◌, length, set, Option, Some, None, arith, refl, sym, ap, subst, ◌∙◌, inl, inr}
use Rattle.std.specs.Prelude.{int_lt}
use Rattle.std.proofs.lemmas.List.Sums.{sum_by-cons}
use Rattle.std.proofs.lemmas.Bool.{cases_eq, cases_Bool}
use Rattle.std.proofs.lemmas.Int.{ints}
use Rattle.network_laws.specs.declared.network.NetEdge.{NetEdge}
use Rattle.network_laws.specs.Network.{edge_at, EndsBelow}
use Rattle.network_laws.specs.Layering.{layer_of, IsLayering}
use Rattle.network_laws.specs.Tight.{IsTightEdge}
use Rattle.network_laws.specs.Linked.{is_marked}
use Rattle.network_laws.proofs.Duality.{natural_is}
use Rattle.net_simplex.specs.Tree.{State, IsState, IsCut, tail_part, cut_value, entering_weight}
use Rattle.net_simplex.specs.Pivots.{slack, shifted, is_negative, leaving_edge, leads_back, entering_edge, exchanged, pivot_at, pivot, Pivots, HasNegative}
use Rattle.net_simplex.specs.Answer.{PivotKeeps, PivotGoesOn, PivotEnds}
use Rattle.net_simplex.proofs.Cutting.{tail_parts_cut}
use Rattle.net_simplex.proofs.Choosing.{Chosen, least_chosen, none_chosen}
use Rattle.net_simplex.proofs.Exchanging.{exchange_keeps, old_mark, not_out}

pub length_shifted : (inside : ℕ → Bool) (by : ℤ) (zs : List ℤ) → length (shifted inside by zs) ≡ length zs
length_shifted inside by [] = refl
length_shifted inside by (z ∷ zs) = ap (λ n. suc n) (length_shifted (λ v. inside (suc v)) by zs)

pub shifted_at : (inside : ℕ → Bool) (by : ℤ) (zs : List ℤ) (v : ℕ) → v < length zs → layer_of (shifted inside by zs) v ≡ cond (inside v) (layer_of zs v +ℤ by) (layer_of zs v)
shifted_at inside by [] v l = absurd (omega arith)
shifted_at inside by (z ∷ zs) zero l = refl
shifted_at inside by (z ∷ zs) (suc v) l = shifted_at (λ v. inside (suc v)) by zs v (omega arith)

pub slack_is : (layers : List ℤ) (e : NetEdge) → (layer_of layers e.tail +ℤ pos e.least) ≤ℤ layer_of layers e.head → layer_of layers e.tail +ℤ pos e.least +ℤ pos (slack layers e) ≡ layer_of layers e.head
slack_is layers e h =
    let n = natural_is (layer_of layers e.head -ℤ layer_of layers e.tail -ℤ pos e.least) (omega (arith, ints, h)) in
    omega (arith, ints, n)

module _ (nodes : ℕ) (edges : List NetEdge) (s : State) (ends : EndsBelow nodes edges) (is : IsState nodes edges s) (k j : ℕ) (inside : ℕ → Bool) (lk : k < length edges) (lj : j < length edges) (mk : is_marked s.tree k ≡ true) (c : IsCut edges s.tree k inside) (from : inside (edge_at edges j).tail ≡ false) (to : inside (edge_at edges j).head ≡ true) (least : (i : ℕ) → i < length edges → leads_back inside (edge_at edges i) ≡ true → slack s.layers (edge_at edges j) ≤ slack s.layers (edge_at edges i)) where
  abbrev by : ℕ
  by = slack s.layers (edge_at edges j)

  abbrev layers' : List ℤ
  layers' = shifted (λ v. not (inside v)) (pos by) s.layers

  stays : (v : ℕ) → v < nodes → inside v ≡ true → layer_of layers' v ≡ layer_of s.layers v
  stays v l i =
      let n = is.layer_for_each in
      let a = shifted_at (λ v. not (inside v)) (pos by) s.layers v (omega (arith, n, l)) in
      a ∙ ap (λ b. cond (not b) (layer_of s.layers v +ℤ pos by) (layer_of s.layers v)) i

  moves : (v : ℕ) → v < nodes → inside v ≡ false → layer_of layers' v ≡ layer_of s.layers v +ℤ pos by
  moves v l i =
      let n = is.layer_for_each in
      let a = shifted_at (λ v. not (inside v)) (pos by) s.layers v (omega (arith, n, l)) in
      a ∙ ap (λ b. cond (not b) (layer_of s.layers v +ℤ pos by) (layer_of s.layers v)) i

  new_layering : IsLayering edges layers'
  new_layering i l =
      let e = edge_at edges i in
      let lt = (ends i l).0 in
      let lh = (ends i l).1 in
      let was = is.layering i l in
      elim (cases_Bool (inside e.tail)) [
        | inl a ↦ let x = stays e.tail lt a in elim (cases_Bool (inside e.head)) [
          | inl b ↦ let y = stays e.head lh b in omega (arith, ints, x, y, was)
          | inr b ↦ let y = moves e.head lh b in omega (arith, ints, x, y, was)
        ]
        | inr a ↦ let x = moves e.tail lt a in elim (cases_Bool (inside e.head)) [
          | inl b ↦
              let y = stays e.head lh b in
              let d = slack_is s.layers e was in
              let m = least i l (rw (a, b) refl) in
              omega (arith, ints, x, y, d, m)
          | inr b ↦ let y = moves e.head lh b in omega (arith, ints, x, y, was)
        ]
      ]

  tight_within : (i : ℕ) → i < length edges → inside (edge_at edges i).tail ≡ inside (edge_at edges i).head → IsTightEdge s.layers (edge_at edges i) → IsTightEdge layers' (edge_at edges i)
  tight_within i l same t =
      let e = edge_at edges i in
      elim (cases_Bool (inside e.head)) [
        | inl b ↦
            let x = stays e.tail (ends i l).0 (same ∙ b) in
            let y = stays e.head (ends i l).1 b in
            omega (arith, ints, x, y, t)
        | inr b ↦
            let x = moves e.tail (ends i l).0 (same ∙ b) in
            let y = moves e.head (ends i l).1 b in
            omega (arith, ints, x, y, t)
      ]

  entered_tight : IsTightEdge layers' (edge_at edges j)
  entered_tight =
      let x = moves (edge_at edges j).tail (ends j lj).0 from in
      let y = stays (edge_at edges j).head (ends j lj).1 to in
      let d = slack_is s.layers (edge_at edges j) (is.layering j lj) in
      omega (arith, ints, x, y, d)

  pub exchanged_state : IsState nodes edges (record { tree = set (set s.tree k false) j true; layers = layers' })
  exchanged_state = record {
    layer_for_each = length_shifted (λ v. not (inside v)) (pos by) s.layers ∙ is.layer_for_each;
    layering = new_layering;
    spanning = exchange_keeps nodes edges s.tree ends is.spanning k j inside lk lj mk c from to;
    tight = λ i li mi. elim (cases_eq i j) [
      | inl e ↦ subst (λ x. IsTightEdge layers' (edge_at edges x)) (sym e) entered_tight
      | inr ne ↦
          let was = old_mark nodes edges s.tree ends is.spanning k j inside lk lj mk c from to i ne mi in
          tight_within i li (c.others i li was (not_out nodes edges s.tree ends is.spanning k j inside lk lj mk c from to i ne mi)) (is.tight i li was)
    ];
  }

both_true : (a b : Bool) → (not a && b) ≡ true → (a ≡ false) × (b ≡ true)
both_true true b h = absurd cc
both_true false b h = (refl, h)

pub first_true : (a b : Bool) → (a && b) ≡ true → a ≡ true
first_true true b h = refl
first_true false b h = h

pub some_state : (a b : State) → Some a ≡ Some b → a ≡ b
some_state a b h = cc

pub no_state : {P : Type 0} (t : State) → None ≡ Some t → P
no_state t h = absurd cc

module _ (nodes : ℕ) (edges : List NetEdge) (s : State) (ends : EndsBelow nodes edges) (is : IsState nodes edges s) where
  enters : (t : State) (k : ℕ) → k < length edges → is_marked s.tree k ≡ true → (o : Option ℕ) → Chosen (λ i. leads_back (tail_part nodes edges s.tree k) (edge_at edges i)) (λ i. slack s.layers (edge_at edges i)) (length edges) o → exchanged edges s k (tail_part nodes edges s.tree k) o ≡ Some t → IsState nodes edges t
  enters t k lk mk None o e = no_state t e
  enters t k lk mk (Some j) o e =
      let inside = tail_part nodes edges s.tree k in
      let b = both_true (inside (edge_at edges j).tail) (inside (edge_at edges j).head) o.1 in
      subst (λ x. IsState nodes edges x) (some_state _ _ e)
      (exchanged_state nodes edges s ends is k j inside lk o.0 mk (tail_parts_cut nodes edges s.tree k ends is.spanning lk mk) b.0 b.1 o.2)

  leaves : (t : State) (o : Option ℕ) → Chosen (is_negative nodes edges s.tree) (λ k. 0) (length edges) o → pivot_at nodes edges s o ≡ Some t → IsState nodes edges t
  leaves t None o e = no_state t e
  leaves t (Some k) o e =
      enters t k o.0 (first_true (is_marked s.tree k) _ o.1) (entering_edge edges s (tail_part nodes edges s.tree k)) (least_chosen (λ i. leads_back (tail_part nodes edges s.tree k) (edge_at edges i)) (λ i. slack s.layers (edge_at edges i)) (length edges)) e

  pub pivoted : (t : State) → pivot nodes edges s ≡ Some t → IsState nodes edges t
  pivoted t e = leaves t (leaving_edge nodes edges s) (least_chosen (is_negative nodes edges s.tree) (λ k. 0) (length edges)) e

pub pivot_keeps : PivotKeeps
pivot_keeps nodes edges s t ends is e = pivoted nodes edges s ends is t e

-- no edge from the head's part to the tail's: nothing enters
none_one : (t h : Bool) (w : ℕ) → (not t && h) ≡ false → cond t 0 (cond h w 0) ≡ 0
none_one true h w e = refl
none_one false true w e = absurd cc
none_one false false w e = refl

nothing_enters : (inside : ℕ → Bool) (edges : List NetEdge) → ((i : ℕ) → i < length edges → leads_back inside (edge_at edges i) ≡ false) → entering_weight edges inside ≡ 0
nothing_enters inside [] h = refl
nothing_enters inside (e ∷ es) h =
    let r = nothing_enters inside es (λ i l. h (suc i) (omega arith)) in
    let n = sum_by-cons (λ (e : NetEdge). cond (inside e.tail) 0 (cond (inside e.head) e.weight 0)) e es in
    let a = none_one (inside e.tail) (inside e.head) e.weight (h 0 (omega arith)) in
    omega (arith, r, n, a)

negative_if : (b : Bool) (z : ℤ) → (b && int_lt z (pos 0)) ≡ true → int_lt z (pos 0) ≡ true
negative_if true z h = h
negative_if false z h = absurd cc

module _ (nodes : ℕ) (edges : List NetEdge) (s : State) where
  goes_in : (k : ℕ) → is_negative nodes edges s.tree k ≡ true → (o : Option ℕ) → Chosen (λ i. leads_back (tail_part nodes edges s.tree k) (edge_at edges i)) (λ i. slack s.layers (edge_at edges i)) (length edges) o → (t : State) × (exchanged edges s k (tail_part nodes edges s.tree k) o ≡ Some t)
  goes_in k neg None o =
      let z = nothing_enters (tail_part nodes edges s.tree k) edges o in
      let n = negative_if (is_marked s.tree k) (cut_value nodes edges s.tree k) neg in
      absurd (omega (arith, ints, z, n))
  goes_in k neg (Some j) o = (_, refl)

  goes_out : (o : Option ℕ) → Chosen (is_negative nodes edges s.tree) (λ k. 0) (length edges) o → HasNegative nodes edges s → (t : State) × (pivot_at nodes edges s o ≡ Some t)
  goes_out None o h = let bad : false ≡ true = sym (o h.0 h.1) ∙ h.2 in absurd cc
  goes_out (Some k) o h =
      goes_in k o.1 (entering_edge edges s (tail_part nodes edges s.tree k)) (least_chosen (λ i. leads_back (tail_part nodes edges s.tree k) (edge_at edges i)) (λ i. slack s.layers (edge_at edges i)) (length edges))

pub pivot_goes_on : PivotGoesOn
pivot_goes_on nodes edges s h =
    goes_out nodes edges s (leaving_edge nodes edges s) (least_chosen (is_negative nodes edges s.tree) (λ k. 0) (length edges)) h

pub pivot_ends : PivotEnds
pivot_ends nodes edges s h =
    ap (pivot_at nodes edges s) (none_chosen (is_negative nodes edges s.tree) (λ k. 0) (length edges) h)

module _ (nodes : ℕ) (edges : List NetEdge) where
  -- a chain leads to one state
  pub chain_same : (s t u : State) (n : ℕ) → Pivots nodes edges s n t → Pivots nodes edges s n u → t ≡ u
  chain_same s t u zero p q = sym p ∙ q
  chain_same s t u (suc n) p q =
      let m = chain_same s p.0 q.0 n p.1 q.1 in
      some_state t u (sym p.2 ∙ (ap (pivot nodes edges) m ∙ q.2))

  -- and goes through each earlier one
  pub chain_through : (s t : State) (m n : ℕ) → m < n → Pivots nodes edges s n t → (u v : State) × Pivots nodes edges s m u × (pivot nodes edges u ≡ Some v)
  chain_through s t m zero l p = absurd (omega arith)
  chain_through s t m (suc n) l p =
      elim (cases_eq m n) [
        | inl e ↦ (p.0, t, subst (λ x. Pivots nodes edges s x p.0) (sym e) p.1, p.2)
        | inr ne ↦ chain_through s p.0 m n (omega arith) p.1
      ]
