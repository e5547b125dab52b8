-- From each layer below the greatest of its part, a layering of least cost has an edge to the next one: the flow lies on edges of
-- one layer, and carries over each gap what the weights do.
use Rattle.std.proofs.Common.{◌≡◌, ℕ, zero, suc, ◌+◌, ◌-◌, ◌*◌, ◌<◌, ◌≤◌, cond, ℤ, pos, ◌+ℤ◌, ◌-ℤ◌, ◌≤ℤ◌, ◌<ℤ◌, List, [], ◌∷◌, length, arith, refl, subst, inl, inr}
use Rattle.std.specs.Prelude.{int_lt}
use Rattle.std.proofs.lemmas.Int.{ints}
use Rattle.std.proofs.lemmas.Bool.{cases_Bool}
use Rattle.network_laws.specs.declared.network.NetEdge.{NetEdge}
use Rattle.network_laws.specs.Network.{edge_at, EndsBelow}
use Rattle.network_laws.specs.Layering.{layer_of, natural, rise, weighed, weights, IsSolution}
use Rattle.network_laws.proofs.Duality.{carries, natural_is, same_cost, weighed_le, weighed_sum}
use Rattle.network_laws.proofs.Naming.{same_in_part}
use Rattle.level_layout.specs.Low.{IsPlainNetwork}

-- 1 above layer j, else 0
above : ℕ → ℤ → ℕ
above j z = cond (int_lt (pos j) z) 1 0

above_yes : (j : ℕ) (z : ℤ) → pos j <ℤ z → above j z ≡ 1
unfolding above
above_yes j z h =
    elim (cases_Bool (int_lt (pos j) z)) [
      | inl f ↦ rw f refl
      | inr f ↦ absurd (omega (arith, ints, f, h))
    ]

above_no : (j : ℕ) (z : ℤ) → z ≤ℤ pos j → above j z ≡ 0
unfolding above
above_no j z h =
    elim (cases_Bool (int_lt (pos j) z)) [
      | inl f ↦ absurd (omega (arith, ints, f, h))
      | inr f ↦ rw f refl
    ]

-- an edge that does not lead from layer j to the next one rises by one more than it must where it leads over the gap behind j
rises_more : (j : ℕ) (t h : ℤ) → (t +ℤ pos 1) ≤ℤ h → (t ≡ pos j → h ≡ pos j +ℤ pos 1 → ⊥) → (above j t ≤ above j h) × (1 + (above j h - above j t) ≤ natural (h -ℤ t))
rises_more j t h up other =
    let is = natural_is (h -ℤ t) (omega (arith, ints, up)) in
    elim (cases_Bool (int_lt (pos j) h)) [
      | inr f ↦
          let low = above_no j h (omega (arith, ints, f)) in
          let low_tail = above_no j t (omega (arith, ints, f, up)) in
          (omega (arith, low, low_tail), omega (arith, ints, low, low_tail, is, up))
      | inl f ↦
          let high = above_yes j h (omega (arith, ints, f)) in
          elim (cases_Bool (int_lt (pos j) t)) [
            | inl g ↦ let high_tail = above_yes j t (omega (arith, ints, g)) in (omega (arith, high, high_tail), omega (arith, ints, high, high_tail, is, up))
            | inr g ↦
                let low_tail = above_no j t (omega (arith, ints, g)) in (
                  omega (arith, high, low_tail),
                  elim (cases_Bool (int_lt t (pos j))) [
                    | inl k ↦ omega (arith, ints, high, low_tail, is, f, k)
                    | inr k ↦ elim (cases_Bool (int_lt (pos j +ℤ pos 1) h)) [
                      | inl m ↦ omega (arith, ints, high, low_tail, is, g, m)
                      | inr m ↦ absurd (other (omega (arith, ints, g, k)) (omega (arith, ints, f, m)))
                    ]
                  ],
                )
          ]
    ]

nothing_of : (w x : ℕ) → 1 ≤ w → w * x ≡ 0 → x ≡ 0
nothing_of w zero h e = refl
nothing_of zero (suc x) h e = absurd (omega (arith, h))
nothing_of (suc w) (suc x) h e = absurd (omega (arith, e))

-- where nothing is weighed, each edge has nothing
none_weighed : (g : NetEdge → ℕ) (edges : List NetEdge) → ((k : ℕ) → k < length edges → 1 ≤ (edge_at edges k).weight) → weighed g edges (weights edges) ≡ 0
    → (k : ℕ) → k < length edges → g (edge_at edges k) ≡ 0
none_weighed g [] heavy none k h = absurd (omega (arith, h))
none_weighed g (e ∷ es) heavy none zero h = nothing_of e.weight (g e) (heavy 0 h) (omega (arith, none))
none_weighed g (e ∷ es) heavy none (suc k) h =
    none_weighed g es (λ m l. heavy (suc m) (omega (arith, l))) (omega (arith, none)) k (omega (arith, h))

abbrev side : ℕ → List ℤ → ℕ → ℕ
side j layers v = above j (layer_of layers v)

abbrev gain : ℕ → List ℤ → NetEdge → ℕ
gain j layers e = side j layers e.head - side j layers e.tail

-- below the layer of a node it cannot be that no edge leads from layer j to the next one
pub some_step : (nodes : ℕ) (edges : List NetEdge) (layers : List ℤ) (flow : List ℕ) (total j : ℕ) → EndsBelow nodes edges → IsPlainNetwork edges → IsSolution nodes edges layers flow total
    → (v : ℕ) → v < nodes → pos j <ℤ layer_of layers v
    → ((k : ℕ) → k < length edges → layer_of layers (edge_at edges k).tail ≡ pos j → layer_of layers (edge_at edges k).head ≡ pos j +ℤ pos 1 → ⊥) → ⊥
some_step nodes edges layers flow total j ends plain s v inside high none =
    let up : (k : ℕ) → k < length edges → (layer_of layers (edge_at edges k).tail +ℤ pos 1) ≤ℤ layer_of layers (edge_at edges k).head =
    λ k l. subst (λ (n : ℕ). (layer_of layers (edge_at edges k).tail +ℤ pos n) ≤ℤ layer_of layers (edge_at edges k).head) (plain.unit k l) (s.layering k l)
    in
    let more : (k : ℕ) → k < length edges → (side j layers (edge_at edges k).tail ≤ side j layers (edge_at edges k).head) × (1 + gain j layers (edge_at edges k) ≤ rise layers (edge_at edges k)) =
    λ k l. rises_more j (layer_of layers (edge_at edges k).tail) (layer_of layers (edge_at edges k).head) (up k l) (none k l)
    in
    let over : (k : ℕ) → k < length edges → side j layers (edge_at edges k).head ≡ side j layers (edge_at edges k).tail + gain j layers (edge_at edges k) =
    λ k l. let m = (more k l).0 in omega (arith, m)
    in
    let longer : (k : ℕ) → k < length edges → (edge_at edges k).least + gain j layers (edge_at edges k) ≤ rise layers (edge_at edges k) =
    λ k l. let m = (more k l).1 in let unit = plain.unit k l in omega (arith, m, unit)
    in
    let by_flow = weighed_sum (λ (e : NetEdge). side j layers e.head) (λ (e : NetEdge). side j layers e.tail) (gain j layers) edges flow over in
    let by_weight = weighed_sum (λ (e : NetEdge). side j layers e.head) (λ (e : NetEdge). side j layers e.tail) (gain j layers) edges (weights edges) over in
    let carried = carries (side j layers) nodes edges flow ends s.balances in
    let split = weighed_sum (λ (e : NetEdge). e.least + gain j layers e) (λ (e : NetEdge). e.least) (gain j layers) edges flow (λ k l. refl) in
    let long = weighed_le (λ (e : NetEdge). e.least + gain j layers e) (rise layers) edges flow longer in
    let same = same_cost nodes edges flow layers ends s.balances s.layering in
    let cost = s.cost_is in
    let value = s.value_is in
    let nothing = none_weighed (gain j layers) edges plain.weighs (omega (arith, by_flow, by_weight, carried, split, long, same, cost, value)) in
    let start = s.from_zero.reached v inside in
    let at_zero = start.3 in
    let equal = same_in_part edges (side j layers) (λ k l. let o = over k l in let g = nothing k l in omega (arith, o, g)) start.0 v start.2.0 start.2.1 in
    let low = above_no j (layer_of layers start.0) (omega (arith, ints, at_zero)) in
    let top = above_yes j (layer_of layers v) high in
    omega (arith, equal, low, top)
