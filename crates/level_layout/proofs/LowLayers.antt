-- A layering of least cost leaves no layer of a part empty below its greatest: else all nodes above it could be lowered by one.
use Rattle.std.proofs.Common.{◌≡◌, ◌≢◌, ◌⊎◌, ℕ, zero, suc, ◌+◌, ◌*◌, ◌<◌, ◌≤◌, cond, Bool, true, false, ℤ, pos, ◌+ℤ◌, ◌-ℤ◌, ◌≤ℤ◌, ◌<ℤ◌, List, [], ◌∷◌, length, map, arith, refl, sym, ap, subst, inl, inr, ◌∙◌, true≢false}
use Rattle.std.specs.Prelude.{int_lt}
use Rattle.std.specs.Ordering.{int_eq}
use Rattle.std.proofs.lemmas.Int.{ints}
use Rattle.std.proofs.lemmas.Bool.{cases_lt, cases_Bool}
use Rattle.std.proofs.lemmas.Bool.Decides.{Decides-int_eq}
use Rattle.std.proofs.lemmas.List.{get_or-map}
use Rattle.network_laws.specs.declared.network.NetEdge.{NetEdge}
use Rattle.network_laws.specs.Network.{edge_at, EndsBelow, Joined}
use Rattle.network_laws.specs.Layering.{layer_of, natural, rise, weighed, weights, IsLayering, IsSolution}
use Rattle.network_laws.proofs.Duality.{natural_is, weighed_sum}
use Rattle.level_layout.specs.Low.{IsPlainNetwork, LayersStayLow}

-- a layer above j, lowered by one
abbrev pub lower : ℕ → ℤ → ℤ
lower j z = cond (int_lt (pos j) z) (z -ℤ pos 1) z

-- 1 where the edge leads from a layer up to j to one above it
abbrev pub passes : ℕ → ℤ → ℤ → ℕ
passes j t h = cond (int_lt (pos j) h) (cond (int_lt (pos j) t) 0 1) 0

less_one : (t h : ℤ) → t <ℤ h → natural (h -ℤ t) ≡ natural ((h -ℤ pos 1) -ℤ t) + 1
less_one t h less =
    let a = natural_is (h -ℤ t) (omega (arith, ints, less)) in
    let b = natural_is ((h -ℤ pos 1) -ℤ t) (omega (arith, ints, less)) in
    omega (arith, ints, a, b)

-- a rise after the lowering
lowered_rise : (j : ℕ) (t h : ℤ) → t <ℤ h → natural (h -ℤ t) ≡ natural (lower j h -ℤ lower j t) + passes j t h
lowered_rise j t h less =
    elim (cases_Bool (int_lt (pos j) h)) [
      | inr f ↦ elim (cases_Bool (int_lt (pos j) t)) [
        | inr g ↦ rw (f, g) (omega arith)
        | inl g ↦ absurd (omega (arith, ints, f, g, less))
      ]
      | inl f ↦ elim (cases_Bool (int_lt (pos j) t)) [
        | inl g ↦
            let same : h -ℤ t ≡ (h -ℤ pos 1) -ℤ (t -ℤ pos 1) = omega (arith, ints) in
            let e = ap natural same in
            rw (f, g) (omega (arith, e))
        | inr g ↦ rw (f, g) (less_one t h less)
      ]
    ]

passes_one : (j : ℕ) (t h : ℤ) → t ≤ℤ pos j → pos j <ℤ h → passes j t h ≡ 1
passes_one j t h low high =
    elim (cases_Bool (int_lt (pos j) h)) [
      | inr f ↦ absurd (omega (arith, ints, f, high))
      | inl f ↦ elim (cases_Bool (int_lt (pos j) t)) [
        | inl g ↦ absurd (omega (arith, ints, g, low))
        | inr g ↦ rw (f, g) refl
      ]
    ]

cases_int : (x y : ℤ) → (x ≡ y) ⊎ (x ≢ y)
cases_int x y =
    elim (cases_Bool (int_eq x y)) [
      | inl same ↦ inl ((Decides-int_eq x y).0 same)
      | inr different ↦ inr (λ e. true≢false (sym ((Decides-int_eq x y).1 e) ∙ different))
    ]

below_it : (j : ℕ) (t : ℤ) → t ≢ pos j → t ≤ℤ pos j → t <ℤ pos j
below_it j t other most =
    elim (cases_Bool (int_lt t (pos j))) [
      | inl f ↦ omega (arith, ints, f)
      | inr f ↦ absurd (other (omega (arith, ints, f, most)))
    ]

-- no edge begins in the layer, so each still rises
still_up : (j : ℕ) (t h : ℤ) → t ≢ pos j → (t +ℤ pos 1) ≤ℤ h → (lower j t +ℤ pos 1) ≤ℤ lower j h
still_up j t h other up =
    elim (cases_Bool (int_lt (pos j) h)) [
      | inr f ↦ elim (cases_Bool (int_lt (pos j) t)) [
        | inr g ↦ rw (f, g) up
        | inl g ↦ absurd (omega (arith, ints, f, g, up))
      ]
      | inl f ↦ elim (cases_Bool (int_lt (pos j) t)) [
        | inl g ↦ rw (f, g) (omega (arith, ints, up))
        | inr g ↦
            let under = below_it j t other (omega (arith, ints, g)) in
            rw (f, g) (omega (arith, ints, f, under))
      ]
    ]

read_lower : (j : ℕ) (layers : List ℤ) (v : ℕ) → v < length layers → layer_of (map (lower j) layers) v ≡ lower j (layer_of layers v)
read_lower j layers v h = get_or-map (lower j) layers v (pos 0) (pos 0) h

weighed_has : (g : NetEdge → ℕ) (edges : List NetEdge) (i : ℕ) → i < length edges → (edge_at edges i).weight * g (edge_at edges i) ≤ weighed g edges (weights edges)
weighed_has g [] i h = absurd (omega (arith, h))
weighed_has g (e ∷ es) zero h = omega arith
weighed_has g (e ∷ es) (suc i) h = let rest = weighed_has g es i (omega (arith, h)) in omega (arith, rest)

abbrev pub passing : ℕ → List ℤ → NetEdge → ℕ
passing j layers e = passes j (layer_of layers e.tail) (layer_of layers e.head)

-- where no node is in the layer, no edge passes it
none_pass : (nodes : ℕ) (edges : List NetEdge) (layers : List ℤ) (flow : List ℕ) (total j : ℕ) → EndsBelow nodes edges → IsPlainNetwork edges → IsSolution nodes edges layers flow total
    → ((u : ℕ) → u < nodes → layer_of layers u ≢ pos j) → (i : ℕ) → i < length edges → passing j layers (edge_at edges i) ≡ 1 → ⊥
none_pass nodes edges layers flow total j ends plain s none i inside is =
    let low : List ℤ = map (lower j) layers in
    let many = s.layer_for_each in
    let up : (k : ℕ) → k < length edges → (layer_of layers (edge_at edges k).tail +ℤ pos 1) ≤ℤ layer_of layers (edge_at edges k).head =
    λ k l. subst (λ (n : ℕ). (layer_of layers (edge_at edges k).tail +ℤ pos n) ≤ℤ layer_of layers (edge_at edges k).head) (plain.unit k l) (s.layering k l)
    in
    let tail_is : (k : ℕ) → k < length edges → layer_of low (edge_at edges k).tail ≡ lower j (layer_of layers (edge_at edges k).tail) =
    λ k l. let b = (ends k l).0 in read_lower j layers (edge_at edges k).tail (omega (arith, b, many))
    in
    let head_is : (k : ℕ) → k < length edges → layer_of low (edge_at edges k).head ≡ lower j (layer_of layers (edge_at edges k).head) =
    λ k l. let b = (ends k l).1 in read_lower j layers (edge_at edges k).head (omega (arith, b, many))
    in
    let layering : IsLayering edges low =
    λ k l. rw (plain.unit k l, tail_is k l, head_is k l) (still_up j (layer_of layers (edge_at edges k).tail) (layer_of layers (edge_at edges k).head) (none (edge_at edges k).tail (ends k l).0) (up k l))
    in
    let rises : (k : ℕ) → k < length edges → rise layers (edge_at edges k) ≡ rise low (edge_at edges k) + passing j layers (edge_at edges k) =
    λ k l. let u = up k l in rw (tail_is k l, head_is k l) (lowered_rise j (layer_of layers (edge_at edges k).tail) (layer_of layers (edge_at edges k).head) (omega (arith, ints, u)))
    in
    let sums = weighed_sum (rise layers) (rise low) (passing j layers) edges (weights edges) rises in
    let least = s.least low layering in
    let total_is = s.cost_is in
    let has = rw is at (weighed_has (passing j layers) edges i inside) in
    let heavy = plain.weighs i inside in
    omega (arith, sums, least, total_is, has, heavy)

-- a walk from a layer up to j to one above it passes over an edge that does
some_pass : (edges : List NetEdge) (layers : List ℤ) (j : ℕ) → IsPlainNetwork edges → IsLayering edges layers → (a b n : ℕ) → Joined edges a b n → layer_of layers a ≤ℤ pos j → pos j <ℤ layer_of layers b
    → (i : ℕ) × (i < length edges) × (passing j layers (edge_at edges i) ≡ 1)
some_pass edges layers j plain up a b zero w low high = absurd (let e = ap (layer_of layers) w in omega (arith, ints, e, low, high))
some_pass edges layers j plain up a b (suc n) w low high =
    elim (cases_Bool (int_lt (pos j) (layer_of layers w.0))) [
      | inl f ↦ some_pass edges layers j plain up a w.0 n w.1 low (omega (arith, ints, f))
      | inr f ↦ elim w.2 [
        | inl e ↦
            let from = ap (layer_of layers) e.from_is in
            let to = ap (layer_of layers) e.to_is in
            (e.number, e.is_there, passes_one j (layer_of layers (edge_at edges e.number).tail) (layer_of layers (edge_at edges e.number).head) (omega (arith, ints, from, f)) (omega (arith, ints, to, high)))
        | inr e ↦
            let from = ap (layer_of layers) e.from_is in
            let to = ap (layer_of layers) e.to_is in
            let rising = up e.number e.is_there in
            absurd (omega (arith, ints, from, to, rising, f, high))
      ]
    ]

find_in : (layers : List ℤ) (j n : ℕ) → ((u : ℕ) × (u < n) × (layer_of layers u ≡ pos j)) ⊎ ((u : ℕ) → u < n → layer_of layers u ≢ pos j)
find_in layers j zero = inr (λ u h. absurd (omega (arith, h)))
find_in layers j (suc n) =
    elim (find_in layers j n) [
      | inl found ↦ let inside = found.1 in inl (found.0, omega (arith, inside), found.2)
      | inr none ↦ elim (cases_int (layer_of layers n) (pos j)) [
        | inl e ↦ inl (n, omega arith, e)
        | inr other ↦ inr (λ u h. elim (cases_lt u n) [
          | inl l ↦ none u l
          | inr m ↦ let same : u ≡ n = omega (arith, h, m) in subst (λ (w : ℕ). layer_of layers w ≢ pos j) (sym same) other
        ])
      ]
    ]

-- some node is in each layer below that of a node
inhabited : (nodes : ℕ) (edges : List NetEdge) (layers : List ℤ) (flow : List ℕ) (total j : ℕ) → EndsBelow nodes edges → IsPlainNetwork edges → IsSolution nodes edges layers flow total
    → (v : ℕ) → v < nodes → pos j <ℤ layer_of layers v → (u : ℕ) × (u < nodes) × (layer_of layers u ≡ pos j)
inhabited nodes edges layers flow total j ends plain s v inside high =
    elim (find_in layers j nodes) [
      | inl found ↦ found
      | inr none ↦
          let start = s.from_zero.reached v inside in
          let at_zero = start.3 in
          let edge = some_pass edges layers j plain s.layering start.0 v start.2.0 start.2.1 (omega (arith, ints, at_zero)) high in
          absurd (none_pass nodes edges layers flow total j ends plain s none edge.0 edge.1 edge.2)
    ]

-- how many layers are below m
abbrev pub count_low : ℕ → List ℤ → ℕ
count_low m [] = 0
count_low m (z ∷ zs) = cond (int_lt z (pos m)) 1 0 + count_low m zs

one_grows : (m : ℕ) (z : ℤ) → cond (int_lt z (pos m)) 1 0 + 0 ≤ cond (int_lt z (pos (suc m))) 1 0 + 0
one_grows m z =
    elim (cases_Bool (int_lt z (pos m))) [
      | inr f ↦ rw f (omega arith)
      | inl f ↦ elim (cases_Bool (int_lt z (pos (suc m)))) [
        | inl g ↦ rw (f, g) (omega arith)
        | inr g ↦ absurd (omega (arith, ints, f, g))
      ]
    ]

count_grows : (m : ℕ) (zs : List ℤ) → count_low m zs ≤ count_low (suc m) zs
count_grows m [] = omega arith
count_grows m (z ∷ zs) =
    let one = one_grows m z in
    let rest = count_grows m zs in
    omega (arith, one, rest)

one_more : (m : ℕ) (z : ℤ) → z ≡ pos m → cond (int_lt z (pos m)) 1 0 + 1 ≤ cond (int_lt z (pos (suc m))) 1 0
one_more m z is =
    elim (cases_Bool (int_lt z (pos m))) [
      | inl f ↦ absurd (omega (arith, ints, f, is))
      | inr f ↦ elim (cases_Bool (int_lt z (pos (suc m)))) [
        | inl g ↦ rw (f, g) (omega arith)
        | inr g ↦ absurd (omega (arith, ints, g, is))
      ]
    ]

count_more : (m : ℕ) (zs : List ℤ) (u : ℕ) → u < length zs → layer_of zs u ≡ pos m → count_low m zs + 1 ≤ count_low (suc m) zs
count_more m [] u h is = absurd (omega (arith, h))
count_more m (z ∷ zs) zero h is =
    let one = one_more m z is in
    let rest = count_grows m zs in
    omega (arith, one, rest)
count_more m (z ∷ zs) (suc u) h is =
    let one = one_grows m z in
    let rest = count_more m zs u (omega (arith, h)) is in
    omega (arith, one, rest)

one_at_most : (b : Bool) → cond b 1 0 + 0 ≤ 1
one_at_most true = omega arith
one_at_most false = omega arith

count_bound : (m : ℕ) (zs : List ℤ) → count_low m zs ≤ length zs
count_bound m [] = omega arith
count_bound m (z ∷ zs) =
    let one = one_at_most (int_lt z (pos m)) in
    let rest = count_bound m zs in
    omega (arith, one, rest)

-- where each layer below m has a node, there are at least m nodes
count_all : (layers : List ℤ) (m : ℕ) → ((j : ℕ) → j < m → (u : ℕ) × (u < length layers) × (layer_of layers u ≡ pos j)) → m ≤ count_low m layers
count_all layers zero has = omega arith
count_all layers (suc m) has =
    let rest = count_all layers m (λ j l. has j (omega (arith, l))) in
    let here = has m (omega arith) in
    let more = count_more m layers here.0 here.1 here.2 in
    omega (arith, rest, more)

pub layers_low : LayersStayLow
layers_low nodes edges layers flow total ends plain s v inside =
    let many = s.layer_for_each in
    let top : ℕ = natural (layer_of layers v) in
    let is = natural_is (layer_of layers v) (s.from_zero.none_below v inside) in
    let has : (j : ℕ) → j < suc top → (u : ℕ) × (u < length layers) × (layer_of layers u ≡ pos j) =
    λ j l. elim (cases_lt j top) [
      | inl less ↦
          let found = inhabited nodes edges layers flow total j ends plain s v inside (omega (arith, ints, is, less)) in
          let below = found.1 in
          (found.0, omega (arith, below, many), found.2)
      | inr most ↦ (v, omega (arith, inside, many), omega (arith, ints, is, l, most))
    ]
    in
    let all = count_all layers (suc top) has in
    let bound = count_bound (suc top) layers in
    omega (arith, ints, is, all, bound, many)
