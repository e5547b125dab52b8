-- The cut values of sets that make one another up.
use Rattle.std.proofs.Common.{◌≡◌, ℕ, suc, ◌+◌, ◌<◌, ◌≤◌, cond, Bool, true, false, ◌+ℤ◌, List, [], ◌∷◌, arith, refl}
use Rattle.std.specs.List.{sum_by}
use Rattle.std.proofs.lemmas.Int.{ints}
use Rattle.std.proofs.lemmas.List.Sums.{sum_by-cons}
use Rattle.network_laws.specs.declared.network.NetEdge.{NetEdge}
use Rattle.network_laws.specs.Network.{EndsBelow}
use Rattle.net_simplex.specs.Tree.{leaving_weight, entering_weight, cut_of}
use Rattle.net_simplex.specs.Cuts.{size_of}
use Rattle.net_simplex.proofs.Lifting.{size_within}

-- a node is in one set, and in all where b holds, as often as in two others
abbrev pub Adds : Bool → Bool → Bool → Bool → Type 0
Adds w q p b = cond w 1 0 + cond b 1 0 ≡ cond q 1 0 + cond p 1 0

one_end : (w q p b : Bool) (x : ℕ) → Adds w q p b → cond w x 0 + cond b x 0 ≡ cond q x 0 + cond p x 0
one_end true true true true x h = omega arith
one_end true true false false x h = omega arith
one_end true false true false x h = omega arith
one_end false true false true x h = omega arith
one_end false false true true x h = omega arith
one_end false false false false x h = omega arith
one_end true true true false x h = absurd (omega (arith, h))
one_end true true false true x h = absurd (omega (arith, h))
one_end true false true true x h = absurd (omega (arith, h))
one_end true false false true x h = absurd (omega (arith, h))
one_end true false false false x h = absurd (omega (arith, h))
one_end false true true true x h = absurd (omega (arith, h))
one_end false true true false x h = absurd (omega (arith, h))
one_end false true false false x h = absurd (omega (arith, h))
one_end false false true false x h = absurd (omega (arith, h))
one_end false false false true x h = absurd (omega (arith, h))

-- what leaves and what enters, by the ends
by_ends : (t h : Bool) (x : ℕ) → cond t (cond h 0 x) 0 + cond h x 0 ≡ cond t 0 (cond h x 0) + cond t x 0
by_ends true true x = omega arith
by_ends true false x = omega arith
by_ends false true x = omega arith
by_ends false false x = omega arith

module _ (nodes : ℕ) (w q p : ℕ → Bool) (b : Bool) (adds : (v : ℕ) → v < nodes → Adds (w v) (q v) (p v) b) where
  weights_add : (es : List NetEdge) → EndsBelow nodes es → leaving_weight es w + (entering_weight es q + entering_weight es p) ≡ entering_weight es w + (leaving_weight es q + leaving_weight es p)
  weights_add [] ends = refl
  weights_add (e ∷ es) ends =
      let r = weights_add es (λ k l. ends (suc k) (omega (arith, l))) in
      let here = ends 0 (omega arith) in
      let t = one_end (w e.tail) (q e.tail) (p e.tail) b e.weight (adds e.tail here.0) in
      let h = one_end (w e.head) (q e.head) (p e.head) b e.weight (adds e.head here.1) in
      let lw = sum_by-cons (λ (e : NetEdge). cond (w e.tail) (cond (w e.head) 0 e.weight) 0) e es in
      let nw = sum_by-cons (λ (e : NetEdge). cond (w e.tail) 0 (cond (w e.head) e.weight 0)) e es in
      let lq = sum_by-cons (λ (e : NetEdge). cond (q e.tail) (cond (q e.head) 0 e.weight) 0) e es in
      let nq = sum_by-cons (λ (e : NetEdge). cond (q e.tail) 0 (cond (q e.head) e.weight 0)) e es in
      let lp = sum_by-cons (λ (e : NetEdge). cond (p e.tail) (cond (p e.head) 0 e.weight) 0) e es in
      let np = sum_by-cons (λ (e : NetEdge). cond (p e.tail) 0 (cond (p e.head) e.weight 0)) e es in
      let cw = by_ends (w e.tail) (w e.head) e.weight in
      let cq = by_ends (q e.tail) (q e.head) e.weight in
      let cp = by_ends (p e.tail) (p e.head) e.weight in
      omega (arith, r, t, h, lw, nw, lq, nq, lp, np, cw, cq, cp)

  pub cut_adds : (es : List NetEdge) → EndsBelow nodes es → cut_of es w ≡ cut_of es q +ℤ cut_of es p
  cut_adds es ends = let a = weights_add es ends in omega (arith, ints, a)

one_weight : (t h : Bool) (x : ℕ) → cond t (cond h 0 x) 0 + cond t 0 (cond h x 0) ≤ x
one_weight true true x = omega arith
one_weight true false x = omega arith
one_weight false true x = omega arith
one_weight false false x = omega arith

both_weights : (inside : ℕ → Bool) (es : List NetEdge) → leaving_weight es inside + entering_weight es inside ≤ sum_by (λ (e : NetEdge). e.weight) es
both_weights inside [] = omega arith
both_weights inside (e ∷ es) =
    let r = both_weights inside es in
    let a = sum_by-cons (λ (e : NetEdge). cond (inside e.tail) (cond (inside e.head) 0 e.weight) 0) e es in
    let b = sum_by-cons (λ (e : NetEdge). cond (inside e.tail) 0 (cond (inside e.head) e.weight 0)) e es in
    let c = sum_by-cons (λ (e : NetEdge). e.weight) e es in
    let o = one_weight (inside e.tail) (inside e.head) e.weight in
    omega (arith, r, a, b, c, o)

-- no cut value is more than all weights
pub cut_small : (inside : ℕ → Bool) (es : List NetEdge) → size_of (cut_of es inside) ≤ sum_by (λ (e : NetEdge). e.weight) es
cut_small inside es =
    let b = both_weights inside es in
    size_within (cut_of es inside) (sum_by (λ (e : NetEdge). e.weight) es) (omega (arith, ints, b)) (omega (arith, ints, b))
