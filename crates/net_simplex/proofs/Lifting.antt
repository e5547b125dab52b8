-- The numbers of the nodes of a part add up to its cut value, and stay so while they move towards the root.
use Rattle.std.proofs.Common.{◌≡◌, ◌≢◌, ℕ, zero, suc, ◌+◌, ◌<◌, ◌≤◌, cond, not, Bool, true, false, ◌⊎◌, ℤ, pos, negsuc, ◌+ℤ◌, ◌-ℤ◌, ◌≤ℤ◌, List, [], ◌∷◌, length, set, take, arith, refl, ap, ◌∙◌, inl, inr}
use Rattle.std.proofs.lemmas.Bool.{cases_eq}
use Rattle.std.proofs.lemmas.Int.{ints}
use Rattle.std.proofs.lemmas.List.{get_or-set_same, get_or-set_other, length-set}
use Rattle.std.proofs.lemmas.List.Sums.{sum_by-cons, sum_by_more}
use Rattle.network_laws.specs.declared.network.NetEdge.{NetEdge}
use Rattle.network_laws.specs.Network.{edge_at, EndsBelow}
use Rattle.network_laws.specs.Layering.{layer_of}
use Rattle.net_simplex.specs.Tree.{leaving_weight, entering_weight, cut_of}
use Rattle.net_simplex.specs.Cuts.{sum_in, size_of, sizes, tallied, IsTallied}

pub size_le : (z : ℤ) → z ≤ℤ pos (size_of z)
size_le (pos n) = omega (arith, ints)
size_le (negsuc n) = omega (arith, ints)

pub size_ge : (z : ℤ) → pos 0 ≤ℤ (z +ℤ pos (size_of z))
size_ge (pos n) = omega (arith, ints)
size_ge (negsuc n) = omega (arith, ints)

-- one of the two is its size
size_is : (z : ℤ) → (z ≡ pos (size_of z)) ⊎ (z +ℤ pos (size_of z) ≡ pos 0)
size_is (pos n) = inl refl
size_is (negsuc n) = inr (omega (arith, ints))

pub size_plus : (a b : ℤ) → size_of (a +ℤ b) ≤ size_of a + size_of b
size_plus a b =
    let la = size_le a in
    let lb = size_le b in
    let ga = size_ge a in
    let gb = size_ge b in
    elim (size_is (a +ℤ b)) [
      | inl e ↦ omega (arith, ints, e, la, lb)
      | inr e ↦ omega (arith, ints, e, ga, gb)
    ]

pub size_within : (z : ℤ) (n : ℕ) → z ≤ℤ pos n → pos 0 ≤ℤ (z +ℤ pos n) → size_of z ≤ n
size_within z n a b =
    elim (size_is z) [
      | inl e ↦ omega (arith, ints, e, a)
      | inr e ↦ omega (arith, ints, e, b)
    ]

pub size_opposite : (n : ℕ) → size_of (pos 0 -ℤ pos n) ≤ n
size_opposite n = size_within (pos 0 -ℤ pos n) n (omega (arith, ints)) (omega (arith, ints))

-- one number written anew
pub sizes_set : (zs : List ℤ) (v : ℕ) (z : ℤ) → v < length zs → sizes (set zs v z) + size_of (layer_of zs v) ≡ sizes zs + size_of z
sizes_set [] v z l = absurd (omega arith)
sizes_set (y ∷ ys) zero z l = omega arith
sizes_set (y ∷ ys) (suc v) z l = let r = sizes_set ys v z (omega arith) in omega (arith, r)

pub size_le_all : (zs : List ℤ) (v : ℕ) → v < length zs → size_of (layer_of zs v) ≤ sizes zs
size_le_all [] v l = absurd (omega arith)
size_le_all (y ∷ ys) zero l = omega arith
size_le_all (y ∷ ys) (suc v) l = let r = size_le_all ys v (omega arith) in omega (arith, r)

-- two different ones
pub two_sizes : (zs : List ℤ) (u v : ℕ) → u < length zs → v < length zs → u ≢ v → size_of (layer_of zs u) + size_of (layer_of zs v) ≤ sizes zs
two_sizes zs u v lu lv ne =
    let s = sizes_set zs v (pos 0) lv in
    let n = length-set zs v (pos 0) in
    let a = size_le_all (set zs v (pos 0)) u (omega (arith, n, lu)) in
    let e = ap size_of (get_or-set_other zs v u (pos 0) (pos 0) ne) in
    omega (arith, s, a, e)

pub sum_set : (inside : ℕ → Bool) (zs : List ℤ) (v : ℕ) (z : ℤ) → v < length zs → sum_in inside (set zs v z) +ℤ cond (inside v) (layer_of zs v) (pos 0) ≡ sum_in inside zs +ℤ cond (inside v) z (pos 0)
sum_set inside [] v z l = absurd (omega arith)
sum_set inside (y ∷ ys) zero z l = omega (arith, ints)
sum_set inside (y ∷ ys) (suc v) z l = let r = sum_set (λ x. inside (suc x)) ys v z (omega arith) in omega (arith, ints, r)

none_there : (b : Bool) (z : ℤ) → (b ≡ true → z ≡ pos 0) → cond b z (pos 0) ≡ pos 0
none_there true z h = h refl
none_there false z h = refl

pub sum_none : (inside : ℕ → Bool) (zs : List ℤ) → ((v : ℕ) → v < length zs → inside v ≡ true → layer_of zs v ≡ pos 0) → sum_in inside zs ≡ pos 0
sum_none inside [] h = refl
sum_none inside (z ∷ zs) h =
    let r = sum_none (λ v. inside (suc v)) zs (λ v l i. h (suc v) (omega arith) i) in
    let a = none_there (inside 0) z (λ i. h 0 (omega arith) i) in
    omega (arith, ints, r, a)

-- where all others of the set are 0
pub sum_one : (inside : ℕ → Bool) (zs : List ℤ) (v : ℕ) → v < length zs → inside v ≡ true → ((u : ℕ) → u < length zs → u ≢ v → inside u ≡ true → layer_of zs u ≡ pos 0) → sum_in inside zs ≡ layer_of zs v
sum_one inside zs v l i h =
    let s = sum_set inside zs v (pos 0) l in
    let n = length-set zs v (pos 0) in
    let z =
    sum_none inside (set zs v (pos 0)) (λ u lu iu. elim (cases_eq u v) [
      | inl e ↦ ap (layer_of (set zs v (pos 0))) e ∙ get_or-set_same zs v (pos 0) (pos 0) l
      | inr ne ↦ get_or-set_other zs v u (pos 0) (pos 0) ne ∙ h u (omega (arith, n, lu)) ne iu
    ])
    in
    let t : sum_in inside (set zs v (pos 0)) +ℤ layer_of zs v ≡ sum_in inside zs +ℤ pos 0 = rw i at s in
    omega (arith, ints, t, z)

-- what leaves a set and what enters it, over one more edge
pub cut_more : (inside : ℕ → Bool) (edges : List NetEdge) (i : ℕ) → i < length edges → cut_of (take (i + 1) edges) inside +ℤ cond (inside (edge_at edges i).head) (pos (edge_at edges i).weight) (pos 0) ≡ cut_of (take i edges) inside +ℤ cond (inside (edge_at edges i).tail) (pos (edge_at edges i).weight) (pos 0)
cut_more inside edges i l =
    let none : NetEdge = record { tail = 0; head = 0; least = 0; weight = 0 } in
    let a = sum_by_more (λ (e : NetEdge). cond (inside e.tail) (cond (inside e.head) 0 e.weight) 0) edges i none l in
    let b = sum_by_more (λ (e : NetEdge). cond (inside e.tail) 0 (cond (inside e.head) e.weight 0)) edges i none l in
    one (inside (edge_at edges i).tail) (inside (edge_at edges i).head) (edge_at edges i).weight (leaving_weight (take i edges) inside) (leaving_weight (take (i + 1) edges) inside) (entering_weight (take i edges) inside) (entering_weight (take (i + 1) edges) inside) a b
  where
    one : (t h : Bool) (w a a' b b' : ℕ) → a' ≡ a + cond t (cond h 0 w) 0 → b' ≡ b + cond t 0 (cond h w 0) → (pos a' -ℤ pos b') +ℤ cond h (pos w) (pos 0) ≡ (pos a -ℤ pos b) +ℤ cond t (pos w) (pos 0)
    one true true w a a' b b' x y = omega (arith, ints, x, y)
    one true false w a a' b b' x y = omega (arith, ints, x, y)
    one false true w a a' b b' x y = omega (arith, ints, x, y)
    one false false w a a' b b' x y = omega (arith, ints, x, y)

-- the other part's cut value is the opposite
pub cut_turned : (inside : ℕ → Bool) (edges : List NetEdge) → cut_of edges (λ v. not (inside v)) +ℤ cut_of edges inside ≡ pos 0
cut_turned inside edges = let a = leaves edges in let b = enters edges in omega (arith, ints, a, b)
  where
    one : (t h : Bool) (w : ℕ) → cond (not t) (cond (not h) 0 w) 0 ≡ cond t 0 (cond h w 0)
    one true true w = refl
    one true false w = refl
    one false true w = refl
    one false false w = refl

    other : (t h : Bool) (w : ℕ) → cond (not t) 0 (cond (not h) w 0) ≡ cond t (cond h 0 w) 0
    other true true w = refl
    other true false w = refl
    other false true w = refl
    other false false w = refl

    leaves : (es : List NetEdge) → leaving_weight es (λ v. not (inside v)) ≡ entering_weight es inside
    leaves [] = refl
    leaves (e ∷ es) =
        let r = leaves es in
        let a = sum_by-cons (λ (e : NetEdge). cond (not (inside e.tail)) (cond (not (inside e.head)) 0 e.weight) 0) e es in
        let b = sum_by-cons (λ (e : NetEdge). cond (inside e.tail) 0 (cond (inside e.head) e.weight 0)) e es in
        let o = one (inside e.tail) (inside e.head) e.weight in
        omega (arith, r, a, b, o)

    enters : (es : List NetEdge) → entering_weight es (λ v. not (inside v)) ≡ leaving_weight es inside
    enters [] = refl
    enters (e ∷ es) =
        let r = enters es in
        let a = sum_by-cons (λ (e : NetEdge). cond (not (inside e.tail)) 0 (cond (not (inside e.head)) e.weight 0)) e es in
        let b = sum_by-cons (λ (e : NetEdge). cond (inside e.tail) (cond (inside e.head) 0 e.weight) 0) e es in
        let o = other (inside e.tail) (inside e.head) e.weight in
        omega (arith, r, a, b, o)

-- sets that agree on the ends have one cut value
pub cut_same : (nodes : ℕ) (edges : List NetEdge) (inside inside' : ℕ → Bool) → EndsBelow nodes edges → ((v : ℕ) → v < nodes → inside v ≡ inside' v) → cut_of edges inside ≡ cut_of edges inside'
cut_same nodes edges inside inside' ends h =
    let a = leaves edges ends in
    let b = enters edges ends in
    omega (arith, ints, a, b)
  where
    leaves : (es : List NetEdge) → EndsBelow nodes es → leaving_weight es inside ≡ leaving_weight es inside'
    leaves [] b = refl
    leaves (e ∷ es) b =
        let r = leaves es (λ k l. b (suc k) (omega (arith, l))) in
        let x = sum_by-cons (λ (e : NetEdge). cond (inside e.tail) (cond (inside e.head) 0 e.weight) 0) e es in
        let y = sum_by-cons (λ (e : NetEdge). cond (inside' e.tail) (cond (inside' e.head) 0 e.weight) 0) e es in
        let o : cond (inside e.tail) (cond (inside e.head) 0 e.weight) 0 ≡ cond (inside' e.tail) (cond (inside' e.head) 0 e.weight) 0 = rw (h e.tail (b 0 (omega arith)).0, h e.head (b 0 (omega arith)).1) refl in
        omega (arith, r, x, y, o)

    enters : (es : List NetEdge) → EndsBelow nodes es → entering_weight es inside ≡ entering_weight es inside'
    enters [] b = refl
    enters (e ∷ es) b =
        let r = enters es (λ k l. b (suc k) (omega (arith, l))) in
        let x = sum_by-cons (λ (e : NetEdge). cond (inside e.tail) 0 (cond (inside e.head) e.weight 0)) e es in
        let y = sum_by-cons (λ (e : NetEdge). cond (inside' e.tail) 0 (cond (inside' e.head) e.weight 0)) e es in
        let o : cond (inside e.tail) 0 (cond (inside e.head) e.weight 0) ≡ cond (inside' e.tail) 0 (cond (inside' e.head) e.weight 0) = rw (h e.tail (b 0 (omega arith)).0, h e.head (b 0 (omega arith)).1) refl in
        omega (arith, r, x, y, o)

-- all 0 at first
pub tallied_start : (nodes : ℕ) (edges : List NetEdge) (excess : List ℤ) → length excess ≡ nodes → ((v : ℕ) → layer_of excess v ≡ pos 0) → IsTallied nodes edges 0 excess
tallied_start nodes edges excess n z = record {
  number_each = n;
  tells = λ inside. sum_none inside excess (λ v l i. z v);
  small = let s = sizes_none excess z in omega (arith, s);
}
  where
    sizes_none : (zs : List ℤ) → ((v : ℕ) → layer_of zs v ≡ pos 0) → sizes zs ≡ 0
    sizes_none [] h = refl
    sizes_none (y ∷ ys) h =
        let a = ap size_of (h 0) in
        let r = sizes_none ys (λ v. h (suc v)) in
        omega (arith, a, r)

cond_plus : (b : Bool) (x y z : ℤ) → x ≡ y +ℤ z → cond b x (pos 0) ≡ cond b y (pos 0) +ℤ cond b z (pos 0)
cond_plus true x y z h = h
cond_plus false x y z h = omega (arith, ints)

cond_minus : (b : Bool) (x y z : ℤ) → x ≡ y +ℤ (pos 0 -ℤ z) → cond b x (pos 0) +ℤ cond b z (pos 0) ≡ cond b y (pos 0)
cond_minus true x y z h = omega (arith, ints, h)
cond_minus false x y z h = omega (arith, ints)

pub tallied_more : (nodes : ℕ) (edges : List NetEdge) (i : ℕ) (excess : List ℤ) → EndsBelow nodes edges → i < length edges → IsTallied nodes edges i excess → IsTallied nodes edges (i + 1) (tallied excess (edge_at edges i))
tallied_more nodes edges i excess ends l s =
    let e = edge_at edges i in
    let w = pos e.weight in
    let n = s.number_each in
    let lt : e.tail < length excess = let b = (ends i l).0 in omega (arith, n, b) in
    let x = layer_of excess e.tail +ℤ w in
    let mid = set excess e.tail x in
    let nm = length-set excess e.tail x in
    let lh : e.head < length mid = let b = (ends i l).1 in omega (arith, n, b, nm) in
    let y = layer_of mid e.head +ℤ (pos 0 -ℤ w) in
    record {
      number_each = length-set mid e.head y ∙ (nm ∙ n);
      tells = λ inside.
          let a = sum_set inside excess e.tail x lt in
          let b = sum_set inside mid e.head y lh in
          let t = s.tells inside in
          let c = cut_more inside edges i l in
          let p = cond_plus (inside e.tail) x (layer_of excess e.tail) w refl in
          let q = cond_minus (inside e.head) y (layer_of mid e.head) w refl in
          omega (arith, ints, a, b, t, c, p, q);
      small =
          let a = sizes_set excess e.tail x lt in
          let b = sizes_set mid e.head y lh in
          let p = size_plus (layer_of excess e.tail) w in
          let q = size_plus (layer_of mid e.head) (pos 0 -ℤ w) in
          let o = size_opposite e.weight in
          let m = s.small in
          let f = sum_by_more (λ (e : NetEdge). e.weight) edges i (record { tail = 0; head = 0; least = 0; weight = 0 }) l in
          omega (arith, a, b, p, q, o, m, f);
    }
