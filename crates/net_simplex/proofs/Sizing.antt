-- The sizes of the parts, summed from the last node of an order to the first.
use Rattle.std.proofs.Common.{◌≡◌, ◌≢◌, ℕ, zero, suc, ◌+◌, ◌-◌, ◌<◌, ◌≤◌, eqb, eq-eqb, cond, Bool, List, length, set, get_or, arith, refl, sym, ap, subst, ◌∙◌, inl, inr}
use Rattle.std.proofs.lemmas.Bool.{cases_eq}
use Rattle.std.proofs.lemmas.List.{get_or-set_same, get_or-set_other, length-set}
use Rattle.network_laws.specs.declared.network.NetEdge.{NetEdge}
use Rattle.network_laws.specs.Network.{EndsBelow}
use Rattle.net_simplex.specs.Rooted.{above, IsRooted}
use Rattle.net_simplex.specs.Walks.{hung_size, sum_to, AreSizesTo, AreSizes}
use Rattle.net_simplex.proofs.Hanging.{ne_eqb, above_there, above_earlier}

-- what the numbers of a node's own are, an order tells
pub hung_same : (order : List ℕ) (up : ℕ → ℕ) (size size' : List ℕ) (v count i : ℕ) → ((j : ℕ) → i ≤ j → j < i + count → get_or size' (get_or order j 0) 0 ≡ get_or size (get_or order j 0) 0) → hung_size order up size' v i count ≡ hung_size order up size v i count
hung_same order up size size' v zero i h = refl
hung_same order up size size' v (suc count) i h =
    let a = ap (λ z. cond (eqb (up (get_or order i 0)) v) z 0) (h i (omega arith) (omega arith)) in
    let r = hung_same order up size size' v count (suc i) (λ j b c. h j (omega (arith, b)) (omega (arith, c))) in
    omega (arith, a, r)

-- nodes that do not hang on v count nothing
pub hung_none : (order : List ℕ) (up : ℕ → ℕ) (size : List ℕ) (v skip count i : ℕ) → ((j : ℕ) → i ≤ j → j < i + skip → up (get_or order j 0) ≢ v) → hung_size order up size v i (skip + count) ≡ hung_size order up size v (i + skip) count
hung_none order up size v zero count i h =
    let a : zero + count ≡ count = omega arith in
    let b : i + zero ≡ i = omega arith in
    ap (hung_size order up size v i) a ∙ ap (λ j. hung_size order up size v j count) (sym b)
hung_none order up size v (suc skip) count i h =
    let a : suc skip + count ≡ suc (skip + count) = omega arith in
    let b : suc i + skip ≡ i + suc skip = omega arith in
    let c = ap (λ z. cond z (get_or size (get_or order i 0) 0) 0) (ne_eqb (up (get_or order i 0)) v (h i (omega arith) (omega arith))) in
    let r = hung_none order up size v skip count (suc i) (λ j d e. h j (omega (arith, d)) (omega (arith, e))) in
    let d = ap (λ j. hung_size order up size v j count) b in
    let e = ap (hung_size order up size v i) a in
    omega (arith, c, r, d, e)

sum_same : (f g : ℕ → ℕ) (n : ℕ) → ((j : ℕ) → j < n → g j ≡ f j) → sum_to g n ≡ sum_to f n
sum_same f g zero h = refl
sum_same f g (suc n) h =
    let r = sum_same f g n (λ j l. h j (omega (arith, l))) in
    let a = h n (omega arith) in
    omega (arith, r, a)

sum_more : (f g : ℕ → ℕ) (n p x : ℕ) → p < n → g p ≡ f p + x → ((j : ℕ) → j < n → j ≢ p → g j ≡ f j) → sum_to g n ≡ sum_to f n + x
sum_more f g zero p x l e h = absurd (omega (arith, l))
sum_more f g (suc n) p x l e h = elim (cases_eq p n) [
  | inl same ↦
      let r = sum_same f g n (λ j b. h j (omega (arith, b)) (omega (arith, b, same))) in
      let a : g n ≡ f n + x = subst (λ z. g z ≡ f z + x) same e in
      omega (arith, r, a)
  | inr ne ↦
      let r = sum_more f g n p x (omega (arith, l, ne)) e (λ j b. h j (omega (arith, b))) in
      let a = h n (omega arith) (λ z. ne (sym z)) in
      omega (arith, r, a)
]

sum_holds : (f : ℕ → ℕ) (n i : ℕ) → i < n → f i ≤ sum_to f n
sum_holds f zero i l = absurd (omega (arith, l))
sum_holds f (suc n) i l = elim (cases_eq i n) [
  | inl e ↦ let a = ap f e in omega (arith, a)
  | inr ne ↦ let r = sum_holds f n i (omega (arith, l, ne)) in omega (arith, r)
]

sum_ones : (f : ℕ → ℕ) (n : ℕ) → ((j : ℕ) → j < n → f j ≡ 1) → sum_to f n ≡ n
sum_ones f zero h = refl
sum_ones f (suc n) h =
    let r = sum_ones f n (λ j l. h j (omega (arith, l))) in
    let a = h n (omega arith) in
    omega (arith, r, a)

module _ (nodes : ℕ) (edges : List NetEdge) (tree : List Bool) (order place parent : List ℕ) (r : IsRooted nodes edges tree order place parent) (ends : EndsBelow nodes edges) where
  abbrev up : ℕ → ℕ
  up v = above edges parent v

  pub sizes_start : (size : List ℕ) → length size ≡ nodes → ((v : ℕ) → v < nodes → get_or size v 0 ≡ 1) → AreSizesTo nodes order (above edges parent) nodes (nodes - nodes) size
  sizes_start size n ones =
      let none : nodes - nodes ≡ 0 = omega arith in
      subst (λ c. AreSizesTo nodes order (above edges parent) nodes c size) (sym none) (record {
        size_each = n;
        sums = λ v l. let a = ones v l in omega (arith, a);
        total = sum_ones (λ j. get_or size (get_or order j 0) 0) nodes (λ j l. ones (get_or order j 0) (r.in_order j l).0);
      })

  module _ (p count : ℕ) (some : 0 < p) (there : p < nodes) (size : List ℕ) (s : AreSizesTo nodes order (above edges parent) (suc p) count size) (all : suc p + count ≡ nodes) where
    abbrev v : ℕ
    v = get_or order p 0

    abbrev u : ℕ
    u = above edges parent v

    pub v_there : v < nodes
    v_there = (r.in_order p there).0

    v_late : 0 < get_or place v 0
    v_late = let a = (r.in_order p there).1 in omega (arith, a, some)

    pub v_edge : get_or parent v 0 < length edges
    v_edge = (r.hangs v v_there refl v_late).is_there

    pub u_there : u < nodes
    u_there = above_there nodes edges tree order place parent r v ends v_there v_late

    u_early : get_or place u 0 < p
    u_early = let a = above_earlier nodes edges tree order place parent r v v_there v_late in let b = (r.in_order p there).1 in omega (arith, a, b)

    abbrev f : ℕ → ℕ
    f j = get_or size (get_or order j 0) 0

    at_u : f (get_or place u 0) ≡ get_or size u 0
    at_u = ap (λ z. get_or size z 0) (r.placed u u_there refl).1

    pub sizes_fit : get_or size u 0 + get_or size v 0 ≤ nodes
    sizes_fit =
        let t = s.total in
        let a = sum_holds f p (get_or place u 0) u_early in
        let b = at_u in
        omega (arith, t, a, b)

    abbrev size' : List ℕ
    size' = set size u (get_or size u 0 + get_or size v 0)

    same_node : get_or size' u 0 ≡ get_or size u 0 + get_or size v 0
    same_node = get_or-set_same size u (get_or size u 0 + get_or size v 0) 0 (let a = s.size_each in let b = u_there in omega (arith, a, b))

    other_node : (x : ℕ) → x ≢ u → get_or size' x 0 ≡ get_or size x 0
    other_node x ne = get_or-set_other size u x (get_or size u 0 + get_or size v 0) 0 ne

    not_u : (j : ℕ) → j < nodes → j ≢ get_or place u 0 → get_or order j 0 ≢ u
    not_u j l ne e = ne (sym (r.in_order j l).1 ∙ ap (λ z. get_or place z 0) e)

    rest_same : (x : ℕ) → hung_size order (above edges parent) size' x (suc p) count ≡ hung_size order (above edges parent) size x (suc p) count
    rest_same x =
        let e = u_early in
        hung_same order (above edges parent) size size' x count (suc p) (λ j a b. other_node (get_or order j 0) (not_u j (omega (arith, b, all)) (omega (arith, a, e))))

    v_other : v ≢ u
    v_other e = let a = ap (λ z. get_or place z 0) e in let b = u_early in let c = (r.in_order p there).1 in omega (arith, a, b, c)

    pub sizes_more : AreSizesTo nodes order (above edges parent) p (suc count) size'
    sizes_more = record {
      size_each = length-set size u (get_or size u 0 + get_or size v 0) ∙ s.size_each;
      sums = λ x l.
          let a = s.sums x l in
          let b = rest_same x in
          let c = other_node v v_other in
          elim (cases_eq x u) [
            | inl e ↦
                let d = ap (λ z. cond z (get_or size' v 0) 0) (eq-eqb u x (sym e)) in
                let g = ap (λ z. get_or size' z 0) e ∙ same_node in
                let h = ap (λ z. get_or size z 0) e in
                omega (arith, a, b, c, d, g, h)
            | inr ne ↦
                let d = ap (λ z. cond z (get_or size' v 0) 0) (ne_eqb u x (λ e. ne (sym e))) in
                let g = other_node x ne in
                omega (arith, a, b, d, g)
          ];
      total =
          let t = s.total in
          let a = sum_more f (λ j. get_or size' (get_or order j 0) 0) p (get_or place u 0) (get_or size v 0) u_early
          (ap (λ z. get_or size' z 0) (r.placed u u_there refl).1 ∙ (same_node ∙ ap (λ z. z + get_or size v 0) (sym at_u)))
          (λ j l ne. other_node (get_or order j 0) (not_u j (omega (arith, l, there)) ne))
          in
          omega (arith, t, a);
    }

  pub sizes_end : (size : List ℕ) → AreSizesTo nodes order (above edges parent) 1 (nodes - 1) size → AreSizes nodes order (above edges parent) size
  sizes_end size s = record {
    size_each = s.size_each;
    sums = s.sums;
    all =
        let t = s.total in
        let a = ap (λ z. get_or size z 0) r.root_first in
        omega (arith, t, a);
  }
