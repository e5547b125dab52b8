-- From the last node of the tree to the first the numbers of the nodes become the cut values of their edges.
use Rattle.std.proofs.Common.{◌≡◌, ◌≢◌, ℕ, ◌+◌, ◌*◌, ◌<◌, ◌≤◌, eqb, eq-eqb, cond, not, Bool, true, false, ℤ, pos, ◌+ℤ◌, ◌-ℤ◌, List, length, set, get_or, arith, refl, sym, ap, subst, ◌∙◌, inl, inr}
use Rattle.std.specs.List.{sum_by}
use Rattle.std.proofs.lemmas.Bool.{cases_eq, cases_lt}
use Rattle.std.proofs.lemmas.Int.{ints}
use Rattle.std.proofs.lemmas.List.{get_or-set_same, get_or-set_other, length-set}
use Rattle.network_laws.specs.declared.network.NetEdge.{NetEdge}
use Rattle.network_laws.specs.Network.{edge_at, EndsBelow}
use Rattle.network_laws.specs.Layering.{layer_of}
use Rattle.net_simplex.specs.Tree.{IsSpanningTree, IsCut, tail_part, cut_of, cut_value}
use Rattle.net_simplex.specs.Rooted.{above, IsRooted}
use Rattle.net_simplex.specs.Cuts.{sum_in, size_of, sizes, TellsWeights, Lifts, AreLifted, AreCutValues}
use Rattle.net_simplex.proofs.Cutting.{tail_parts_cut}
use Rattle.net_simplex.proofs.Lifting.{size_plus, sizes_set, sum_set, sum_one, cut_turned}
use Rattle.net_simplex.proofs.Hanging.{ne_eqb, same_place, above_there, from_tail, from_head, before_same, cut_uncrossed, parent_once, hung_node}
use Rattle.net_simplex.proofs.Walking.{clash}

both_in : (a b : Bool) (x y : ℤ) → a ≡ b → cond a (x +ℤ y) (pos 0) ≡ cond a x (pos 0) +ℤ cond b y (pos 0)
both_in true true x y h = refl
both_in false false x y h = omega (arith, ints)
both_in true false x y h = absurd cc
both_in false true x y h = absurd cc

same_both : (b : Bool) (z : ℤ) → cond b z z ≡ z
same_both true z = refl
same_both false z = refl

module _ (nodes : ℕ) (edges : List NetEdge) (tree : List Bool) (order place parent : List ℕ) (r : IsRooted nodes edges tree order place parent) (t : IsSpanningTree nodes edges tree) (ends : EndsBelow nodes edges) where
  pub lift_start : (excess cut : List ℤ) → length excess ≡ nodes → length cut ≡ length edges → TellsWeights edges excess → sizes excess ≤ 2 * sum_by (λ (e : NetEdge). e.weight) edges → AreLifted nodes edges tree order place parent nodes excess cut
  lift_start excess cut n m tells small = record {
    number_each = n;
    cut_each = m;
    conserved = λ inside u. tells inside;
    none_left = λ v l p. let b = (r.placed v l refl).0 in absurd (omega (arith, b, p));
    cuts = λ v l p. let b = (r.placed v l refl).0 in absurd (omega (arith, b, p));
    small = small;
  }

  module _ (p : ℕ) (some : 0 < p) (there : p < nodes) (excess cut : List ℤ) (s : AreLifted nodes edges tree order place parent (p + 1) excess cut) where
    abbrev v : ℕ
    v = get_or order p 0

    abbrev k : ℕ
    k = get_or parent v 0

    abbrev e : NetEdge
    e = edge_at edges k

    abbrev u : ℕ
    u = above edges parent v

    pub lv : v < nodes
    lv = (r.in_order p there).0

    pub pv : get_or place v 0 ≡ p
    pv = (r.in_order p there).1

    pub placed_late : 0 < get_or place v 0
    placed_late = let q = pv in omega (arith, q, some)

    lu : u < nodes
    lu = above_there nodes edges tree order place parent r v ends lv placed_late

    pu : get_or place u 0 < p
    pu = let q = pv in let h = (r.hangs v lv refl placed_late).earlier in omega (arith, q, h)

    pub other : u ≢ v
    other q = let a = ap (λ y. get_or place y 0) q in let b = pu in let c = pv in omega (arith, a, b, c)

    pub k_there : k < length edges
    k_there = (r.hangs v lv refl placed_late).is_there

    -- where only the edge of v crosses a set that holds v and not the root, the number of v is that of the set
    number_is : (inside : ℕ → Bool) → ((w : ℕ) → w < nodes → 0 < get_or place w 0 → w ≢ v → inside w ≡ inside (above edges parent w)) → inside v ≡ true → inside u ≡ false → layer_of excess v ≡ cut_of edges inside
    number_is inside un iv iu =
        let n = s.number_each in
        let c = s.conserved inside (λ w l q. un w l (omega (arith, q)) (λ same. let a = ap (λ y. get_or place y 0) same in let b = pv in omega (arith, a, b, q))) in
        let early = before_same nodes edges tree order place parent r inside ends v un in
        let one = sum_one inside excess v (let l = lv in omega (arith, n, l)) iv (λ w l ne iw.
        let lw : w < nodes = omega (arith, n, l) in
        elim (cases_lt (get_or place w 0) p) [
          | inl a ↦
              let x = early w lw (let b = pv in omega (arith, a, b)) in
              let y = early u lu (let b = pv in let c = pu in omega (arith, b, c)) in
              clash (inside w) iw (x ∙ (sym y ∙ iu))
          | inr a ↦ s.none_left w lw (elim (cases_eq (get_or place w 0) p) [
            | inl q ↦ absurd (ne (same_place nodes edges tree order place parent r w v lw lv (q ∙ sym pv)))
            | inr nq ↦ omega (arith, a, nq)
          ])
        ])
        in
        sym one ∙ c

    abbrev pub part : ℕ → Bool
    part = tail_part nodes edges tree k

    part_cut : IsCut edges tree k part
    part_cut = tail_parts_cut nodes edges tree k ends t k_there (r.hangs v lv refl placed_late).has_mark

    un_part : (w : ℕ) → w < nodes → 0 < get_or place w 0 → w ≢ v → part w ≡ part (above edges parent w)
    un_part = cut_uncrossed nodes edges tree order place parent r part v lv placed_late part_cut

    pub value_is : cond (eqb e.tail v) (layer_of excess v) (pos 0 -ℤ layer_of excess v) ≡ cut_of edges part
    value_is =
        elim (cases_eq e.tail v) [
          | inl at ↦
              let n = number_is part un_part (ap part (sym at) ∙ part_cut.tail_in) (ap part (from_tail e v at) ∙ part_cut.head_out) in
              ap (λ b. cond b (layer_of excess v) (pos 0 -ℤ layer_of excess v)) (eq-eqb e.tail v at) ∙ n
          | inr nt ↦ elim (r.hangs v lv refl placed_late).at_end [
            | inl at ↦ absurd (nt at)
            | inr at ↦
                let n =
                number_is (λ w. not (part w)) (λ w l q ne. ap not (un_part w l q ne))
                (ap (λ x. not (part x)) (sym at) ∙ ap not part_cut.head_out)
                (ap (λ x. not (part x)) (from_head e v nt) ∙ ap not part_cut.tail_in)
                in
                let c = cut_turned part edges in
                ap (λ b. cond b (layer_of excess v) (pos 0 -ℤ layer_of excess v)) (ne_eqb e.tail v nt) ∙ omega (arith, ints, n, c)
          ]
        ]

    module _ (excess' cut' : List ℤ) (lifts : Lifts e k v u excess cut excess' cut') where
      abbrev more : ℤ
      more = layer_of excess u +ℤ layer_of excess v

      abbrev mid : List ℤ
      mid = set excess v (pos 0)

      abbrev value : ℤ
      value = cond (eqb e.tail v) (layer_of excess v) (pos 0 -ℤ layer_of excess v)

      v_in : v < length excess
      v_in = let n = s.number_each in let l = lv in omega (arith, n, l)

      u_in : u < length mid
      u_in = let n = s.number_each in let l = lu in let m = length-set excess v (pos 0) in omega (arith, n, l, m)

      mid_u : layer_of mid u ≡ layer_of excess u
      mid_u = get_or-set_other excess v u (pos 0) (pos 0) other

      sum_kept : (inside : ℕ → Bool) → inside v ≡ inside u → sum_in inside (set mid u more) ≡ sum_in inside excess
      sum_kept inside h =
          let a = sum_set inside excess v (pos 0) v_in in
          let b = sum_set inside mid u more u_in in
          let c = both_in (inside u) (inside v) (layer_of excess u) (layer_of excess v) (sym h) in
          let d = ap (λ z. cond (inside u) z (pos 0)) mid_u in
          let z = same_both (inside v) (pos 0) in
          omega (arith, ints, a, b, c, d, z)

      lifted_sets : AreLifted nodes edges tree order place parent p (set mid u more) (set cut k value)
      lifted_sets = record {
        number_each = length-set mid u more ∙ (length-set excess v (pos 0) ∙ s.number_each);
        cut_each = length-set cut k value ∙ s.cut_each;
        conserved = λ inside un. sum_kept inside (un v lv (let q = pv in omega (arith, q))) ∙ s.conserved inside (λ w l q. un w l (omega (arith, q)));
        none_left = λ w l q.
            let not_u : w ≢ u = λ same. let a = ap (λ y. get_or place y 0) same in let b = pu in omega (arith, a, b, q) in
            get_or-set_other mid u w more (pos 0) not_u ∙ elim (cases_eq w v) [
              | inl same ↦ ap (layer_of mid) same ∙ get_or-set_same excess v (pos 0) (pos 0) v_in
              | inr ne ↦ get_or-set_other excess v w (pos 0) (pos 0) ne ∙ s.none_left w l (later w l q ne)
            ];
        cuts = λ w l q. elim (cases_eq w v) [
          | inl same ↦
              subst (λ x. layer_of (set cut k value) (get_or parent x 0) ≡ cut_value nodes edges tree (get_or parent x 0)) (sym same)
              (get_or-set_same cut k value (pos 0) (let m = s.cut_each in let b = k_there in omega (arith, m, b)) ∙ value_of)
          | inr ne ↦
              get_or-set_other cut k (get_or parent w 0) value (pos 0) (λ same. ne (parent_once nodes edges tree order place parent r w v l lv (omega (arith, q, some)) placed_late same)) ∙ s.cuts w l (later w l q ne)
        ];
        small =
            let a = sizes_set excess v (pos 0) v_in in
            let b = sizes_set mid u more u_in in
            let c = ap size_of mid_u in
            let d = size_plus (layer_of excess u) (layer_of excess v) in
            let m = s.small in
            omega (arith, a, b, c, d, m);
      }
        where
          later : (w : ℕ) → w < nodes → p ≤ get_or place w 0 → w ≢ v → p + 1 ≤ get_or place w 0
          later w l q ne = elim (cases_eq (get_or place w 0) p) [
            | inl same ↦ absurd (ne (same_place nodes edges tree order place parent r w v l lv (same ∙ sym pv)))
            | inr other ↦ omega (arith, q, other)
          ]

          value_of : value ≡ cut_value nodes edges tree k
          value_of = value_is

      pub lifted_more : AreLifted nodes edges tree order place parent p excess' cut'
      lifted_more =
          subst (λ xs. AreLifted nodes edges tree order place parent p xs cut') (sym lifts.excess_is)
          (subst (λ ys. AreLifted nodes edges tree order place parent p (set mid u more) ys) (sym lifts.cut_is) lifted_sets)

  pub lifted_all : (p : ℕ) (excess cut : List ℤ) → p ≤ 1 → AreLifted nodes edges tree order place parent p excess cut → AreCutValues nodes edges tree cut
  lifted_all p excess cut last s =
      (s.cut_each, λ k lk mk. let h = hung_node nodes edges tree order place parent r t ends k lk mk in subst (λ j. layer_of cut j ≡ cut_value nodes edges tree j) h.3 (s.cuts h.0 h.1 (let b = h.2 in omega (arith, b, last))))
