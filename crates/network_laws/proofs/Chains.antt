-- Links of edges by node, from the last edge to the first.
use Rattle.std.proofs.Common.{◌≡◌, ◌≢◌, ℕ, suc, ◌+◌, ◌<◌, List, length, get_or, set, arith, sym, ap, subst, ◌∙◌, inl, inr}
use Rattle.std.proofs.lemmas.Bool.{cases_eq}
use Rattle.std.proofs.lemmas.List.{get_or-set_same, get_or-set_other, length-set}
use Rattle.network_laws.specs.declared.network.NetEdge.{NetEdge}
use Rattle.network_laws.specs.declared.links.End.{End}
use Rattle.network_laws.specs.declared.links.End.TheVariants.{Tail, Head}
use Rattle.network_laws.specs.Network.{edge_at, EndsBelow}
use Rattle.network_laws.specs.Links.{end_of, IsNextAt, AreLinks, AreLinksFrom}

pub end_below : (nodes : ℕ) (edges : List NetEdge) (end : End) (k : ℕ) → EndsBelow nodes edges → k < length edges → end_of end (edge_at edges k) < nodes
end_below nodes edges Tail k ends l = (ends k l).0
end_below nodes edges Head k ends l = (ends k l).1

-- an edge of another node is passed over
next_earlier : (edges : List NetEdge) (end : End) (v i k : ℕ) → end_of end (edge_at edges i) ≢ v → IsNextAt edges end v (suc i) k → IsNextAt edges end v i k
next_earlier edges end v i k ne n = record {
  not_before = let b = n.not_before in omega (arith, b);
  in_range = n.in_range;
  here = n.here;
  none_between = λ j a b. elim (cases_eq j i) [
    | inl e ↦ subst (λ x. end_of end (edge_at edges x) ≢ v) (sym e) ne
    | inr other ↦ n.none_between j (omega (arith, a, other)) b
  ];
}

-- an edge of the node itself is the next one
next_here : (edges : List NetEdge) (end : End) (v i : ℕ) → i < length edges → end_of end (edge_at edges i) ≡ v → IsNextAt edges end v i i
next_here edges end v i l e = record {
  not_before = omega arith;
  in_range = omega (arith, l);
  here = λ _. e;
  none_between = λ j a b. absurd (omega (arith, a, b));
}

pub linked : (nodes : ℕ) (edges : List NetEdge) (end : End) (i : ℕ) (first next : List ℕ) (v : ℕ) → i < length edges → EndsBelow nodes edges → AreLinksFrom nodes edges end (i + 1) first next → v ≡ end_of end (edge_at edges i) → AreLinksFrom nodes edges end i (set first v i) (set next i (get_or first v 0))
linked nodes edges end i first next v l ends f is =
    let there : v < nodes = let b = end_below nodes edges end i ends l in omega (arith, b, is) in
    let n = f.node_each in
    let m = f.edge_each in
    let was : IsNextAt edges end v (suc i) (get_or first v 0) = subst (λ x. IsNextAt edges end v x (get_or first v 0)) (let e : i + 1 ≡ suc i = omega arith in e) (f.begins v there) in
    record {
      node_each = length-set first v i ∙ n;
      edge_each = length-set next i (get_or first v 0) ∙ m;
      begins = λ u lu. elim (cases_eq u v) [
        | inl e ↦
            let at : get_or (set first v i) u 0 ≡ i = ap (λ x. get_or (set first v i) x 0) e ∙ get_or-set_same first v i 0 (omega (arith, n, there)) in
            subst (λ x. IsNextAt edges end u i x) (sym at) (next_here edges end u i l (sym is ∙ sym e))
        | inr ne ↦
            subst (λ x. IsNextAt edges end u i x) (sym (get_or-set_other first v u i 0 ne))
            (next_earlier edges end u i (get_or first u 0) (λ h. ne (sym h ∙ sym is)) (subst (λ x. IsNextAt edges end u x (get_or first u 0)) (let e : i + 1 ≡ suc i = omega arith in e) (f.begins u lu)))
      ];
      goes_on = λ k a b. elim (cases_eq k i) [
        | inl e ↦
            let at : get_or (set next i (get_or first v 0)) k 0 ≡ get_or first v 0 = ap (λ x. get_or (set next i (get_or first v 0)) x 0) e ∙ get_or-set_same next i (get_or first v 0) 0 (omega (arith, m, l)) in
            subst (λ x. IsNextAt edges end (end_of end (edge_at edges k)) (suc k) x) (sym at)
            (subst (λ x. IsNextAt edges end (end_of end (edge_at edges x)) (suc x) (get_or first v 0)) (sym e) (subst (λ x. IsNextAt edges end x (suc i) (get_or first v 0)) is was))
        | inr ne ↦
            subst (λ x. IsNextAt edges end (end_of end (edge_at edges k)) (suc k) x) (sym (get_or-set_other next i k (get_or first v 0) 0 ne))
            (f.goes_on k (omega (arith, a, ne)) b)
      ];
    }

pub all_linked : (nodes : ℕ) (edges : List NetEdge) (end : End) (first next : List ℕ) (i : ℕ) → i ≡ 0 → AreLinksFrom nodes edges end i first next → AreLinks nodes edges end first next
all_linked nodes edges end first next i z f = record {
  node_each = f.node_each;
  edge_each = f.edge_each;
  begins = λ v l. subst (λ x. IsNextAt edges end v x (get_or first v 0)) z (f.begins v l);
  goes_on = λ k l. f.goes_on k (omega (arith, z)) l;
}
