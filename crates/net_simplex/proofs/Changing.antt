-- The cut values after an exchange: those of the edges on the way between the ends of the edge that enters change by the
-- cut value of the edge that leaves.
use Rattle.std.proofs.Common.{◌≡◌, ◌≢◌, ℕ, ◌<◌, cond, not, Bool, true, false, ℤ, pos, ◌+ℤ◌, ◌-ℤ◌, List, length, set, arith, refl, sym, subst, ◌∙◌, inl, inr}
use Rattle.std.proofs.lemmas.Int.{ints}
use Rattle.std.proofs.lemmas.Bool.{cases_eq}
use Rattle.network_laws.specs.declared.network.NetEdge.{NetEdge}
use Rattle.network_laws.specs.Network.{edge_at, EndsBelow}
use Rattle.network_laws.specs.Linked.{is_marked}
use Rattle.net_simplex.specs.Tree.{IsSpanningTree, IsCut, tail_part, cut_of, cut_value}
use Rattle.net_simplex.specs.Changed.{gained}
use Rattle.net_simplex.proofs.Cutting.{tail_parts_cut}
use Rattle.net_simplex.proofs.Lifting.{cut_same, cut_turned}
use Rattle.net_simplex.proofs.CutSums.{Adds, cut_adds}
use Rattle.net_simplex.proofs.Exchanging.{xor, all_or_none, same_or_not, old_mark, not_out, exchange_keeps, in_cut, kept_part, turned_part}
use Rattle.net_simplex.proofs.Stepping.{cut_unique}

-- on the side of the one edge that is away from the other, and the other way round
abbrev Far : Bool → Bool → Bool → Bool → Bool
Far x y q p = cond (xor q y) (xor p x) false

far_off : (x y q p : Bool) → p ≡ x → Far x y q p ≡ false
far_off true true true p h = refl
far_off true true false p h = rw h refl
far_off true false true p h = rw h refl
far_off true false false p h = refl
far_off false true true p h = refl
far_off false true false p h = rw h refl
far_off false false true p h = rw h refl
far_off false false false p h = refl

far_none : (x y q p : Bool) → q ≡ y → Far x y q p ≡ false
far_none x true q p h = rw h refl
far_none x false q p h = rw h refl

far_same : (x y q q' p p' : Bool) → q ≡ q' → p ≡ p' → Far x y q p ≡ Far x y q' p'
far_same x y q q' p p' h k = rw (h, k) refl

-- where no node is on both far sides, each set is made up of the others
adds_up : (x q p : Bool) → Far x x q p ≡ false → Adds (xor (xor q p) x) q p x
adds_up true true true h = refl
adds_up true true false h = refl
adds_up true false true h = refl
adds_up true false false h = absurd cc
adds_up false true true h = absurd cc
adds_up false true false h = refl
adds_up false false true h = refl
adds_up false false false h = refl

takes_away : (x q p : Bool) → Far x (not x) q p ≡ false → Adds q (xor (xor q p) x) p x
takes_away true true true h = refl
takes_away true true false h = absurd cc
takes_away true false true h = refl
takes_away true false false h = refl
takes_away false true true h = refl
takes_away false true false h = refl
takes_away false false true h = absurd cc
takes_away false false false h = refl

-- a is outside the set of the edge that leaves and b in it, and the other set tells them apart
comes_to : (x y a b : Bool) (u w c : ℤ) → a ≡ not b → Far x y a false ≡ false → Far x y b true ≡ false → (y ≡ x → w ≡ u +ℤ c) → (y ≡ not x → u ≡ w +ℤ c) → w ≡ u +ℤ (cond a c (pos 0) -ℤ cond b c (pos 0))
comes_to true true true false u w c n f g h k = let e = h refl in omega (arith, ints, e)
comes_to true false false true u w c n f g h k = let e = k refl in omega (arith, ints, e)
comes_to false true false true u w c n f g h k = let e = k refl in omega (arith, ints, e)
comes_to false false true false u w c n f g h k = let e = h refl in omega (arith, ints, e)
comes_to true true false true u w c n f g h k = absurd cc
comes_to true false true false u w c n f g h k = absurd cc
comes_to false true true false u w c n f g h k = absurd cc
comes_to false false false true u w c n f g h k = absurd cc
comes_to x y true true u w c n f g h k = absurd cc
comes_to x y false false u w c n f g h k = absurd cc

none_gained : (a b : Bool) (u w c : ℤ) → a ≡ b → w ≡ u → w ≡ u +ℤ (cond a c (pos 0) -ℤ cond b c (pos 0))
none_gained true true u w c h e = omega (arith, ints, e)
none_gained false false u w c h e = omega (arith, ints, e)
none_gained true false u w c h e = absurd cc
none_gained false true u w c h e = absurd cc

module _ (nodes : ℕ) (edges : List NetEdge) (tree : List Bool) (ends : EndsBelow nodes edges) (t : IsSpanningTree nodes edges tree) where
  -- no node is on the far sides of two tree edges
  module _ (k i : ℕ) (lk : k < length edges) (mk : is_marked tree k ≡ true) (li : i < length edges) (mi : is_marked tree i ≡ true) (ne : i ≢ k) (p q : ℕ → Bool) (c : IsCut edges tree k p) (d : IsCut edges tree i q) where
    none_far : (v : ℕ) → v < nodes → Far (p (edge_at edges i).tail) (q (edge_at edges k).tail) (q v) (p v) ≡ false
    none_far v lv =
        let x = p (edge_at edges i).tail in
        let y = q (edge_at edges k).tail in
        let z : ℕ → Bool = λ u. Far x y (q u) (p u) in
        let at_i : z (edge_at edges i).tail ≡ false = far_off x y _ _ refl in
        let all = all_or_none nodes edges tree t.spans z (λ m lm mm. elim (cases_eq m i) [
          | inl e ↦
              subst (λ n. z (edge_at edges n).tail ≡ z (edge_at edges n).head) (sym e)
              (at_i ∙ sym (far_off x y (q (edge_at edges i).head) (p (edge_at edges i).head) (sym (c.others i li mi ne))))
          | inr ni ↦ elim (cases_eq m k) [
            | inl e ↦
                subst (λ n. z (edge_at edges n).tail ≡ z (edge_at edges n).head) (sym e)
                (far_none x y (q (edge_at edges k).tail) (p (edge_at edges k).tail) refl ∙ sym (far_none x y (q (edge_at edges k).head) (p (edge_at edges k).head) (sym (d.others k lk mk (λ s. ne (sym s))))))
            | inr nk ↦ far_same x y _ _ _ _ (d.others m lm mm ni) (c.others m lm mm nk)
          ]
        ]) in
        all v lv ∙ (sym (all (edge_at edges i).tail (ends i li).0) ∙ at_i)

  module _ (k j : ℕ) (lk : k < length edges) (lj : j < length edges) (mk : is_marked tree k ≡ true) (from : tail_part nodes edges tree k (edge_at edges j).tail ≡ false) (to : tail_part nodes edges tree k (edge_at edges j).head ≡ true) where
    abbrev inside : ℕ → Bool
    inside = tail_part nodes edges tree k

    part_cut : IsCut edges tree k inside
    part_cut = tail_parts_cut nodes edges tree k ends t lk mk

    abbrev after : List Bool
    after = set (set tree k false) j true

    spans_after : IsSpanningTree nodes edges after
    spans_after = exchange_keeps nodes edges tree ends t k j inside lk lj mk part_cut from to

    -- a cut after the exchange is the part of its edge's tail
    value_by : (i : ℕ) (s : ℕ → Bool) → i < length edges → is_marked after i ≡ true → IsCut edges after i s → cut_value nodes edges after i ≡ cut_of edges s
    value_by i s li mi d =
        cut_same nodes edges (tail_part nodes edges after i) s ends
        (cut_unique nodes edges after i (tail_part nodes edges after i) s ends spans_after li (tail_parts_cut nodes edges after i ends spans_after li mi) d)

    pub value_in : is_marked after j ≡ true → cut_value nodes edges after j ≡ pos 0 -ℤ cut_value nodes edges tree k
    value_in mj =
        let v = value_by j (λ u. not (inside u)) lj mj (in_cut nodes edges tree ends t k j inside lk lj mk part_cut from to) in
        let o = cut_turned inside edges in
        omega (arith, ints, v, o)

    module _ (i : ℕ) (li : i < length edges) (ne : i ≢ j) (mi : is_marked after i ≡ true) where
      abbrev q : ℕ → Bool
      q = tail_part nodes edges tree i

      was : is_marked tree i ≡ true
      was = old_mark nodes edges tree ends t k j inside lk lj mk part_cut from to i ne mi

      no_k : i ≢ k
      no_k = not_out nodes edges tree ends t k j inside lk lj mk part_cut from to i ne mi

      abbrev x : Bool
      x = inside (edge_at edges i).tail

      abbrev y : Bool
      y = q (edge_at edges k).tail

      far : (v : ℕ) → v < nodes → Far x y (q v) (inside v) ≡ false
      far = none_far k i lk mk li was no_k inside q part_cut (tail_parts_cut nodes edges tree i ends t li was)

      abbrev w : ℕ → Bool
      w = λ v. xor (xor (q v) (inside v)) x

      more : y ≡ x → cut_of edges w ≡ cut_of edges q +ℤ cut_of edges inside
      more h =
          cut_adds nodes w q inside x (λ v lv. adds_up x (q v) (inside v) (subst (λ b. Far x b (q v) (inside v) ≡ false) h (far v lv))) edges ends

      less : y ≡ not x → cut_of edges q ≡ cut_of edges w +ℤ cut_of edges inside
      less h =
          cut_adds nodes q w inside x (λ v lv. takes_away x (q v) (inside v) (subst (λ b. Far x b (q v) (inside v) ≡ false) h (far v lv))) edges ends

      pub value_kept : cut_value nodes edges after i ≡ cut_value nodes edges tree i +ℤ gained q (edge_at edges j).tail (edge_at edges j).head (cut_value nodes edges tree k)
      value_kept =
          let a = (edge_at edges j).tail in
          let b = (edge_at edges j).head in
          elim (same_or_not (q a) (q b)) [
            | inl s ↦ none_gained (q a) (q b) (cut_of edges q) (cut_value nodes edges after i) (cut_of edges inside) s (value_by i q li mi (kept_part nodes edges tree ends t k j inside lk lj mk part_cut from to i li ne mi s))
            | inr n ↦
                let v = value_by i w li mi (turned_part nodes edges tree ends t k j inside lk lj mk part_cut from to i li ne mi n) in
                comes_to x y (q a) (q b) (cut_of edges q) (cut_value nodes edges after i) (cut_of edges inside) n
                (subst (λ z. Far x y (q a) z ≡ false) from (far a (ends j lj).0))
                (subst (λ z. Far x y (q b) z ≡ false) to (far b (ends j lj).1))
                (λ h. v ∙ more h) (λ h. subst (λ z. cut_of edges q ≡ z +ℤ cut_of edges inside) (sym v) (less h))
          ]
