-- No two nodes of a state are farther from each other than all edges together are long.
use Rattle.std.proofs.Common.{◌≡◌, ◌≢◌, ℕ, zero, suc, ◌+◌, ◌<◌, ◌≤◌, ◌&&◌, cond, Bool, true, false, ◌⊎◌, ℤ, pos, ◌+ℤ◌, ◌≤ℤ◌, List, [], ◌∷◌, length, arith, refl, sym, ap, ◌∙◌, inl, inr}
use Rattle.std.proofs.lemmas.Int.{ints}
use Rattle.std.proofs.lemmas.List.Sums.{sum_by-cons}
use Rattle.network_laws.specs.declared.network.NetEdge.{NetEdge}
use Rattle.network_laws.specs.Network.{edge_at, EndsBelow}
use Rattle.network_laws.specs.Layering.{layer_of}
use Rattle.network_laws.specs.Linked.{is_marked, HasMarked, LinkedBy}
use Rattle.flow_dual.specs.Rounds.{all_least}
use Rattle.net_simplex.specs.Tree.{State, IsState, IsCut, tail_part}
use Rattle.net_simplex.proofs.Cutting.{tail_parts_cut}
use Rattle.std.proofs.lemmas.Bool.{and_from, and_right}
use Rattle.network_laws.proofs.PathSums.{cond_le}

-- the sum of `least` over the edges that pass a test of their number
abbrev pub least_over : List NetEdge → (ℕ → Bool) → ℕ
least_over [] test = 0
least_over (e ∷ es) test = cond (test 0) e.least 0 + least_over es (λ k. test (suc k))

least_over_le : (edges : List NetEdge) (test : ℕ → Bool) → least_over edges test ≤ all_least edges
least_over_le [] test = omega arith
least_over_le (e ∷ es) test =
    let r = least_over_le es (λ k. test (suc k)) in
    let a = cond_le (test 0) e.least in
    let s = sum_by-cons (λ (e : NetEdge). e.least) e es in
    omega (arith, r, a, s)

one_same : (a b : Bool) (n : ℕ) → a ≡ b → cond a n 0 ≡ cond b n 0
one_same a b n h = ap (λ x. cond x n 0) h

least_over_same : (edges : List NetEdge) (test test' : ℕ → Bool) → ((k : ℕ) → k < length edges → test k ≡ test' k) → least_over edges test ≡ least_over edges test'
least_over_same [] test test' h = refl
least_over_same (e ∷ es) test test' h =
    let r = least_over_same es (λ k. test (suc k)) (λ k. test' (suc k)) (λ k l. h (suc k) (omega (arith, l))) in
    let a = one_same (test 0) (test' 0) e.least (h 0 (omega arith)) in
    omega (arith, r, a)

-- one edge more
least_over_more : (edges : List NetEdge) (test test' : ℕ → Bool) (j : ℕ) → j < length edges → test j ≡ true → test' j ≡ false → ((k : ℕ) → k < length edges → k ≢ j → test k ≡ test' k) → least_over edges test ≡ least_over edges test' + (edge_at edges j).least
least_over_more [] test test' j l t f h = absurd (omega (arith, l))
least_over_more (e ∷ es) test test' zero l t f h =
    let r = least_over_same es (λ k. test (suc k)) (λ k. test' (suc k)) (λ k b. h (suc k) (omega (arith, b)) (omega arith)) in
    rw (t, f) (omega (arith, r))
least_over_more (e ∷ es) test test' (suc j) l t f h =
    let r = least_over_more es (λ k. test (suc k)) (λ k. test' (suc k)) j (omega (arith, l)) t f (λ k b ne. h (suc k) (omega (arith, b)) (omega (arith, ne))) in
    let a = one_same (test 0) (test' 0) e.least (h 0 (omega arith) (omega arith)) in
    omega (arith, r, a)

if_both : (b i i' : Bool) → (b ≡ true → i ≡ i') → (b && i) ≡ (b && i')
if_both true i i' h = h refl
if_both false i i' h = refl

module _ (nodes : ℕ) (edges : List NetEdge) (s : State) (ends : EndsBelow nodes edges) (is : IsState nodes edges s) where
  -- the tree edges whose tail's part holds v
  abbrev holds : ℕ → ℕ → Bool
  holds v k = is_marked s.tree k && tail_part nodes edges s.tree k v

  -- this sum is the same at all nodes
  abbrev height : ℕ → ℤ
  height v = layer_of s.layers v +ℤ pos (least_over edges (holds v))

  cut_at : (k : ℕ) → k < length edges → is_marked s.tree k ≡ true → IsCut edges s.tree k (tail_part nodes edges s.tree k)
  cut_at k l m = tail_parts_cut nodes edges s.tree k ends is.spanning l m

  along_edge : (j : ℕ) → j < length edges → is_marked s.tree j ≡ true → height (edge_at edges j).tail ≡ height (edge_at edges j).head
  along_edge j l m =
      let e = edge_at edges j in
      let c = cut_at j l m in
      let t = is.tight j l m in
      let a = least_over_more edges (holds e.tail) (holds e.head) j l (and_from (is_marked s.tree j) (tail_part nodes edges s.tree j e.tail) m c.tail_in) (and_right (is_marked s.tree j) (tail_part nodes edges s.tree j e.head) c.head_out)
      (λ k lk ne. if_both (is_marked s.tree k) (tail_part nodes edges s.tree k e.tail) (tail_part nodes edges s.tree k e.head) (λ mk. (cut_at k lk mk).others j l m (λ q. ne (sym q))))
      in
      omega (arith, ints, t, a)

  over_mark : (a b : ℕ) → HasMarked edges s.tree a b → height a ≡ height b
  over_mark a b h = sym (ap height h.from_is) ∙ (along_edge h.number h.is_there h.has_mark ∙ ap height h.to_is)

  over_either : (a b : ℕ) → (HasMarked edges s.tree a b ⊎ HasMarked edges s.tree b a) → height a ≡ height b
  over_either a b (inl h) = over_mark a b h
  over_either a b (inr h) = sym (over_mark b a h)

  over_walk : (a b n : ℕ) → LinkedBy edges s.tree a b n → height a ≡ height b
  over_walk a b zero w = ap height w
  over_walk a b (suc n) w = over_walk a w.0 n w.1 ∙ over_either w.0 b w.2

  pub near_root : (v : ℕ) → v < nodes → (layer_of s.layers v ≤ℤ (layer_of s.layers 0 +ℤ pos (all_least edges))) × (layer_of s.layers 0 ≤ℤ (layer_of s.layers v +ℤ pos (all_least edges)))
  near_root v l =
      let w = is.spanning.spans v l in
      let h = over_walk 0 v w.0 w.1 in
      let a = least_over_le edges (holds 0) in
      let b = least_over_le edges (holds v) in
      (omega (arith, ints, h, a, b), omega (arith, ints, h, a, b))
