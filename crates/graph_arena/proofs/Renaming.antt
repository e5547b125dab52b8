-- One key takes the place of another in a list.
use Rattle.std.proofs.Common.{◌≡◌, ◌≢◌, ℕ, ◌+◌, ◌<◌, ◌≤◌, eq-eqb, List, [], ◌∷◌, map, length, Option, Some, None, arith, refl, sym, ap, ◌∙◌, subst, inl, inr}
use Rattle.std.specs.Option.{option_map}
use Rattle.std.proofs.lemmas.Bool.{cases_eq}
use Rattle.std.proofs.lemmas.List.{length-map}
use Rattle.graph_arena.specs.declared.slots.EdgeList.{EdgeList}
use Rattle.graph_arena.specs.Graph.{occurs, if_end}
use Rattle.graph_arena.specs.Changes.{renamed}
use Rattle.graph_arena.specs.Chain.{IsChain, IsRow, IsFlank, follow, row_keys}
use Rattle.graph_arena.proofs.Chains.{eqb_other, chain_same, some_inj, occurs_tail, occurs_head, follow_is, member_owned, if_end_le, some_row_inj}
use Rattle.graph_arena.proofs.Unlinking.{first_in, next_in, prev_in}

-- ---- the links of a list agree with each other

pub chain_next_prev : (next prev : ℕ → Option ℕ) (before at : Option ℕ) (ks : List ℕ) (last : Option ℕ) (j m : ℕ) → IsChain next prev before at ks last → 0 < occurs j ks → next j ≡ Some m → prev m ≡ Some j
chain_next_prev next prev before at [] last j m c h is = absurd (omega arith)
chain_next_prev next prev before at (x ∷ []) last j m c h is =
    elim (cases_eq x j) [
      | inl e ↦ let bad : None ≡ Some m = sym c.2.0 ∙ (ap next e ∙ is) in cc
      | inr n ↦ absurd (let g = rw (eqb_other x j n) at h in omega (arith, g))
    ]
chain_next_prev next prev before at (x ∷ y ∷ ys) last j m c h is =
    elim (cases_eq x j) [
      | inl e ↦
          let s : y ≡ m = some_inj y m (sym c.2.0 ∙ (ap next e ∙ is)) in
          ap prev (sym s) ∙ (c.2.1 ∙ ap Some e)
      | inr n ↦
          let g = rw (eqb_other x j n) at h in
          chain_next_prev next prev (Some x) (next x) (y ∷ ys) last j m c.2 (omega (arith, g)) is
    ]

next_of_first : (next prev : ℕ → Option ℕ) (x : ℕ) (xs : List ℕ) (last : Option ℕ) (m : ℕ) → IsChain next prev (Some x) (next x) xs last → occurs x xs ≡ 0 → 0 < occurs m xs → prev m ≡ Some x → next x ≡ Some m
next_of_first next prev x [] last m c none h is = absurd (omega arith)
next_of_first next prev x (y ∷ ys) last m c none h is =
    elim (cases_eq y m) [
      | inl e ↦ c.0 ∙ ap Some e
      | inr n ↦
          let g = rw (eqb_other y m n) at h in
          let y_not : y ≢ x = λ e. let o = rw (eq-eqb y x e) at none in omega (arith, o) in
          let o = prev_in next prev (Some y) (next y) ys last m x c.2 (λ i. y_not (some_inj y x i)) (omega (arith, g)) is in
          let t = occurs_tail x y ys in
          absurd (omega (arith, o, t, none))
    ]

pub chain_prev_next : (next prev : ℕ → Option ℕ) (before at : Option ℕ) (ks : List ℕ) (last : Option ℕ) (j m : ℕ) → IsChain next prev before at ks last → ((k : ℕ) → occurs k ks ≤ 1) → before ≢ Some j → 0 < occurs m ks → prev m ≡ Some j → next j ≡ Some m
chain_prev_next next prev before at [] last j m c once b h is = absurd (omega arith)
chain_prev_next next prev before at (x ∷ xs) last j m c once b h is =
    elim (cases_eq x m) [
      | inl e ↦ absurd (b (sym c.1 ∙ (ap prev e ∙ is)))
      | inr n ↦
          let g = rw (eqb_other x m n) at h in
          elim (cases_eq x j) [
            | inl e ↦
                let o = once x in let o2 = rw (eq-eqb x x refl) at o in
                ap next (sym e) ∙ next_of_first next prev x xs last m c.2 (omega (arith, o2)) (omega (arith, g)) (is ∙ ap Some (sym e))
            | inr d ↦
                chain_prev_next next prev (Some x) (next x) xs last j m c.2 (λ k. let t = occurs_tail k x xs in omega (arith, once k, t)) (λ i. d (some_inj x j i)) (omega (arith, g)) is
          ]
    ]

-- no key follows itself
pub chain_no_loop : (next prev : ℕ → Option ℕ) (before at : Option ℕ) (ks : List ℕ) (last : Option ℕ) (j : ℕ) → IsChain next prev before at ks last → ((k : ℕ) → occurs k ks ≤ 1) → 0 < occurs j ks → next j ≢ Some j
chain_no_loop next prev before at [] last j c once h is = omega arith
chain_no_loop next prev before at (x ∷ xs) last j c once h is =
    elim (cases_eq x j) [
      | inl e ↦
          let f = first_in next prev (Some x) (next x) xs last j c.2 (ap next e ∙ is) in
          let o = once j in let o2 = rw (eq-eqb x j e) at o in
          omega (arith, f, o2)
      | inr n ↦
          let g = rw (eqb_other x j n) at h in
          chain_no_loop next prev (Some x) (next x) xs last j c.2 (λ k. let t = occurs_tail k x xs in omega (arith, once k, t)) (omega (arith, g)) is
    ]

-- ---- the same on a side

-- the list of a node is a chain with no key twice, and has the node's own keys
pub record Owned (next prev owner : ℕ → Option ℕ) (u j : ℕ) : Type 0 where
  pub first : Option ℕ
  pub last : Option ℕ
  pub list : List ℕ
  pub chain : IsChain next prev None first list last
  pub once : (k : ℕ) → occurs k list ≤ 1
  pub there : 0 < occurs j list
  pub members : (k : ℕ) → 0 < occurs k list → owner k ≡ Some u

owned_in : (row : ℕ → Option EdgeList) (next prev owner : ℕ → Option ℕ) (u j : ℕ) → IsFlank row next prev owner → owner j ≡ Some u → (o : Option EdgeList) → row u ≡ o → Owned next prev owner u j
owned_in row next prev owner u j s is None at =
    let o = s.once u j in let o2 = rw (at, is, eq-eqb u u refl) at o in absurd (omega (arith, o2))
owned_in row next prev owner u j s is (Some r) at =
    let o = s.once u j in
    let o2 = rw (at, is, eq-eqb u u refl) at o in
    let same : row_keys next (row u) ≡ follow next r.count r.first = rw at refl in
    record {
      first = r.first;
      last = r.last;
      list = follow next r.count r.first;
      chain = (s.rows u r at).chain;
      once = λ k. let q = s.once u k in let q2 = rw at at q in let l = if_end_le (owner k) u in omega (arith, q2, l);
      there = omega (arith, o2);
      members = λ k h. member_owned row next prev owner u k s (rw same h);
    }

pub owned_chain : (row : ℕ → Option EdgeList) (next prev owner : ℕ → Option ℕ) (u j : ℕ) → IsFlank row next prev owner → owner j ≡ Some u → Owned next prev owner u j
owned_chain row next prev owner u j s is = owned_in row next prev owner u j s is (row u) refl

-- the neighbours of an edge have its owner
pub flank_next_owner : (row : ℕ → Option EdgeList) (next prev owner : ℕ → Option ℕ) (u j m : ℕ) → IsFlank row next prev owner → owner j ≡ Some u → next j ≡ Some m → owner m ≡ Some u
flank_next_owner row next prev owner u j m s is n =
    let w = owned_chain row next prev owner u j s is in
    w.members m (next_in next prev None w.first w.list w.last j m w.chain w.there n)

pub flank_prev_owner : (row : ℕ → Option EdgeList) (next prev owner : ℕ → Option ℕ) (u j m : ℕ) → IsFlank row next prev owner → owner j ≡ Some u → prev j ≡ Some m → owner m ≡ Some u
flank_prev_owner row next prev owner u j m s is p =
    let w = owned_chain row next prev owner u j s is in
    w.members m (prev_in next prev None w.first w.list w.last j m w.chain (λ b. cc) w.there p)

pub flank_next_prev : (row : ℕ → Option EdgeList) (next prev owner : ℕ → Option ℕ) (u j m : ℕ) → IsFlank row next prev owner → owner j ≡ Some u → next j ≡ Some m → prev m ≡ Some j
flank_next_prev row next prev owner u j m s is n =
    let w = owned_chain row next prev owner u j s is in
    chain_next_prev next prev None w.first w.list w.last j m w.chain w.there n

pub flank_prev_next : (row : ℕ → Option EdgeList) (next prev owner : ℕ → Option ℕ) (u j m : ℕ) → IsFlank row next prev owner → owner m ≡ Some u → prev m ≡ Some j → next j ≡ Some m
flank_prev_next row next prev owner u j m s is p =
    let w = owned_chain row next prev owner u m s is in
    chain_prev_next next prev None w.first w.list w.last j m w.chain w.once (λ b. cc) w.there p

pub flank_no_loop : (row : ℕ → Option EdgeList) (next prev owner : ℕ → Option ℕ) (u j : ℕ) → IsFlank row next prev owner → owner j ≡ Some u → next j ≢ Some j
flank_no_loop row next prev owner u j s is =
    let w = owned_chain row next prev owner u j s is in
    chain_no_loop next prev None w.first w.list w.last j w.chain w.once w.there

-- ---- the new list

pub chain_rename : (f : ℕ → ℕ) (next prev next' prev' : ℕ → Option ℕ) (before at : Option ℕ) (ks : List ℕ) (last : Option ℕ) → IsChain next prev before at ks last → ((k : ℕ) → 0 < occurs k ks → (next' (f k) ≡ option_map f (next k)) × (prev' (f k) ≡ option_map f (prev k))) → IsChain next' prev' (option_map f before) (option_map f at) (map f ks) (option_map f last)
chain_rename f next prev next' prev' before at [] last c same = (ap (option_map f) c.0, ap (option_map f) c.1)
chain_rename f next prev next' prev' before at (k ∷ ks) last c same =
    let here = same k (occurs_head k ks) in (
      ap (option_map f) c.0,
      here.1 ∙ ap (option_map f) c.1,
      rw here.0 (chain_rename f next prev next' prev' (Some k) (next k) ks last c.2 (λ j h. same j (let t = occurs_tail j k ks in omega (arith, h, t)))),
    )

occurs_renamed_by : (e by : ℕ) (ks : List ℕ) → by ≢ e → occurs by (map (renamed e by) ks) ≡ occurs e ks + occurs by ks
occurs_renamed_by e by [] d = refl
occurs_renamed_by e by (x ∷ xs) d =
    let i = occurs_renamed_by e by xs d in
    elim (cases_eq x e) [
      | inl s ↦
          let ne : x ≢ by = λ q. d (sym q ∙ s) in
          rw (eq-eqb x e s, eqb_other x by ne, eq-eqb by by refl) (omega (arith, i))
      | inr n ↦ rw (eqb_other x e n) (omega (arith, i))
    ]

occurs_renamed_old : (e by : ℕ) (ks : List ℕ) → by ≢ e → occurs e (map (renamed e by) ks) ≡ 0
occurs_renamed_old e by [] d = refl
occurs_renamed_old e by (x ∷ xs) d =
    let i = occurs_renamed_old e by xs d in
    elim (cases_eq x e) [
      | inl s ↦ rw (eq-eqb x e s, eqb_other by e d) (omega (arith, i))
      | inr n ↦ rw (eqb_other x e n) (rw (eqb_other x e n) (omega (arith, i)))
    ]

occurs_renamed_other : (e by k : ℕ) (ks : List ℕ) → k ≢ e → k ≢ by → occurs k (map (renamed e by) ks) ≡ occurs k ks
occurs_renamed_other e by k [] d q = refl
occurs_renamed_other e by k (x ∷ xs) d q =
    let i = occurs_renamed_other e by k xs d q in
    elim (cases_eq x e) [
      | inl s ↦
          let ne : x ≢ k = λ z. d (sym z ∙ s) in
          let nb : by ≢ k = λ z. q (sym z) in
          rw (eq-eqb x e s, eqb_other x k ne, eqb_other by k nb) (omega (arith, i))
      | inr n ↦ rw (eqb_other x e n) (omega (arith, i))
    ]

pub renamed_kept : (e by : ℕ) (o : Option ℕ) → o ≢ Some e → option_map (renamed e by) o ≡ o
renamed_kept e by None h = refl
renamed_kept e by (Some k) h = let n : k ≢ e = λ i. h (ap Some i) in rw (eqb_other k e n) refl

-- an edge's place in its node's list was given to a loose edge
pub record Renames (row row' : ℕ → Option EdgeList) (next next' prev prev' owner owner' : ℕ → Option ℕ) (v e by : ℕ) (r r' : EdgeList) : Type 0 where
  pub was_row : row v ≡ Some r
  pub was_owned : owner e ≡ Some v
  pub was_free : owner by ≡ None
  pub is_row : row' v ≡ Some r'
  pub first : r'.first ≡ option_map (renamed e by) r.first
  pub last : r'.last ≡ option_map (renamed e by) r.last
  pub count : r'.count ≡ r.count
  pub rows_kept : (u : ℕ) → u ≢ v → row' u ≡ row u
  pub loose : owner' e ≡ None
  pub is_owned : owner' by ≡ Some v
  pub owners_kept : (k : ℕ) → k ≢ e → k ≢ by → owner' k ≡ owner k
  pub nexts : (j u : ℕ) → owner j ≡ Some u → next' (renamed e by j) ≡ option_map (renamed e by) (next j)
  pub prevs : (j u : ℕ) → owner j ≡ Some u → prev' (renamed e by j) ≡ option_map (renamed e by) (prev j)

module _ (row row' : ℕ → Option EdgeList) (next next' prev prev' owner owner' : ℕ → Option ℕ) (v e by : ℕ) (r r' : EdgeList) (s : IsFlank row next prev owner) (t : Renames row row' next next' prev prev' owner owner' v e by r r') where
  two : by ≢ e
  two i = let bad : None ≡ Some v = sym t.was_free ∙ (ap owner i ∙ t.was_owned) in cc

  here : row_keys next (row v) ≡ follow next r.count r.first
  here = rw t.was_row refl

  mine : (j : ℕ) → 0 < occurs j (follow next r.count r.first) → owner j ≡ Some v
  mine j h = member_owned row next prev owner v j s (rw here h)

  own_chain : IsChain next' prev' None r'.first (map (renamed e by) (follow next r.count r.first)) r'.last
  own_chain =
      rw (t.first, t.last) (chain_rename (renamed e by) next prev next' prev' None r.first (follow next r.count r.first) r.last (s.rows v r t.was_row).chain
      (λ k h. (t.nexts k v (mine k h), t.prevs k v (mine k h))))

  own_length : length (map (renamed e by) (follow next r.count r.first)) ≡ r'.count
  own_length = let c = (s.rows v r t.was_row).counted in let d = t.count in let l = length-map (follow next r.count r.first) (renamed e by) in omega (arith, c, d, l)

  own_follow : follow next' r'.count r'.first ≡ map (renamed e by) (follow next r.count r.first)
  own_follow = rw (← own_length) (follow_is next' prev' None r'.first (map (renamed e by) (follow next r.count r.first)) r'.last own_chain)

  -- the node's list has the one edge for the other
  pub renamed_keys : row_keys next' (row' v) ≡ map (renamed e by) (row_keys next (row v))
  renamed_keys = rw (t.is_row, t.was_row) own_follow

  own_row : IsRow next' prev' r'
  own_row = record { counted = rw own_follow own_length; chain = rw own_follow own_chain }

  not_the_edge : (u k : ℕ) → u ≢ v → 0 < occurs k (row_keys next (row u)) → k ≢ e
  not_the_edge u k other h same =
      let o : owner e ≡ Some u = subst (λ (j : ℕ). owner j ≡ Some u) same (member_owned row next prev owner u k s h) in
      other (some_inj u v (sym o ∙ t.was_owned))

  other_row : (u : ℕ) (o : Option EdgeList) → u ≢ v → row u ≡ o → (row_keys next' o ≡ row_keys next o) × ((q : EdgeList) → o ≡ Some q → IsRow next' prev' q)
  other_row u None other is = (refl, λ q h. cc)
  other_row u (Some q) other is =
      let keys : row_keys next (row u) ≡ follow next q.count q.first = rw is refl in
      let w = s.rows u q is in
      let none : (k : ℕ) → 0 < occurs k (follow next q.count q.first) → k ≢ e = λ k h. not_the_edge u k other (rw keys h) in
      let c = chain_same next prev next' prev' None q.first (follow next q.count q.first) q.last
      (λ k h.
      let own = member_owned row next prev owner u k s (rw keys h) in
      let n = rw (eqb_other k e (none k h)) at (t.nexts k u own) in
      let p = rw (eqb_other k e (none k h)) at (t.prevs k u own) in (
        n ∙ renamed_kept e by (next k) (λ i. none e (next_in next prev None q.first (follow next q.count q.first) q.last k e w.chain h i) refl),
        p ∙ renamed_kept e by (prev k) (λ i. none e (prev_in next prev None q.first (follow next q.count q.first) q.last k e w.chain (λ b. cc) h i) refl),
      ))
      w.chain
      in
      let f : follow next' q.count q.first ≡ follow next q.count q.first =
      subst (λ (n : ℕ). follow next' n q.first ≡ follow next q.count q.first) w.counted (follow_is next' prev' None q.first (follow next q.count q.first) q.last c)
      in
      let good : IsRow next' prev' q = record { counted = rw f w.counted; chain = rw f c } in
      (f, λ p h. let e2 : q ≡ p = some_row_inj q p h in subst (λ (x : EdgeList). IsRow next' prev' x) e2 good)

  pub unrenamed_keys : (u : ℕ) → u ≢ v → row_keys next' (row' u) ≡ row_keys next (row u)
  unrenamed_keys u other = rw (t.rows_kept u other) ((other_row u (row u) other refl).0)

  all_rows : (u : ℕ) (q : EdgeList) → row' u ≡ Some q → IsRow next' prev' q
  all_rows u q is =
      elim (cases_eq u v) [
        | inl same ↦
            let e2 : r' ≡ q = some_row_inj r' q (sym t.is_row ∙ (ap row' (sym same) ∙ is)) in
            subst (λ (x : EdgeList). IsRow next' prev' x) e2 own_row
        | inr other ↦ (other_row u (row u) other refl).1 q (sym (t.rows_kept u other) ∙ is)
      ]

  once_here : (k : ℕ) → occurs k (row_keys next' (row' v)) ≡ if_end (owner' k) v
  once_here k =
      rw renamed_keys (elim (cases_eq k e) [
        | inl same ↦
            subst (λ (x : ℕ). occurs x (map (renamed e by) (row_keys next (row v))) ≡ if_end (owner' x) v) (sym same)
            (rw t.loose (occurs_renamed_old e by (row_keys next (row v)) two))
        | inr n ↦
            elim (cases_eq k by) [
              | inl same ↦
                  subst (λ (x : ℕ). occurs x (map (renamed e by) (row_keys next (row v))) ≡ if_end (owner' x) v) (sym same)
                  (let o = s.once v e in let o2 = rw (t.was_owned, eq-eqb v v refl) at o in
                  let q = s.once v by in let q2 = rw t.was_free at q in
                  rw (t.is_owned, eq-eqb v v refl) (omega (arith, o2, q2, occurs_renamed_by e by (row_keys next (row v)) two)))
              | inr d ↦ rw (t.owners_kept k n d) (occurs_renamed_other e by k (row_keys next (row v)) n d ∙ s.once v k)
            ]
      ])

  once_there : (u k : ℕ) → u ≢ v → if_end (owner k) u ≡ if_end (owner' k) u
  once_there u k other =
      let ne : v ≢ u = λ h. other (sym h) in
      elim (cases_eq k e) [
        | inl same ↦
            subst (λ (x : ℕ). if_end (owner x) u ≡ if_end (owner' x) u) (sym same)
            (rw (t.was_owned, t.loose, eqb_other v u ne) refl)
        | inr n ↦
            elim (cases_eq k by) [
              | inl same ↦
                  subst (λ (x : ℕ). if_end (owner x) u ≡ if_end (owner' x) u) (sym same)
                  (rw (t.was_free, t.is_owned, eqb_other v u ne) refl)
              | inr d ↦ rw (t.owners_kept k n d) refl
            ]
      ]

  new_once : (u k : ℕ) → occurs k (row_keys next' (row' u)) ≡ if_end (owner' k) u
  new_once u k =
      elim (cases_eq u v) [
        | inl same ↦ subst (λ (x : ℕ). occurs k (row_keys next' (row' x)) ≡ if_end (owner' k) x) (sym same) (once_here k)
        | inr other ↦ rw (unrenamed_keys u other) (s.once u k ∙ once_there u k other)
      ]

  pub flank_rename : IsFlank row' next' prev' owner'
  flank_rename = record { rows = all_rows; once = new_once }
