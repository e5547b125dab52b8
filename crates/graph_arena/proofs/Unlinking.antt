-- A key is taken out of a list: its neighbours are linked to each other.
use Rattle.std.proofs.Common.{◌≡◌, ◌≢◌, ℕ, ◌+◌, ◌<◌, ◌≤◌, eq-eqb, List, [], ◌∷◌, length, Option, Some, None, arith, refl, sym, ap, ◌∙◌, subst, inl, inr}
use Rattle.std.proofs.lemmas.Bool.{cases_eq}
use Rattle.graph_arena.specs.declared.slots.EdgeList.{EdgeList}
use Rattle.graph_arena.specs.Graph.{occurs, if_end}
use Rattle.graph_arena.specs.Changes.{without}
use Rattle.graph_arena.specs.Chain.{IsChain, IsRow, IsFlank, follow, row_keys}
use Rattle.graph_arena.proofs.Chains.{eqb_other, chain_same, some_inj, occurs_tail, occurs_head, follow_is, member_owned, if_end_le, some_row_inj}

-- the new links skip the key
pub record Unlinks (next prev next' prev' : ℕ → Option ℕ) (k : ℕ) (ks : List ℕ) : Type 0 where
  pub next_kept : (j : ℕ) → 0 < occurs j ks → j ≢ k → next j ≢ Some k → next' j ≡ next j
  pub next_moved : (j : ℕ) → 0 < occurs j ks → j ≢ k → next j ≡ Some k → next' j ≡ next k
  pub prev_kept : (j : ℕ) → 0 < occurs j ks → j ≢ k → prev j ≢ Some k → prev' j ≡ prev j
  pub prev_moved : (j : ℕ) → 0 < occurs j ks → j ≢ k → prev j ≡ Some k → prev' j ≡ prev k

unlinks_tail : (next prev next' prev' : ℕ → Option ℕ) (k x : ℕ) (xs : List ℕ) → Unlinks next prev next' prev' k (x ∷ xs) → Unlinks next prev next' prev' k xs
unlinks_tail next prev next' prev' k x xs u =
    record {
      next_kept = λ j h. u.next_kept j (let t = occurs_tail j x xs in omega (arith, h, t));
      next_moved = λ j h. u.next_moved j (let t = occurs_tail j x xs in omega (arith, h, t));
      prev_kept = λ j h. u.prev_kept j (let t = occurs_tail j x xs in omega (arith, h, t));
      prev_moved = λ j h. u.prev_moved j (let t = occurs_tail j x xs in omega (arith, h, t));
    }

pub first_in : (next prev : ℕ → Option ℕ) (before at : Option ℕ) (ks : List ℕ) (last : Option ℕ) (m : ℕ) → IsChain next prev before at ks last → at ≡ Some m → 0 < occurs m ks
first_in next prev before at [] last m c is = let bad : None ≡ Some m = sym c.0 ∙ is in cc
first_in next prev before at (x ∷ xs) last m c is = subst (λ (i : ℕ). 0 < occurs i (x ∷ xs)) (some_inj x m (sym c.0 ∙ is)) (occurs_head x xs)

pub last_there : (next prev : ℕ → Option ℕ) (before at : Option ℕ) (ks : List ℕ) (last : Option ℕ) (m : ℕ) → IsChain next prev before at ks last → before ≢ Some m → last ≡ Some m → 0 < occurs m ks
last_there next prev before at [] last m c b is = absurd (b (sym c.1 ∙ is))
last_there next prev before at (x ∷ xs) last m c b is =
    elim (cases_eq x m) [
      | inl e ↦ subst (λ (i : ℕ). 0 < occurs i (x ∷ xs)) e (occurs_head x xs)
      | inr n ↦
          let f = last_there next prev (Some x) (next x) xs last m c.2 (λ i. n (some_inj x m i)) is in
          let t = occurs_tail m x xs in omega (arith, f, t)
    ]

-- what follows a key of the list, and what precedes it, stands in the list, or is what came before it
pub next_in : (next prev : ℕ → Option ℕ) (before at : Option ℕ) (ks : List ℕ) (last : Option ℕ) (j m : ℕ) → IsChain next prev before at ks last → 0 < occurs j ks → next j ≡ Some m → 0 < occurs m ks
next_in next prev before at [] last j m c h is = omega arith
next_in next prev before at (x ∷ xs) last j m c h is =
    elim (cases_eq x j) [
      | inl e ↦
          let s : next x ≡ Some m = ap next e ∙ is in
          let f = first_in next prev (Some x) (next x) xs last m c.2 s in
          let t = occurs_tail m x xs in omega (arith, f, t)
      | inr n ↦
          let g = rw (eqb_other x j n) at h in
          let f = next_in next prev (Some x) (next x) xs last j m c.2 (omega (arith, g)) is in
          let t = occurs_tail m x xs in omega (arith, f, t)
    ]

pub prev_in : (next prev : ℕ → Option ℕ) (before at : Option ℕ) (ks : List ℕ) (last : Option ℕ) (j m : ℕ) → IsChain next prev before at ks last → before ≢ Some m → 0 < occurs j ks → prev j ≡ Some m → 0 < occurs m ks
prev_in next prev before at [] last j m c b h is = omega arith
prev_in next prev before at (x ∷ xs) last j m c b h is =
    elim (cases_eq x j) [
      | inl e ↦ absurd (b (sym c.1 ∙ (ap prev e ∙ is)))
      | inr n ↦
          let g = rw (eqb_other x j n) at h in
          elim (cases_eq x m) [
            | inl same ↦ subst (λ (i : ℕ). 0 < occurs i (x ∷ xs)) same (occurs_head x xs)
            | inr d ↦
                let f = prev_in next prev (Some x) (next x) xs last j m c.2 (λ i. d (some_inj x m i)) (omega (arith, g)) is in
                let t = occurs_tail m x xs in omega (arith, f, t)
          ]
    ]

-- what comes after the key, once it is out
after_key : (next prev next' prev' : ℕ → Option ℕ) (k : ℕ) (at : Option ℕ) (xs : List ℕ) (last last' : Option ℕ) → IsChain next prev (Some k) at xs last → occurs k xs ≡ 0 → ((j : ℕ) → occurs j xs ≤ 1) → Unlinks next prev next' prev' k xs → (last ≡ Some k → last' ≡ prev k) → (last ≢ Some k → last' ≡ last) → IsChain next' prev' (prev k) at xs last'
after_key next prev next' prev' k at [] last last' c none once u moved kept = (c.0, moved c.1)
after_key next prev next' prev' k at (y ∷ ys) last last' c none once u moved kept =
    let y_not : y ≢ k = λ e. let o = rw (eq-eqb y k e) at none in omega (arith, o) in
    let none_ys : occurs k ys ≡ 0 = let t = occurs_tail k y ys in omega (arith, none, t) in
    let links : (j : ℕ) → 0 < occurs j ys → (next' j ≡ next j) × (prev' j ≡ prev j) =
    λ j h.
    let more : 0 < occurs j (y ∷ ys) = let t = occurs_tail j y ys in omega (arith, h, t) in
    let j_not : j ≢ k = λ e. let o = subst (λ (i : ℕ). 0 < occurs i ys) e h in omega (arith, o, none_ys) in (
      u.next_kept j more j_not (λ i. let o = next_in next prev (Some y) (next y) ys last j k c.2 h i in omega (arith, o, none_ys)),
      u.prev_kept j more j_not (λ i. let o = prev_in next prev (Some y) (next y) ys last j k c.2 (λ s. y_not (some_inj y k s)) h i in omega (arith, o, none_ys)),
    )
    in
    let here = occurs_head y ys in
    let next_y : next' y ≡ next y = u.next_kept y here y_not (λ i. let o = first_in next prev (Some y) (next y) ys last k c.2 i in omega (arith, o, none_ys)) in
    let last_not : last ≢ Some k = λ i. let o = last_there next prev (Some y) (next y) ys last k c.2 (λ s. y_not (some_inj y k s)) i in omega (arith, o, none_ys) in
    (c.0, u.prev_moved y here y_not c.1, rw (next_y, kept last_not) (chain_same next prev next' prev' (Some y) (next y) ys last links c.2))

pub chain_unlink : (next prev next' prev' : ℕ → Option ℕ) (k : ℕ) (before at at' : Option ℕ) (ks : List ℕ) (last last' : Option ℕ) → IsChain next prev before at ks last → before ≢ Some k → 0 < occurs k ks → ((j : ℕ) → occurs j ks ≤ 1) → Unlinks next prev next' prev' k ks → (at ≡ Some k → at' ≡ next k) → (at ≢ Some k → at' ≡ at) → (last ≡ Some k → last' ≡ prev k) → (last ≢ Some k → last' ≡ last) → IsChain next' prev' before at' (without k ks) last'
chain_unlink next prev next' prev' k before at at' [] last last' c b h once u am ak lm lk = absurd (omega arith)
chain_unlink next prev next' prev' k before at at' (x ∷ xs) last last' c b h once u am ak lm lk =
    elim (cases_eq x k) [
      | inl e ↦
          let none : occurs k xs ≡ 0 = let o = once k in let o2 = rw (eq-eqb x k e) at o in omega (arith, o2) in
          let c2 = subst (λ (i : ℕ). (at ≡ Some i) × (prev i ≡ before) × IsChain next prev (Some i) (next i) xs last) e c in
          let rest = after_key next prev next' prev' k (next k) xs last last' c2.2 none (λ j. let o = once j in let t = occurs_tail j x xs in omega (arith, o, t)) (unlinks_tail next prev next' prev' k x xs u) lm lk in
          rw (eq-eqb x k e, am c2.0, ← c2.1) rest
      | inr n ↦
          let z = eqb_other x k n in
          let g = rw z at h in
          let here = occurs_head x xs in
          let at_not : at ≢ Some k = λ i. n (some_inj x k (sym c.0 ∙ i)) in
          let prev_not : prev x ≢ Some k = λ i. b (sym c.1 ∙ i) in
          let rest =
          chain_unlink next prev next' prev' k (Some x) (next x) (next' x) xs last last' c.2 (λ i. n (some_inj x k i)) (omega (arith, g))
          (λ j. let o = once j in let t = occurs_tail j x xs in omega (arith, o, t)) (unlinks_tail next prev next' prev' k x xs u)
          (λ i. u.next_moved x here n i) (λ i. u.next_kept x here n i) lm lk
          in
          rw z (ak at_not ∙ c.0, u.prev_kept x here n prev_not ∙ c.1, rest)
    ]

-- ---- one side of the arena

pub length-without : (k : ℕ) (ks : List ℕ) → 0 < occurs k ks → length (without k ks) + 1 ≡ length ks
length-without k [] h = absurd (omega arith)
length-without k (x ∷ xs) h =
    elim (cases_eq x k) [
      | inl e ↦ rw (eq-eqb x k e) (omega arith)
      | inr n ↦
          let z = eqb_other x k n in
          let g = rw z at h in
          let i = length-without k xs (omega (arith, g)) in
          rw z (omega (arith, i))
    ]

pub occurs-without_same : (k : ℕ) (ks : List ℕ) → 0 < occurs k ks → occurs k (without k ks) + 1 ≡ occurs k ks
occurs-without_same k [] h = absurd (omega arith)
occurs-without_same k (x ∷ xs) h =
    elim (cases_eq x k) [
      | inl e ↦ rw (eq-eqb x k e) (omega arith)
      | inr n ↦
          let z = eqb_other x k n in
          let g = rw z at h in
          let i = occurs-without_same k xs (omega (arith, g)) in
          rw z (rw z (omega (arith, i)))
    ]

pub occurs-without_other : (k j : ℕ) (ks : List ℕ) → j ≢ k → occurs j (without k ks) ≡ occurs j ks
occurs-without_other k j [] d = refl
occurs-without_other k j (x ∷ xs) d =
    elim (cases_eq x k) [
      | inl e ↦
          let ne : x ≢ j = λ i. d (sym i ∙ e) in
          rw (eq-eqb x k e, eqb_other x j ne) (omega arith)
      | inr n ↦
          let i = occurs-without_other k j xs d in
          rw (eqb_other x k n) (omega (arith, i))
    ]

-- an edge went out of its node's list, and nothing else changed
pub record Takes (row row' : ℕ → Option EdgeList) (next next' prev prev' owner owner' : ℕ → Option ℕ) (v e : ℕ) (r r' : EdgeList) : Type 0 where
  pub was_row : row v ≡ Some r
  pub was_owned : owner e ≡ Some v
  pub is_row : row' v ≡ Some r'
  pub first_moved : r.first ≡ Some e → r'.first ≡ next e
  pub first_kept : r.first ≢ Some e → r'.first ≡ r.first
  pub last_moved : r.last ≡ Some e → r'.last ≡ prev e
  pub last_kept : r.last ≢ Some e → r'.last ≡ r.last
  pub count : r'.count + 1 ≡ r.count
  pub rows_kept : (u : ℕ) → u ≢ v → row' u ≡ row u
  pub is_free : owner' e ≡ None
  pub owners_kept : (k : ℕ) → k ≢ e → owner' k ≡ owner k
  pub next_kept : (j u : ℕ) → owner j ≡ Some u → j ≢ e → next j ≢ Some e → next' j ≡ next j
  pub next_moved : (j u : ℕ) → owner j ≡ Some u → j ≢ e → next j ≡ Some e → next' j ≡ next e
  pub prev_kept : (j u : ℕ) → owner j ≡ Some u → j ≢ e → prev j ≢ Some e → prev' j ≡ prev j
  pub prev_moved : (j u : ℕ) → owner j ≡ Some u → j ≢ e → prev j ≡ Some e → prev' j ≡ prev e

module _ (row row' : ℕ → Option EdgeList) (next next' prev prev' owner owner' : ℕ → Option ℕ) (v e : ℕ) (r r' : EdgeList) (s : IsFlank row next prev owner) (t : Takes row row' next next' prev prev' owner owner' v e r r') where
  here : row_keys next (row v) ≡ follow next r.count r.first
  here = rw t.was_row refl

  once_in : (k : ℕ) → occurs k (follow next r.count r.first) ≡ if_end (owner k) v
  once_in k = let o = s.once v k in rw here at o

  there : 0 < occurs e (follow next r.count r.first)
  there = let o = once_in e in let o2 = rw (t.was_owned, eq-eqb v v refl) at o in omega (arith, o2)

  mine : (j : ℕ) → 0 < occurs j (follow next r.count r.first) → owner j ≡ Some v
  mine j h = member_owned row next prev owner v j s (rw here h)

  own_chain : IsChain next' prev' None r'.first (without e (follow next r.count r.first)) r'.last
  own_chain =
      chain_unlink next prev next' prev' e None r.first r'.first (follow next r.count r.first) r.last r'.last (s.rows v r t.was_row).chain (λ i. cc) there
      (λ k. let o = once_in k in let l = if_end_le (owner k) v in omega (arith, o, l))
      (record {
        next_kept = λ j h. t.next_kept j v (mine j h);
        next_moved = λ j h. t.next_moved j v (mine j h);
        prev_kept = λ j h. t.prev_kept j v (mine j h);
        prev_moved = λ j h. t.prev_moved j v (mine j h);
      })
      t.first_moved t.first_kept t.last_moved t.last_kept

  own_length : length (without e (follow next r.count r.first)) ≡ r'.count
  own_length = let c = (s.rows v r t.was_row).counted in let d = t.count in let w = length-without e (follow next r.count r.first) there in omega (arith, c, d, w)

  own_follow : follow next' r'.count r'.first ≡ without e (follow next r.count r.first)
  own_follow = rw (← own_length) (follow_is next' prev' None r'.first (without e (follow next r.count r.first)) r'.last own_chain)

  -- the node's list lost the edge
  pub taken_keys : row_keys next' (row' v) ≡ without e (row_keys next (row v))
  taken_keys = rw (t.is_row, t.was_row) own_follow

  own_row : IsRow next' prev' r'
  own_row = record { counted = rw own_follow own_length; chain = rw own_follow own_chain }

  not_the_edge : (u k : ℕ) → u ≢ v → 0 < occurs k (row_keys next (row u)) → k ≢ e
  not_the_edge u k other h same =
      let o : owner e ≡ Some u = subst (λ (j : ℕ). owner j ≡ Some u) same (member_owned row next prev owner u k s h) in
      other (some_inj u v (sym o ∙ t.was_owned))

  other_row : (u : ℕ) (o : Option EdgeList) → u ≢ v → row u ≡ o → (row_keys next' o ≡ row_keys next o) × ((q : EdgeList) → o ≡ Some q → IsRow next' prev' q)
  other_row u None other is = (refl, λ q h. cc)
  other_row u (Some q) other is =
      let keys : row_keys next (row u) ≡ follow next q.count q.first = rw is refl in
      let w = s.rows u q is in
      let none : (k : ℕ) → 0 < occurs k (follow next q.count q.first) → k ≢ e = λ k h. not_the_edge u k other (rw keys h) in
      let c = chain_same next prev next' prev' None q.first (follow next q.count q.first) q.last
      (λ k h. (
        t.next_kept k u (member_owned row next prev owner u k s (rw keys h)) (none k h) (λ i. none e (next_in next prev None q.first (follow next q.count q.first) q.last k e w.chain h i) refl),
        t.prev_kept k u (member_owned row next prev owner u k s (rw keys h)) (none k h) (λ i. none e (prev_in next prev None q.first (follow next q.count q.first) q.last k e w.chain (λ b. cc) h i) refl),
      ))
      w.chain
      in
      let f : follow next' q.count q.first ≡ follow next q.count q.first =
      subst (λ (n : ℕ). follow next' n q.first ≡ follow next q.count q.first) w.counted (follow_is next' prev' None q.first (follow next q.count q.first) q.last c)
      in
      let good : IsRow next' prev' q = record { counted = rw f w.counted; chain = rw f c } in
      (f, λ p h. let e2 : q ≡ p = some_row_inj q p h in subst (λ (x : EdgeList). IsRow next' prev' x) e2 good)

  -- every other node's list is as it was
  pub untaken_keys : (u : ℕ) → u ≢ v → row_keys next' (row' u) ≡ row_keys next (row u)
  untaken_keys u other = rw (t.rows_kept u other) ((other_row u (row u) other refl).0)

  all_rows : (u : ℕ) (q : EdgeList) → row' u ≡ Some q → IsRow next' prev' q
  all_rows u q is =
      elim (cases_eq u v) [
        | inl same ↦
            let e2 : r' ≡ q = some_row_inj r' q (sym t.is_row ∙ (ap row' (sym same) ∙ is)) in
            subst (λ (x : EdgeList). IsRow next' prev' x) e2 own_row
        | inr other ↦ (other_row u (row u) other refl).1 q (sym (t.rows_kept u other) ∙ is)
      ]

  once_here : (k : ℕ) → occurs k (row_keys next' (row' v)) ≡ if_end (owner' k) v
  once_here k =
      rw taken_keys (elim (cases_eq k e) [
        | inl same ↦
            subst (λ (x : ℕ). occurs x (without e (row_keys next (row v))) ≡ if_end (owner' x) v) (sym same)
            (rw t.is_free (let o = s.once v e in let o2 = rw (t.was_owned, eq-eqb v v refl) at o in
            let w = occurs-without_same e (row_keys next (row v)) (omega (arith, o2)) in omega (arith, o2, w)))
        | inr n ↦ rw (occurs-without_other e k (row_keys next (row v)) n, t.owners_kept k n) (s.once v k)
      ])

  once_there : (u k : ℕ) → u ≢ v → if_end (owner k) u ≡ if_end (owner' k) u
  once_there u k other =
      elim (cases_eq k e) [
        | inl same ↦
            let ne : v ≢ u = λ h. other (sym h) in
            subst (λ (x : ℕ). if_end (owner x) u ≡ if_end (owner' x) u) (sym same)
            (rw (t.was_owned, t.is_free, eqb_other v u ne) refl)
        | inr n ↦ rw (t.owners_kept k n) refl
      ]

  new_once : (u k : ℕ) → occurs k (row_keys next' (row' u)) ≡ if_end (owner' k) u
  new_once u k =
      elim (cases_eq u v) [
        | inl same ↦ subst (λ (x : ℕ). occurs k (row_keys next' (row' x)) ≡ if_end (owner' k) x) (sym same) (once_here k)
        | inr other ↦ rw (untaken_keys u other) (s.once u k ∙ once_there u k other)
      ]

  pub flank_take : IsFlank row' next' prev' owner'
  flank_take = record { rows = all_rows; once = new_once }
