use Rattle.std.proofs.Common.{◌≡◌, ◌≢◌, ℕ, ◌+◌, ◌<◌, ◌≤◌, eqb, eq-eqb, cond, false, List, [], ◌∷◌, ◌++◌, length, Option, Some, None, arith, refl, sym, ap, ◌∙◌, subst, inl, inr}
use Rattle.std.proofs.lemmas.Bool.{cases_eq}
use Rattle.std.proofs.lemmas.List.{length-append}
use Rattle.std.proofs.lemmas.Bool.Decides.{nat_tests}
use Rattle.graph_arena.specs.declared.slots.EdgeList.{EdgeList}
use Rattle.graph_arena.specs.Graph.{front, after, occurs, if_end}
use Rattle.graph_arena.specs.Chain.{follow, IsChain, row_keys, IsRow, IsFlank}
use Rattle.graph_arena.specs.Flanks.{pushed}

pub eqb_other : (m n : ℕ) → m ≢ n → eqb m n ≡ false
eqb_other m n h = grind (arith, nat_tests, h)

-- ---- reads

pub front_is : (next prev : ℕ → Option ℕ) (before at : Option ℕ) (ks : List ℕ) (last : Option ℕ) → IsChain next prev before at ks last → front ks ≡ at
front_is next prev before at [] last c = sym c.0
front_is next prev before at (k ∷ ks) last c = sym c.0

-- the link of a key that stands in the list is what follows it there
pub after_is : (next prev : ℕ → Option ℕ) (before at : Option ℕ) (ks : List ℕ) (last : Option ℕ) (e : ℕ) → IsChain next prev before at ks last → 0 < occurs e ks → after ks e ≡ next e
after_is next prev before at [] last e c h = absurd (omega arith)
after_is next prev before at (k ∷ ks) last e c h =
    elim (cases_eq k e) [
      | inl s ↦ rw (eq-eqb k e s) (front_is next prev (Some k) (next k) ks last c.2 ∙ ap next s)
      | inr n ↦
          let z = eqb_other k e n in
          let g = rw z at h in
          let there : 0 < occurs e ks = omega (arith, g) in
          rw z (after_is next prev (Some k) (next k) ks last e c.2 there)
    ]

-- ---- the links determine the list

pub follow_is : (next prev : ℕ → Option ℕ) (before at : Option ℕ) (ks : List ℕ) (last : Option ℕ) → IsChain next prev before at ks last → follow next (length ks) at ≡ ks
follow_is next prev before at [] last c = refl
follow_is next prev before at (k ∷ ks) last c =
    rw c.0 (ap (λ (l : List ℕ). k ∷ l) (follow_is next prev (Some k) (next k) ks last c.2))

-- ---- links elsewhere may change

pub occurs_tail : (e k : ℕ) (ks : List ℕ) → occurs e ks ≤ occurs e (k ∷ ks)
occurs_tail e k ks = omega arith

pub occurs_head : (k : ℕ) (ks : List ℕ) → 0 < occurs k (k ∷ ks)
occurs_head k ks = rw (eq-eqb k k refl) (omega arith)

pub chain_same : (next prev next' prev' : ℕ → Option ℕ) (before at : Option ℕ) (ks : List ℕ) (last : Option ℕ) → ((k : ℕ) → 0 < occurs k ks → (next' k ≡ next k) × (prev' k ≡ prev k)) → IsChain next prev before at ks last → IsChain next' prev' before at ks last
chain_same next prev next' prev' before at [] last same c = c
chain_same next prev next' prev' before at (k ∷ ks) last same c =
    let here = same k (occurs_head k ks) in
    (c.0, here.1 ∙ c.1, rw here.0 (chain_same next prev next' prev' (Some k) (next k) ks last (λ j h. same j (let t = occurs_tail j k ks in omega (arith, h, t))) c.2))

-- ---- a key comes last

pub last_in : (next prev : ℕ → Option ℕ) (before at : Option ℕ) (k : ℕ) (ks : List ℕ) (last : Option ℕ) → IsChain next prev before at (k ∷ ks) last → (l : ℕ) × (last ≡ Some l) × (0 < occurs l (k ∷ ks))
last_in next prev before at k [] last c = (k, c.2.1, occurs_head k [])
last_in next prev before at k (j ∷ ks) last c =
    let rest = last_in next prev (Some k) (next k) j ks last c.2 in
    (rest.0, rest.1, let t = occurs_tail rest.0 k (j ∷ ks) in omega (arith, rest.2, t))

-- what a push asks of the new links
pub record Pushes (next prev next' prev' : ℕ → Option ℕ) (e : ℕ) (last : Option ℕ) (ks : List ℕ) : Type 0 where
  pub prev_kept : (k : ℕ) → 0 < occurs k ks → prev' k ≡ prev k
  pub next_kept : (k : ℕ) → 0 < occurs k ks → last ≢ Some k → next' k ≡ next k
  pub last_next : (k : ℕ) → 0 < occurs k ks → last ≡ Some k → next' k ≡ Some e
  pub ends : next' e ≡ None
  pub comes_after : prev' e ≡ last

pub pushes_tail : (next prev next' prev' : ℕ → Option ℕ) (e : ℕ) (last : Option ℕ) (k : ℕ) (ks : List ℕ) → Pushes next prev next' prev' e last (k ∷ ks) → Pushes next prev next' prev' e last ks
pushes_tail next prev next' prev' e last k ks p =
    record {
      prev_kept = λ j h. p.prev_kept j (let t = occurs_tail j k ks in omega (arith, h, t));
      next_kept = λ j h. p.next_kept j (let t = occurs_tail j k ks in omega (arith, h, t));
      last_next = λ j h. p.last_next j (let t = occurs_tail j k ks in omega (arith, h, t));
      ends = p.ends;
      comes_after = p.comes_after;
    }

pub some_inj : (a b : ℕ) → Some a ≡ Some b → a ≡ b
some_inj a b h = cc

pub chain_push : (next prev next' prev' : ℕ → Option ℕ) (e : ℕ) (before at : Option ℕ) (ks : List ℕ) (last : Option ℕ) → IsChain next prev before at ks last → ((k : ℕ) → occurs k ks ≤ 1) → Pushes next prev next' prev' e last ks → IsChain next' prev' before (pushed at e) (ks ++ e ∷ []) (Some e)
chain_push next prev next' prev' e before at [] last c once p =
    (rw c.0 refl, p.comes_after ∙ c.1, (p.ends, refl))
chain_push next prev next' prev' e before at (x ∷ []) last c once p =
    let here = occurs_head x [] in
    (rw c.0 refl, p.prev_kept x here ∙ c.1, (p.last_next x here c.2.1, p.comes_after ∙ c.2.1, (p.ends, refl)))
chain_push next prev next' prev' e before at (x ∷ y ∷ ks) last c once p =
    let here = occurs_head x (y ∷ ks) in
    let rest = chain_push next prev next' prev' e (Some x) (next x) (y ∷ ks) last c.2 (λ k. let t = occurs_tail k x (y ∷ ks) in let o = once k in omega (arith, t, o)) (pushes_tail next prev next' prev' e last x (y ∷ ks) p) in
    let l = last_in next prev (Some x) (next x) y ks last c.2 in
    let not_last : last ≢ Some x =
    λ h. let s : l.0 ≡ x = some_inj l.0 x (sym l.1 ∙ h) in
    let twice : 0 < occurs x (y ∷ ks) = subst (λ (j : ℕ). 0 < occurs j (y ∷ ks)) s l.2 in
    let o : cond (eqb x x) 1 0 + occurs x (y ∷ ks) ≤ 1 = once x in
    let o2 = rw (eq-eqb x x refl) at o in
    omega (arith, twice, o2)
    in
    let kept : next' x ≡ pushed (next x) e = rw (p.next_kept x here not_last, c.2.0) refl in
    (rw c.0 refl, p.prev_kept x here ∙ c.1, rw kept rest)

-- ---- one side of the arena

pub owned : (o : Option ℕ) (v : ℕ) → 0 < if_end o v → o ≡ Some v
owned None v h = absurd (omega arith)
owned (Some u) v h =
    elim (cases_eq u v) [
      | inl e ↦ ap Some e
      | inr n ↦ absurd (let g = rw (eqb_other u v n) at h in omega (arith, g))
    ]

pub if_end_le : (o : Option ℕ) (v : ℕ) → if_end o v ≤ 1
if_end_le None v = omega arith
if_end_le (Some u) v = grind (arith, nat_tests)

pub member_owned : (row : ℕ → Option EdgeList) (next prev owner : ℕ → Option ℕ) (v k : ℕ) → IsFlank row next prev owner → 0 < occurs k (row_keys next (row v)) → owner k ≡ Some v
member_owned row next prev owner v k s h = let o = s.once v k in owned (owner k) v (omega (arith, o, h))

pub last_member : (next prev : ℕ → Option ℕ) (at : Option ℕ) (ks : List ℕ) (last : Option ℕ) (k : ℕ) → IsChain next prev None at ks last → last ≡ Some k → 0 < occurs k ks
last_member next prev at [] last k c h = let e : None ≡ Some k = sym c.1 ∙ h in cc
last_member next prev at (x ∷ ks) last k c h =
    let l = last_in next prev None at x ks last c in
    subst (λ (j : ℕ). 0 < occurs j (x ∷ ks)) (some_inj l.0 k (sym l.1 ∙ h)) l.2

pub some_row_inj : (a b : EdgeList) → Some a ≡ Some b → a ≡ b
some_row_inj a b h = cc

pub occurs-append : (k : ℕ) (xs ys : List ℕ) → occurs k (xs ++ ys) ≡ occurs k xs + occurs k ys
occurs-append k [] ys = omega arith
occurs-append k (x ∷ xs) ys = let i = occurs-append k xs ys in omega (arith, i)

-- the last key of a row is one of the node's own
pub row_last_owned : (row : ℕ → Option EdgeList) (next prev owner : ℕ → Option ℕ) (v k : ℕ) (r : EdgeList) → IsFlank row next prev owner → row v ≡ Some r → r.last ≡ Some k → owner k ≡ Some v
row_last_owned row next prev owner v k r s is l =
    let here : row_keys next (row v) ≡ follow next r.count r.first = rw is refl in
    member_owned row next prev owner v k s (rw here (last_member next prev r.first (follow next r.count r.first) r.last k (s.rows v r is).chain l))

-- a free edge went to the end of a node's list, and nothing else changed
pub record Appends (row row' : ℕ → Option EdgeList) (next next' prev prev' owner owner' : ℕ → Option ℕ) (v e : ℕ) (r r' : EdgeList) : Type 0 where
  pub was_row : row v ≡ Some r
  pub was_free : owner e ≡ None
  pub is_row : row' v ≡ Some r'
  pub first : r'.first ≡ pushed r.first e
  pub last : r'.last ≡ Some e
  pub count : r'.count ≡ r.count + 1
  pub rows_kept : (u : ℕ) → u ≢ v → row' u ≡ row u
  pub owner_is : owner' e ≡ Some v
  pub owners_kept : (k : ℕ) → k ≢ e → owner' k ≡ owner k
  pub last_next : (k : ℕ) → k ≢ e → r.last ≡ Some k → next' k ≡ Some e
  pub next_kept : (k : ℕ) → k ≢ e → r.last ≢ Some k → next' k ≡ next k
  pub prev_kept : (k : ℕ) → k ≢ e → prev' k ≡ prev k
  pub ends : next' e ≡ None
  pub comes_after : prev' e ≡ r.last

module _ (row row' : ℕ → Option EdgeList) (next next' prev prev' owner owner' : ℕ → Option ℕ) (v e : ℕ) (r r' : EdgeList) (s : IsFlank row next prev owner) (a : Appends row row' next next' prev prev' owner owner' v e r r') where
  not_new : (u k : ℕ) → 0 < occurs k (row_keys next (row u)) → k ≢ e
  not_new u k h same =
      let o : owner e ≡ Some u = subst (λ (j : ℕ). owner j ≡ Some u) same (member_owned row next prev owner u k s h) in
      let bad : None ≡ Some u = sym a.was_free ∙ o in
      cc

  own_chain : IsChain next' prev' None (pushed r.first e) (follow next r.count r.first ++ e ∷ []) (Some e)
  own_chain =
      let here : row_keys next (row v) ≡ follow next r.count r.first = rw a.was_row refl in
      let new : (k : ℕ) → 0 < occurs k (follow next r.count r.first) → k ≢ e = λ k h. not_new v k (rw here h) in
      chain_push next prev next' prev' e None r.first (follow next r.count r.first) r.last (s.rows v r a.was_row).chain
      (λ k. let o = s.once v k in let o2 = rw here at o in let l = if_end_le (owner k) v in omega (arith, o2, l))
      (record {
        prev_kept = λ k h. a.prev_kept k (new k h);
        next_kept = λ k h n. a.next_kept k (new k h) n;
        last_next = λ k h l. a.last_next k (new k h) l;
        ends = a.ends;
        comes_after = a.comes_after;
      })

  own_length : length (follow next r.count r.first ++ e ∷ []) ≡ r'.count
  own_length = let c = (s.rows v r a.was_row).counted in let d = a.count in omega (arith, c, d, length-append (follow next r.count r.first) (e ∷ []))

  pub own_follow : follow next' r'.count r'.first ≡ follow next r.count r.first ++ e ∷ []
  own_follow = rw (a.first, ← own_length) (follow_is next' prev' None (pushed r.first e) (follow next r.count r.first ++ e ∷ []) (Some e) own_chain)

  -- the node's list gained the edge
  pub own_keys : row_keys next' (row' v) ≡ row_keys next (row v) ++ e ∷ []
  own_keys = rw (a.is_row, a.was_row) own_follow

  own_row : IsRow next' prev' r'
  own_row = record { counted = rw own_follow own_length; chain = rw (own_follow, a.first, a.last) own_chain }

  not_last : (u k : ℕ) → u ≢ v → 0 < occurs k (row_keys next (row u)) → r.last ≢ Some k
  not_last u k other h l =
      let here : row_keys next (row v) ≡ follow next r.count r.first = rw a.was_row refl in
      let m = last_member next prev r.first (follow next r.count r.first) r.last k (s.rows v r a.was_row).chain l in
      let one : owner k ≡ Some v = member_owned row next prev owner v k s (rw here m) in
      let two : owner k ≡ Some u = member_owned row next prev owner u k s h in
      other (some_inj u v (sym two ∙ one))

  other_row : (u : ℕ) (o : Option EdgeList) → u ≢ v → row u ≡ o → (row_keys next' o ≡ row_keys next o) × ((q : EdgeList) → o ≡ Some q → IsRow next' prev' q)
  other_row u None other is = (refl, λ q h. cc)
  other_row u (Some q) other is =
      let here : row_keys next (row u) ≡ follow next q.count q.first = rw is refl in
      let w = s.rows u q is in
      let c = chain_same next prev next' prev' None q.first (follow next q.count q.first) q.last
      (λ k h. let g : 0 < occurs k (row_keys next (row u)) = rw here h in
      (a.next_kept k (not_new u k g) (not_last u k other g), a.prev_kept k (not_new u k g)))
      w.chain
      in
      let f : follow next' q.count q.first ≡ follow next q.count q.first =
      subst (λ (n : ℕ). follow next' n q.first ≡ follow next q.count q.first) w.counted (follow_is next' prev' None q.first (follow next q.count q.first) q.last c)
      in
      let good : IsRow next' prev' q = record { counted = rw f w.counted; chain = rw f c } in
      (f, λ p h. let e2 : q ≡ p = cc in subst (λ (x : EdgeList). IsRow next' prev' x) e2 good)

  -- every other node's list is as it was
  pub other_keys : (u : ℕ) → u ≢ v → row_keys next' (row' u) ≡ row_keys next (row u)
  other_keys u other = rw (a.rows_kept u other) ((other_row u (row u) other refl).0)

  owner_others : (u k : ℕ) → k ≢ e → if_end (owner' k) u ≡ if_end (owner k) u
  owner_others u k n = rw (a.owners_kept k n) refl

  all_rows : (u : ℕ) (q : EdgeList) → row' u ≡ Some q → IsRow next' prev' q
  all_rows u q is =
      elim (cases_eq u v) [
        | inl same ↦
            let e2 : r' ≡ q = some_row_inj r' q (sym a.is_row ∙ (ap row' (sym same) ∙ is)) in
            subst (λ (x : EdgeList). IsRow next' prev' x) e2 own_row
        | inr other ↦ (other_row u (row u) other refl).1 q (sym (a.rows_kept u other) ∙ is)
      ]

  once_here : (k : ℕ) → occurs k (row_keys next' (row' v)) ≡ if_end (owner' k) v
  once_here k =
      let o = s.once v k in
      rw (own_keys, occurs-append k (row_keys next (row v)) (e ∷ []), o) (elim (cases_eq k e) [
        | inl same ↦
            subst (λ (x : ℕ). if_end (owner x) v + (cond (eqb e x) 1 0 + 0) ≡ if_end (owner' x) v) (sym same)
            (rw (a.was_free, a.owner_is, eq-eqb e e refl, eq-eqb v v refl) refl)
        | inr n ↦
            let ne : e ≢ k = λ h. n (sym h) in
            rw (eqb_other e k ne, owner_others v k n) (omega arith)
      ])

  once_there : (u k : ℕ) → u ≢ v → if_end (owner k) u ≡ if_end (owner' k) u
  once_there u k other =
      elim (cases_eq k e) [
        | inl same ↦
            let ne : v ≢ u = λ h. other (sym h) in
            subst (λ (x : ℕ). if_end (owner x) u ≡ if_end (owner' x) u) (sym same)
            (rw (a.was_free, a.owner_is, eqb_other v u ne) refl)
        | inr n ↦ sym (owner_others u k n)
      ]

  new_once : (u k : ℕ) → occurs k (row_keys next' (row' u)) ≡ if_end (owner' k) u
  new_once u k =
      let o = s.once u k in
      elim (cases_eq u v) [
        | inl same ↦ subst (λ (x : ℕ). occurs k (row_keys next' (row' x)) ≡ if_end (owner' k) x) (sym same) (once_here k)
        | inr other ↦ rw (other_keys u other) (o ∙ once_there u k other)
      ]

  pub flank_append : IsFlank row' next' prev' owner'
  flank_append = record { rows = all_rows; once = new_once }
