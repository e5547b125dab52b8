-- A row woven into a linked list.
use Rattle.std.proofs.Common.{◌≡◌, ◌≢◌, ℕ, ◌<◌, ◌≤◌, ◌+◌, ◌==◌, cond, List, [], ◌∷◌, ◌++◌, length, drop, get_or, set, Bool, true, false, arith, refl, sym, ◌∙◌, ap, subst, inl, inr, Option, length-set, get_or-set_same, get_or-set_other, append_assoc, eq-eqb, ne_eqb}
use Rattle.std.proofs.lemmas.Bool.{cases_eq}
use Rattle.std.proofs.lemmas.List.{drop_more, drop_all}
use Rattle.unit_blocks.specs.Weaving.{until, past, woven, CanWeave}
use Rattle.unit_blocks.specs.Blocks.{names_of, name_at}
use Rattle.unit_blocks.specs.Chains.{IsChain, inserted_after, last_of, has_entry, IsWeavable, IsWovenAt, StepsTo}
use Rattle.unit_blocks.proofs.WeavingLemmas.{split_at, sub_occurs, woven_names, weave_known, weave_new}
use Rattle.elk_layers.specs.Occurring.{occurs, HasNoRepeat}
use Rattle.elk_layers.proofs.OccursLemmas.{occurs-append, occurs_first}

one_self : (n : ℕ) → occurs n (n ∷ []) ≡ 1
one_self n = rw (eq-eqb n n refl) (omega arith)

-- links that agree at each element make the same chain
chain_frame : (next next' : List ℕ) (x : ℕ) (ys : List ℕ) (end : ℕ) → ((m : ℕ) → 1 ≤ occurs m (x ∷ ys) → get_or next' m 0 ≡ get_or next m 0) → IsChain next x ys end → IsChain next' x ys end
chain_frame next next' x [] end same c = same x (occurs_first x []) ∙ c
chain_frame next next' x (y ∷ ys) end same c = (
  same x (occurs_first x (y ∷ ys)) ∙ c.0,
  chain_frame next next' y ys end (λ m h. same m (omega (arith, h))) c.1,
)

last_occurs : (x : ℕ) (ys : List ℕ) → 1 ≤ occurs (last_of x ys) (x ∷ ys)
last_occurs x [] = occurs_first x []
last_occurs x (y ∷ ys) = let h = last_occurs y ys in omega (arith, h)

last_push : (x : ℕ) (ys : List ℕ) (n : ℕ) → last_of x (ys ++ n ∷ []) ≡ n
last_push x [] n = refl
last_push x (y ∷ ys) n = last_push y ys n

differ : (m n : ℕ) (xs : List ℕ) → 1 ≤ occurs m xs → occurs n xs ≡ 0 → m ≢ n
differ m n xs h none e = let q : occurs m xs ≡ occurs n xs = ap (λ k. occurs k xs) e in omega (arith, h, none, q)

first_once : (x : ℕ) (ys : List ℕ) → HasNoRepeat (x ∷ ys) → (m : ℕ) → 1 ≤ occurs m ys → x ≢ m
first_once x ys once m h e =
    let o : cond (x == m) 1 0 + occurs m ys ≤ 1 = once m in
    let q = rw (eq-eqb x m e) at o in
    omega (arith, q, h)

rest_once : (x : ℕ) (ys : List ℕ) → HasNoRepeat (x ∷ ys) → HasNoRepeat ys
rest_once x ys once m = let o : cond (x == m) 1 0 + occurs m ys ≤ 1 = once m in omega (arith, o)

not_first : (x n : ℕ) (ys : List ℕ) → occurs n (x ∷ ys) ≡ 0 → (x ≢ n) × (occurs n ys ≡ 0)
not_first x n ys none =
    let o : cond (x == n) 1 0 + occurs n ys ≡ 0 = none in
    ((λ e. let q = rw (eq-eqb x n e) at o in omega (arith, q)), omega (arith, o))

pub chain_insert : (next : List ℕ) (x : ℕ) (before after : List ℕ) (end n : ℕ) → IsChain next x (before ++ after) end
    → HasNoRepeat (x ∷ before ++ after) → occurs n (x ∷ before ++ after) ≡ 0 → last_of x before < length next → n < length next
    → IsChain (inserted_after next (last_of x before) n) x (before ++ n ∷ after) end
chain_insert next x [] after end n c once none hx hn =
    let apart = not_first x n after none in
    let one : List ℕ = set next n (get_or next x 0) in
    let here : get_or (set one x n) x 0 ≡ n = get_or-set_same one x n 0 (let e = length-set next n (get_or next x 0) in omega (arith, e, hx)) in
    let there : get_or (set one x n) n 0 ≡ get_or next x 0 =
    get_or-set_other one x n n 0 (λ e. apart.0 (sym e)) ∙ get_or-set_same next n (get_or next x 0) 0 hn in
    let same : (m : ℕ) → 1 ≤ occurs m after → get_or (set one x n) m 0 ≡ get_or next m 0 =
    λ m h. get_or-set_other one x m n 0 (λ e. first_once x after once m h (sym e))
    ∙ get_or-set_other next n m (get_or next x 0) 0 (differ m n after h apart.1) in
    (here, onward after (set one x n) c there same)
  where
    onward : (after next' : List ℕ) → IsChain next x after end → get_or next' n 0 ≡ get_or next x 0 → ((m : ℕ) → 1 ≤ occurs m after → get_or next' m 0 ≡ get_or next m 0) → IsChain next' n after end
    onward [] next' c there same = there ∙ c
    onward (y ∷ ys) next' c there same = (there ∙ c.0, chain_frame next next' y ys end same c.1)
chain_insert next x (y ∷ before) after end n c once none hx hn =
    let apart = not_first x n (y ∷ before ++ after) none in
    let last : ℕ = last_of y before in
    let lo = last_occurs y before in
    let ap' = occurs-append last (y ∷ before) after in
    let far : x ≢ last = first_once x (y ∷ before ++ after) once last (omega (arith, lo, ap')) in
    let keep : get_or (inserted_after next last n) x 0 ≡ get_or next x 0 =
    get_or-set_other (set next n (get_or next last 0)) last x n 0 far ∙ get_or-set_other next n x (get_or next last 0) 0 apart.0 in
    (keep ∙ c.0, chain_insert next y before after end n c.1 (rest_once x (y ∷ before ++ after) once) apart.1 hx hn)

module _ (known : ℕ → Bool) (order row : List ℕ) (into : List (Option ℕ)) (names : List ℕ) (end : ℕ) (w : IsWeavable known order row into names end) where
  pub weave_start : (next : List ℕ) → IsChain next end order end → IsWovenAt known order row names end 0 end next
  weave_start next c = record { before = []; after = order; chain = c; cursor_is = refl; can = w.can; target = refl }

  pub weave_end : (at cursor : ℕ) (next : List ℕ) → length row ≤ at → IsWovenAt known order row names end at cursor next → IsChain next end (woven known order (names_of names row)) end
  weave_end at cursor next h s =
      let all : drop at row ≡ [] = drop_all at row h in
      let t : s.before ++ s.after ≡ woven known order (names_of names row) = rw all at s.target in
      subst (λ xs. IsChain next end xs end) t s.chain

  module _ (at cursor : ℕ) (next : List ℕ) (h : at < length row) (s : IsWovenAt known order row names end at cursor next) where
    abbrev unit : ℕ
    unit = get_or row at 0

    abbrev name : ℕ
    name = name_at names unit

    abbrev rest : List ℕ
    rest = names_of names (drop (at + 1) row)

    cut : names_of names (drop at row) ≡ name ∷ rest
    cut = ap (names_of names) (drop_more row at 0 h)

    can_here : CanWeave known s.after (name ∷ rest)
    can_here = rw cut at s.can

    target_here : s.before ++ woven known s.after (name ∷ rest) ≡ woven known order (names_of names row)
    target_here = rw cut at s.target

    pub weave_entered : has_entry into unit ≡ true → IsWovenAt known order row names end (at + 1) name next
    weave_entered e =
        let k : known name ≡ true = w.entered at h ∙ e in
        let p = weave_known known s.after rest name k can_here in
        let head : List ℕ = s.before ++ until name s.after in
        let parts : s.before ++ s.after ≡ (head ++ name ∷ []) ++ past name s.after =
        ap (λ xs. s.before ++ xs) (split_at name s.after p.0)
        ∙ sym (append_assoc s.before (until name s.after) (name ∷ past name s.after))
        ∙ sym (append_assoc head (name ∷ []) (past name s.after)) in
        let is : woven known s.after (name ∷ rest) ≡ until name s.after ++ name ∷ woven known (past name s.after) rest = rw k refl in
        record {
          before = head ++ name ∷ [];
          after = past name s.after;
          chain = subst (λ xs. IsChain next end xs end) parts s.chain;
          cursor_is = sym (last_push end head name);
          can = p.1;
          target = append_assoc head (name ∷ []) (woven known (past name s.after) rest)
              ∙ append_assoc s.before (until name s.after) (name ∷ woven known (past name s.after) rest)
              ∙ ap (λ xs. s.before ++ xs) (sym is) ∙ target_here;
        }

    pub weave_own : has_entry into unit ≡ false → length next ≡ end + 1 → IsWovenAt known order row names end (at + 1) unit (inserted_after next cursor unit)
    weave_own e long =
        let own : name ≡ unit = w.own at h e in
        let k : known name ≡ false = w.entered at h ∙ e in
        let can' = weave_new known s.after rest name k can_here in
        let is : woven known s.after (name ∷ rest) ≡ name ∷ woven known s.after rest = rw k refl in
        let target' : s.before ++ name ∷ woven known s.after rest ≡ woven known order (names_of names row) = ap (λ xs. s.before ++ xs) (sym is) ∙ target_here in
        let all : (m : ℕ) → occurs m (woven known order (names_of names row)) ≡ occurs m s.before + (cond (name == m) 1 0 + occurs m (woven known s.after rest)) =
        λ m. ap (occurs m) (sym target') ∙ occurs-append m s.before (name ∷ woven known s.after rest) in
        let few : (m : ℕ) → occurs m s.after ≤ occurs m (woven known s.after rest) = sub_occurs s.after (woven known s.after rest) (woven_names known s.after rest can') in
        let both : (m : ℕ) → occurs m (s.before ++ s.after) ≡ occurs m s.before + occurs m s.after = λ m. occurs-append m s.before s.after in
        let here : 1 ≤ occurs name (woven known order (names_of names row)) = let a = all name in let q = one_self name in omega (arith, a, q) in
        let below : name < end = w.below name here in
        let once : HasNoRepeat (end ∷ s.before ++ s.after) = λ m. elim (cases_eq end m) [
          | inl is_end ↦
              let none : occurs m (s.before ++ s.after) ≡ 0 = elim (cases_eq (occurs m (s.before ++ s.after)) 0) [
                | inl z ↦ z
                | inr some ↦
                    let a = all m in let f = few m in let b = both m in
                    let bad = w.below m (omega (arith, a, f, b, some)) in
                    absurd (omega (arith, bad, is_end))
              ] in
              rw (eq-eqb end m is_end, none) (omega arith)
          | inr ne ↦ let a = all m in let f = few m in let b = both m in let o = w.no_repeat m in rw (ne_eqb end m ne) (omega (arith, a, f, b, o))
        ] in
        let none : occurs unit (end ∷ s.before ++ s.after) ≡ 0 =
        let a = all name in let f = few name in let b = both name in let o = w.no_repeat name in
        let q = one_self name in
        let z : occurs name (s.before ++ s.after) ≡ 0 = omega (arith, a, f, b, o, q) in
        let z' : occurs unit (s.before ++ s.after) ≡ 0 = subst (λ m. occurs m (s.before ++ s.after) ≡ 0) own z in
        rw (ne_eqb end unit (λ i. omega (arith, i, below, own)), z') refl in
        let last_in : 1 ≤ occurs (last_of end s.before) (end ∷ s.before) = last_occurs end s.before in
        let last_small : last_of end s.before < end + 1 = elim (cases_eq end (last_of end s.before)) [
          | inl i ↦ omega (arith, i)
          | inr ne ↦
              let q : 1 ≤ cond (end == last_of end s.before) 1 0 + occurs (last_of end s.before) s.before = last_in in
              let q' = rw (ne_eqb end (last_of end s.before) ne) at q in
              let a = all (last_of end s.before) in
              let b = w.below (last_of end s.before) (omega (arith, q', a)) in
              omega (arith, b)
        ] in
        record {
          before = s.before ++ unit ∷ [];
          after = s.after;
          chain = rw s.cursor_is (subst (λ xs. IsChain (inserted_after next (last_of end s.before) unit) end xs end) (sym (append_assoc s.before (unit ∷ []) s.after))
              (chain_insert next end s.before s.after end unit s.chain once none (omega (arith, last_small, long)) (omega (arith, below, own, long))));
          cursor_is = sym (last_push end s.before unit);
          can = can';
          target = append_assoc s.before (unit ∷ []) (woven known s.after rest) ∙ ap (λ n. s.before ++ n ∷ woven known s.after rest) (sym own) ∙ target';
        }

  pub weave_more : (at cursor cursor' : ℕ) (next next' : List ℕ) → at < length row → length next ≡ end + 1 → IsWovenAt known order row names end at cursor next
      → StepsTo into names (get_or row at 0) cursor next cursor' next' → IsWovenAt known order row names end (at + 1) cursor' next'
  weave_more at cursor cursor' next next' h long s (inl k) = rw (k.1, k.2) (weave_entered at cursor next h s k.0)
  weave_more at cursor cursor' next next' h long s (inr k) = rw (k.1, k.2) (weave_own at cursor next h s k.0 long)

pub steps_below : (into : List (Option ℕ)) (names : List ℕ) (u cursor cursor' end : ℕ) (next next' : List ℕ) → u < end → name_at names u < end → StepsTo into names u cursor next cursor' next' → cursor' < end + 1
steps_below into names u cursor cursor' end next next' hu hn (inl k) = let e = k.1 in omega (arith, e, hn)
steps_below into names u cursor cursor' end next next' hu hn (inr k) = let e = k.1 in omega (arith, e, hu)

pub steps_long : (into : List (Option ℕ)) (names : List ℕ) (u cursor cursor' : ℕ) (next next' : List ℕ) → StepsTo into names u cursor next cursor' next' → length next' ≡ length next
steps_long into names u cursor cursor' next next' (inl k) = ap length k.2
steps_long into names u cursor cursor' next next' (inr k) = ap length k.2 ∙ length-set (set next u (get_or next cursor 0)) cursor u ∙ length-set next u (get_or next cursor 0)
