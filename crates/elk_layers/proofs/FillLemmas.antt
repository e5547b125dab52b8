-- Lists that are filled one element after the other.
use Rattle.std.proofs.Common.{◌≡◌, ℕ, ◌<◌, ◌+◌, ◌-◌, List, [], ◌∷◌, ◌++◌, length, get_or, arith, sym, ◌∙◌, ap, subst, length-append}
use Rattle.std.proofs.lemmas.List.{get_or_append_left, get_or-append_right}
use borrow.Author.Count.{below_more}

pub push_more : {X : Type 0} (P : ℕ → X → Type 0) (xs : List X) (n : ℕ) (x d : X) → length xs ≡ n → ((u : ℕ) → u < n → P u (get_or xs u d)) → P n x → (length (xs ++ x ∷ []) ≡ n + 1) × ((u : ℕ) → u < n + 1 → P u (get_or (xs ++ x ∷ []) u d))
push_more P xs n x d long all is =
    let e : length (xs ++ x ∷ []) ≡ length xs + 1 = length-append xs (x ∷ []) in
    let none : n - n ≡ 0 = omega arith in
    let last : get_or (xs ++ x ∷ []) n d ≡ x = get_or-append_right xs (x ∷ []) n n d long (omega arith) ∙ ap (λ i. get_or (x ∷ []) i d) none in (
      omega (arith, e, long),
      below_more (λ u. P u (get_or (xs ++ x ∷ []) u d)) n
          (λ u h. subst (P u) (sym (get_or_append_left xs (x ∷ []) d u (omega (arith, h, long)))) (all u h))
          (subst (P n) (sym last) is),
    )
