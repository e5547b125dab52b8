-- Weaving keeps both orders and repeats no name.
use Rattle.std.proofs.Common.{◌≡◌, ℕ, ◌+◌, ◌≤◌, ◌==◌, cond, not, List, [], ◌∷◌, ◌++◌, Bool, true, false, arith, refl, sym, ◌∙◌, ap, subst, inl, inr, true≢false, eq-eqb, ne_eqb}
use Rattle.std.specs.List.{filter}
use Rattle.std.proofs.lemmas.Bool.{cases_eq, cases_lt, cases_Bool}
use Rattle.elk_layers.proofs.OccursLemmas.{occurs-append, occurs_first, occurs_filter}
use Rattle.unit_blocks.specs.Weaving.{IsSublist, until, past, woven, CanWeave}
use Rattle.elk_layers.specs.Occurring.{occurs, HasNoRepeat}

-- sublists

pub sub_skip : (xs : List ℕ) (y : ℕ) (ys : List ℕ) → IsSublist xs ys → IsSublist xs (y ∷ ys)
sub_skip [] y ys h = tt
sub_skip (x ∷ xs) y ys h = inr h

pub sub_tail : (x : ℕ) (xs ys : List ℕ) → IsSublist (x ∷ xs) ys → IsSublist xs ys
sub_tail x xs [] h = absurd h
sub_tail x xs (y ∷ ys) (inl h) = sub_skip xs y ys h.1
sub_tail x xs (y ∷ ys) (inr h) = sub_skip xs y ys (sub_tail x xs ys h)

pub sub_refl : (xs : List ℕ) → IsSublist xs xs
sub_refl [] = tt
sub_refl (x ∷ xs) = inl (refl, sub_refl xs)

pub sub_trans : (xs ys zs : List ℕ) → IsSublist xs ys → IsSublist ys zs → IsSublist xs zs
sub_trans [] ys zs h k = tt
sub_trans (x ∷ xs) [] zs h k = absurd h
sub_trans (x ∷ xs) (y ∷ ys) [] h k = absurd k
sub_trans (x ∷ xs) (y ∷ ys) (z ∷ zs) (inl h) (inl k) = inl (h.0 ∙ k.0, sub_trans xs ys zs h.1 k.1)
sub_trans (x ∷ xs) (y ∷ ys) (z ∷ zs) (inr h) (inl k) = inr (sub_trans (x ∷ xs) ys zs h k.1)
sub_trans (x ∷ xs) (y ∷ ys) (z ∷ zs) h (inr k) = inr (sub_trans (x ∷ xs) (y ∷ ys) zs h k)

pub sub_under : (us xs ys : List ℕ) → IsSublist xs ys → IsSublist (us ++ xs) (us ++ ys)
sub_under [] xs ys h = h
sub_under (u ∷ us) xs ys h = inl (refl, sub_under us xs ys h)

pub sub_behind : (us xs ys : List ℕ) → IsSublist xs ys → IsSublist xs (us ++ ys)
sub_behind [] xs ys h = h
sub_behind (u ∷ us) xs ys h = sub_skip xs u (us ++ ys) (sub_behind us xs ys h)

pub sub_filter : (test : ℕ → Bool) (xs : List ℕ) → IsSublist (filter test xs) xs
sub_filter test [] = tt
sub_filter test (x ∷ xs) = elim (cases_Bool (test x)) [
  | inl t ↦ rw t (inl (refl, sub_filter test xs))
  | inr f ↦ rw f (sub_skip (filter test xs) x xs (sub_filter test xs))
]

pub sub_occurs : (xs ys : List ℕ) → IsSublist xs ys → (n : ℕ) → occurs n xs ≤ occurs n ys
sub_occurs [] ys h n = omega arith
sub_occurs (x ∷ xs) [] h n = absurd h
sub_occurs (x ∷ xs) (y ∷ ys) (inl h) n = let r = sub_occurs xs ys h.1 n in rw h.0 (omega (arith, r))
sub_occurs (x ∷ xs) (y ∷ ys) (inr h) n = let r = sub_occurs (x ∷ xs) ys h n in omega (arith, r)

-- before and after a name

pub split_at : (n : ℕ) (names : List ℕ) → 1 ≤ occurs n names → names ≡ until n names ++ n ∷ past n names
split_at n [] h = absurd (omega (arith, h))
split_at n (m ∷ ms) h = elim (cases_eq m n) [
  | inl e ↦ rw (eq-eqb m n e) (ap (λ x. x ∷ ms) e)
  | inr ne ↦
      let k : 1 ≤ cond (m == n) 1 0 + occurs n ms = h in
      rw (ne_eqb m n ne) (ap (λ xs. m ∷ xs) (split_at n ms (let q = rw (ne_eqb m n ne) at k in omega (arith, q))))
]

pub occurs_past : (m n : ℕ) (names : List ℕ) → occurs m (past n names) ≤ occurs m names
occurs_past m n [] = omega arith
occurs_past m n (x ∷ xs) = elim (cases_Bool (x == n)) [
  | inl t ↦ rw t (omega arith)
  | inr f ↦ let h = occurs_past m n xs in rw f (omega (arith, h))
]

pub sub_first : (n : ℕ) (xs ys : List ℕ) → IsSublist (n ∷ xs) ys → 1 ≤ occurs n ys
sub_first n xs ys h = let a = occurs_first n xs in let b = sub_occurs (n ∷ xs) ys h n in omega (arith, a, b)

pub sub_past : (n : ℕ) (xs ys : List ℕ) → IsSublist (n ∷ xs) ys → IsSublist xs (past n ys)
sub_past n xs [] h = absurd h
sub_past n xs (y ∷ ys) (inl h) = rw (eq-eqb y n (sym h.0)) h.1
sub_past n xs (y ∷ ys) (inr h) = elim (cases_Bool (y == n)) [
  | inl t ↦ rw t (sub_tail n xs ys h)
  | inr f ↦ rw f (sub_past n xs ys h)
]

-- weaving

pub weave_known : (known : ℕ → Bool) (names row : List ℕ) (n : ℕ) → known n ≡ true → CanWeave known names (n ∷ row) → (1 ≤ occurs n names) × CanWeave known (past n names) row
weave_known known names row n t c =
    let s : IsSublist (n ∷ filter known row) names = rw t at c.in_order in (
      sub_first n (filter known row) names s,
      record {
        in_order = sub_past n (filter known row) names s;
        all_known = λ m h. c.all_known m (let p = occurs_past m n names in omega (arith, p, h));
      },
    )

pub weave_new : (known : ℕ → Bool) (names row : List ℕ) (n : ℕ) → known n ≡ false → CanWeave known names (n ∷ row) → CanWeave known names row
weave_new known names row n f c = record { in_order = rw f at c.in_order; all_known = c.all_known }

pub woven_names : (known : ℕ → Bool) (names row : List ℕ) → CanWeave known names row → IsSublist names (woven known names row)
woven_names known names [] c = sub_refl names
woven_names known names (n ∷ row) c = elim (cases_Bool (known n)) [
  | inl t ↦
      let w = weave_known known names row n t c in
      rw t (subst (λ xs. IsSublist xs (until n names ++ n ∷ woven known (past n names) row)) (sym (split_at n names w.0))
      (sub_under (until n names) (n ∷ past n names) (n ∷ woven known (past n names) row) (inl (refl, woven_names known (past n names) row w.1))))
  | inr f ↦ rw f (sub_skip names n (woven known names row) (woven_names known names row (weave_new known names row n f c)))
]

pub woven_row : (known : ℕ → Bool) (names row : List ℕ) → IsSublist row (woven known names row)
woven_row known names [] = tt
woven_row known names (n ∷ row) = elim (cases_Bool (known n)) [
  | inl t ↦ rw t (sub_behind (until n names) (n ∷ row) (n ∷ woven known (past n names) row) (inl (refl, woven_row known (past n names) row)))
  | inr f ↦ rw f (inl (refl, woven_row known names row))
]

-- each name stands in the woven list as often as in the list and among the row's new names
pub woven_occurs : (known : ℕ → Bool) (names row : List ℕ) → CanWeave known names row → (m : ℕ) → occurs m (woven known names row) ≡ occurs m names + occurs m (filter (λ n. not (known n)) row)
woven_occurs known names [] c m = omega arith
woven_occurs known names (n ∷ row) c m = elim (cases_Bool (known n)) [
  | inl t ↦
      let w = weave_known known names row n t c in
      let rest = woven_occurs known (past n names) row w.1 m in
      let all : occurs m names ≡ occurs m (until n names ++ n ∷ past n names) = ap (occurs m) (split_at n names w.0) in
      let old = occurs-append m (until n names) (n ∷ past n names) in
      let new = occurs-append m (until n names) (n ∷ woven known (past n names) row) in
      rw t (omega (arith, rest, all, old, new))
  | inr f ↦
      let rest = woven_occurs known names row (weave_new known names row n f c) m in
      rw f (omega (arith, rest))
]

pub woven_once : (known : ℕ → Bool) (names row : List ℕ) → CanWeave known names row → HasNoRepeat names → HasNoRepeat row → HasNoRepeat (woven known names row)
woven_once known names row c a b m =
    let all = woven_occurs known names row c m in
    elim (cases_Bool (known m)) [
      | inl t ↦
          let none = occurs_filter (λ n. not (known n)) row m (ap not t) in
          let one = a m in
          omega (arith, all, none, one)
      | inr f ↦
          let one = b m in
          let few = sub_occurs (filter (λ n. not (known n)) row) row (sub_filter (λ n. not (known n)) row) m in
          elim (cases_lt 0 (occurs m names)) [
            | inl some ↦ absurd (true≢false (sym (c.all_known m (omega (arith, some))) ∙ f))
            | inr none ↦ omega (arith, all, one, few, none)
          ]
    ]
