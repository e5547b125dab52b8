-- What lists hold, by recursion, through filters, maps and ranges; and the place of a first element that a test names.
use Rattle.std.proofs.Common.{◌≡◌, ◌⊎◌, inl, inr, ⊎_elim, ℕ, zero, suc, ◌+◌, ◌<◌, ◌≤◌, cond, Bool, true, false, List, [], ◌∷◌, ◌++◌, map, length, get_or, refl, sym, ap, ◌∙◌, arith}
use Rattle.std.proofs.lemmas.Bool.{cases_Bool, cases_eq, or_cases, or_left, or_right, false≢true}
use Rattle.std.specs.List.{filter, list_any, range_with_len}

abbrev pub Has : {X : Type 0} → List X → X → Type 0
Has [] x = ⊥
Has (y ∷ ys) x = (y ≡ x) ⊎ Has ys x

-- an element that a list holds and a test passes
abbrev pub Found : {X : Type 0} → (X → Bool) → List X → Type 0
Found {X} test xs = (x : X) × Has xs x × (test x ≡ true)

pub has_filter : {X : Type 0} (test : X → Bool) (xs : List X) (x : X) → Has xs x → test x ≡ true → Has (filter test xs) x
has_filter test [] x h e = absurd h
has_filter test (y ∷ ys) x h e =
    ⊎_elim
    (λ same. let passes : test y ≡ true = ap test same ∙ e in rw passes (inl same))
    (λ rest. ⊎_elim (λ t. rw t (inr (has_filter test ys x rest e))) (λ f. rw f (has_filter test ys x rest e)) (cases_Bool (test y)))
    h

pub filter_has : {X : Type 0} (test : X → Bool) (xs : List X) (x : X) → Has (filter test xs) x → Has xs x × (test x ≡ true)
filter_has test [] x h = absurd h
filter_has test (y ∷ ys) x h = step (test y) refl (filter_has test ys x) h
  where
    step : (b : Bool) → test y ≡ b → (Has (filter test ys) x → Has ys x × (test x ≡ true)) → Has (cond b (y ∷ filter test ys) (filter test ys)) x → Has (y ∷ ys) x × (test x ≡ true)
    step true e on k = ⊎_elim (λ same. (inl same, ap test (sym same) ∙ e)) (λ rest. let r = on rest in (inr r.0, r.1)) k
    step false e on k = let r = on k in (inr r.0, r.1)

pub has_map : {X Y : Type 0} (f : X → Y) (xs : List X) (x : X) → Has xs x → Has (map f xs) (f x)
has_map f [] x h = absurd h
has_map f (y ∷ ys) x h = ⊎_elim (λ same. inl (ap f same)) (λ rest. inr (has_map f ys x rest)) h

pub map_has : {X Y : Type 0} (f : X → Y) (xs : List X) (y : Y) → Has (map f xs) y → (x : X) × Has xs x × (f x ≡ y)
map_has f [] y h = absurd h
map_has f (x ∷ xs) y h = ⊎_elim (λ same. (x, inl refl, same)) (λ rest. let r = map_has f xs y rest in (r.0, inr r.1, r.2)) h

pub has_left : {X : Type 0} (xs ys : List X) (x : X) → Has xs x → Has (xs ++ ys) x
has_left [] ys x h = absurd h
has_left (z ∷ zs) ys x h = ⊎_elim (λ same. inl same) (λ rest. inr (has_left zs ys x rest)) h

pub has_right : {X : Type 0} (xs ys : List X) (x : X) → Has ys x → Has (xs ++ ys) x
has_right [] ys x h = h
has_right (z ∷ zs) ys x h = inr (has_right zs ys x h)

pub append_has : {X : Type 0} (xs ys : List X) (x : X) → Has (xs ++ ys) x → Has xs x ⊎ Has ys x
append_has [] ys x h = inr h
append_has (z ∷ zs) ys x h = ⊎_elim (λ same. inl (inl same)) (λ rest. ⊎_elim (λ l. inl (inr l)) (λ r. inr r) (append_has zs ys x rest)) h

pub has_range : (a n i : ℕ) → a ≤ i → i < a + n → Has (range_with_len a n) i
has_range a zero i h k = absurd (omega (arith, h, k))
has_range a (suc n) i h k =
    elim (cases_eq a i) [
      | inl same ↦ inl same
      | inr other ↦ inr (has_range (a + 1) n i (omega (arith, h, other)) (omega (arith, k)))
    ]

pub range_has : (a n i : ℕ) → Has (range_with_len a n) i → (a ≤ i) × (i < a + n)
range_has a zero i h = absurd h
range_has a (suc n) i h =
    ⊎_elim (λ same. (omega (arith, same), omega (arith, same))) (λ rest. let r = range_has (a + 1) n i rest in (omega (arith, r), omega (arith, r))) h

-- a number of a range from 0
pub below_has : (n i : ℕ) → Has (range_with_len 0 n) i → i < n
below_has n i h = let b = range_has 0 n i h in omega (arith, b)

pub any_has : {X : Type 0} (test : X → Bool) (xs : List X) → list_any test xs ≡ true → Found test xs
any_has test [] h = absurd (false≢true h)
any_has test (y ∷ ys) h =
    ⊎_elim (λ here. (y, inl refl, here)) (λ rest. let r = any_has test ys rest in (r.0, inr r.1, r.2)) (or_cases (test y) (list_any test ys) h)

pub has_any : {X : Type 0} (test : X → Bool) (xs : List X) (x : X) → Has xs x → test x ≡ true → list_any test xs ≡ true
has_any test [] x h e = absurd h
has_any test (y ∷ ys) x h e =
    ⊎_elim (λ same. or_left (test y) (list_any test ys) (ap test same ∙ e)) (λ rest. or_right (test y) (list_any test ys) (has_any test ys x rest e)) h

pub has_at : {X : Type 0} (xs : List X) (i : ℕ) (d : X) → i < length xs → Has xs (get_or xs i d)
has_at [] i d h = absurd (omega (arith, h))
has_at (x ∷ xs) zero d h = inl refl
has_at (x ∷ xs) (suc i) d h = inr (has_at xs i d (omega (arith, h)))

-- the place at which a list has an element
pub at_has : {X : Type 0} (xs : List X) (d x : X) → Has xs x → (i : ℕ) × (i < length xs) × (get_or xs i d ≡ x)
at_has [] d x h = absurd h
at_has (y ∷ ys) d x h = ⊎_elim (λ same. (0, omega arith, same)) (λ rest. let r = at_has ys d x rest in let less = r.1 in (suc r.0, omega (arith, less), r.2)) h
