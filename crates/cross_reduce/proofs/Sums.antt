-- Sums and counts over lists, and over all pairs of a list.
use Rattle.std.proofs.Common.{◌≡◌, ℕ, ◌+◌, List, [], ◌∷◌, Bool, true, false, ◌&&◌, cond, map, refl, arith, sym, ◌∙◌, ap, ltb}
use Rattle.std.specs.List.{All, sum_by, count_by, filter}
use Rattle.std.proofs.lemmas.List.Sums.{sum_by-cons}
use Rattle.std.proofs.lemmas.List.Elements.{All-head, All-tail}

abbrev pub one_if : Bool → ℕ
one_if b = cond b 1 0

-- the sum over all pairs, the second one in front
abbrev pub double : {X : Type 0} → (X → X → ℕ) → List X → ℕ
double F xs = sum_by (λ a. sum_by (λ b. F b a) xs) xs

pub quad_sum : {X : Type 0} (f k h g : X → ℕ) (xs : List X) → All (λ x. f x + k x ≡ h x + g x) xs → sum_by f xs + sum_by k xs ≡ sum_by h xs + sum_by g xs
quad_sum f k h g [] e = refl
quad_sum {X} f k h g (x ∷ xs) e =
    let here : f x + k x ≡ h x + g x = All-head (λ (x : X). f x + k x ≡ h x + g x) x xs e in
    let rest = quad_sum f k h g xs (All-tail (λ (x : X). f x + k x ≡ h x + g x) x xs e) in
    rw (sum_by-cons f x xs, sum_by-cons k x xs, sum_by-cons h x xs, sum_by-cons g x xs) (omega (arith, here, rest))

pub sum_plus : {X : Type 0} (f g : X → ℕ) (xs : List X) → sum_by (λ x. f x + g x) xs ≡ sum_by f xs + sum_by g xs
sum_plus f g [] = refl
sum_plus {X} f g (x ∷ xs) =
    let rest = sum_plus f g xs in
    rw (sum_by-cons (λ (x : X). f x + g x) x xs, sum_by-cons f x xs, sum_by-cons g x xs) (omega (arith, rest))

pub sum_same : {X : Type 0} (f g : X → ℕ) (xs : List X) → ((x : X) → f x ≡ g x) → sum_by f xs ≡ sum_by g xs
sum_same f g [] e = refl
sum_same f g (x ∷ xs) e =
    let rest = sum_same f g xs e in let here = e x in
    rw (sum_by-cons f x xs, sum_by-cons g x xs) (omega (arith, here, rest))

pub sum_zero : {X : Type 0} (xs : List X) → sum_by (λ (x : X). 0) xs ≡ 0
sum_zero [] = refl
sum_zero {X} (x ∷ xs) = let rest = sum_zero xs in rw (sum_by-cons (λ (x : X). 0) x xs) (omega (arith, rest))

pub quad : {X : Type 0} (f k h g : X → X → ℕ) (xs : List X) → All (λ a. All (λ b. f b a + k b a ≡ h b a + g b a) xs) xs → double f xs + double k xs ≡ double h xs + double g xs
quad {X} f k h g xs e =
    quad_sum (λ a. sum_by (λ b. f b a) xs) (λ a. sum_by (λ b. k b a) xs) (λ a. sum_by (λ b. h b a) xs) (λ a. sum_by (λ b. g b a) xs) xs
    (Rattle.std.proofs.lemmas.List.Elements.All-weaker (λ a. All (λ b. f b a + k b a ≡ h b a + g b a) xs)
    (λ a. sum_by (λ b. f b a) xs + sum_by (λ b. k b a) xs ≡ sum_by (λ b. h b a) xs + sum_by (λ b. g b a) xs)
    (λ a all. quad_sum (λ b. f b a) (λ b. k b a) (λ b. h b a) (λ b. g b a) xs all) xs e)

pub double_plus : {X : Type 0} (f g : X → X → ℕ) (xs : List X) → double (λ b a. f b a + g b a) xs ≡ double f xs + double g xs
double_plus f g xs =
    sum_same (λ a. sum_by (λ b. f b a + g b a) xs) (λ a. sum_by (λ b. f b a) xs + sum_by (λ b. g b a) xs) xs (λ a. sum_plus (λ b. f b a) (λ b. g b a) xs)
    ∙ sum_plus (λ a. sum_by (λ b. f b a) xs) (λ a. sum_by (λ b. g b a) xs) xs

pub sum_swap : {X Y : Type 0} (F : X → Y → ℕ) (xs : List X) (ys : List Y) → sum_by (λ a. sum_by (λ b. F a b) ys) xs ≡ sum_by (λ b. sum_by (λ a. F a b) xs) ys
sum_swap F [] ys = sym (sum_zero ys)
sum_swap {X} {Y} F (x ∷ xs) ys =
    let rest = sum_swap F xs ys in
    let split : sum_by (λ (b : Y). sum_by (λ (a : X). F a b) (x ∷ xs)) ys ≡ sum_by (λ b. F x b) ys + sum_by (λ b. sum_by (λ a. F a b) xs) ys =
    sum_same (λ (b : Y). sum_by (λ (a : X). F a b) (x ∷ xs)) (λ b. F x b + sum_by (λ a. F a b) xs) ys (λ b. sum_by-cons (λ a. F a b) x xs)
    ∙ sum_plus (λ b. F x b) (λ b. sum_by (λ a. F a b) xs) ys
    in
    rw (sum_by-cons (λ (a : X). sum_by (λ b. F a b) ys) x xs, split) (omega (arith, rest))

pub sum_filter : {X : Type 0} (p : X → Bool) (f : X → ℕ) (xs : List X) → sum_by f (filter p xs) ≡ sum_by (λ x. cond (p x) (f x) 0) xs
sum_filter p f [] = refl
sum_filter {X} p f (x ∷ xs) =
    rw (sum_by-cons (λ (x : X). cond (p x) (f x) 0) x xs, ← sum_filter p f xs) (step (p x))
  where
    step : (b : Bool) → sum_by f (cond b (x ∷ filter p xs) (filter p xs)) ≡ cond b (f x) 0 + sum_by f (filter p xs)
    step true = sum_by-cons f x (filter p xs)
    step false = sym (Rattle.std.proofs.Common.zero-add _)

pub sum_map : {X Y : Type 0} (k : X → Y) (f : Y → ℕ) (xs : List X) → sum_by f (map k xs) ≡ sum_by (λ x. f (k x)) xs
sum_map k f [] = refl
sum_map {X} k f (x ∷ xs) =
    let rest = sum_map k f xs in
    rw (sum_by-cons f (k x) (map k xs), sum_by-cons (λ (x : X). f (k x)) x xs) (omega (arith, rest))

pub guarded : {X : Type 0} (b : Bool) (f : X → Bool) (xs : List X) → cond b (count_by f xs) 0 ≡ count_by (λ x. b && f x) xs
guarded true f xs = refl
guarded false f xs = sym (sum_zero xs)

both_tests : (p q : Bool) → cond p (one_if q) 0 ≡ one_if (p && q)
both_tests true q = refl
both_tests false q = refl

pub count_filter : {X : Type 0} (p q : X → Bool) (xs : List X) → count_by q (filter p xs) ≡ count_by (λ x. p x && q x) xs
count_filter {X} p q xs =
    sum_filter p (λ x. one_if (q x)) xs ∙ sum_same (λ (x : X). cond (p x) (one_if (q x)) 0) (λ x. one_if (p x && q x)) xs (λ x. both_tests (p x) (q x))

-- the pairs of keys that descend, as a sum over all pairs of a list
pub descents_are : {X : Type 0} (k : X → ℕ) (p q : X → Bool) (xs : List X) → sum_by (λ y. count_by (λ x. ltb y x) (map k (filter p xs))) (map k (filter q xs)) ≡ sum_by (λ a. count_by (λ b. q a && (p b && ltb (k a) (k b))) xs) xs
descents_are {X} k p q xs =
    sum_map k (λ y. count_by (λ x. ltb y x) (map k (filter p xs))) (filter q xs)
    ∙ sum_filter q (λ a. count_by (λ x. ltb (k a) x) (map k (filter p xs))) xs
    ∙ sum_same (λ (a : X). cond (q a) (count_by (λ x. ltb (k a) x) (map k (filter p xs))) 0) (λ a. count_by (λ b. q a && (p b && ltb (k a) (k b))) xs) xs
    (λ a. ap (λ (n : ℕ). cond (q a) n 0) (sum_map k (λ x. one_if (ltb (k a) x)) (filter p xs) ∙ count_filter p (λ b. ltb (k a) (k b)) xs)
    ∙ guarded (q a) (λ b. p b && ltb (k a) (k b)) xs)
