-- Filters and maps of lists, numbers that are named once, and places in a list of names.
use Rattle.std.proofs.Common.{◌≡◌, inl, inr, ⊎_elim, ℕ, zero, suc, ◌+◌, ◌-◌, ◌<◌, ◌≤◌, cond, Bool, true, false, List, [], ◌∷◌, ◌++◌, map, length, get_or, refl, sym, subst, ap, ◌∙◌, arith}
use Rattle.std.proofs.lemmas.Bool.{cases_Bool}
use Rattle.std.proofs.lemmas.List.{length-map, get_or-map}
use Rattle.std.specs.List.{All, filter, range_with_len}
use Rattle.level_model.proofs.Lists.{Has, has_at, filter_has, range_has}
use Rattle.net_routes.proofs.Lists.{few_below}

-- tests that agree on what a list holds filter it alike, and functions that do so map it alike
pub filter_same : {X : Type 0} (f g : X → Bool) (xs : List X) → ((x : X) → Has xs x → f x ≡ g x) → filter f xs ≡ filter g xs
filter_same f g [] h = refl
filter_same {X} f g (x ∷ xs) h =
    let rest = filter_same f g xs (λ y k. h y (inr k)) in
    ap (λ (b : Bool). cond b (x ∷ filter f xs) (filter f xs)) (h x (inl refl)) ∙ ap (λ (ys : List X). cond (g x) (x ∷ ys) ys) rest

pub map_same : {X Y : Type 0} (f g : X → Y) (xs : List X) → ((x : X) → Has xs x → f x ≡ g x) → map f xs ≡ map g xs
map_same f g [] h = refl
map_same {X} {Y} f g (x ∷ xs) h =
    let rest = map_same f g xs (λ y k. h y (inr k)) in
    ap (λ (y : Y). y ∷ map f xs) (h x (inl refl)) ∙ ap (λ (ys : List Y). g x ∷ ys) rest

pub filter_append : {X : Type 0} (f : X → Bool) (xs ys : List X) → filter f (xs ++ ys) ≡ filter f xs ++ filter f ys
filter_append f [] ys = refl
filter_append f (x ∷ xs) ys =
    ⊎_elim
    (λ t. rw t (ap (λ zs. x ∷ zs) (filter_append f xs ys)))
    (λ n. rw n (filter_append f xs ys))
    (cases_Bool (f x))

pub filter_short : {X : Type 0} (f : X → Bool) (xs : List X) → length (filter f xs) ≤ length xs
filter_short f [] = omega arith
filter_short f (x ∷ xs) =
    let rest = filter_short f xs in
    ⊎_elim (λ t. rw t (omega (arith, rest))) (λ n. rw n (omega (arith, rest))) (cases_Bool (f x))

-- what holds of all that a function gives
pub all_mapped : {X Y : Type 0} (P : Y → Type 0) (f : X → Y) (d : X) (xs : List X) → ((x : X) → Has xs x → P (f x)) → All P (map f xs)
all_mapped P f d xs h k e less =
    let inside : k < length xs = let same = length-map xs f in omega (arith, same, less) in
    subst P (sym (get_or-map f xs k d e inside)) (h (get_or xs k d) (has_at xs k d inside))

-- a filtered range rises
rises : (test : ℕ → Bool) (a n : ℕ) (b : Bool) (i j : ℕ)
    → ((i j : ℕ) → i < j → j < length (filter test (range_with_len (a + 1) n)) → get_or (filter test (range_with_len (a + 1) n)) i 0 < get_or (filter test (range_with_len (a + 1) n)) j 0)
    → i < j → j < length (cond b (a ∷ filter test (range_with_len (a + 1) n)) (filter test (range_with_len (a + 1) n)))
    → get_or (cond b (a ∷ filter test (range_with_len (a + 1) n)) (filter test (range_with_len (a + 1) n))) i 0 < get_or (cond b (a ∷ filter test (range_with_len (a + 1) n)) (filter test (range_with_len (a + 1) n))) j 0
rises test a n false i j again h k = again i j h k
rises test a n true i zero again h k = absurd (omega (arith, h))
rises test a n true zero (suc j) again h k =
    let low = (range_has (a + 1) n _ (filter_has test (range_with_len (a + 1) n) _ (has_at (filter test (range_with_len (a + 1) n)) j 0 (omega (arith, k)))).0).0 in
    omega (arith, low)
rises test a n true (suc i) (suc j) again h k = again i j (omega (arith, h)) (omega (arith, k))

pub rising : (test : ℕ → Bool) (a n i j : ℕ) → i < j → j < length (filter test (range_with_len a n)) → get_or (filter test (range_with_len a n)) i 0 < get_or (filter test (range_with_len a n)) j 0
rising test a zero i j h k = absurd (omega (arith, k))
rising test a (suc n) i j h k = rises test a n (test a) i j (rising test (a + 1) n) h k

-- where a number names each of those below n that pass a test, few pass
pub few_named : (test : ℕ → Bool) (f : ℕ → ℕ) (n bound : ℕ) → ((k : ℕ) → k < n → test k ≡ true → f k < bound)
    → ((j k : ℕ) → j < n → k < n → test j ≡ true → test k ≡ true → f j ≡ f k → j ≡ k) → length (filter test (range_with_len 0 n)) ≤ bound
few_named test f n bound below alone =
    let ks : List ℕ = filter test (range_with_len 0 n) in
    let in_range : (i : ℕ) → i < length ks → (get_or ks i 0 < n) × (test (get_or ks i 0) ≡ true) =
    λ i less. let has = filter_has test (range_with_len 0 n) (get_or ks i 0) (has_at ks i 0 less) in
    let low = (range_has 0 n (get_or ks i 0) has.0).1 in (omega (arith, low), has.1) in
    let long : length (map f ks) ≡ length ks = length-map ks f in
    let at : (i : ℕ) → i < length ks → get_or (map f ks) i 0 ≡ f (get_or ks i 0) = λ i less. get_or-map f ks i 0 0 less in
    subst (λ z. z ≤ bound) long
    (few_below (map f ks) bound
    (λ i less. let inside : i < length ks = omega (arith, less, long) in rw (at i inside) (below (get_or ks i 0) (in_range i inside).0 (in_range i inside).1))
    (λ i j h less same.
    let inside : j < length ks = omega (arith, less, long) in
    let before : i < length ks = omega (arith, h, inside) in
    let one : get_or ks i 0 ≡ get_or ks j 0 =
    alone (get_or ks i 0) (get_or ks j 0) (in_range i before).0 (in_range j inside).0 (in_range i before).1 (in_range j inside).1 (sym (at i before) ∙ same ∙ at j inside) in
    let up = rising test 0 n i j h inside in
    omega (arith, one, up)))

-- a range up to a number and behind it
pub range_split : (a k m : ℕ) → range_with_len a (k + m) ≡ range_with_len a k ++ range_with_len (a + k) m
range_split a zero m =
    let e : zero + m ≡ m = omega arith in
    let f : a + zero ≡ a = omega arith in
    rw (e, f) refl
range_split a (suc k) m =
    let e : suc k + m ≡ suc (k + m) = omega arith in
    let f : a + suc k ≡ a + 1 + k = omega arith in
    rw (e, f) (ap (λ ns. a ∷ ns) (range_split (a + 1) k m))

pub range_at : (n k : ℕ) → k < n → range_with_len 0 n ≡ range_with_len 0 k ++ k ∷ range_with_len (k + 1) (n - suc k)
range_at n k h =
    let e : n ≡ k + suc (n - suc k) = omega (arith, h) in
    let f : 0 + k ≡ k = omega arith in
    subst (λ m. range_with_len 0 m ≡ range_with_len 0 k ++ k ∷ range_with_len (k + 1) (n - suc k)) (sym e)
    (range_split 0 k (suc (n - suc k)) ∙ ap (λ (z : ℕ). range_with_len 0 k ++ z ∷ range_with_len (z + 1) (n - suc k)) f)
