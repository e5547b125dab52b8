-- Crossings as a sum over all pairs, in any order of the links.
use Rattle.std.proofs.Common.{◌≡◌, ℕ, zero, suc, ◌+◌, ◌<◌, ◌≤◌, List, [], ◌∷◌, length, get_or, take, drop, map, Bool, true, false, ◌&&◌, ◌||◌, cond, refl, arith, sym, ◌∙◌, ap, inl, inr, ltb, eqb, eq-eqb}
use Rattle.std.proofs.lemmas.Bool.{cases_eq, ne_eqb, and_right}
use Rattle.std.specs.List.{sum_by, count_by}
use Rattle.std.specs.List.Sorted.{IsPermutation}
use Rattle.std.proofs.lemmas.List.Sums.{sum_by-cons}
use Rattle.std.proofs.lemmas.List.Sorted.{sum_by-IsPermutation}
use Rattle.elk_layers.specs.declared.units.Link.{Link}
use Rattle.elk_layers.specs.Layered.{Plain, gap_of, tail_key, head_key}
use Rattle.elk_layers.specs.Crossings.{cross, crossings_among, crossings}
use Rattle.cross_reduce.specs.declared.counting.LinkEnd.{LinkEnd}
use Rattle.cross_reduce.specs.Pins.{pin_of, pins_of, is_under, crossed}
use Rattle.cross_reduce.proofs.Sums.{one_if, double, sum_same, sum_plus, sum_map}
use Rattle.cross_reduce.proofs.PairLemmas.{any_pair}

double_cons : {X : Type 0} (F : X → X → ℕ) (x : X) (xs : List X) → double F (x ∷ xs) ≡ (F x x + sum_by (λ b. F b x) xs) + (sum_by (λ a. F x a) xs + double F xs)
double_cons {X} F x xs =
    let inner : sum_by (λ (a : X). sum_by (λ b. F b a) (x ∷ xs)) xs ≡ sum_by (λ a. F x a) xs + double F xs =
    sum_same (λ (a : X). sum_by (λ b. F b a) (x ∷ xs)) (λ a. F x a + sum_by (λ b. F b a) xs) xs (λ a. sum_by-cons (λ b. F b a) x xs)
    ∙ sum_plus (λ a. F x a) (λ a. sum_by (λ b. F b a) xs) xs
    in
    rw (sum_by-cons (λ (a : X). sum_by (λ b. F b a) (x ∷ xs)) x xs, sum_by-cons (λ b. F b x) x xs, inner) refl

eqb_comm : (a b : ℕ) → eqb a b ≡ eqb b a
eqb_comm a b =
    elim (cases_eq a b) [
      | inl e ↦ eq-eqb a b e ∙ sym (eq-eqb b a (sym e))
      | inr n ↦ ne_eqb a b n ∙ sym (ne_eqb b a (λ k. n (sym k)))
    ]

not_less : (a b : ℕ) → ltb a b ≡ true → ltb b a ≡ true → ⊥
not_less a b h k = grind (arith, h, k)

never_less : (a : ℕ) → ltb a a ≡ false
never_less a = grind arith

either_way : (g p q s t : Bool) → (p ≡ true → s ≡ true → ⊥) → one_if (g && ((p && q) || (s && t))) ≡ one_if (g && (p && q)) + one_if (g && (s && t))
either_way false p q s t h = refl
either_way true true q true t h = absurd (h refl refl)
either_way true true true false t h = refl
either_way true true false false t h = refl
either_way true false q true true h = refl
either_way true false q true false h = refl
either_way true false q false t h = refl

cross_is : (l : Plain) (rows : List (List ℕ)) (a b : Link) → one_if (cross l rows a b) ≡ any_pair l rows a b + any_pair l rows b a
cross_is l rows a b =
    rw (eqb_comm (gap_of l b) (gap_of l a))
    (either_way (eqb (gap_of l a) (gap_of l b)) (ltb (tail_key l rows a) (tail_key l rows b)) (ltb (head_key l rows b) (head_key l rows a)) (ltb (tail_key l rows b) (tail_key l rows a)) (ltb (head_key l rows a) (head_key l rows b))
    (not_less (tail_key l rows a) (tail_key l rows b)))

itself : (l : Plain) (rows : List (List ℕ)) (a : Link) → any_pair l rows a a ≡ 0
itself l rows a = rw (never_less (tail_key l rows a), and_right (eqb (gap_of l a) (gap_of l a)) (false && (ltb (head_key l rows a) (head_key l rows a))) refl) refl

among : (l : Plain) (rows : List (List ℕ)) (links : List Link) → crossings_among l rows links ≡ double (any_pair l rows) links
among l rows [] = refl
among l rows (x ∷ xs) =
    let rest = among l rows xs in
    let here : count_by (cross l rows x) xs ≡ sum_by (λ b. any_pair l rows x b) xs + sum_by (λ b. any_pair l rows b x) xs =
    sum_same (λ b. one_if (cross l rows x b)) (λ b. any_pair l rows x b + any_pair l rows b x) xs (λ b. cross_is l rows x b)
    ∙ sum_plus (λ b. any_pair l rows x b) (λ b. any_pair l rows b x) xs
    in
    let none = itself l rows x in
    rw (double_cons (any_pair l rows) x xs) (omega (arith, rest, here, none))

pub crossings_are : (l : Plain) (rows : List (List ℕ)) → crossings l rows ≡ double (any_pair l rows) l.links
crossings_are l rows = among l rows l.links

abbrev under : LinkEnd → LinkEnd → ℕ
under b a = one_if (is_under b a)

pub crossed_permuted : (xs ys : List LinkEnd) → IsPermutation xs ys → crossed ys ≡ crossed xs
crossed_permuted xs ys p =
    sum_same (λ (a : LinkEnd). sum_by (λ b. under b a) ys) (λ a. sum_by (λ b. under b a) xs) ys (λ a. sum_by-IsPermutation (λ b. under b a) xs ys p)
    ∙ sum_by-IsPermutation (λ (a : LinkEnd). sum_by (λ b. under b a) xs) xs ys p

pub crossed_is : (l : Plain) (rows : List (List ℕ)) → crossed (pins_of l rows) ≡ crossings l rows
crossed_is l rows =
    sum_map (pin_of l rows) (λ a. sum_by (λ b. under b a) (map (pin_of l rows) l.links)) l.links
    ∙ sum_same (λ (a : Link). sum_by (λ b. under b (pin_of l rows a)) (map (pin_of l rows) l.links)) (λ a. sum_by (λ b. any_pair l rows b a) l.links) l.links
    (λ a. sum_map (pin_of l rows) (λ b. under b (pin_of l rows a)) l.links)
    ∙ sym (crossings_are l rows)

-- a count of which only a part of the list counts
pub count_drop : {X : Type 0} (p : X → Bool) (d : X) (k : ℕ) (xs : List X) → ((j : ℕ) → j < k → j < length xs → p (get_or xs j d) ≡ false) → count_by p xs ≡ count_by p (drop k xs)
count_drop p d zero xs h = refl
count_drop p d (suc k) [] h = refl
count_drop {X} p d (suc k) (x ∷ xs) h =
    let first : p x ≡ false = h 0 (omega arith) (omega arith) in
    let rest = count_drop p d k xs (λ j less l. h (suc j) (omega (arith, less)) (omega (arith, l))) in
    rw (sum_by-cons (λ (y : X). cond (p y) 1 0) x xs, first) (omega (arith, rest))

pub count_take : {X : Type 0} (p : X → Bool) (d : X) (m : ℕ) (xs : List X) → ((j : ℕ) → m ≤ j → j < length xs → p (get_or xs j d) ≡ false) → count_by p xs ≡ count_by p (take m xs)
count_take p d zero xs h = count_drop p d (length xs) xs (λ j less l. h j (omega arith) l) ∙ ap (count_by p) (Rattle.std.proofs.lemmas.List.drop_all (length xs) xs (omega arith))
count_take p d (suc m) [] h = refl
count_take {X} p d (suc m) (x ∷ xs) h =
    let rest = count_take p d m xs (λ j less l. h (suc j) (omega (arith, less)) (omega (arith, l))) in
    rw (sum_by-cons (λ (y : X). cond (p y) 1 0) x xs, sum_by-cons (λ (y : X). cond (p y) 1 0) x (take m xs)) (omega (arith, rest))

pub count_same : {X Y : Type 0} (p : X → Bool) (q : Y → Bool) (f : X → Y) (d : X) (xs : List X) → ((j : ℕ) → j < length xs → p (get_or xs j d) ≡ q (f (get_or xs j d))) → count_by p xs ≡ count_by q (map f xs)
count_same p q f d [] h = refl
count_same {X} {Y} p q f d (x ∷ xs) h =
    let first : p x ≡ q (f x) = h 0 (omega arith) in
    let rest = count_same p q f d xs (λ j l. h (suc j) (omega (arith, l))) in
    rw (sum_by-cons (λ (y : X). cond (p y) 1 0) x xs, sum_by-cons (λ (y : Y). cond (q y) 1 0) (f x) (map f xs), first) (omega (arith, rest))
