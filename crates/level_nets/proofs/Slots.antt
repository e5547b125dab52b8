-- There are at most two slots for each net.
use Rattle.std.proofs.Common.{◌≡◌, ◌⊎◌, inl, ⊎_elim, ℕ, ◌+◌, ◌-◌, ◌<◌, ◌≤◌, ltb, cond, List, map, length, get_or, sym, subst, ap, ◌∙◌, arith}
use Rattle.std.proofs.lemmas.Bool.{cases_lt, lt-ltb, le-ltb}
use Rattle.std.proofs.lemmas.List.FromFn.{length-map-range_with_len, get_or-map-range_with_len}
use Rattle.std.specs.List.{range_with_len}
use Rattle.net_routes.specs.declared.Net.{Net}
use Rattle.net_routes.specs.declared.NetRoute.{NetRoute}
use Rattle.net_routes.specs.declared.NetRoute.TheVariants.{Straight, One, Two}
use Rattle.net_routes.specs.Pieces.{route_at}
use Rattle.net_routes.specs.GapFree.{GapFree, StandsIn}
use Rattle.net_routes.proofs.Lists.{few_below}

-- a function that reaches all numbers below n from those below m
few_reached : (f : ℕ → ℕ) (n m : ℕ) → ((s : ℕ) → s < n → (i : ℕ) × (i < m) × (f i ≡ s)) → n ≤ m
few_reached f n m found =
    let pick : (s : ℕ) → (i : ℕ) × (s < n → (i < m) × (f i ≡ s)) =
    λ s. ⊎_elim
    (λ less. let at = found s less in (at.0, λ l. (at.1, at.2)))
    (λ (more : n ≤ s). (0, λ less. absurd (omega (arith, less, more))))
    (cases_lt s n) in
    let back : ℕ → ℕ = λ s. (pick s).0 in
    let long : length (map back (range_with_len 0 n)) ≡ n = length-map-range_with_len back 0 n in
    let at : (i : ℕ) → i < n → get_or (map back (range_with_len 0 n)) i 0 ≡ back i = λ i less. get_or-map-range_with_len back 0 n i i 0 less (omega arith) in
    subst (λ z. z ≤ m) long
    (few_below (map back (range_with_len 0 n)) m
    (λ i less. let inside : i < n = omega (arith, less, long) in subst (λ z. z < m) (sym (at i inside)) ((pick i).1 inside).0)
    (λ i j less within same.
    let inside : j < n = omega (arith, within, long) in
    let before : i < n = omega (arith, less, inside) in
    let one : i ≡ j = sym ((pick i).1 before).1 ∙ ap f (sym (at i before) ∙ same ∙ at j inside) ∙ ((pick j).1 inside).1 in
    omega (arith, less, one)))

first_of : NetRoute → ℕ
first_of Straight = 0
first_of (One t) = t
first_of (Two t h u) = t

second_of : NetRoute → ℕ
second_of Straight = 0
second_of (One t) = t
second_of (Two t h u) = u

stands_as : (r : NetRoute) (s : ℕ) → StandsIn r s → (first_of r ≡ s) ⊎ (second_of r ≡ s)
unfolding first_of second_of
stands_as Straight s h = absurd h
stands_as (One t) s h = inl h
stands_as (Two t h u) s k = k

pub few_slots : (nets : List Net) (count : ℕ) (routes : List NetRoute) → GapFree nets count routes → count ≤ length nets + length nets
few_slots nets count routes free =
    let n = length nets in
    let f : ℕ → ℕ = λ i. cond (ltb i (length nets)) (first_of (route_at routes i)) (second_of (route_at routes (i - length nets))) in
    few_reached f count (length nets + length nets)
    (λ s less.
    let used = free.slots_used s less in
    let k = used.0 in
    let within = used.1 in
    ⊎_elim
    (λ (first : first_of (route_at routes k) ≡ s). (k, omega (arith, within), rw (lt-ltb k (length nets) within) first))
    (λ (second : second_of (route_at routes k) ≡ s).
    let same : length nets + k - length nets ≡ k = omega arith in
    (length nets + k, omega (arith, within), rw (le-ltb (length nets + k) (length nets) (omega arith), same) second))
    (stands_as (route_at routes k) s used.2))
