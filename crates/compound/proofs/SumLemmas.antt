-- The sizes of the children of a node together, where each node is no larger than its children and a cost of its own.
use Rattle.std.proofs.Common.{◌≡◌, inl, inr, ⊎_elim, ℕ, zero, suc, ◌+◌, ◌*◌, ◌-◌, ◌<◌, ◌≤◌, ◌^◌, ◌==◌, ◌&&◌, not, cond, nat_lt, Bool, true, false, ℤ, pos, ◌+ℤ◌, ◌≤ℤ◌, length, Option, Some, None, unwrap_or, refl, ap, arith, rules, eq-eqb, ne_eqb, lt-ltb, le-ltb, ltb-false, eqb-true, mul-le-mul_left}
use Rattle.std.proofs.lemmas.Bool.{cases_Bool, cases_lt, cases_order}
use Rattle.std.proofs.lemmas.Int.{ints}
use Rattle.std.specs.Prelude.{IsNone, IsSome}
use Rattle.elk_doc.specs.Document.{Document, node_at, parent_of}
use Rattle.elk_doc.specs.Fits.{child_count, edge_count}
use Rattle.elk_doc.specs.Level.{is_child, is_edge_of, is_number, level_of_edge}
use Rattle.elk_doc.specs.Numbers.{count_below, total_below}
use Rattle.elk_doc.specs.Sound.{IsSound}
use Rattle.elk_doc.proofs.NumberLaws.{count_below-zero}
use Rattle.level_io.proofs.GroupLemmas.{count_few}

-- ---- sums of numbers that pass

-- what a number counts with where it passes
abbrev worth : Bool → ℤ → ℤ
worth b z = cond b z (pos 0)

-- two sums that change places number by number
total_split : (a b x y : ℕ → Bool) (s : ℕ → ℤ) (m : ℕ) → ((k : ℕ) → k < m → (worth (a k) (s k) +ℤ worth (b k) (s k)) ≡ (worth (x k) (s k) +ℤ worth (y k) (s k)))
    → (total_below a s m +ℤ total_below b s m) ≡ (total_below x s m +ℤ total_below y s m)
unfolding total_below
total_split a b x y s zero h = refl
total_split a b x y s (suc m) h =
    let before = total_split a b x y s m (λ k l. h k (omega (arith, l))) in
    let here = h m (omega arith) in
    both (total_below a s m) (total_below b s m) (total_below x s m) (total_below y s m) (worth (a m) (s m)) (worth (b m) (s m)) (worth (x m) (s m)) (worth (y m) (s m)) before here
  where
    both : (a b x y e f g h : ℤ) → (a +ℤ b) ≡ (x +ℤ y) → (e +ℤ f) ≡ (g +ℤ h) → ((a +ℤ e) +ℤ (b +ℤ f)) ≡ ((x +ℤ g) +ℤ (y +ℤ h))
    both a b x y e f g h p q = omega (arith, ints, p, q)

total_none : (t : ℕ → Bool) (s : ℕ → ℤ) (m : ℕ) → ((k : ℕ) → k < m → t k ≡ false) → total_below t s m ≡ pos 0
unfolding total_below
total_none t s zero h = refl
total_none t s (suc m) h =
    let before = total_none t s m (λ k l. h k (omega (arith, l))) in
    rw (h m (omega arith)) (omega (arith, ints, before))

total_one : (s : ℕ → ℤ) (n m : ℕ) → n < m → total_below (λ k. k == n) s m ≡ s n
unfolding total_below
total_one s n zero h = absurd (omega (arith, h))
total_one s n (suc m) h =
    ⊎_elim
    (λ less. let before = total_one s n m less in rw (ne_eqb m n (λ e. absurd (omega (arith, e, less)))) (omega (arith, ints, before)))
    (λ (last : m ≤ n).
    let same : m ≡ n = omega (arith, h, last) in
    let before = total_none (λ k. k == n) s m (λ k l. ne_eqb k n (λ e. absurd (omega (arith, e, l, same)))) in
    let here : s m ≡ s n = ap s same in
    rw (eq-eqb m n same) (omega (arith, ints, before, here)))
    (cases_lt n m)

-- more numbers that are not negative
total_within : (a b : ℕ → Bool) (s : ℕ → ℤ) (m : ℕ) → ((k : ℕ) → k < m → a k ≡ true → b k ≡ true) → ((k : ℕ) → k < m → b k ≡ true → pos 0 ≤ℤ s k)
    → total_below a s m ≤ℤ total_below b s m
unfolding total_below
total_within a b s zero h least = omega (arith, ints)
total_within a b s (suc m) h least =
    let before = total_within a b s m (λ k l. h k (omega (arith, l))) (λ k l. least k (omega (arith, l))) in
    let here = step (a m) (b m) (s m) (h m (omega arith)) (least m (omega arith)) in
    both _ _ _ _ before here
  where
    step : (a b : Bool) (z : ℤ) → (a ≡ true → b ≡ true) → (b ≡ true → pos 0 ≤ℤ z) → worth a z ≤ℤ worth b z
    step true true z on low = omega (arith, ints)
    step true false z on low = absurd (let bad : false ≡ true = on refl in cc)
    step false true z on low = low refl
    step false false z on low = omega (arith, ints)

    both : (a b c d : ℤ) → a ≤ℤ b → c ≤ℤ d → (a +ℤ c) ≤ℤ (b +ℤ d)
    both a b c d h k = omega (arith, ints, h, k)

pub total_least : (t : ℕ → Bool) (s : ℕ → ℤ) (m : ℕ) → ((k : ℕ) → k < m → t k ≡ true → pos 0 ≤ℤ s k) → pos 0 ≤ℤ total_below t s m
total_least t s m h =
    let none = total_none (λ k. false) s m (λ k l. refl) in
    let within = total_within (λ k. false) t s m (λ k l is. absurd (let bad : false ≡ true = is in cc)) h in
    omega (arith, ints, none, within)

-- ---- nodes from m on whose parents stand before m

abbrev is_exposed : Document → ℕ → ℕ → Bool
is_exposed d m k = not (nat_lt k m) && nat_lt (parent_of d k) m

-- a node among those that are exposed, by its number and that of its parent, where there is one before it
exchange : (o : Option ℕ) (k n : ℕ) (z : ℤ) → 0 < n → (IsNone o → k ≡ 0) → (IsSome o → unwrap_or o 0 < k)
    → (worth (not (nat_lt k n) && nat_lt (unwrap_or o 0) n) z +ℤ worth (is_number o n) z)
    ≡ (worth (not (nat_lt k (suc n)) && nat_lt (unwrap_or o 0) (suc n)) z +ℤ worth (k == n) z)
exchange None k n z up root below =
    let first : k ≡ 0 = root (search rules) in
    let a : nat_lt k n ≡ true = lt-ltb k n (omega (arith, first, up)) in
    let b : nat_lt k (suc n) ≡ true = lt-ltb k (suc n) (omega (arith, first)) in
    let c : (k == n) ≡ false = ne_eqb k n (λ e. absurd (omega (arith, e, first, up))) in
    rw (a, b, c) refl
exchange (Some q) k n z up root below =
    let less : q < k = below (search rules) in
    elim (cases_order k n) [
      | inl same ↦
          let a : nat_lt k n ≡ false = le-ltb k n (omega (arith, same)) in
          let b : nat_lt k (suc n) ≡ true = lt-ltb k (suc n) (omega (arith, same)) in
          let c : (k == n) ≡ true = eq-eqb k n same in
          let e : nat_lt q n ≡ true = lt-ltb q n (omega (arith, same, less)) in
          let f : (q == n) ≡ false = ne_eqb q n (λ s. absurd (omega (arith, same, less, s))) in
          rw (a, b, c, e, f) (omega (arith, ints))
      | inr (inl early) ↦
          let a : nat_lt k n ≡ true = lt-ltb k n early in
          let b : nat_lt k (suc n) ≡ true = lt-ltb k (suc n) (omega (arith, early)) in
          let c : (k == n) ≡ false = ne_eqb k n (λ s. absurd (omega (arith, early, s))) in
          let f : (q == n) ≡ false = ne_eqb q n (λ s. absurd (omega (arith, early, less, s))) in
          rw (a, b, c, f) refl
      | inr (inr late) ↦
          let a : nat_lt k n ≡ false = le-ltb k n (omega (arith, late)) in
          let b : nat_lt k (suc n) ≡ false = le-ltb k (suc n) (omega (arith, late)) in
          let c : (k == n) ≡ false = ne_eqb k n (λ s. absurd (omega (arith, late, s))) in
          rw (a, b, c) (parents q n z)
    ]
  where
    parents : (q n : ℕ) (z : ℤ) → (worth (nat_lt q n) z +ℤ worth (q == n) z) ≡ (worth (nat_lt q (suc n)) z +ℤ pos 0)
    parents q n z =
        elim (cases_order q n) [
          | inl same ↦
              let e : nat_lt q n ≡ false = le-ltb q n (omega (arith, same)) in
              let f : (q == n) ≡ true = eq-eqb q n same in
              let g : nat_lt q (suc n) ≡ true = lt-ltb q (suc n) (omega (arith, same)) in
              rw (e, f, g) (omega (arith, ints))
          | inr (inl early) ↦
              let e : nat_lt q n ≡ true = lt-ltb q n early in
              let f : (q == n) ≡ false = ne_eqb q n (λ s. absurd (omega (arith, early, s))) in
              let g : nat_lt q (suc n) ≡ true = lt-ltb q (suc n) (omega (arith, early)) in
              rw (e, f, g) (omega (arith, ints))
          | inr (inr late) ↦
              let e : nat_lt q n ≡ false = le-ltb q n (omega (arith, late)) in
              let f : (q == n) ≡ false = ne_eqb q n (λ s. absurd (omega (arith, late, s))) in
              let g : nat_lt q (suc n) ≡ false = le-ltb q (suc n) (omega (arith, late)) in
              rw (e, f, g) (omega (arith, ints))
        ]

-- a node without a parent is the root, and every parent stands before its children
no_parent : (d : Document) (k : ℕ) → IsSound d → k < length d.nodes → IsNone (node_at d k).parent → k ≡ 0
no_parent d zero s h none = refl
no_parent d (suc k) s h none = absurd (clash (node_at d (suc k)).parent none (s.tree.parents (suc k) (omega arith) h).parent)
  where
    clash : (o : Option ℕ) → IsNone o → IsSome o → ⊥
    clash None n h = absurd (search rules)
    clash (Some q) n h = absurd (search rules)

parent_before : (d : Document) (k : ℕ) → IsSound d → k < length d.nodes → IsSome (node_at d k).parent → parent_of d k < k
parent_before d zero s h some = absurd (clash (node_at d 0).parent s.tree.root_alone some)
  where
    clash : (o : Option ℕ) → IsNone o → IsSome o → ⊥
    clash None n h = absurd (search rules)
    clash (Some q) n h = absurd (search rules)
parent_before d (suc k) s h some = (s.tree.parents (suc k) (omega arith) h).before

-- a child stands behind its node
numbered : (o : Option ℕ) (n : ℕ) → is_number o n ≡ true → IsSome o × (unwrap_or o 0 ≡ n)
numbered None n h = absurd cc
numbered (Some q) n h = (search rules, eqb-true q n h)

pub child_behind : (d : Document) (n k : ℕ) → IsSound d → k < length d.nodes → is_child d n k ≡ true → n < k
child_behind d n k s h is =
    let from = numbered (node_at d k).parent n is in
    let before = parent_before d k s h from.0 in
    let same = from.1 in
    omega (arith, before, same)

-- the room that a level with c children and e edges takes besides its children
abbrev pub room : ℕ → ℕ → ℕ
room c e = c * 2 ^ 25 + 2 ^ 23 * (c + e + c * e + 1)

-- what a node may be larger than its children together: the room of its level, its padding and its pinned ports
abbrev pub cost : Document → ℕ → ℕ
cost d n = room (child_count d n) (edge_count d n) + 2 ^ 23

-- what all nodes before m cost
unfoldable pub costs : Document → ℕ → ℕ
costs d zero = 0
costs d (suc n) = costs d n + cost d n

costs_more : (d : Document) (n : ℕ) → costs d (suc n) ≡ costs d n + cost d n
unfolding costs
costs_more d n = refl

-- no node from m on is larger than its children and its cost
abbrev pub AreCosts : Document → (ℕ → ℤ) → ℕ → Type 0
AreCosts d s m = (k : ℕ) → m ≤ k → k < length d.nodes → s k ≤ℤ (total_below (is_child d k) s (length d.nodes) +ℤ pos (cost d k))

module _ (d : Document) (s : ℕ → ℤ) (sound : IsSound d) where
  exposed_moved : (n : ℕ) → 0 < n → n < length d.nodes
      → (total_below (is_exposed d n) s (length d.nodes) +ℤ total_below (is_child d n) s (length d.nodes)) ≡ (total_below (is_exposed d (suc n)) s (length d.nodes) +ℤ s n)
  exposed_moved n up h =
      let split = total_split (is_exposed d n) (is_child d n) (is_exposed d (suc n)) (λ k. k == n) s (length d.nodes)
      (λ k l. exchange (node_at d k).parent k n (s k) up (no_parent d k sound l) (parent_before d k sound l)) in
      let one = total_one s n (length d.nodes) h in
      omega (arith, ints, split, one)

  exposed_most : (j m : ℕ) → m + j ≡ length d.nodes → 0 < m → AreCosts d s m → (total_below (is_exposed d m) s (length d.nodes) +ℤ pos (costs d m)) ≤ℤ pos (costs d (length d.nodes))
  unfolding costs
  exposed_most zero m e up h =
      let same : m ≡ length d.nodes = omega (arith, e) in
      let none = total_none (is_exposed d m) s (length d.nodes)
      (λ k l. let low : nat_lt k m ≡ true = lt-ltb k m (omega (arith, l, same)) in rw low refl) in
      let cost = ap (costs d) same in
      omega (arith, ints, none, cost)
  exposed_most (suc j) m e up h =
      let inside : m < length d.nodes = omega (arith, e) in
      let rest = exposed_most j (suc m) (omega (arith, e)) (omega arith) (λ k l. h k (omega (arith, l))) in
      let move = exposed_moved m up inside in
      let own = h m (omega arith) inside in
      step _ _ _ _ (costs d m) (cost d m) (costs d (length d.nodes)) move own rest
    where
      step : (a c b z : ℤ) (x y t : ℕ) → (a +ℤ c) ≡ (b +ℤ z) → z ≤ℤ (c +ℤ pos y) → (b +ℤ pos (x + y)) ≤ℤ pos t → (a +ℤ pos x) ≤ℤ pos t
      step a c b z x y t e h k = omega (arith, ints, e, h, k)

  child_exposed : (n k : ℕ) → k < length d.nodes → is_child d n k ≡ true → is_exposed d (suc n) k ≡ true
  child_exposed n k h is =
      let behind = child_behind d n k sound h is in
      let same = (numbered (node_at d k).parent n is).1 in
      let a : nat_lt k (suc n) ≡ false = le-ltb k (suc n) (omega (arith, behind)) in
      let b : nat_lt (parent_of d k) (suc n) ≡ true = lt-ltb (parent_of d k) (suc n) (omega (arith, same)) in
      rw (a, b) refl

  exposed_behind : (n k : ℕ) → is_exposed d (suc n) k ≡ true → n < k
  exposed_behind n k is = step (nat_lt k (suc n)) refl is
    where
      step : (b : Bool) → nat_lt k (suc n) ≡ b → (not b && nat_lt (parent_of d k) (suc n)) ≡ true → n < k
      step true e h = absurd cc
      step false e h = let late = ltb-false k (suc n) e in omega (arith, late)

  -- the children of n, with all up to n, cost no more than all nodes
  pub children_most : (n : ℕ) → n < length d.nodes → ((k : ℕ) → n < k → k < length d.nodes → pos 0 ≤ℤ s k) → AreCosts d s (suc n)
      → (total_below (is_child d n) s (length d.nodes) +ℤ pos (costs d n + cost d n)) ≤ℤ pos (costs d (length d.nodes))
  children_most n h least own =
      let most = exposed_most (length d.nodes - suc n) (suc n) (omega (arith, h)) (omega arith) own in
      let within = total_within (is_child d n) (is_exposed d (suc n)) s (length d.nodes) (λ k l is. child_exposed n k l is) (λ k l is. least k (exposed_behind n k is) l) in
      step (total_below (is_child d n) s (length d.nodes)) (total_below (is_exposed d (suc n)) s (length d.nodes)) (costs d (suc n)) (costs d n + cost d n) (costs d (length d.nodes)) most within (costs_more d n)
    where
      step : (a b : ℤ) (y z t : ℕ) → (b +ℤ pos y) ≤ℤ pos t → a ≤ℤ b → y ≡ z → (a +ℤ pos z) ≤ℤ pos t
      step a b y z t h k e = omega (arith, ints, h, k, e)

-- ---- what all nodes cost

-- the sum over the first numbers
sum_first : (ℕ → ℕ) → ℕ → ℕ
sum_first f zero = 0
sum_first f (suc n) = sum_first f n + f n

first_add : (f g : ℕ → ℕ) (m : ℕ) → sum_first (λ n. f n + g n) m ≡ sum_first f m + sum_first g m
unfolding sum_first
first_add f g zero = refl
first_add f g (suc m) = let before = first_add f g m in omega (arith, before)

first_same : (f g : ℕ → ℕ) (m : ℕ) → ((n : ℕ) → f n ≡ g n) → sum_first f m ≡ sum_first g m
unfolding sum_first
first_same f g zero h = refl
first_same f g (suc m) h = let before = first_same f g m h in let here = h m in omega (arith, before, here)

first_none : (f : ℕ → ℕ) (m : ℕ) → ((n : ℕ) → n < m → f n ≡ 0) → sum_first f m ≡ 0
unfolding sum_first
first_none f zero h = refl
first_none f (suc m) h = let before = first_none f m (λ n l. h n (omega (arith, l))) in let here = h m (omega arith) in omega (arith, before, here)

abbrev one : Bool → ℕ
one b = cond b 1 0

one_number : (q m : ℕ) → sum_first (λ n. one (q == n)) m ≤ 1
unfolding sum_first
one_number q zero = omega arith
one_number q (suc m) =
    elim (cases_Bool (q == m)) [
      | inl e ↦
          let same = eqb-true q m e in
          let before = first_none (λ n. one (q == n)) m (λ n l. rw (ne_eqb q n (λ s. absurd (omega (arith, same, s, l)))) refl) in
          rw e (omega (arith, before))
      | inr e ↦ (let before = one_number q m in rw e (omega (arith, before)))
    ]

one_key : (o : Option ℕ) (m : ℕ) → sum_first (λ n. one (is_number o n)) m ≤ 1
one_key None m = let none = first_none (λ n. one false) m (λ n l. refl) in omega (arith, none)
one_key (Some q) m = one_number q m

count_more : (t : ℕ → Bool) (m : ℕ) → count_below t (suc m) ≡ count_below t m + one (t m)
unfolding count_below
count_more t m = refl

-- numbers that have one key each are counted once
keyed_few : (key : ℕ → Option ℕ) (m many : ℕ) → sum_first (λ n. count_below (λ k. is_number (key k) n) many) m ≤ many
keyed_few key m zero = let none = first_none (λ n. count_below (λ k. is_number (key k) n) 0) m (λ n l. count_below-zero (λ k. is_number (key k) n)) in omega (arith, none)
keyed_few key m (suc many) =
    let before = keyed_few key m many in
    let here = one_key (key many) m in
    let split = first_same (λ n. count_below (λ k. is_number (key k) n) (suc many)) (λ n. count_below (λ k. is_number (key k) n) many + one (is_number (key many) n)) m (λ n. count_more (λ k. is_number (key k) n) many) in
    let both = first_add (λ n. count_below (λ k. is_number (key k) n) many) (λ n. one (is_number (key many) n)) m in
    omega (arith, before, here, split, both)

costs_by : (d : Document) (n : ℕ) → IsSound d
    → costs d n ≤ sum_first (child_count d) n * 2 ^ 25 + 2 ^ 23 * (sum_first (child_count d) n + sum_first (edge_count d) n + sum_first (child_count d) n * 2048 + n) + n * 2 ^ 23
unfolding costs sum_first
costs_by d zero s = omega arith
costs_by d (suc n) s =
    let before = costs_by d n s in
    let few = count_few (is_edge_of d n) (length d.edges) in
    let all = s.few_edges in
    let pairs = mul-le-mul_left (child_count d n) (at_most (edge_count d n) few all) in
    step (costs d n) (child_count d n) (edge_count d n) (child_count d n * edge_count d n) (sum_first (child_count d) n) (sum_first (edge_count d) n) n before pairs
  where
    at_most : (e : ℕ) → e ≤ length d.edges → length d.edges ≤ 2048 → e ≤ 2048
    at_most e h k = omega (arith, h, k)

    step : (t c e x a b n : ℕ) → t ≤ a * 2 ^ 25 + 2 ^ 23 * (a + b + a * 2048 + n) + n * 2 ^ 23 → x ≤ c * 2048
        → t + (c * 2 ^ 25 + 2 ^ 23 * (c + e + x + 1) + 2 ^ 23) ≤ (a + c) * 2 ^ 25 + 2 ^ 23 * ((a + c) + (b + e) + (a + c) * 2048 + suc n) + suc n * 2 ^ 23
    step t c e x a b n h k = omega (arith, h, k)

pub costs_most : (d : Document) → IsSound d → costs d (length d.nodes) ≤ 2 ^ 45 + 2 ^ 37
costs_most d s =
    let most = costs_by d (length d.nodes) s in
    let children = keyed_few (λ k. (node_at d k).parent) (length d.nodes) (length d.nodes) in
    let edges = keyed_few (λ e. Some (level_of_edge d e)) (length d.nodes) (length d.edges) in
    step (costs d (length d.nodes)) (sum_first (child_count d) (length d.nodes)) (sum_first (edge_count d) (length d.nodes)) (length d.nodes) (length d.edges) most children edges s.few_nodes s.few_edges
  where
    step : (t a b n e : ℕ) → t ≤ a * 2 ^ 25 + 2 ^ 23 * (a + b + a * 2048 + n) + n * 2 ^ 23 → a ≤ n → b ≤ e → n ≤ 2048 → e ≤ 2048 → t ≤ 2 ^ 45 + 2 ^ 37
    step t a b n e h h1 h2 h3 h4 = omega (arith, h, h1, h2, h3, h4)

-- So children are together at most 2^45 and 2^37 long where all nodes behind theirs are no larger than their children and their
-- costs, and a node that is so itself is no longer either.
pub children_small : (d : Document) (s : ℕ → ℤ) (n : ℕ) → IsSound d → n < length d.nodes → ((k : ℕ) → n < k → k < length d.nodes → pos 0 ≤ℤ s k) → AreCosts d s (suc n)
    → (total_below (is_child d n) s (length d.nodes) +ℤ pos (cost d n)) ≤ℤ pos (2 ^ 45 + 2 ^ 37)
children_small d s n sound h least own =
    let most = children_most d s sound n h least own in
    let all = costs_most d sound in
    bound (total_below (is_child d n) s (length d.nodes)) (costs d n) (cost d n) (costs d (length d.nodes)) most all
  where
    bound : (a : ℤ) (x y t : ℕ) → (a +ℤ pos (x + y)) ≤ℤ pos t → t ≤ 2 ^ 45 + 2 ^ 37 → (a +ℤ pos y) ≤ℤ pos (2 ^ 45 + 2 ^ 37)
    bound a x y t h k = omega (arith, ints, h, k)
