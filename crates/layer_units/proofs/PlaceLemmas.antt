-- The places of numbers in lists that hold the same ones, and the lengths of such lists.
use Rattle.std.proofs.Common.{◌≡◌, ◌≢◌, ◌⊎◌, inl, inr, ℕ, zero, suc, ◌+◌, ◌<◌, ◌≤◌, List, [], ◌∷◌, length, get_or, map, refl, sym, subst, ap, ◌∙◌, arith, eq-eqb, ne_eqb}
use Rattle.std.proofs.lemmas.Bool.{cases_eq}
use Rattle.std.proofs.lemmas.List.{length-map, get_or-map}
use Rattle.port_order.specs.Places.{place_in}
use Rattle.net_routes.proofs.Lists.{few_below}

abbrev pub Holds : List ℕ → ℕ → Type 0
Holds xs n = (i : ℕ) × (i < length xs) × (get_or xs i 0 ≡ n)

abbrev pub Rises : (ℕ → ℕ → Type 0) → List ℕ → Type 0
Rises F xs = (i j : ℕ) → i < j → j < length xs → F (get_or xs i 0) (get_or xs j 0)

-- of two numbers, the later one is ranked only where the earlier one is too, and comes first
abbrev pub Before : (ℕ → Type 0) → (ℕ → ℕ → Type 0) → ℕ → ℕ → Type 0
Before R F m n = R n → R m × F m n

none_held : (n : ℕ) → Holds [] n → ⊥
none_held n h = absurd (omega (arith, h.1))

behind : (F : ℕ → ℕ → Type 0) (a : ℕ) (xs : List ℕ) → Rises F (a ∷ xs) → (n : ℕ) → Holds xs n → F a n
behind F a xs up n h = subst (λ m. F a m) h.2 (up 0 (suc h.0) (omega arith) (omega (arith, h.1)))

tail_rises : (F : ℕ → ℕ → Type 0) (a : ℕ) (xs : List ℕ) → Rises F (a ∷ xs) → Rises F xs
tail_rises F a xs up i j less h = up (suc i) (suc j) (omega (arith, less)) (omega (arith, h))

later : (a n : ℕ) (xs : List ℕ) → Holds xs n → Holds (a ∷ xs) n
later a n xs h = (suc h.0, omega (arith, h.1), h.2)

head_or : (a n : ℕ) (xs : List ℕ) → Holds (a ∷ xs) n → (a ≡ n) ⊎ Holds xs n
head_or a n xs h = step h.0 h.1 h.2
  where
    step : (i : ℕ) → i < length (a ∷ xs) → get_or (a ∷ xs) i 0 ≡ n → (a ≡ n) ⊎ Holds xs n
    step zero h e = inl e
    step (suc i) h e = inr (i, omega (arith, h), e)

-- the first of a list that holds a ranked number is ranked
head_ranked : (R : ℕ → Type 0) (F : ℕ → ℕ → Type 0) (a n : ℕ) (p : List ℕ) → Rises (Before R F) (a ∷ p) → R n → Holds (a ∷ p) n → R a
head_ranked R F a n p up r h =
    elim (head_or a n p h) [
      | inl same ↦ subst R (sym same) r
      | inr rest ↦ (behind (Before R F) a p up n rest r).0
    ]

heads_agree : (R : ℕ → Type 0) (F : ℕ → ℕ → Type 0) (one_way : (m n : ℕ) → F m n → F n m → ⊥) (a b : ℕ) (p q : List ℕ)
    → Rises (Before R F) (a ∷ p) → Rises (Before R F) (b ∷ q) → R a → R b → Holds (b ∷ q) a → Holds (a ∷ p) b → a ≡ b
heads_agree R F one_way a b p q up vp ra rb ha hb =
    elim (head_or b a q ha) [
      | inl e ↦ sym e
      | inr in_q ↦ elim (head_or a b p hb) [
        | inl e ↦ e
        | inr in_p ↦ absurd (one_way a b (behind (Before R F) a p up b in_p rb).1 (behind (Before R F) b q vp a in_q ra).1)
      ]
    ]

tail_holds : (R : ℕ → Type 0) (F : ℕ → ℕ → Type 0) (one_way : (m n : ℕ) → F m n → F n m → ⊥) (a b : ℕ) (p q : List ℕ) → Rises (Before R F) (a ∷ p) → a ≡ b
    → ((n : ℕ) → R n → Holds (a ∷ p) n → Holds (b ∷ q) n) → (n : ℕ) → R n → Holds p n → Holds q n
tail_holds R F one_way a b p q up e to n r h =
    elim (head_or b n q (to n r (later a n p h))) [
      | inl same ↦ absurd (twice (subst (λ m. F a m) (sym (e ∙ same)) (behind (Before R F) a p up n h r).1))
      | inr in_q ↦ in_q
    ]
  where
    twice : F a a → ⊥
    twice f = one_way a a f f

-- a ranked number has one place in all lists that hold the same ranked numbers in their order, before all others
pub places_agree : (R : ℕ → Type 0) (F : ℕ → ℕ → Type 0) (one_way : (m n : ℕ) → F m n → F n m → ⊥) (p q : List ℕ) → Rises (Before R F) p → Rises (Before R F) q
    → ((n : ℕ) → R n → Holds p n → Holds q n) → ((n : ℕ) → R n → Holds q n → Holds p n) → (n : ℕ) → R n → Holds p n → place_in p n ≡ place_in q n
places_agree R F one_way [] q up vp to from n r h = absurd (none_held n h)
places_agree R F one_way (a ∷ p) [] up vp to from n r h = absurd (none_held n (to n r h))
places_agree R F one_way (a ∷ p) (b ∷ q) up vp to from n r h =
    let ra = head_ranked R F a n p up r h in
    let rb = head_ranked R F b n q vp r (to n r h) in
    let e = heads_agree R F one_way a b p q up vp ra rb (to a ra (0, omega arith, refl)) (from b rb (0, omega arith, refl)) in
    elim (cases_eq a n) [
      | inl same ↦ rw (eq-eqb a n same, eq-eqb b n (sym e ∙ same)) refl
      | inr differ ↦ rw (ne_eqb a n differ, ne_eqb b n (λ x. differ (e ∙ x)))
          (ap (λ m. 1 + m) (places_agree R F one_way p q (tail_rises (Before R F) a p up) (tail_rises (Before R F) b q vp) (tail_holds R F one_way a b p q up e to) (tail_holds R F one_way b a q p vp (sym e) from) n r (rest n h differ)))
    ]
  where
    rest : (n : ℕ) → Holds (a ∷ p) n → a ≢ n → Holds p n
    rest n h differ = elim (head_or a n p h) [
      | inl same ↦ absurd (differ same)
      | inr in_p ↦ in_p
    ]

-- numbers that differ and that a list holds are no more than it is long
pub no_more : (p q : List ℕ) → ((i j : ℕ) → i < j → j < length p → get_or p i 0 ≢ get_or p j 0) → ((i : ℕ) → i < length p → Holds q (get_or p i 0)) → length p ≤ length q
no_more p q apart held =
    subst (λ n. n ≤ length q) (length-map p (place_in q))
    (few_below (map (place_in q) p) (length q)
    (λ i h. let k : i < length p = omega (arith, h, length-map p (place_in q)) in subst (λ z. z < length q) (sym (get_or-map (place_in q) p i 0 0 k)) (there q (get_or p i 0) (held i k)).0)
    (λ i j less h e.
    let k : j < length p = omega (arith, h, length-map p (place_in q)) in
    let m : i < length p = omega (arith, less, k) in
    let same : place_in q (get_or p i 0) ≡ place_in q (get_or p j 0) = sym (get_or-map (place_in q) p i 0 0 m) ∙ e ∙ get_or-map (place_in q) p j 0 0 k in
    apart i j less k (sym (there q (get_or p i 0) (held i m)).1 ∙ ap (λ z. get_or q z 0) same ∙ (there q (get_or p j 0) (held j k)).1)))
  where
    there : (q : List ℕ) (n : ℕ) → Holds q n → (place_in q n < length q) × (get_or q (place_in q n) 0 ≡ n)
    there [] n h = absurd (none_held n h)
    there (a ∷ q) n h = elim (cases_eq a n) [
      | inl same ↦ rw (eq-eqb a n same) (omega arith, same)
      | inr differ ↦ rw (ne_eqb a n differ) (let next = there q n (behind_head n differ h) in let one : 1 + place_in q n ≡ suc (place_in q n) = omega arith in rw one (omega (arith, next.0), next.1))
    ]
      where
        behind_head : (n : ℕ) → a ≢ n → Holds (a ∷ q) n → Holds q n
        behind_head n differ h = elim (head_or a n q h) [
          | inl same ↦ absurd (differ same)
          | inr rest ↦ rest
        ]
