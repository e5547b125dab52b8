-- Two orders of one side are equal.
use Rattle.std.proofs.Common.{◌≡◌, ◌<◌, ℕ, zero, suc, List, [], ◌∷◌, length, arith, sym, refl, ◌∙◌, subst, inl, inr, ◌⊎◌}
use Rattle.std.specs.Prelude.{slice_index}
use Rattle.drawing_types.specs.declared.shape.Side.{Side}
use Rattle.port_order.specs.declared.children.Child.{Child}
use Rattle.port_order.specs.declared.spots.Spot.{Spot}
use Rattle.port_order.specs.Child.{spot_at}
use Rattle.port_order.specs.Conditions.{AreSpots}
use Rattle.port_order.specs.Order.{ComesFirst, IsOrderOfSide}
use Rattle.port_order.proofs.StrictLemmas.{strict_order}

abbrev Has : List ℕ → ℕ → Type 0
Has xs n = (i : ℕ) × (i < length xs) × (slice_index xs i ≡ n)

has_none : (n : ℕ) → Has [] n → ⊥
has_none n h = absurd (omega (arith, h.1))

abbrev Rises : (ℕ → ℕ → Type 0) → List ℕ → Type 0
Rises F xs = (i j : ℕ) → i < j → j < length xs → F (slice_index xs i) (slice_index xs j)

-- what a list holds besides its head
behind : (F : ℕ → ℕ → Type 0) (a : ℕ) (xs : List ℕ) → Rises F (a ∷ xs) → (n : ℕ) → Has xs n → F a n
behind F a xs up n h = subst (λ m. F a m) h.2 (up 0 (suc h.0) (omega arith) (omega (arith, h.1)))

tail_rises : (F : ℕ → ℕ → Type 0) (a : ℕ) (xs : List ℕ) → Rises F (a ∷ xs) → Rises F xs
tail_rises F a xs up i j less h = up (suc i) (suc j) (omega (arith, less)) (omega (arith, h))

later : (a n : ℕ) (xs : List ℕ) → Has xs n → Has (a ∷ xs) n
later a n xs h = (suc h.0, omega (arith, h.1), h.2)

-- an element of a list is its head or stands behind it
head_or : (a n : ℕ) (xs : List ℕ) → Has (a ∷ xs) n → (a ≡ n) ⊎ Has xs n
head_or a n xs h = step h.0 h.1 h.2
  where
    step : (i : ℕ) → i < length (a ∷ xs) → slice_index (a ∷ xs) i ≡ n → (a ≡ n) ⊎ Has xs n
    step zero h e = inl e
    step (suc i) h e = inr (i, omega (arith, h), e)

heads_agree : (F : ℕ → ℕ → Type 0) (one_way : (m n : ℕ) → F m n → F n m → ⊥) (a b : ℕ) (p q : List ℕ) → Rises F (a ∷ p) → Rises F (b ∷ q) → Has (b ∷ q) a → Has (a ∷ p) b → a ≡ b
heads_agree F one_way a b p q up vp ha hb =
    elim (head_or b a q ha) [
      | inl e ↦ sym e
      | inr in_q ↦ elim (head_or a b p hb) [
        | inl e ↦ e
        | inr in_p ↦ absurd (one_way a b (behind F a p up b in_p) (behind F b q vp a in_q))
      ]
    ]

-- what stands behind a head that two lists share
tail_has : (F : ℕ → ℕ → Type 0) (one_way : (m n : ℕ) → F m n → F n m → ⊥) (a b : ℕ) (p q : List ℕ) → Rises F (a ∷ p) → a ≡ b → ((n : ℕ) → Has (a ∷ p) n → Has (b ∷ q) n) → (n : ℕ) → Has p n → Has q n
tail_has F one_way a b p q up e holds n h =
    elim (head_or b n q (holds n (later a n p h))) [
      | inl same ↦ absurd (twice (subst (λ m. F a m) (sym (e ∙ same)) (behind F a p up n h)))
      | inr in_q ↦ in_q
    ]
  where
    twice : F a a → ⊥
    twice f = one_way a a f f

same_lists : (F : ℕ → ℕ → Type 0) (one_way : (m n : ℕ) → F m n → F n m → ⊥) (p q : List ℕ) → Rises F p → Rises F q → ((n : ℕ) → Has p n → Has q n) → ((n : ℕ) → Has q n → Has p n) → p ≡ q
same_lists F one_way [] [] up vp to from = refl
same_lists F one_way [] (b ∷ q) up vp to from = absurd (has_none b (from b (0, omega arith, refl)))
same_lists F one_way (a ∷ p) [] up vp to from = absurd (has_none a (to a (0, omega arith, refl)))
same_lists F one_way (a ∷ p) (b ∷ q) up vp to from =
    let e = heads_agree F one_way a b p q up vp (to a (0, omega arith, refl)) (from b (0, omega arith, refl)) in
    let rest = same_lists F one_way p q (tail_rises F a p up) (tail_rises F b q vp) (tail_has F one_way a b p q up e to) (tail_has F one_way b a q p vp (sym e) from) in
    rw (e, rest) refl

module _ (c : Child) (side : Side) (spots : List Spot) (sound : AreSpots c spots) where
  -- spots with these numbers, of which the one stands before the other
  abbrev First : ℕ → ℕ → Type 0
  First m n = (k : ℕ) × (l : ℕ) × (k < length spots) × (l < length spots) × ((spot_at spots k).number ≡ m) × ((spot_at spots l).number ≡ n) × ComesFirst c.rule c side (spot_at spots k) (spot_at spots l)

  first_one_way : (m n : ℕ) → First m n → First n m → ⊥
  first_one_way m n f g =
      let e = sound.differ g.0 f.1 g.2 f.3 (g.4 ∙ sym f.5) in
      let d = sound.differ g.1 f.0 g.3 f.2 (g.5 ∙ sym f.4) in
      strict_order.one_way c side (spot_at spots f.0) (spot_at spots f.1) f.6 (subst (λ k. ComesFirst c.rule c side (spot_at spots f.1) (spot_at spots k)) d (subst (λ k. ComesFirst c.rule c side (spot_at spots k) (spot_at spots g.1)) e g.6))

  rises : (order : List ℕ) → IsOrderOfSide c side spots order → Rises First order
  rises order o i j less h =
      let k = o.spread i (omega (arith, less, h)) in
      let l = o.spread j h in
      (k.0, l.0, k.1, l.1, k.2, l.2, o.sorted i j k.0 l.0 less h k.1 l.1 k.2 l.2)

  has : (p q : List ℕ) → IsOrderOfSide c side spots p → IsOrderOfSide c side spots q → (n : ℕ) → Has p n → Has q n
  has p q op oq n h =
      let k = op.spread h.0 h.1 in
      let held = oq.once k.0 k.1 k.3 in
      (held.place, held.inside, held.there ∙ k.2 ∙ h.2)

  agree : (p q : List ℕ) → IsOrderOfSide c side spots p → IsOrderOfSide c side spots q → p ≡ q
  agree p q op oq = same_lists First first_one_way p q (rises p op) (rises q oq) (has p q op oq) (has q p oq op)

pub one_order : (c : Child) (side : Side) (spots : List Spot) (p q : List ℕ) → AreSpots c spots → IsOrderOfSide c side spots p → IsOrderOfSide c side spots q → p ≡ q
one_order c side spots p q sound op oq = agree c side spots sound p q op oq
