-- The places of the nodes outside a block, where the block goes to another place.
use Rattle.std.proofs.Common.{◌≡◌, ℕ, ◌+◌, ◌-◌, ◌<◌, ◌≤◌, ◌⊎◌, arith, refl, sym, ◌∙◌, inl, inr}
use Rattle.std.proofs.lemmas.Bool.{cases_lt}
use Rattle.std.proofs.lemmas.Bool.Decides.{nat_tests}
use Rattle.net_simplex.specs.Walks.{between, moved, first_place}
use Rattle.net_simplex.proofs.Walking.{between_is, is_between, same_test}

-- the block of m places from a on, which goes to behind place t
module _ (a m t : ℕ) where
  -- p goes to p'
  pub record Goes (p p' : ℕ) : Type 0 where
    pub outside : (p < a) ⊎ (a + m ≤ p)
    pub up : t < p → p < a → p' ≡ p + m
    pub before : p < a → p ≤ t → p' ≡ p
    pub down : a + m ≤ p → p ≤ t → p' + m ≡ p
    pub behind : a + m ≤ p → t < p → p' ≡ p

  pub goes : (p : ℕ) → ((p < a) ⊎ (a + m ≤ p)) → Goes p (moved a m (t + 1) p)
  goes p o = record {
    outside = o;
    up = λ h k. grind (arith, nat_tests, h, k);
    before = λ h k. grind (arith, nat_tests, h, k);
    down = λ h k. grind (arith, nat_tests, h, k);
    behind = λ h k. grind (arith, nat_tests, h, k);
  }

  -- the s places from p on become s' places
  pub record Widens (p s s' : ℕ) : Type 0 where
    pub nested : ((p < a) × (a + m ≤ p + s)) ⊎ ((p + s ≤ a) ⊎ (a + m ≤ p))
    pub both : p < a → a + m ≤ p + s → p ≤ t → t < p + s → s' ≡ s
    pub loses : p < a → a + m ≤ p + s → ((t < p) ⊎ (p + s ≤ t)) → s' + m ≡ s
    pub gains : ((p + s ≤ a) ⊎ (a + m ≤ p)) → p ≤ t → t < p + s → s' ≡ s + m
    pub none : ((p + s ≤ a) ⊎ (a + m ≤ p)) → ((t < p) ⊎ (p + s ≤ t)) → s' ≡ s

  -- a place goes to one place
  pub goes_once : (p q r : ℕ) → Goes p q → Goes p r → q ≡ r
  goes_once p q r g h = elim g.outside [
    | inl a ↦ elim (cases_lt t p) [
      | inl l ↦ g.up l a ∙ sym (h.up l a)
      | inr l ↦ g.before a l ∙ sym (h.before a l)
    ]
    | inr a ↦ elim (cases_lt t p) [
      | inl l ↦ g.behind a l ∙ sym (h.behind a l)
      | inr l ↦ let x = g.down a l in let y = h.down a l in omega (arith, x, y)
    ]
  ]

  -- what ends in time does so still
  pub still_fits : (n p s p' s' : ℕ) → 0 < m → a + m ≤ n → p + s ≤ n → Goes p p' → Widens p s s' → p' + s' ≤ n
  still_fits n p s p' s' some k f g w = elim w.nested [
    | inl c ↦
        let c0 = c.0 in
        elim (cases_lt t p) [
          | inl l ↦ let x = g.up l c.0 in let y = w.loses c.0 c.1 (inl l) in omega (arith, x, y, f)
          | inr l ↦ elim (cases_lt t (p + s)) [
            | inl r ↦ let x = g.before c.0 l in let y = w.both c.0 c.1 l r in omega (arith, x, y, f)
            | inr r ↦ let x = g.before c.0 l in let y = w.loses c.0 c.1 (inr r) in omega (arith, x, y, f)
          ]
        ]
    | inr o ↦ elim (cases_lt t p) [
      | inl l ↦
          let y = w.none o (inl l) in
          elim g.outside [
            | inl b ↦ let x = g.up l b in omega (arith, x, y, f, o, k, b)
            | inr b ↦ let x = g.behind b l in omega (arith, x, y, f)
          ]
      | inr l ↦ elim (cases_lt t (p + s)) [
        | inl r ↦
            let y = w.gains o l r in
            elim g.outside [
              | inl b ↦ let x = g.before b l in omega (arith, x, y, f, o, k, b)
              | inr b ↦ let x = g.down b l in omega (arith, x, y, f)
            ]
        | inr r ↦
            let y = w.none o (inr r) in
            elim g.outside [
              | inl b ↦ let x = g.before b l in omega (arith, x, y, f)
              | inr b ↦ let x = g.down b l in omega (arith, x, y, f)
            ]
      ]
    ]
  ]

  module _ (off : (t < a) ⊎ (a + m ≤ t)) (p s p' s' q q' : ℕ) (gp : Goes p p') (w : Widens p s s') (gq : Goes q q') where
    stays_in : p ≤ q → q < p + s → (p' ≤ q') × (q' < p' + s')
    stays_in h k =
        let o = gp.outside in
        let n = w.nested in
        let r = gq.outside in (
          grind (arith, h, k, off, o, n, r, gp.up, gp.before, gp.down, gp.behind, gq.up, gq.before, gq.down, gq.behind),
          grind (arith, h, k, off, o, n, r, gp.up, gp.before, gp.down, gp.behind, gq.up, gq.before, gq.down, gq.behind, w.both, w.loses, w.gains, w.none),
        )

    stays_out : p' ≤ q' → q' < p' + s' → (p ≤ q) × (q < p + s)
    stays_out h k =
        let o = gp.outside in
        let n = w.nested in
        let r = gq.outside in (
          grind (arith, h, k, off, o, n, r, gp.up, gp.before, gp.down, gp.behind, gq.up, gq.before, gq.down, gq.behind, w.both, w.loses, w.gains, w.none),
          grind (arith, h, k, off, o, n, r, gp.up, gp.before, gp.down, gp.behind, gq.up, gq.before, gq.down, gq.behind, w.both, w.loses, w.gains, w.none),
        )

    -- what is outside stays in it or out of it
    pub stays : between p' s' q' ≡ between p s q
    stays = same_test (between p' s' q') (between p s q)
        (λ e. let b = between_is p' s' q' e in let r = stays_out b.0 b.1 in is_between p s q r.0 r.1)
        (λ e. let b = between_is p s q e in let r = stays_in b.0 b.1 in is_between p' s' q' r.0 r.1)

  pub record Begins (base : ℕ) : Type 0 where
    pub from_up : t < a → base ≡ t + 1
    pub from_down : a + m ≤ t → base + m ≡ t + 1

  pub begins : ((t < a) ⊎ (a + m ≤ t)) → Begins (first_place a m (t + 1))
  begins off = record {
    from_up = λ h. grind (arith, nat_tests, h);
    from_down = λ h. grind (arith, nat_tests, h);
  }

  module _ (off : (t < a) ⊎ (a + m ≤ t)) (base : ℕ) (b : Begins base) where
    -- what is in the block is in it if place t is
    module _ (p s p' s' q : ℕ) (gp : Goes p p') (w : Widens p s s') (l : base ≤ q) (r : q < base + m) where
      comes_in : p ≤ t → t < p + s → (p' ≤ q) × (q < p' + s')
      comes_in h k =
          let o = gp.outside in
          let n = w.nested in (
            grind (arith, h, k, off, o, n, l, r, gp.up, gp.before, gp.down, gp.behind, b.from_up, b.from_down),
            grind (arith, h, k, off, o, n, l, r, gp.up, gp.before, gp.down, gp.behind, b.from_up, b.from_down, w.both, w.gains),
          )

      came_in : p' ≤ q → q < p' + s' → (p ≤ t) × (t < p + s)
      came_in h k =
          let o = gp.outside in
          let n = w.nested in (
            grind (arith, h, k, off, o, n, l, r, gp.up, gp.before, gp.down, gp.behind, b.from_up, b.from_down, w.both, w.loses, w.gains, w.none),
            grind (arith, h, k, off, o, n, l, r, gp.up, gp.before, gp.down, gp.behind, b.from_up, b.from_down, w.both, w.loses, w.gains, w.none),
          )

      pub comes : between p' s' q ≡ between p s t
      comes = same_test (between p' s' q) (between p s t)
          (λ e. let x = between_is p' s' q e in let y = came_in x.0 x.1 in is_between p s t y.0 y.1)
          (λ e. let x = between_is p s t e in let y = comes_in x.0 x.1 in is_between p' s' q y.0 y.1)

    -- outside the block's new places
    pub goes_off : (p p' : ℕ) → Goes p p' → (p' < base) ⊎ (base + m ≤ p')
    goes_off p p' g =
        let o = g.outside in
        elim (cases_lt p' base) [
          | inl x ↦ inl x
          | inr x ↦ inr (grind (arith, x, off, o, g.up, g.before, g.down, g.behind, b.from_up, b.from_down))
        ]

    pub record Comes (n q : ℕ) : Type 0 where
      pub p : ℕ
      pub there : p < n
      pub goes_there : Goes p q

    -- each other place is taken
    pub comes_from : (n q : ℕ) → q < n → a + m ≤ n → t < n → ((q < base) ⊎ (base + m ≤ q)) → Comes n q
    comes_from n q l f lt o = elim off [
      | inl u ↦
          let e = b.from_up u in
          elim (cases_lt q (t + 1)) [
            | inl x ↦ record { p = q; there = l; goes_there = record { outside = inl (omega (arith, x, u)); up = λ h k. absurd (omega (arith, h, x)); before = λ h k. refl; down = λ h k. absurd (omega (arith, h, k, u)); behind = λ h k. refl } }
            | inr x ↦ elim (cases_lt q (a + m)) [
              | inl y ↦
                  let z : m ≤ q = omega (arith, o, e, x) in
                  record { p = q - m; there = omega (arith, l); goes_there = record { outside = inl (omega (arith, y, z)); up = λ h k. omega (arith, z); before = λ h k. absurd (omega (arith, k, o, e, x, z)); down = λ h k. absurd (omega (arith, h, k, u)); behind = λ h k. absurd (omega (arith, h, y, z)) } }
              | inr y ↦ record { p = q; there = l; goes_there = record { outside = inr y; up = λ h k. absurd (omega (arith, k, y)); before = λ h k. refl; down = λ h k. absurd (omega (arith, h, k, u)); behind = λ h k. refl } }
            ]
          ]
      | inr u ↦
          let e = b.from_down u in
          elim (cases_lt q a) [
            | inl x ↦ record { p = q; there = l; goes_there = record { outside = inl x; up = λ h k. absurd (omega (arith, h, k, u)); before = λ h k. refl; down = λ h k. absurd (omega (arith, h, x)); behind = λ h k. refl } }
            | inr x ↦ elim (cases_lt q (t + 1)) [
              | inl y ↦ record { p = q + m; there = omega (arith, o, e, y, lt); goes_there = record { outside = inr (omega (arith, x)); up = λ h k. absurd (omega (arith, k, x)); before = λ h k. absurd (omega (arith, h, x)); down = λ h k. refl; behind = λ h k. absurd (omega (arith, k, o, e, y)) } }
              | inr y ↦ record { p = q; there = l; goes_there = record { outside = inr (omega (arith, y, u)); up = λ h k. absurd (omega (arith, h, k, u)); before = λ h k. refl; down = λ h k. absurd (omega (arith, k, y)); behind = λ h k. refl } }
            ]
          ]
    ]
