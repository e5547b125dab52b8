-- What holds of a walk over a tree.
use Rattle.std.proofs.Common.{◌≡◌, ℕ, zero, suc, ◌+◌, ◌-◌, ◌<◌, ◌≤◌, Bool, true, false, ltb, ◌⊎◌, List, get_or, arith, refl, sym, ap, subst, ◌∙◌, inl, inr}
use Rattle.std.proofs.lemmas.Bool.{cases_eq, cases_lt}
use Rattle.std.proofs.lemmas.Bool.Decides.{nat_tests}
use Rattle.net_simplex.specs.Walks.{between, part, IsWalk}

pub clash : {P : Type 0} (b : Bool) → b ≡ true → b ≡ false → P
clash b t f = let bad : true ≡ false = sym t ∙ f in absurd cc

pub lt_yes : (m n : ℕ) → m < n → ltb m n ≡ true
lt_yes m n h = grind (arith, nat_tests, h)

pub lt_no : (m n : ℕ) → n ≤ m → ltb m n ≡ false
lt_no m n h = grind (arith, nat_tests, h)

pub is_between : (p many q : ℕ) → p ≤ q → q < p + many → between p many q ≡ true
is_between p many q a b = rw (lt_no q p a, lt_yes q (p + many) b) refl

pub before_it : (p many q : ℕ) → q < p → between p many q ≡ false
before_it p many q a = rw (lt_yes q p a) refl

pub behind_it : (p many q : ℕ) → p + many ≤ q → between p many q ≡ false
behind_it p many q a = elim (cases_lt q p) [
  | inl l ↦ before_it p many q l
  | inr l ↦ rw (lt_no q p l, lt_no q (p + many) a) refl
]

pub between_is : (p many q : ℕ) → between p many q ≡ true → (p ≤ q) × (q < p + many)
between_is p many q h = elim (cases_lt q p) [
  | inl l ↦ clash (between p many q) h (before_it p many q l)
  | inr l ↦ elim (cases_lt q (p + many)) [
    | inl m ↦ (l, m)
    | inr m ↦ clash (between p many q) h (behind_it p many q m)
  ]
]

pub between_not : (p many q : ℕ) → between p many q ≡ false → (q < p) ⊎ (p + many ≤ q)
between_not p many q h = elim (cases_lt q p) [
  | inl l ↦ inl l
  | inr l ↦ elim (cases_lt q (p + many)) [
    | inl m ↦ clash (between p many q) (is_between p many q l m) h
    | inr m ↦ inr m
  ]
]

-- tests that hold together are the same
pub same_test : (a b : Bool) → (a ≡ true → b ≡ true) → (b ≡ true → a ≡ true) → a ≡ b
same_test true b f g = sym (f refl)
same_test false true f g = g refl
same_test false false f g = refl

module _ (nodes : ℕ) (order place size : List ℕ) (up : ℕ → ℕ) (w : IsWalk nodes order place size up) where
  abbrev at : ℕ → ℕ
  at v = get_or place v 0

  abbrev wide : ℕ → ℕ
  wide v = get_or size v 0

  abbrev D : ℕ → ℕ → Bool
  D v u = part place size v u

  pub own : (v : ℕ) → v < nodes → D v v ≡ true
  own v l = let s = w.some v l in is_between (at v) (wide v) (at v) (omega arith) (omega (arith, s))

  pub alone : (u v : ℕ) → u < nodes → v < nodes → at u ≡ at v → u ≡ v
  alone u v lu lv e = sym (w.placed u lu).1 ∙ (ap (λ p. get_or order p 0) e ∙ (w.placed v lv).1)

  pub root_at : 0 < nodes → at 0 ≡ 0
  root_at some = subst (λ x. get_or place x 0 ≡ 0) w.root_first (w.in_order 0 some).1

  pub is_root : (v : ℕ) → v < nodes → at v ≡ 0 → v ≡ 0
  is_root v l e = sym (w.placed v l).1 ∙ (ap (λ p. get_or order p 0) e ∙ w.root_first)

  pub earlier : (u : ℕ) → u < nodes → 0 < at u → at (up u) < at u
  earlier u lu late =
      let lp = w.up_there u lu late in
      let ne = w.up_other u lu late in
      let h = w.climbs (up u) u lp lu late (λ e. ne (sym e)) ∙ own (up u) lp in
      let b = (between_is (at (up u)) (wide (up u)) (at u) h).0 in
      elim (cases_eq (at (up u)) (at u)) [
        | inl e ↦ absurd (ne (alone (up u) u lp lu e))
        | inr no_same ↦ omega (arith, b, no_same)
      ]

  passes_on : (n v x u : ℕ) → v < nodes → x < nodes → u < nodes → at u < n → D v x ≡ true → D x u ≡ true → D v u ≡ true
  passes_on zero v x u lv lx lu b h k = absurd (omega (arith, b))
  passes_on (suc n) v x u lv lx lu b h k = elim (cases_eq u x) [
    | inl e ↦ subst (λ y. D v y ≡ true) (sym e) h
    | inr ne ↦
        let ks = between_is (at x) (wide x) (at u) k in
        let k0 = ks.0 in
        let late : 0 < at u = elim (cases_eq (at x) (at u)) [
          | inl e ↦ absurd (ne (alone u x lu lx (sym e)))
          | inr no_same ↦ omega (arith, k0, no_same)
        ] in
        let low = earlier u lu late in
        let r = passes_on n v x (up u) lv lx (w.up_there u lu late) (omega (arith, low, b)) h (sym (w.climbs x u lx lu late ne) ∙ k) in
        elim (cases_eq u v) [
          | inl e ↦ subst (λ y. D v y ≡ true) (sym e) (own v lv)
          | inr other ↦ w.climbs v u lv lu late other ∙ r
        ]
  ]

  -- what hangs on x hangs on what x hangs on
  pub passes : (v x u : ℕ) → v < nodes → x < nodes → u < nodes → D v x ≡ true → D x u ≡ true → D v u ≡ true
  passes v x u lv lx lu h k = passes_on (suc (at u)) v x u lv lx lu (omega arith) h k

  -- and its part is within that one's
  pub within : (v x : ℕ) → v < nodes → x < nodes → D v x ≡ true → at x + wide x ≤ at v + wide v
  within v x lv lx h =
      let s = w.some x lx in
      let f = w.fits x lx in
      let q = at x + wide x - 1 in
      let o = w.in_order q (omega (arith, s, f)) in
      let o1 = o.1 in
      let k : D x (get_or order q 0) ≡ true = is_between (at x) (wide x) (at (get_or order q 0)) (omega (arith, o1, s)) (omega (arith, o1, s)) in
      let p = (between_is (at v) (wide v) (at (get_or order q 0)) (passes v x (get_or order q 0) lv lx o.0 h k)).1 in
      omega (arith, o1, s, p)
