-- The choice of the edge of least slack, edge by edge.
use Rattle.std.proofs.Common.{◌≡◌, ℕ, suc, ◌+◌, ◌<◌, cond, Bool, true, false, ltb, ℤ, pos, ◌+ℤ◌, ◌-ℤ◌, ◌≤ℤ◌, List, length, Option, Some, None, arith, refl, sym, ap, subst, ◌∙◌, inl, inr}
use Rattle.std.specs.Prelude.{int_lt}
use Rattle.std.proofs.lemmas.Bool.{cases_Bool, ltb-true, ltb-false}
use Rattle.std.proofs.lemmas.Int.{ints}
use Rattle.network_laws.specs.declared.network.NetEdge.{NetEdge}
use Rattle.network_laws.specs.Layering.{layer_of}
use Rattle.network_laws.proofs.Duality.{natural_is}
use Rattle.net_simplex.specs.declared.choice.Choice.{Choice}
use Rattle.net_simplex.specs.Pivots.{slack, shifted, lesser, least_of}
use Rattle.net_simplex.proofs.Pivoting.{shifted_at}
use Rattle.net_simplex.specs.Chosen.{Tells, better_of}

module _ (test : ℕ → Bool) (size : ℕ → ℕ) (n : ℕ) where
  passed : (o : Option ℕ) (best : Option Choice) → test n ≡ false → Tells size o best → Tells size (lesser test size n o) best
  passed None None f t = rw f t
  passed None (Some c) f t = absurd t
  passed (Some k) None f t = absurd t
  passed (Some k) (Some c) f t = rw f t

  looked : (z : ℤ) (o : Option ℕ) (best : Option Choice) → test n ≡ true → z ≡ pos (size n) → Tells size o best → Tells size (lesser test size n o) (better_of best n z)
  looked z None None h s t = rw h (refl, s)
  looked z None (Some c) h s t = absurd t
  looked z (Some k) None h s t = absurd t
  looked z (Some k) (Some c) h s t =
      rw h (elim (cases_Bool (ltb (size n) (size k))) [
        | inl a ↦ elim (cases_Bool (int_lt z c.slack)) [
          | inl b ↦ rw (a, b) (refl, s)
          | inr b ↦ let e = t.1 in let l = ltb-true (size n) (size k) a in absurd (omega (arith, ints, e, s, l, b))
        ]
        | inr a ↦ elim (cases_Bool (int_lt z c.slack)) [
          | inl b ↦ let e = t.1 in let l = ltb-false (size n) (size k) a in absurd (omega (arith, ints, e, s, l, b))
          | inr b ↦ rw (a, b) t
        ]
      ])

  pub passed_over : (best : Option Choice) → test n ≡ false → Tells size (least_of test size n) best → Tells size (least_of test size (n + 1)) best
  passed_over best f t =
      let e : suc n ≡ n + 1 = omega arith in
      subst (λ m. Tells size (least_of test size m) best) e (passed (least_of test size n) best f t)

  pub looked_at : (z : ℤ) (best : Option Choice) → test n ≡ true → z ≡ pos (size n) → Tells size (least_of test size n) best → Tells size (least_of test size (n + 1)) (better_of best n z)
  looked_at z best h s t =
      let e : suc n ≡ n + 1 = omega arith in
      subst (λ m. Tells size (least_of test size m) (better_of best n z)) e (looked z (least_of test size n) best h s t)

-- a rise less `least`, where it is enough
pub slack_value : (layers : List ℤ) (e : NetEdge) (low high z : ℤ) → (layer_of layers e.tail +ℤ pos e.least) ≤ℤ layer_of layers e.head → low ≡ layer_of layers e.tail → high ≡ layer_of layers e.head → z ≡ high -ℤ low -ℤ pos e.least → z ≡ pos (slack layers e)
slack_value layers e low high z up l h is =
    let n = natural_is (layer_of layers e.head -ℤ layer_of layers e.tail -ℤ pos e.least) (omega (arith, ints, up)) in
    omega (arith, ints, n, l, h, is)

-- a node's layer where a set of nodes is moved
pub moved_layer : (inside : ℕ → Bool) (by : ℤ) (layers : List ℤ) (v : ℕ) (z : ℤ) → v < length layers → (inside v ≡ true → z ≡ layer_of layers v +ℤ by) → (inside v ≡ false → z ≡ layer_of layers v) → z ≡ layer_of (shifted inside by layers) v
moved_layer inside by layers v z l t f =
    let s = shifted_at inside by layers v l in
    elim (cases_Bool (inside v)) [
      | inl a ↦ t a ∙ sym (s ∙ ap (λ b. cond b (layer_of layers v +ℤ by) (layer_of layers v)) a)
      | inr a ↦ f a ∙ sym (s ∙ ap (λ b. cond b (layer_of layers v +ℤ by) (layer_of layers v)) a)
    ]
