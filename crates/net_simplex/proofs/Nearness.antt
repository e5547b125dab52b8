-- Of the nearest edges by either end the one of less slack is that of least slack of all.
use Rattle.std.proofs.Common.{◌≡◌, ℕ, ◌<◌, ◌≤◌, cond, not, Bool, true, false, ltb, ◌⊎◌, ℤ, pos, ◌+ℤ◌, ◌-ℤ◌, List, length, Option, Some, None, arith, refl, sym, ap, subst, ◌∙◌, inl, inr}
use Rattle.std.specs.Prelude.{int_lt}
use Rattle.std.proofs.lemmas.Bool.{cases_Bool, ltb-true, ltb-false}
use Rattle.std.proofs.lemmas.Int.{ints}
use Rattle.network_laws.specs.declared.network.NetEdge.{NetEdge}
use Rattle.network_laws.specs.declared.links.End.TheVariants.{Tail, Head}
use Rattle.network_laws.specs.Network.{edge_at, EndsBelow}
use Rattle.network_laws.specs.Layering.{layer_of, IsLayering}
use Rattle.net_simplex.specs.declared.choice.Choice.{Choice}
use Rattle.net_simplex.specs.Pivots.{slack, shifted, is_in, borders, least_slack_edge}
use Rattle.net_simplex.specs.Outward.{rise_of, ComesFirst, LeadsOut, IsNearest, nearer_of}
use Rattle.net_simplex.proofs.Choosing.{least_is, none_chosen}
use Rattle.net_simplex.proofs.Pivoting.{shifted_at, slack_is}

module _ (edges : List NetEdge) (reached : List Bool) (by : ℤ) (layers : List ℤ) (ends : EndsBelow (length layers) edges) (layering : IsLayering edges (shifted (is_in reached) by layers)) where
  abbrev real : List ℤ
  real = shifted (is_in reached) by layers

  abbrev size : ℕ → ℕ
  size k = slack real (edge_at edges k)

  abbrev Before : ℕ → ℕ → Type 0
  Before k i = (size k < size i) ⊎ ((size k ≡ size i) × (k ≤ i))

  real_in : (v : ℕ) → v < length layers → is_in reached v ≡ true → layer_of real v ≡ layer_of layers v +ℤ by
  real_in v l m = shifted_at (is_in reached) by layers v l ∙ ap (λ b. cond b (layer_of layers v +ℤ by) (layer_of layers v)) m

  real_out : (v : ℕ) → v < length layers → is_in reached v ≡ false → layer_of real v ≡ layer_of layers v
  real_out v l m = shifted_at (is_in reached) by layers v l ∙ ap (λ b. cond b (layer_of layers v +ℤ by) (layer_of layers v)) m

  up_slack : (i : ℕ) → i < length edges → LeadsOut Tail reached (edge_at edges i) → pos (size i) ≡ rise_of layers (edge_at edges i) -ℤ by
  up_slack i l leads =
      let s = slack_is real (edge_at edges i) (layering i l) in
      let t = real_in (edge_at edges i).tail (ends i l).0 leads.0 in
      let h = real_out (edge_at edges i).head (ends i l).1 leads.1 in
      omega (arith, ints, s, t, h)

  down_slack : (i : ℕ) → i < length edges → LeadsOut Head reached (edge_at edges i) → pos (size i) ≡ rise_of layers (edge_at edges i) +ℤ by
  down_slack i l leads =
      let s = slack_is real (edge_at edges i) (layering i l) in
      let t = real_out (edge_at edges i).tail (ends i l).0 leads.1 in
      let h = real_in (edge_at edges i).head (ends i l).1 leads.0 in
      omega (arith, ints, s, t, h)

  trans : (a b c : ℕ) → Before a b → Before b c → Before a c
  trans a b c (inl x) (inl y) = inl (omega (arith, x, y))
  trans a b c (inl x) (inr y) = let e = y.0 in inl (omega (arith, x, e))
  trans a b c (inr x) (inl y) = let e = x.0 in inl (omega (arith, y, e))
  trans a b c (inr x) (inr y) = let m = x.1 in let n = y.1 in inr (x.0 ∙ y.0, omega (arith, m, n))

  -- both are moved alike
  moved : (k i : ℕ) (a b by' : ℤ) → pos (size k) ≡ a +ℤ by' → pos (size i) ≡ b +ℤ by' → ComesFirst a k b i → Before k i
  moved k i a b by' x y (inl less) = inl (omega (arith, ints, x, y, less))
  moved k i a b by' x y (inr same) = let e = same.0 in inr (omega (arith, ints, x, y, e), same.1)

  not_true : (b : Bool) → not b ≡ true → b ≡ false
  not_true true h = absurd cc
  not_true false h = refl

  up_borders : (e : NetEdge) → LeadsOut Tail reached e → borders reached e ≡ true
  up_borders e leads = rw (leads.0, leads.1) refl

  down_borders : (e : NetEdge) → LeadsOut Head reached e → borders reached e ≡ true
  down_borders e leads = rw (leads.1, leads.0) refl

  either_end : (e : NetEdge) → borders reached e ≡ true → LeadsOut Tail reached e ⊎ LeadsOut Head reached e
  either_end e b =
      elim (cases_Bool (is_in reached e.tail)) [
        | inl a ↦ inl (a, not_true (is_in reached e.head) (sym (ap (λ x. cond x (not (is_in reached e.head)) (is_in reached e.head)) a) ∙ b))
        | inr a ↦ inr (sym (ap (λ x. cond x (not (is_in reached e.head)) (is_in reached e.head)) a) ∙ b, a)
      ]

  up_first : (a : ℕ) → IsNearest edges Tail reached layers (Some a) → (i : ℕ) → i < length edges → LeadsOut Tail reached (edge_at edges i) → Before a i
  up_first a n i l leads =
      let x = up_slack a n.0 n.1 in
      let y = up_slack i l leads in
      moved a i (rise_of layers (edge_at edges a)) (rise_of layers (edge_at edges i)) (pos 0 -ℤ by) (omega (arith, ints, x)) (omega (arith, ints, y)) (n.2 i l leads)

  down_first : (b : ℕ) → IsNearest edges Head reached layers (Some b) → (i : ℕ) → i < length edges → LeadsOut Head reached (edge_at edges i) → Before b i
  down_first b n i l leads = moved b i (rise_of layers (edge_at edges b)) (rise_of layers (edge_at edges i)) by (down_slack b n.0 n.1) (down_slack i l leads) (n.2 i l leads)

  abbrev IsLeast : Option ℕ → Type 0
  IsLeast o = o ≡ least_slack_edge edges real (borders reached)

  wins : (k : ℕ) → k < length edges → borders reached (edge_at edges k) ≡ true → ((i : ℕ) → i < length edges → LeadsOut Tail reached (edge_at edges i) → Before k i) → ((i : ℕ) → i < length edges → LeadsOut Head reached (edge_at edges i) → Before k i) → IsLeast (Some k)
  wins k l b up down =
      sym (least_is (λ i. borders reached (edge_at edges i)) size (length edges) k l b (λ i li bi. elim (either_end (edge_at edges i) bi) [
        | inl x ↦ up i li x
        | inr x ↦ down i li x
      ]))

  pub only_up : (a : ℕ) → IsNearest edges Tail reached layers (Some a) → IsNearest edges Head reached layers None → IsLeast (Some a)
  only_up a n none = wins a n.0 (up_borders (edge_at edges a) n.1) (up_first a n) (λ i l leads. absurd (none i l leads))

  pub only_down : (o : Option ℕ) → IsNearest edges Tail reached layers None → IsNearest edges Head reached layers o → IsLeast o
  only_down None none n =
      sym (none_chosen (λ i. borders reached (edge_at edges i)) size (length edges) (λ i l. elim (cases_Bool (borders reached (edge_at edges i))) [
        | inl b ↦ elim (either_end (edge_at edges i) b) [
          | inl x ↦ absurd (none i l x)
          | inr x ↦ absurd (n i l x)
        ]
        | inr b ↦ b
      ]))
  only_down (Some b) none n = wins b n.0 (down_borders (edge_at edges b) n.1) (λ i l leads. absurd (none i l leads)) (down_first b n)

  up_wins : (a b : ℕ) → IsNearest edges Tail reached layers (Some a) → IsNearest edges Head reached layers (Some b) → Before a b → IsLeast (Some a)
  up_wins a b m n before = wins a m.0 (up_borders (edge_at edges a) m.1) (up_first a m) (λ i l leads. trans a b i before (down_first b n i l leads))

  down_wins : (a b : ℕ) → IsNearest edges Tail reached layers (Some a) → IsNearest edges Head reached layers (Some b) → Before b a → IsLeast (Some b)
  down_wins a b m n before = wins b n.0 (down_borders (edge_at edges b) n.1) (λ i l leads. trans b a i before (up_first a m i l leads)) (down_first b n)

  pub nearer_wins : (x y : Choice) (a b : ℕ) → x.edge ≡ a → y.edge ≡ b → x.slack ≡ pos (size a) → y.slack ≡ pos (size b) → IsNearest edges Tail reached layers (Some a) → IsNearest edges Head reached layers (Some b) → IsLeast (Some (nearer_of x y))
  nearer_wins x y a b ea eb sa sb m n =
      elim (cases_Bool (int_lt x.slack y.slack)) [
        | inl t ↦ subst (λ k. IsLeast (Some k)) (sym (rw t ea)) (up_wins a b m n (inl (omega (arith, ints, sa, sb, t))))
        | inr f ↦ elim (cases_Bool (int_lt y.slack x.slack)) [
          | inl t ↦ subst (λ k. IsLeast (Some k)) (sym (rw (f, t) eb)) (down_wins a b m n (inl (omega (arith, ints, sa, sb, t))))
          | inr g ↦
              let same : size a ≡ size b = omega (arith, ints, sa, sb, f, g) in
              elim (cases_Bool (ltb x.edge y.edge)) [
                | inl t ↦ let l = ltb-true x.edge y.edge t in subst (λ k. IsLeast (Some k)) (sym (rw (f, g, t) ea)) (up_wins a b m n (inr (same, omega (arith, l, ea, eb))))
                | inr t ↦ let l = ltb-false x.edge y.edge t in subst (λ k. IsLeast (Some k)) (sym (rw (f, g, t) eb)) (down_wins a b m n (inr (sym same, omega (arith, l, ea, eb))))
              ]
        ]
      ]
