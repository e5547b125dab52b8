-- The sizes on the way between two nodes change, where a block goes from what the one hangs on to what the other hangs on.
use Rattle.std.proofs.Common.{◌≡◌, ◌≢◌, ℕ, ◌+◌, ◌-◌, ◌<◌, ◌≤◌, cond, Bool, true, false, List, set, get_or, arith, sym, ap, subst, ◌∙◌, inl, inr}
use Rattle.std.proofs.lemmas.Bool.{cases_eq}
use Rattle.std.proofs.lemmas.List.{get_or-set_same, get_or-set_other, length-set}
use Rattle.net_simplex.specs.Walks.{part, IsWalk}
use Rattle.net_simplex.specs.Rerooting.{AreResized, AreResizedTo}
use Rattle.net_simplex.proofs.Walking.{before_it, own, alone, earlier, passes}
use Rattle.network_laws.proofs.PathSums.{cond_le}

counted : (b : Bool) (n : ℕ) → b ≡ true → cond b n 0 ≡ n
counted b n h = ap (λ z. cond z n 0) h

left_out : (b : Bool) (n : ℕ) → b ≡ false → cond b n 0 ≡ 0
left_out b n h = ap (λ z. cond z n 0) h

module _ (nodes : ℕ) (order place size : List ℕ) (up : ℕ → ℕ) (w : IsWalk nodes order place size up) (many q to : ℕ) (lq : q < nodes) (lt : to < nodes) (enough : (v : ℕ) → v < nodes → part place size v q ≡ true → many ≤ get_or size v 0) where
  abbrev at : ℕ → ℕ
  at v = get_or place v 0

  abbrev wide : ℕ → ℕ
  wide v = get_or size v 0

  abbrev D : ℕ → ℕ → Bool
  D v u = part place size v u

  pub resize_start : AreResizedTo nodes place size many q to q to size
  resize_start = record {
    size_each = w.size_each;
    low_there = lq;
    high_there = lt;
    low_holds = own nodes order place size up w q lq;
    sizes = λ v l. omega arith;
  }

  -- above u the others hold what holds u
  above_u : (u v : ℕ) → u < nodes → v < nodes → 0 < at u → u ≢ v → cond (D v (up u)) many 0 ≡ cond (D v u) many 0
  above_u u v lu lv late ne = ap (λ z. cond z many 0) (sym (w.climbs v u lv lu late ne))

  module _ (low high : ℕ) (size' : List ℕ) (s : AreResizedTo nodes place size many q to low high size') where
    module _ (later : at high < at low) where
      pub low_late : 0 < at low
      low_late = omega (arith, later)

      low_own : D low low ≡ true
      low_own = own nodes order place size up w low s.low_there

      pub low_earlier : at (up low) < at low
      low_earlier = earlier nodes order place size up w low s.low_there low_late

      pub low_enough : many ≤ get_or size' low 0
      low_enough =
          let e = s.sizes low s.low_there in
          let a = counted (D low q) many s.low_holds in
          let b = left_out (D low high) many (before_it (at low) (wide low) (at high) later) in
          let c = counted (D low low) many low_own in
          let m = enough low s.low_there s.low_holds in
          omega (arith, e, a, b, c, m)

      pub low_more : AreResizedTo nodes place size many q to (up low) high (set size' low (get_or size' low 0 - many))
      low_more = record {
        size_each = length-set size' low (get_or size' low 0 - many) ∙ s.size_each;
        low_there = w.up_there low s.low_there low_late;
        high_there = s.high_there;
        low_holds =
            let l = w.up_there low s.low_there low_late in
            let ne : low ≢ up low = λ e. w.up_other low s.low_there low_late (sym e) in
            passes nodes order place size up w (up low) low q l s.low_there lq (w.climbs (up low) low l s.low_there low_late ne ∙ own nodes order place size up w (up low) l) s.low_holds;
        sizes = λ v l.
            let e = s.sizes v l in
            elim (cases_eq v low) [
              | inl same ↦
                  let el = s.sizes low s.low_there in
                  let a = get_or-set_same size' low (get_or size' low 0 - many) 0 (let x = s.size_each in let y = s.low_there in omega (arith, x, y)) in
                  let b = left_out (D low (up low)) many (before_it (at low) (wide low) (at (up low)) low_earlier) in
                  let c = counted (D low low) many low_own in
                  let m = low_enough in
                  subst (λ x. get_or (set size' low (get_or size' low 0 - many)) x 0 + cond (D x q) many 0 + cond (D x high) many 0 ≡ wide x + cond (D x to) many 0 + cond (D x (up low)) many 0) (sym same) (omega (arith, el, a, b, c, m))
              | inr ne ↦
                  let a = get_or-set_other size' low v (get_or size' low 0 - many) 0 ne in
                  let b = above_u low v s.low_there l low_late (λ f. ne (sym f)) in
                  omega (arith, e, a, b)
            ];
      }

    module _ (no_later : at low ≤ at high) (differ : low ≢ high) where
      high_later : at low < at high
      high_later = elim (cases_eq (at low) (at high)) [
        | inl e ↦ absurd (differ (alone nodes order place size up w low high s.low_there s.high_there e))
        | inr ne ↦ omega (arith, no_later, ne)
      ]

      pub high_late : 0 < at high
      high_late = let a = high_later in omega (arith, a)

      high_own : D high high ≡ true
      high_own = own nodes order place size up w high s.high_there

      pub high_earlier : at (up high) < at high
      high_earlier = earlier nodes order place size up w high s.high_there high_late

      pub high_fits : get_or size' high 0 ≤ nodes
      high_fits =
          let e = s.sizes high s.high_there in
          let a = counted (D high high) many high_own in
          let b = left_out (D high low) many (before_it (at high) (wide high) (at low) high_later) in
          let c = cond_le (D high to) many in
          let f = w.fits high s.high_there in
          omega (arith, e, a, b, c, f)

      pub high_more : AreResizedTo nodes place size many q to low (up high) (set size' high (get_or size' high 0 + many))
      high_more = record {
        size_each = length-set size' high (get_or size' high 0 + many) ∙ s.size_each;
        low_there = s.low_there;
        high_there = w.up_there high s.high_there high_late;
        low_holds = s.low_holds;
        sizes = λ v l.
            let e = s.sizes v l in
            elim (cases_eq v high) [
              | inl same ↦
                  let el = s.sizes high s.high_there in
                  let a = get_or-set_same size' high (get_or size' high 0 + many) 0 (let x = s.size_each in let y = s.high_there in omega (arith, x, y)) in
                  let b = left_out (D high (up high)) many (before_it (at high) (wide high) (at (up high)) high_earlier) in
                  let c = counted (D high high) many high_own in
                  subst (λ x. get_or (set size' high (get_or size' high 0 + many)) x 0 + cond (D x q) many 0 + cond (D x (up high)) many 0 ≡ wide x + cond (D x to) many 0 + cond (D x low) many 0) (sym same) (omega (arith, el, a, b, c))
              | inr ne ↦
                  let a = get_or-set_other size' high v (get_or size' high 0 + many) 0 ne in
                  let b = above_u high v s.high_there l high_late (λ f. ne (sym f)) in
                  omega (arith, e, a, b)
            ];
      }

    pub resize_end : low ≡ high → AreResized nodes place size many q to size'
    resize_end same = λ v l.
        let e = s.sizes v l in
        let a = ap (λ x. cond (D v x) many 0) same in
        omega (arith, e, a)
