use Rattle.std.proofs.Common.{◌≡◌, ◌≢◌, ◌<◌, ◌∙◌, get_or, set, arith, sym, subst, inl, inr}
use Rattle.std.proofs.lemmas.Bool.{cases_eq}
use Rattle.std.proofs.lemmas.List.{get_or-set_same, get_or-set_other}
use Rattle.net_simplex.proofs.first_walk.order_all.Goals as goal

pub loop-v-preserved : goal.loop-v-preserved
loop-v-preserved c = λ u l.
    let v = c.loop-v.v in
    let t = c.loop-v-test.true in
    let p = get_or c.args.place.now v 0 in
    let there = c.requires.there v t in
    let n = c.loop-v.auto.order in
    elim (cases_eq u v) [
      | inl e ↦ subst (λ x. get_or (set c.loop-v.order p v) (get_or c.args.place.now x 0) 0 ≡ x) (sym e) (get_or-set_same c.loop-v.order p v 0 (omega (arith, there, n)))
      | inr ne ↦
          let before : u < v = omega (arith, l, ne) in
          let other : get_or c.args.place.now u 0 ≢ p = λ e. ne (c.requires.apart u v (omega (arith, before, t)) t e) in
          get_or-set_other c.loop-v.order p (get_or c.args.place.now u 0) v 0 other ∙ c.loop-v.invariant u before
    ]
