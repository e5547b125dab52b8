use Rattle.std.proofs.Common.{◌≡◌, ◌+◌, length, get_or, set, arith, sym, subst}
use Rattle.network_laws.specs.Parts.{AreNumberedTo}
use Rattle.network_laws.proofs.Naming.{number_start, number_new, number_old}
use Rattle.network_laws.proofs.parts.number_names.Goals as goal
use Rattle.network_laws.proofs.parts.number_names.Goals.{then-name-v, else-name-v}

pub loop-v-init : goal.loop-v-init
loop-v-init c = number_start c.args.names.now c.args.numbers.now c.requires.same

pub loop-v-preserved : goal.loop-v-preserved
loop-v-preserved c =
    let names = c.args.names.now in
    let v = c.loop-v.v in
    elim c.if-name-v.branch [
      | then-name-v w ↦
          subst (λ x. AreNumberedTo names x c.if-name-v.count (v + 1)) (sym w.numbers-is)
          (subst (λ n. AreNumberedTo names (set c.loop-v.numbers v c.loop-v.count) n (v + 1)) (sym w.count-is)
          (number_new names c.loop-v.numbers c.loop-v.count v c.loop-v-test.true c.requires.names.no_later c.loop-v.invariant w.if-name-v.true))
      | else-name-v w ↦
          subst (λ x. AreNumberedTo names x c.if-name-v.count (v + 1)) (sym w.numbers-is)
          (subst (λ n. AreNumberedTo names (set c.loop-v.numbers v (get_or c.loop-v.numbers (get_or names v 0) 0)) n (v + 1)) (sym w.count-is)
          (number_old names c.loop-v.numbers c.loop-v.count v c.loop-v-test.true c.requires.names.no_later c.loop-v.invariant w.if-name-v.false))
    ]

pub returns : goal.returns
returns c = (c.loop-v.count, subst (λ i. AreNumberedTo c.args.names.now c.loop-v.numbers c.loop-v.count i) (let e : c.loop-v.v ≡ length c.args.names.now = omega arith in e) c.loop-v.invariant)
