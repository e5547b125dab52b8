use Rattle.std.proofs.Common.{arith, ◌∙◌, get_or, subst, ◌<◌, sym}
use Rattle.unit_blocks.proofs.ChainLemmas.{weave_start, weave_end, weave_more, steps_below, steps_long}
use Rattle.unit_blocks.proofs.order.weave_row.Goals as goal

pub loop-unit-init : goal.loop-unit-init
loop-unit-init c = (c.requires.long, omega arith, λ known order w chain. weave_start known order _ _ _ _ w _ chain)

pub loop-unit-preserved : goal.loop-unit-preserved
loop-unit-preserved c =
    let u = get_or c.args.row.now c.loop-unit.unit-index 0 in
    let hu : u < c.args.end = c.requires.units c.loop-unit.unit-index 0 c.loop-unit-test.true in
    let hn : get_or c.args.names.now u 0 < c.args.end = c.requires.names u 0 (subst (λ n. u < n) (sym c.requires.as_many) hu) in (
      steps_long c.args.into.now c.args.names.now u c.loop-unit.cursor _ c.loop-unit.next _ c.weave_unit-cursor.ensures ∙ c.loop-unit.invariant.0,
      steps_below c.args.into.now c.args.names.now u c.loop-unit.cursor _ c.args.end c.loop-unit.next _ hu hn c.weave_unit-cursor.ensures,
      λ known order w chain. weave_more known order c.args.row.now c.args.into.now c.args.names.now c.args.end w c.loop-unit.unit-index c.loop-unit.cursor _ c.loop-unit.next _
          c.loop-unit-test.true c.loop-unit.invariant.0 (c.loop-unit.invariant.2 known order w chain) c.weave_unit-cursor.ensures,
    )

pub returns-clause-woven : goal.returns-clause-woven
returns-clause-woven c = λ known order w chain.
    weave_end known order _ _ _ _ w _ _ _ (omega (arith, c.loop-unit-test.false)) (c.loop-unit.invariant.2 known order w chain)
