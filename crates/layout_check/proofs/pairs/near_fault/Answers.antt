use Rattle.std.proofs.Common.{below_more, ℕ, refl}
use Rattle.layout_check.specs.FirstApart.{LayersHold}
use Rattle.layout_check.specs.Levels.{at_level}
use Rattle.layout_check.proofs.pairs.near_fault.Goals as goal

pub loop-one-preserved : goal.loop-one-preserved
loop-one-preserved c =
    let here : (b : ℕ) → at_level LayersHold c.args.level.now c.loop-one.one b = c.in_default.ensures in
    below_more (λ k. (b : ℕ) → at_level LayersHold c.args.level.now k b) _ c.loop-one.invariant here

pub returns-in-Some : goal.returns-in-Some
returns-in-Some c =
    record {
      one = c.loop-one.one;
      other = c.in-Some.other;
      names = refl;
      first = record { fails = c.in-Some.ensures.fails; earlier = λ k l h. c.loop-one.invariant k h l; before = c.in-Some.ensures.before };
    }
