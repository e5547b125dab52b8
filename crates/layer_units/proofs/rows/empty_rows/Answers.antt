use Rattle.std.proofs.Common.{◌≡◌, subst, arith}
use Rattle.layer_units.specs.Started.{AreAscending, plain_rows}
use Rattle.layer_units.proofs.RowLemmas.{rows_none, rows_more}
use Rattle.layer_units.proofs.rows.empty_rows.Goals as goal

pub loop-init : goal.loop-init
loop-init c = λ units. rows_none units c.new-rows.result.items c.new-rows.ensures.items

pub loop-preserved : goal.loop-preserved
loop-preserved c = λ units. rows_more units c.loop.counter c.loop.rows.items c.push.new.self.items c.new.result c.in_ok-push.ensures.items c.new.ensures.items (c.loop.invariant units)

pub returns : goal.returns
returns c =
    let all : c.loop.counter ≡ c.args.count = omega arith in
    λ units. subst (λ n. AreAscending units n 0 (plain_rows c.loop.rows.items)) all (c.loop.invariant units)
