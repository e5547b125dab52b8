use Rattle.std.proofs.Common.{◌-◌, ◌/◌, ◌∙◌, sym, arith, length, get_or, ap}
use Rattle.bk_place.specs.Medians.{median_for, medians_with}
use Rattle.bk_place.proofs.ChoosingLemmas.{number_in, some_in}
use Rattle.bk_place.proofs.MedianLemmas.{medians_empty, medians_some}
use Rattle.bk_place.proofs.medians.medians_of.Goals as goal

pub returns-then-is_empty : goal.returns-then-is_empty
returns-then-is_empty c = medians_empty c.args.sweep c.args.links.now c.args.place.now c.args.marked.now c.args.layer c.args.fan.now (sym c.is_empty.ensures ∙ c.if-is_empty.true)

pub median_of-requires-clause-link : goal.median_of-requires-clause-link
median_of-requires-clause-link c = let some = some_in c.args.fan.now (sym c.is_empty.ensures ∙ c.if-is_empty.false) in number_in (length c.args.links.now) c.args.fan.now ((length c.args.fan.now - 1) / 2) c.requires.fan (omega (arith, some))

pub median_of-requires-clause-far : goal.median_of-requires-clause-far
median_of-requires-clause-far c = let some = some_in c.args.fan.now (sym c.is_empty.ensures ∙ c.if-is_empty.false) in c.requires.far _ (number_in (length c.args.links.now) c.args.fan.now ((length c.args.fan.now - 1) / 2) c.requires.fan (omega (arith, some)))

pub median_of-requires-2-clause-link : goal.median_of-requires-2-clause-link
median_of-requires-2-clause-link c = let some = some_in c.args.fan.now (sym c.is_empty.ensures ∙ c.if-is_empty.false) in number_in (length c.args.links.now) c.args.fan.now (length c.args.fan.now / 2) c.requires.fan (omega (arith, some))

pub median_of-requires-2-clause-far : goal.median_of-requires-2-clause-far
median_of-requires-2-clause-far c = let some = some_in c.args.fan.now (sym c.is_empty.ensures ∙ c.if-is_empty.false) in c.requires.far _ (number_in (length c.args.links.now) c.args.fan.now (length c.args.fan.now / 2) c.requires.fan (omega (arith, some)))

pub returns : goal.returns
returns c =
    ap (λ o. medians_with c.args.layer (o) (c.median_of-2.result)) c.median_of.ensures
    ∙ ap (λ o. medians_with c.args.layer (median_for c.args.sweep c.args.links.now c.args.place.now c.args.marked.now (get_or c.args.fan.now ((length c.args.fan.now - 1) / 2) (record { key = 0; number = 0 })).number) (o)) c.median_of-2.ensures
    ∙ medians_some c.args.sweep c.args.links.now c.args.place.now c.args.marked.now c.args.layer c.args.fan.now (sym c.is_empty.ensures ∙ c.if-is_empty.false)
