use Rattle.std.proofs.Common.{true, refl, rules}
use Rattle.std.specs.BTreeSet.{Updates}
use Rattle.route_slots.specs.Slotting.{end_cmp}
use Rattle.route_slots.proofs.Keys.{takes_by}
use Rattle.route_slots.proofs.slotting.take.Goals as goal

pub returns-clause-takes : goal.returns-clause-takes
returns-clause-takes c =
    let u : Updates end_cmp c.pick-slot.new.row.busy c.insert.new.self (c.args.segment.high, c.pick-slot.result) true = search rules in
    takes_by c.args.row.now c.enter.new.row c.pick-slot.new.row _ c.args.segment c.pick-slot.result c.enter.ensures.count c.enter.ensures.from c.enter.ensures.kept c.pick-slot.ensures.picks u refl
