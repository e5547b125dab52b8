use Rattle.std.proofs.Common.{◌∙◌, arith}
use Rattle.drawing_types.specs.declared.shape.Side.TheVariants.{North, East, South, West}
use Rattle.dock_table.specs.Sides.{four_of}
use Rattle.dock_table.proofs.PartLemmas.{note_ready, sides_noted}
use Rattle.dock_table.proofs.docks.note_sides.Goals as goal

pub note_places-requires-clause-units : goal.note_places-requires-clause-units
note_places-requires-clause-units c = (note_ready c.args.child.now North c.args.spots.now (four_of c.args.orders.now) c.on.result.now c.args.place.now c.requires.numbers c.requires.orders c.on.ensures (c.requires.as_long) c.requires.few).0

pub note_places-requires-clause-once : goal.note_places-requires-clause-once
note_places-requires-clause-once c = (note_ready c.args.child.now North c.args.spots.now (four_of c.args.orders.now) c.on.result.now c.args.place.now c.requires.numbers c.requires.orders c.on.ensures (c.requires.as_long) c.requires.few).1

pub note_places-requires-clause-few : goal.note_places-requires-clause-few
note_places-requires-clause-few c = let few = (note_ready c.args.child.now North c.args.spots.now (four_of c.args.orders.now) c.on.result.now c.args.place.now c.requires.numbers c.requires.orders c.on.ensures (c.requires.as_long) c.requires.few).2 in omega (arith, few)

pub note_places-requires-2-clause-units : goal.note_places-requires-2-clause-units
note_places-requires-2-clause-units c = (note_ready c.args.child.now East c.args.spots.now (four_of c.args.orders.now) c.on-2.result.now c.note_places.new.place c.requires.numbers c.requires.orders c.on-2.ensures (c.note_places.ensures.as_long ∙ c.requires.as_long) c.requires.few).0

pub note_places-requires-2-clause-once : goal.note_places-requires-2-clause-once
note_places-requires-2-clause-once c = (note_ready c.args.child.now East c.args.spots.now (four_of c.args.orders.now) c.on-2.result.now c.note_places.new.place c.requires.numbers c.requires.orders c.on-2.ensures (c.note_places.ensures.as_long ∙ c.requires.as_long) c.requires.few).1

pub note_places-requires-2-clause-few : goal.note_places-requires-2-clause-few
note_places-requires-2-clause-few c = let few = (note_ready c.args.child.now East c.args.spots.now (four_of c.args.orders.now) c.on-2.result.now c.note_places.new.place c.requires.numbers c.requires.orders c.on-2.ensures (c.note_places.ensures.as_long ∙ c.requires.as_long) c.requires.few).2 in omega (arith, few)

pub note_places-requires-3-clause-units : goal.note_places-requires-3-clause-units
note_places-requires-3-clause-units c = (note_ready c.args.child.now South c.args.spots.now (four_of c.args.orders.now) c.on-3.result.now c.note_places-2.new.place c.requires.numbers c.requires.orders c.on-3.ensures (c.note_places-2.ensures.as_long ∙ c.note_places.ensures.as_long ∙ c.requires.as_long) c.requires.few).0

pub note_places-requires-3-clause-once : goal.note_places-requires-3-clause-once
note_places-requires-3-clause-once c = (note_ready c.args.child.now South c.args.spots.now (four_of c.args.orders.now) c.on-3.result.now c.note_places-2.new.place c.requires.numbers c.requires.orders c.on-3.ensures (c.note_places-2.ensures.as_long ∙ c.note_places.ensures.as_long ∙ c.requires.as_long) c.requires.few).1

pub note_places-requires-3-clause-few : goal.note_places-requires-3-clause-few
note_places-requires-3-clause-few c = let few = (note_ready c.args.child.now South c.args.spots.now (four_of c.args.orders.now) c.on-3.result.now c.note_places-2.new.place c.requires.numbers c.requires.orders c.on-3.ensures (c.note_places-2.ensures.as_long ∙ c.note_places.ensures.as_long ∙ c.requires.as_long) c.requires.few).2 in omega (arith, few)

pub note_places-requires-4-clause-units : goal.note_places-requires-4-clause-units
note_places-requires-4-clause-units c = (note_ready c.args.child.now West c.args.spots.now (four_of c.args.orders.now) c.on-4.result.now c.note_places-3.new.place c.requires.numbers c.requires.orders c.on-4.ensures (c.note_places-3.ensures.as_long ∙ c.note_places-2.ensures.as_long ∙ c.note_places.ensures.as_long ∙ c.requires.as_long) c.requires.few).0

pub note_places-requires-4-clause-once : goal.note_places-requires-4-clause-once
note_places-requires-4-clause-once c = (note_ready c.args.child.now West c.args.spots.now (four_of c.args.orders.now) c.on-4.result.now c.note_places-3.new.place c.requires.numbers c.requires.orders c.on-4.ensures (c.note_places-3.ensures.as_long ∙ c.note_places-2.ensures.as_long ∙ c.note_places.ensures.as_long ∙ c.requires.as_long) c.requires.few).1

pub note_places-requires-4-clause-few : goal.note_places-requires-4-clause-few
note_places-requires-4-clause-few c = let few = (note_ready c.args.child.now West c.args.spots.now (four_of c.args.orders.now) c.on-4.result.now c.note_places-3.new.place c.requires.numbers c.requires.orders c.on-4.ensures (c.note_places-3.ensures.as_long ∙ c.note_places-2.ensures.as_long ∙ c.note_places.ensures.as_long ∙ c.requires.as_long) c.requires.few).2 in omega (arith, few)

pub returns : goal.returns
returns c =
    sides_noted c.args.child.now c.args.spots.now (four_of c.args.orders.now) c.on.result.now c.on-2.result.now c.on-3.result.now c.on-4.result.now c.args.place.now c.note_places.new.place c.note_places-2.new.place c.note_places-3.new.place c.note_places-4.new.place
    c.requires.numbers c.requires.orders c.requires.as_long c.on.ensures c.on-2.ensures c.on-3.ensures c.on-4.ensures c.note_places.ensures c.note_places-2.ensures c.note_places-3.ensures c.note_places-4.ensures
