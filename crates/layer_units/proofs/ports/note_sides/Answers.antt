use Rattle.std.proofs.Common.{◌∙◌, arith}
use Rattle.drawing_types.specs.declared.shape.Side.TheVariants.{East, West}
use Rattle.layer_units.proofs.NoteLemmas.{once, ordered, short, within}
use Rattle.layer_units.proofs.ports.note_sides.Goals as goal

pub note_places-requires-clause-units : goal.note_places-requires-clause-units
note_places-requires-clause-units c = within c.args.child.now c.args.spots.now c.requires.spots West c.args.west.now c.args.before.now c.requires.west c.requires.as_many

pub note_places-requires-clause-once : goal.note_places-requires-clause-once
note_places-requires-clause-once c = once c.args.child.now c.args.spots.now c.requires.spots West c.args.west.now c.requires.west

pub note_places-requires-clause-few : goal.note_places-requires-clause-few
note_places-requires-clause-few c = let few = short c.args.child.now c.args.spots.now c.requires.spots West c.args.west.now c.requires.west in omega (arith, few)

pub note_places-requires-2-clause-units : goal.note_places-requires-2-clause-units
note_places-requires-2-clause-units c = within c.args.child.now c.args.spots.now c.requires.spots East c.args.east.now c.note_places.new.place c.requires.east (c.note_places.ensures.as_long ∙ c.requires.as_many)

pub note_places-requires-2-clause-once : goal.note_places-requires-2-clause-once
note_places-requires-2-clause-once c = once c.args.child.now c.args.spots.now c.requires.spots East c.args.east.now c.requires.east

pub note_places-requires-2-clause-few : goal.note_places-requires-2-clause-few
note_places-requires-2-clause-few c = let few = short c.args.child.now c.args.spots.now c.requires.spots East c.args.east.now c.requires.east in omega (arith, few)

pub returns : goal.returns
returns c =
    ordered c.args.child.now c.args.spots.now c.requires.spots c.args.west.now c.args.east.now c.args.before.now c.note_places.new.place c.note_places-2.new.place c.requires.west c.requires.east c.requires.as_many c.requires.few c.note_places.ensures c.note_places-2.ensures
