use Rattle.std.proofs.Common.{List, Option, length, ap, subst, arith, ◌∙◌}
use Rattle.drawing_types.specs.declared.shape.Side.{Side}
use Rattle.drawing_types.specs.declared.shape.Side.TheVariants.{North, South}
use Rattle.dock_table.specs.Lanes.{AreLanePlaces}
use Rattle.dock_table.proofs.LaneLemmas.{lanes_counted}
use Rattle.dock_table.proofs.lanes.lanes_of_child.Goals as goal

pub lane_places-requires-clause-few_north : goal.lane_places-requires-clause-few_north
lane_places-requires-clause-few_north c =
    let long = c.in_ok-sides.ensures.as_long in
    let same = ap length c.as_slice-2.ensures.value in
    let few = c.requires.few in
    let north = c.requires.few_north in
    omega (arith, long, same, few, north)

pub lane_places-requires-clause-few_south : goal.lane_places-requires-clause-few_south
lane_places-requires-clause-few_south c =
    let long = c.in_ok-sides.ensures.as_long in
    let same = ap length c.as_slice-2.ensures.value in
    let few = c.requires.few in
    let south = c.requires.few_south in
    omega (arith, long, same, few, south)

pub returns : goal.returns
returns c =
    record {
      firsts = c.in_ok-firsts.ensures;
      sides = c.in_ok-sides.ensures;
      places = subst (λ (xs : List (Option Side)). AreLanePlaces xs c.args.north c.args.south c.in_ok-placed.placed.places.items) c.as_slice-2.ensures.value c.in_ok-placed.ensures.places;
      north_is = c.in_ok-placed.ensures.north ∙ lanes_counted North c.as_slice-2.result.now c.in_ok-sides.sides.items c.args.north (length c.args.docks.now) c.as_slice-2.ensures.value c.in_ok-sides.ensures.as_long;
      south_is = c.in_ok-placed.ensures.south ∙ lanes_counted South c.as_slice-2.result.now c.in_ok-sides.sides.items c.args.south (length c.args.docks.now) c.as_slice-2.ensures.value c.in_ok-sides.ensures.as_long;
    }
