use Rattle.std.proofs.Common.{List, w64, subst, arith}
use Rattle.std.proofs.lemmas.Int.{ints, to_z-of_z}
use Rattle.net_routes.specs.declared.Net.{Net}
use Rattle.level_model.specs.FromPlan.{AreSlots}
use Rattle.level_nets.proofs.borders.place_gap.Goals as goal

pub returns-clause-placed : goal.returns-clause-placed
returns-clause-placed c =
    let low = c.requires.left.0 in
    let high = c.requires.left.1 in
    let first = c.first_slot.ensures.value in
    let first_low = c.first_slot.ensures.range.0 in
    let first_high = c.first_slot.ensures.range.1 in
    let width = c.gap_width.ensures.value in
    let width_low = c.gap_width.ensures.range.0 in
    let width_high = c.gap_width.ensures.range.1 in
    let step_low = c.requires.spacing.edge_edge_layers.above in
    let step_high = c.requires.spacing.edge_edge_layers.below in
    record {
      left_is = to_z-of_z w64 c.args.left c.ranges.left;
      first = omega (arith, ints, low, high, first, first_low, first_high);
      step = omega (arith, ints, step_low, step_high);
      right = omega (arith, ints, low, high, width, width_low, width_high);
      slots = subst (λ (ns : List Net). AreSlots c.args.sheet.now.level.now.choices.slots ns c.in_ok-gap.field-0.count c.in_ok-gap.field-0.routes.items) c.as_slice.ensures.value c.in_ok-gap.ensures;
    }
