use Rattle.elk_layers.specs.Layered.{plain, rows_of}
use Rattle.unit_blocks.proofs.PosedLemmas.{solvable, blocks_in_range, values_within, least_tops, tops_within}
use Rattle.unit_blocks.proofs.placing.place_links.Goals as goal

pub least_lines-requires : goal.least_lines-requires
least_lines-requires c =
    solvable (plain c.args.layered.now) (rows_of c.args.order.now) c.args.chosen.now c.in_ok-blocks.blocks.block.items c.in_ok-blocks.blocks.roots.items c.in_ok-constraints.constraints.order.items c.in_ok-blocks.blocks.offset.items c.in_ok-constraints.constraints.floor.items c.in_ok-constraints.constraints.bounds.items
    c.requires.sound c.requires.rows c.requires.straight c.in_ok-blocks.ensures.blocks c.in_ok-blocks.ensures.offsets c.in_ok-constraints.ensures

pub tops-requires-clause-in_range : goal.tops-requires-clause-in_range
tops-requires-clause-in_range c =
    rw (c.as_slice.ensures.value, c.as_slice-3.ensures.value)
    (blocks_in_range (plain c.args.layered.now) (rows_of c.args.order.now) c.args.chosen.now c.in_ok-blocks.blocks.block.items c.in_ok-blocks.blocks.roots.items c.in_ok-constraints.constraints.order.items c.in_ok-blocks.blocks.offset.items c.in_ok-constraints.constraints.floor.items c.in_ok-constraints.constraints.bounds.items
    c.requires.sound c.requires.rows c.requires.straight c.in_ok-blocks.ensures.blocks c.in_ok-blocks.ensures.offsets c.in_ok-constraints.ensures
    c.in_ok-least.least.value.items c.in_ok-least.least.tight.items c.in_ok-least.ensures)

pub tops-requires-clause-values_low : goal.tops-requires-clause-values_low
tops-requires-clause-values_low c =
    rw c.as_slice-3.ensures.value
    (λ b h. (values_within (plain c.args.layered.now) (rows_of c.args.order.now) c.args.chosen.now c.in_ok-blocks.blocks.block.items c.in_ok-blocks.blocks.roots.items c.in_ok-constraints.constraints.order.items c.in_ok-blocks.blocks.offset.items c.in_ok-constraints.constraints.floor.items c.in_ok-constraints.constraints.bounds.items
    c.requires.sound c.requires.rows c.requires.straight c.in_ok-blocks.ensures.blocks c.in_ok-blocks.ensures.offsets c.in_ok-constraints.ensures
    c.in_ok-least.least.value.items c.in_ok-least.least.tight.items c.in_ok-least.ensures b h).0)

pub tops-requires-clause-values_high : goal.tops-requires-clause-values_high
tops-requires-clause-values_high c =
    rw c.as_slice-3.ensures.value
    (λ b h. (values_within (plain c.args.layered.now) (rows_of c.args.order.now) c.args.chosen.now c.in_ok-blocks.blocks.block.items c.in_ok-blocks.blocks.roots.items c.in_ok-constraints.constraints.order.items c.in_ok-blocks.blocks.offset.items c.in_ok-constraints.constraints.floor.items c.in_ok-constraints.constraints.bounds.items
    c.requires.sound c.requires.rows c.requires.straight c.in_ok-blocks.ensures.blocks c.in_ok-blocks.ensures.offsets c.in_ok-constraints.ensures
    c.in_ok-least.least.value.items c.in_ok-least.least.tight.items c.in_ok-least.ensures b h).1)

pub returns-clause-least : goal.returns-clause-least
returns-clause-least c =
    least_tops (plain c.args.layered.now) (rows_of c.args.order.now) c.args.chosen.now c.in_ok-blocks.blocks.block.items c.in_ok-blocks.blocks.roots.items c.in_ok-constraints.constraints.order.items c.in_ok-blocks.blocks.offset.items c.in_ok-constraints.constraints.floor.items c.in_ok-constraints.constraints.bounds.items
    c.requires.sound c.requires.rows c.requires.straight c.in_ok-blocks.ensures.blocks c.in_ok-blocks.ensures.offsets c.in_ok-constraints.ensures
    c.in_ok-least.least.value.items c.in_ok-top.top.items c.in_ok-least.least.tight.items c.in_ok-least.ensures
    (rw c.as_slice.ensures.value at c.in_ok-top.ensures.long) (rw (c.as_slice.ensures.value, c.as_slice-2.ensures.value, c.as_slice-3.ensures.value) at c.in_ok-top.ensures.tops)

pub returns-clause-within : goal.returns-clause-within
returns-clause-within c =
    tops_within (plain c.args.layered.now) (rows_of c.args.order.now) c.args.chosen.now c.in_ok-blocks.blocks.block.items c.in_ok-blocks.blocks.roots.items c.in_ok-constraints.constraints.order.items c.in_ok-blocks.blocks.offset.items c.in_ok-constraints.constraints.floor.items c.in_ok-constraints.constraints.bounds.items
    c.requires.sound c.requires.rows c.requires.straight c.in_ok-blocks.ensures.blocks c.in_ok-blocks.ensures.offsets c.in_ok-constraints.ensures
    c.in_ok-least.least.value.items c.in_ok-top.top.items c.in_ok-least.least.tight.items c.in_ok-least.ensures
    (rw c.as_slice.ensures.value at c.in_ok-top.ensures.long) (rw (c.as_slice.ensures.value, c.as_slice-2.ensures.value, c.as_slice-3.ensures.value) at c.in_ok-top.ensures.tops)
