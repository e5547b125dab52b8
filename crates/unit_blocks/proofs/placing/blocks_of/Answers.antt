use Rattle.std.proofs.Common.{◌<◌, ◌≤◌, arith, sym, subst}
use Rattle.std.specs.List.{All}
use Rattle.elk_layers.specs.Layered.{plain, rows_of}
use Rattle.elk_layers.specs.Occurring.{occurs}
use Rattle.unit_blocks.specs.Joining.{AreAllJoined}
use Rattle.unit_blocks.proofs.EntryLemmas.{own_heads}
use Rattle.unit_blocks.proofs.PosedLemmas.{heads_of, can_weave_rows, woven_from, roots_in_range, names_known, blocks_are, offsets_are, offsets_small, order_short}
use Rattle.unit_blocks.proofs.placing.blocks_of.Goals as goal

pub links_into-requires-clause-own_heads : goal.links_into-requires-clause-own_heads
links_into-requires-clause-own_heads c = own_heads (plain c.args.layered.now) (rows_of c.args.order.now) c.args.chosen.now c.requires.sound c.requires.straight

pub join_blocks-requires-clause-heads : goal.join_blocks-requires-clause-heads
join_blocks-requires-clause-heads c = rw c.as_slice.ensures.value (heads_of (plain c.args.layered.now) (rows_of c.args.order.now) c.args.chosen.now c.in_ok-into.into.items c.requires.straight c.in_ok-into.ensures)

pub block_order-requires-clause-can : goal.block_order-requires-clause-can
block_order-requires-clause-can c =
    rw (c.as_slice-2.ensures.value, c.as_slice-names.ensures.value)
    (can_weave_rows (plain c.args.layered.now) (rows_of c.args.order.now) c.args.chosen.now c.in_ok-into.into.items c.in_ok-joined.joined.names.items c.in_ok-joined.joined.offsets.items
    c.requires.sound c.requires.rows c.requires.straight c.in_ok-into.ensures (rw c.as_slice.ensures.value at c.in_ok-joined.ensures))

pub numbered-requires-clause-roots_in_range : goal.numbered-requires-clause-roots_in_range
numbered-requires-clause-roots_in_range c =
    let all : AreAllJoined (plain c.args.layered.now) c.in_ok-into.into.items c.in_ok-joined.joined.names.items c.in_ok-joined.joined.offsets.items = rw c.as_slice.ensures.value at c.in_ok-joined.ensures in
    let w = woven_from (plain c.args.layered.now) (rows_of c.args.order.now) c.args.chosen.now c.in_ok-into.into.items c.in_ok-joined.joined.names.items c.in_ok-joined.joined.offsets.items c.in_ok-roots.roots.items
    c.requires.sound c.requires.rows c.requires.straight c.in_ok-into.ensures all (rw c.as_slice-names.ensures.value at c.in_ok-roots.ensures) in
    rw (c.as_slice-3.ensures.value, c.as_slice-names.ensures.value)
    (subst (λ n. All (λ u. u < n) c.in_ok-roots.roots.items) (sym all.names_long) (roots_in_range (plain c.args.layered.now) (rows_of c.args.order.now) c.in_ok-joined.joined.names.items c.in_ok-roots.roots.items w.is))

pub numbered-requires-clause-no_repeat : goal.numbered-requires-clause-no_repeat
numbered-requires-clause-no_repeat c =
    let all : AreAllJoined (plain c.args.layered.now) c.in_ok-into.into.items c.in_ok-joined.joined.names.items c.in_ok-joined.joined.offsets.items = rw c.as_slice.ensures.value at c.in_ok-joined.ensures in
    let w = woven_from (plain c.args.layered.now) (rows_of c.args.order.now) c.args.chosen.now c.in_ok-into.into.items c.in_ok-joined.joined.names.items c.in_ok-joined.joined.offsets.items c.in_ok-roots.roots.items
    c.requires.sound c.requires.rows c.requires.straight c.in_ok-into.ensures all (rw c.as_slice-names.ensures.value at c.in_ok-roots.ensures) in
    rw c.as_slice-3.ensures.value w.is.no_repeat

pub numbered-requires-clause-few : goal.numbered-requires-clause-few
numbered-requires-clause-few c =
    let all : AreAllJoined (plain c.args.layered.now) c.in_ok-into.into.items c.in_ok-joined.joined.names.items c.in_ok-joined.joined.offsets.items = rw c.as_slice.ensures.value at c.in_ok-joined.ensures in
    let w = woven_from (plain c.args.layered.now) (rows_of c.args.order.now) c.args.chosen.now c.in_ok-into.into.items c.in_ok-joined.joined.names.items c.in_ok-joined.joined.offsets.items c.in_ok-roots.roots.items
    c.requires.sound c.requires.rows c.requires.straight c.in_ok-into.ensures all (rw c.as_slice-names.ensures.value at c.in_ok-roots.ensures) in
    let short = order_short (plain c.args.layered.now) (rows_of c.args.order.now) c.in_ok-joined.joined.names.items c.in_ok-roots.roots.items w.is in
    let few = c.requires.sound.few_units in
    rw c.as_slice-3.ensures.value (omega (arith, short, few))

pub numbered-requires-clause-known : goal.numbered-requires-clause-known
numbered-requires-clause-known c =
    let all : AreAllJoined (plain c.args.layered.now) c.in_ok-into.into.items c.in_ok-joined.joined.names.items c.in_ok-joined.joined.offsets.items = rw c.as_slice.ensures.value at c.in_ok-joined.ensures in
    let w = woven_from (plain c.args.layered.now) (rows_of c.args.order.now) c.args.chosen.now c.in_ok-into.into.items c.in_ok-joined.joined.names.items c.in_ok-joined.joined.offsets.items c.in_ok-roots.roots.items
    c.requires.sound c.requires.rows c.requires.straight c.in_ok-into.ensures all (rw c.as_slice-names.ensures.value at c.in_ok-roots.ensures) in
    let known = names_known (plain c.args.layered.now) (rows_of c.args.order.now) c.args.chosen.now c.in_ok-into.into.items c.in_ok-joined.joined.names.items c.in_ok-joined.joined.offsets.items c.in_ok-roots.roots.items
    c.requires.sound c.requires.rows c.requires.straight w in
    rw (c.as_slice-3.ensures.value, c.as_slice-names.ensures.value)
    (subst (λ m. All (λ n. (n < m) × (1 ≤ occurs n c.in_ok-roots.roots.items)) c.in_ok-joined.joined.names.items) (sym all.names_long) known)

pub returns-clause-blocks : goal.returns-clause-blocks
returns-clause-blocks c =
    let all : AreAllJoined (plain c.args.layered.now) c.in_ok-into.into.items c.in_ok-joined.joined.names.items c.in_ok-joined.joined.offsets.items = rw c.as_slice.ensures.value at c.in_ok-joined.ensures in
    let w = woven_from (plain c.args.layered.now) (rows_of c.args.order.now) c.args.chosen.now c.in_ok-into.into.items c.in_ok-joined.joined.names.items c.in_ok-joined.joined.offsets.items c.in_ok-roots.roots.items
    c.requires.sound c.requires.rows c.requires.straight c.in_ok-into.ensures all (rw c.as_slice-names.ensures.value at c.in_ok-roots.ensures) in
    blocks_are (plain c.args.layered.now) (rows_of c.args.order.now) c.args.chosen.now c.in_ok-into.into.items c.in_ok-joined.joined.names.items c.in_ok-joined.joined.offsets.items c.in_ok-roots.roots.items c.in_ok-block.block.items
    c.requires.sound c.requires.rows c.requires.straight w (rw c.as_slice-names.ensures.value at c.in_ok-block.ensures.long)
    (rw (c.as_slice-3.ensures.value, c.as_slice-names.ensures.value) at c.in_ok-block.ensures.number)

pub returns-clause-offsets : goal.returns-clause-offsets
returns-clause-offsets c =
    let all : AreAllJoined (plain c.args.layered.now) c.in_ok-into.into.items c.in_ok-joined.joined.names.items c.in_ok-joined.joined.offsets.items = rw c.as_slice.ensures.value at c.in_ok-joined.ensures in
    let w = woven_from (plain c.args.layered.now) (rows_of c.args.order.now) c.args.chosen.now c.in_ok-into.into.items c.in_ok-joined.joined.names.items c.in_ok-joined.joined.offsets.items c.in_ok-roots.roots.items
    c.requires.sound c.requires.rows c.requires.straight c.in_ok-into.ensures all (rw c.as_slice-names.ensures.value at c.in_ok-roots.ensures) in
    offsets_are (plain c.args.layered.now) (rows_of c.args.order.now) c.args.chosen.now c.in_ok-into.into.items c.in_ok-joined.joined.names.items c.in_ok-joined.joined.offsets.items c.in_ok-roots.roots.items
    c.requires.sound c.requires.rows c.requires.straight c.in_ok-into.ensures w

pub returns-clause-small : goal.returns-clause-small
returns-clause-small c = offsets_small (plain c.args.layered.now) c.as_slice.result.now c.in_ok-joined.joined.names.items c.in_ok-joined.joined.offsets.items c.requires.sound c.in_ok-joined.ensures

pub returns-clause-few : goal.returns-clause-few
returns-clause-few c =
    let all : AreAllJoined (plain c.args.layered.now) c.in_ok-into.into.items c.in_ok-joined.joined.names.items c.in_ok-joined.joined.offsets.items = rw c.as_slice.ensures.value at c.in_ok-joined.ensures in
    let w = woven_from (plain c.args.layered.now) (rows_of c.args.order.now) c.args.chosen.now c.in_ok-into.into.items c.in_ok-joined.joined.names.items c.in_ok-joined.joined.offsets.items c.in_ok-roots.roots.items
    c.requires.sound c.requires.rows c.requires.straight c.in_ok-into.ensures all (rw c.as_slice-names.ensures.value at c.in_ok-roots.ensures) in
    let short = order_short (plain c.args.layered.now) (rows_of c.args.order.now) c.in_ok-joined.joined.names.items c.in_ok-roots.roots.items w.is in
    let few = c.requires.sound.few_units in
    omega (arith, short, few)
