use Rattle.std.proofs.Common.{◌≡◌, ◌<◌, length, get_or, arith, ap, sym, subst, ◌∙◌, IfSome, None}
use Rattle.elk_layers.specs.Layered.{plain, rows_of}
use Rattle.elk_layers.proofs.RowLemmas.{row_taken}
use Rattle.unit_blocks.specs.Joining.{CanFollow, Joins, AreJoinedUpTo}
use Rattle.unit_blocks.proofs.JoiningLemmas.{can_follow, join_more}
use Rattle.unit_blocks.proofs.joining.join_row.Goals as goal

pub join_unit-requires-clause-unit : goal.join_unit-requires-clause-unit
join_unit-requires-clause-unit c =
    let is = row_taken (λ v. v.items) c.args.order.now.rows.items c.args.r c.index.result.now c.as_slice-row.result.now c.index.ensures c.as_slice-row.ensures.value c.requires.row in
    let h = subst (λ xs. c.loop-unit.unit-index < length xs) (sym is) c.loop-unit-test.true in
    subst (λ xs. get_or xs c.loop-unit.unit-index 0 < length (plain c.args.layered.now).units) is
    (c.requires.rows.in_range c.args.r c.requires.row c.loop-unit.unit-index h)

pub join_unit-requires-clause-can : goal.join_unit-requires-clause-can
join_unit-requires-clause-can c =
    let l = plain c.args.layered.now in
    let is = row_taken (λ v. v.items) c.args.order.now.rows.items c.args.r c.index.result.now c.as_slice-row.result.now c.index.ensures c.as_slice-row.ensures.value c.requires.row in
    let h = subst (λ xs. c.loop-unit.unit-index < length xs) (sym is) c.loop-unit-test.true in
    subst (λ xs. IfSome (get_or c.args.into.now (get_or xs c.loop-unit.unit-index 0) None) (λ k. CanFollow (plain c.args.layered.now) c.loop-unit.offsets k)) is
    (can_follow l (rows_of c.args.order.now) c.args.into.now c.requires.sound c.requires.rows c.requires.heads c.args.r c.loop-unit.unit-index c.loop-unit.names c.loop-unit.offsets c.requires.row h c.loop-unit.invariant)

pub loop-unit-preserved : goal.loop-unit-preserved
loop-unit-preserved c =
    let l = plain c.args.layered.now in
    let is = row_taken (λ v. v.items) c.args.order.now.rows.items c.args.r c.index.result.now c.as_slice-row.result.now c.index.ensures c.as_slice-row.ensures.value c.requires.row in
    let h = subst (λ xs. c.loop-unit.unit-index < length xs) (sym is) c.loop-unit-test.true in
    join_more l (rows_of c.args.order.now) c.args.into.now c.requires.sound c.requires.rows c.requires.heads c.args.r c.loop-unit.unit-index c.loop-unit.names c.loop-unit.offsets c.requires.row h c.loop-unit.invariant
    c.join_unit.new.names c.join_unit.new.offsets
    (subst (λ xs. Joins (plain c.args.layered.now) (get_or c.args.into.now (get_or xs c.loop-unit.unit-index 0) None) (get_or xs c.loop-unit.unit-index 0) c.loop-unit.names c.join_unit.new.names c.loop-unit.offsets c.join_unit.new.offsets) (sym is) c.join_unit.ensures)

pub returns : goal.returns
returns c =
    let is = row_taken (λ v. v.items) c.args.order.now.rows.items c.args.r c.index.result.now c.as_slice-row.result.now c.index.ensures c.as_slice-row.ensures.value c.requires.row in
    let end : c.loop-unit.unit-index ≡ length c.as_slice-row.result.now = let a = c.loop-unit-test.false in let b = c.loop-unit.auto.unit-index-end in omega (arith, a, b) in
    subst (λ i. AreJoinedUpTo (plain c.args.layered.now) (rows_of c.args.order.now) c.args.into.now c.args.r i c.loop-unit.names c.loop-unit.offsets) (end ∙ ap length (sym is)) c.loop-unit.invariant
