use Rattle.std.proofs.Common.{◌≡◌, ◌<◌, ap, subst, sym, arith, length, get_or}
use Rattle.std.proofs.lemmas.List.{length-map}
use Rattle.std.specs.List.{All}
use Rattle.elk_layers.specs.Layered.{plain, rows_of}
use Rattle.unit_blocks.specs.Chains.{IsChain}
use Rattle.unit_blocks.specs.Blocks.{block_order}
use Rattle.unit_blocks.proofs.RowLemmas.{rows_start, rows_more, rows_end, weaves_same}
use Rattle.unit_blocks.proofs.order.weave_rows.Goals as goal
use Rattle.elk_layers.proofs.RowLemmas.{row_read, row_in_range}

pub weave_row-requires-clause-units : goal.weave_row-requires-clause-units
weave_row-requires-clause-units c =
    let r = row_read (λ v. v.items) c.deref-row-items.result.now c.args.order.now.rows.items c.loop-row.row-index c.row-item.result c.deref-row-items.ensures.value c.row-item.is c.loop-row-test.true in
    let all = row_in_range (plain c.args.layered.now) (rows_of c.args.order.now) c.loop-row.row-index c.row-item.result.items c.requires.can.are_rows r.1 r.0 in
    rw c.as_slice.ensures.value (subst (λ n. All (λ u. u < n) c.row-item.result.items) (sym c.requires.end) all)

pub loop-row-init : goal.loop-row-init
loop-row-init c =
    (c.requires.long, rows_start _ _ _ _ c.requires.can c.args.next.now (subst (λ n. get_or c.args.next.now n 0 ≡ n) c.requires.end c.requires.empty))

pub loop-row-preserved : goal.loop-row-preserved
loop-row-preserved c =
    let r = row_read (λ v. v.items) c.deref-row-items.result.now c.args.order.now.rows.items c.loop-row.row-index c.row-item.result c.deref-row-items.ensures.value c.row-item.is c.loop-row-test.true in (
      c.weave_row.ensures.long,
      rows_more (plain c.args.layered.now) (rows_of c.args.order.now) c.args.into.now c.args.names.now c.requires.can c.loop-row.row-index c.loop-row.next c.weave_row.new.next c.row-item.result.items
          r.1 r.0 c.loop-row.invariant.1
          (weaves_same c.args.into.now c.args.names.now c.args.end _ c.loop-row.next c.weave_row.new.next _ c.row-item.result.items c.requires.end c.as_slice.ensures.value c.weave_row.ensures.woven),
    )

pub returns-clause-chain : goal.returns-clause-chain
returns-clause-chain c =
    let long = length-map c.args.order.now.rows.items (λ v. v.items) in
    let same = ap length c.deref-row-items.ensures.value in
    let chain = rows_end _ _ _ _ c.requires.can c.loop-row.row-index c.loop-row.next (omega (arith, long, same, c.loop-row-test.false)) c.loop-row.invariant.1 in
    subst (λ n. IsChain c.loop-row.next n (block_order (plain c.args.layered.now) (rows_of c.args.order.now) c.args.names.now) n) (sym c.requires.end) chain
