use Rattle.std.proofs.Common.{arith, ap, length}
use Rattle.std.proofs.lemmas.List.{length-map}
use Rattle.elk_layers.specs.Layered.{plain, rows_of}
use Rattle.unit_blocks.proofs.JoiningLemmas.{next_row, join_end}
use Rattle.unit_blocks.proofs.joining.join_rows.Goals as goal

pub loop-r-preserved : goal.loop-r-preserved
loop-r-preserved c =
    next_row (plain c.args.layered.now) (rows_of c.args.order.now) c.args.into.now c.requires.sound c.requires.rows c.requires.heads c.loop-r.r _ c.join_row.new.names c.join_row.new.offsets
    (omega arith) (let long = length-map c.args.order.now.rows.items (λ v. v.items) in let same = ap length c.as_slice-rows.ensures.value in let h = c.loop-r-test.true in omega (arith, long, same, h)) c.join_row.ensures

pub returns : goal.returns
returns c =
    join_end (plain c.args.layered.now) (rows_of c.args.order.now) c.args.into.now c.requires.sound c.requires.rows c.requires.heads c.loop-r.r c.loop-r.names c.loop-r.offsets
    (let long = length-map c.args.order.now.rows.items (λ v. v.items) in let same = ap length c.as_slice-rows.ensures.value in let h = c.loop-r-test.false in omega (arith, long, same, h)) c.loop-r.invariant
