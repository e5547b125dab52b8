use Rattle.std.proofs.Common.{arith, sym, ◌∙◌}
use Rattle.elk_doc.proofs.NumberLaws.{count_below-zero, count_below-more, count_below-same}
use Rattle.layout_check.specs.FirstApart.{is_leader}
use Rattle.layout_check.proofs.parts.number_of.Goals as goal
use Rattle.layout_check.proofs.parts.number_of.Goals.{then-is_leader, else-is_leader}

pub loop-leader-init : goal.loop-leader-init
loop-leader-init c = record { counted = sym (count_below-zero _); few = omega arith }

pub loop-leader-preserved : goal.loop-leader-preserved
loop-leader-preserved c =
    let passes = is_leader c.args.doc.now c.args.node c.args.names.now in
    elim c.if-is_leader.branch [
      | then-is_leader w ↦
          let more = count_below-more passes c.loop-leader.leader (sym c.is_leader.ensures ∙ w.if-is_leader.true) in
          record { counted = omega arith; few = omega arith }
      | else-is_leader w ↦
          let same = count_below-same passes c.loop-leader.leader (sym c.is_leader.ensures ∙ w.if-is_leader.false) in
          record { counted = omega arith; few = omega arith }
    ]
