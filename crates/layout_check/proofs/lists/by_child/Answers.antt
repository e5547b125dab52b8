use Rattle.std.proofs.Common.{◌≡◌, sym, ap, ◌∙◌, arith, slice_index, ℕ}
use Rattle.elk_doc.specs.Level.{is_child, place_of_child}
use Rattle.elk_doc.proofs.NumberLaws.{count_below-zero, count_below-more, count_below-same}
use Rattle.layout_check.proofs.ListLaws.{Lists-none, Lists-push}
use Rattle.layout_check.proofs.lists.by_child.Goals as goal
use Rattle.layout_check.proofs.lists.by_child.Goals.{then-is_child, else-is_child}

pub loop-child-init : goal.loop-child-init
loop-child-init c = record { listed = Lists-none _ _ c.new-numbers.ensures.items; counted = sym (count_below-zero _); few = omega arith }

pub loop-child-preserved : goal.loop-child-preserved
loop-child-preserved c =
    let passes = is_child c.args.doc.now c.args.node in
    let f : ℕ → ℕ = λ child. slice_index c.args.values.now (place_of_child c.args.doc.now c.args.node child) in
    let value : c.number_at.result ≡ f c.loop-child.child =
    c.number_at.ensures ∙ ap (slice_index c.args.values.now) c.loop-child.invariant.counted
    in
    let listed = Lists-push f c.loop-child.child c.loop-child.numbers.items _ _ c.loop-child.invariant.listed value c.in_ok-push.ensures.items in
    elim c.if-is_child.branch [
      | then-is_child w ↦
          let more = count_below-more passes c.loop-child.child (sym c.is_child.ensures ∙ w.if-is_child.true) in
          record { listed = listed; counted = omega arith; few = omega arith }
      | else-is_child w ↦
          let same = count_below-same passes c.loop-child.child (sym c.is_child.ensures ∙ w.if-is_child.false) in
          record { listed = listed; counted = omega arith; few = omega arith }
    ]
