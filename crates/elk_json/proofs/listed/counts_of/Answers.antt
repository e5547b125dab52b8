use Rattle.std.proofs.Common.{◌≡◌, ◌+◌, ◌∙◌, ap, sym, cond, arith}
use Rattle.elk_json.specs.Counts.{of_kind}
use Rattle.elk_json.specs.Seen.{seen, seen_list}
use Rattle.elk_json.proofs.Counting.{items_next, items_last, counted_next}
use Rattle.elk_json.proofs.listed.counts_of.Goals as goal
use Rattle.elk_json.proofs.listed.counts_of.Goals.{then-is_of, else-is_of}

pub loop-element-preserved : goal.loop-element-preserved
loop-element-preserved c =
    let test = of_kind c.args.kind in
    let all = seen_list c.args.elements.now in
    let items = items_next test all c.loop-element.element-index c.loop-element.count c.loop-element.counted.items c.push.new.self.items c.in_ok-push.ensures.items c.loop-element.invariant.0 c.loop-element.invariant.1 in
    let step : c.if-is_of.count ≡ c.loop-element.count + cond (test (seen c.element-item.result)) 1 0 =
    elim c.if-is_of.branch [
      | then-is_of w ↦ w.count-is ∙ ap (λ b. c.loop-element.count + cond b 1 0) (sym w.if-is_of.true ∙ c.is_of.ensures)
      | else-is_of w ↦ w.count-is ∙ (let z : c.loop-element.count ≡ c.loop-element.count + 0 = omega arith in z) ∙ ap (λ b. c.loop-element.count + cond b 1 0) (sym w.if-is_of.false ∙ c.is_of.ensures)
    ] in
    let next = counted_next test c.args.elements.now c.loop-element.element-index c.element-item.result c.loop-element.count c.if-is_of.count c.loop-element-test.true c.element-item.is
    c.loop-element.invariant.1 c.loop-element.invariant.2 step in
    (items, next.0, next.1)

pub returns : goal.returns
returns c =
    items_last (of_kind c.args.kind) c.args.elements.now c.loop-element.element-index c.loop-element.count c.loop-element.counted.items c.push-2.new.self.items
    c.loop-element-test.false c.loop-element.auto.element-index-end c.in_ok-push-2.ensures.items c.loop-element.invariant.0 c.loop-element.invariant.1
