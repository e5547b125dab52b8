use Rattle.std.proofs.Common.{◌∙◌, sym, ap, refl}
use Rattle.std.proofs.lemmas.Fn.{says_at}
use Rattle.serde_json.specs.View.{items_view}
use Rattle.elk_write.specs.Reading.{all_in}
use Rattle.elk_write.proofs.ItemLists.{next_read, none_read, all_read}
use Rattle.elk_write.proofs.reading.read_each.Goals as goal

pub loop-item-preserved : goal.loop-item-preserved
loop-item-preserved g c = λ spec law.
    next_read spec _ c.loop-item.item-index c.item-item.result c.loop-item.parts.items c.push.new.self.items c.in-Some.part _ c.loop-item-test.true c.item-item.is
    (sym (law c.item-item.result c.read.result (says_at g.F.Fn c.read.ensures refl)) ∙ c.in-Some.is) c.in_ok-push-in-Some.ensures.items (c.loop-item.invariant spec law)

pub returns-in-None : goal.returns-in-None
returns-in-None g c = λ spec law.
    none_read spec _ c.loop-item.item-index c.item-item.result c.loop-item.parts.items _ c.loop-item-test.true c.item-item.is
    (sym (law c.item-item.result c.read.result (says_at g.F.Fn c.read.ensures refl)) ∙ c.in-None.is) (c.loop-item.invariant spec law)
    ∙ ap (λ l. all_in spec (items_view l)) c.deref-item-items.ensures.value

pub returns : goal.returns
returns g c = λ spec law.
    all_read spec _ c.loop-item.item-index c.loop-item.parts.items _ c.loop-item-test.false (c.loop-item.invariant spec law)
    ∙ ap (λ l. all_in spec (items_view l)) c.deref-item-items.ensures.value
