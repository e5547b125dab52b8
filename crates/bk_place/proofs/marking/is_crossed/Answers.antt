use Rattle.std.proofs.Common.{◌≡◌, ◌||◌, ◌∙◌, sym, ap, true, false}
use Rattle.std.specs.List.{list_any}
use Rattle.elk_layers.specs.Layered.{plain}
use Rattle.elk_layers.specs.Alignment.{is_inner}
use Rattle.bk_place.specs.Marks.{pin_of, overtakes, mirrored}
use Rattle.bk_place.proofs.MarkLemmas.{either_way}
use Rattle.bk_place.proofs.marking.is_crossed.Goals as goal

pub returns-then-is_overtaken : goal.returns-then-is_overtaken
returns-then-is_overtaken c = λ inner both.
    let pin = pin_of (plain c.args.layered.now) c.args.place.now c.args.link in
    let inside : is_inner (plain c.args.layered.now) c.args.link ≡ false = sym c.is_inner.ensures ∙ c.if-is_inner.false in
    let above : list_any (λ other. overtakes other (pin_of (plain c.args.layered.now) c.args.place.now c.args.link)) c.args.above.now.pins.items ≡ true =
    ap (λ p. list_any (λ other. overtakes other p) c.args.above.now.pins.items) (sym c.pin_for-pin.ensures.pin) ∙ sym c.is_overtaken.ensures ∙ c.if-is_overtaken.true in
    let way = either_way inner c.args.above.now.pins.items c.args.below.now.pins.items (pin_of (plain c.args.layered.now) c.args.place.now c.args.link) (rw c.pin_for-pin.ensures.pin at c.pin_for-pin.ensures.low) both in
    rw inside (sym (ap (λ b. b || list_any (λ other. overtakes other (mirrored (pin_of (plain c.args.layered.now) c.args.place.now c.args.link))) c.args.below.now.pins.items) above) ∙ way)

pub returns : goal.returns
returns c = λ inner both.
    let inside : is_inner (plain c.args.layered.now) c.args.link ≡ false = sym c.is_inner.ensures ∙ c.if-is_inner.false in
    let above : list_any (λ other. overtakes other (pin_of (plain c.args.layered.now) c.args.place.now c.args.link)) c.args.above.now.pins.items ≡ false =
    ap (λ p. list_any (λ other. overtakes other p) c.args.above.now.pins.items) (sym c.pin_for-pin.ensures.pin) ∙ sym c.is_overtaken.ensures ∙ c.if-is_overtaken.false in
    let below : c.is_overtaken-2.result ≡ list_any (λ other. overtakes other (mirrored (pin_of (plain c.args.layered.now) c.args.place.now c.args.link))) c.args.below.now.pins.items =
    c.is_overtaken-2.ensures ∙ ap (λ p. list_any (λ other. overtakes other p) c.args.below.now.pins.items) (c.mirrored.ensures ∙ ap mirrored c.pin_for-pin.ensures.pin) in
    let way = either_way inner c.args.above.now.pins.items c.args.below.now.pins.items (pin_of (plain c.args.layered.now) c.args.place.now c.args.link) (rw c.pin_for-pin.ensures.pin at c.pin_for-pin.ensures.low) both in
    rw inside (below ∙ sym (ap (λ b. b || list_any (λ other. overtakes other (mirrored (pin_of (plain c.args.layered.now) c.args.place.now c.args.link))) c.args.below.now.pins.items) above) ∙ way)
