use Rattle.std.proofs.Common.{◌≡◌, ℕ, List, ◌<◌, [], length, get_or, arith, ap, sym, subst, ◌∙◌, refl, take_all}
use Rattle.std.proofs.lemmas.List.Elements.{All-get_or, All-nil}
use Rattle.drawing_types.specs.declared.sweep.Sweep.{Sweep}
use Rattle.elk_layers.specs.declared.units.Layered.{Layered}
use Rattle.elk_layers.specs.declared.units.Order.{Order}
use Rattle.elk_layers.specs.Layered.{plain, rows_of, AreRows}
use Rattle.elk_layers.specs.Alignment.{chosen_after, visits}
use Rattle.bk_place.proofs.ChoosingLemmas.{visits_more, visits_known}
use Rattle.bk_place.proofs.MedianLemmas.{visit_is, entry_layer, table_long}
use Rattle.bk_place.proofs.choosing.visit_all.Goals as goal

unit_known : (l : Layered) (order : Order) (sweep : Sweep) (items : List ℕ) (i : ℕ) → AreRows (plain l) (rows_of order) → items ≡ visits sweep (rows_of order) → i < length items → get_or items i 0 < length (plain l).units
unit_known l order sweep items i rows same h =
    subst (λ xs. get_or xs i 0 < length (plain l).units) (sym same)
    (All-get_or (λ u. u < length (plain l).units) (visits sweep (rows_of order)) i 0 (subst (λ xs. i < length xs) same h)
    (visits_known (plain l) (rows_of order) sweep rows))

pub bounds-table-unit : goal.bounds-table-unit
bounds-table-unit c =
    let items = c.as_slice-unit-items.ensures.value ∙ c.in_ok-visited.ensures in
    let long = table_long (plain c.args.layered.now) (rows_of c.args.order.now) c.args.sweep c.args.table.now c.requires.can in
    subst (λ n. get_or c.as_slice-unit-items.result.now c.loop-unit.unit-index 0 < n) (sym long)
    (unit_known c.args.layered.now c.args.order.now c.args.sweep c.as_slice-unit-items.result.now c.loop-unit.unit-index c.requires.can.can.are_rows items c.loop-unit-test.true)

pub visit-requires : goal.visit-requires
visit-requires c =
    let items = c.as_slice-unit-items.ensures.value ∙ c.in_ok-visited.ensures in
    let u = get_or c.as_slice-unit-items.result.now c.loop-unit.unit-index 0 in
    let h = unit_known c.args.layered.now c.args.order.now c.args.sweep c.as_slice-unit-items.result.now c.loop-unit.unit-index c.requires.can.can.are_rows items c.loop-unit-test.true in
    let same = entry_layer (plain c.args.layered.now) (rows_of c.args.order.now) c.args.sweep c.args.table.now c.requires.can (get_or c.as_slice-unit-items.result.now c.loop-unit.unit-index 0) h in
    let low = c.requires.can.can.sound.layers_are (get_or c.as_slice-unit-items.result.now c.loop-unit.unit-index 0) h in
    let long = c.loop-unit.invariant.1.as_many in
    record { layer = omega (arith, same, low, long) }

pub loop-unit-init : goal.loop-unit-init
loop-unit-init c = rw c.in_ok-chosen.ensures.items (refl, c.requires.last, All-nil (λ k. k < length (plain c.args.layered.now).links))

pub loop-unit-preserved : goal.loop-unit-preserved
loop-unit-preserved c =
    let items = c.as_slice-unit-items.ensures.value ∙ c.in_ok-visited.ensures in
    let h = subst (λ xs. c.loop-unit.unit-index < length xs) items c.loop-unit-test.true in
    let u = get_or c.as_slice-unit-items.result.now c.loop-unit.unit-index 0 in
    let hu : get_or c.as_slice-unit-items.result.now c.loop-unit.unit-index 0 < length (plain c.args.layered.now).units =
    subst (λ xs. get_or xs c.loop-unit.unit-index 0 < length (plain c.args.layered.now).units) (sym items)
    (All-get_or (λ u. u < length (plain c.args.layered.now).units) (visits c.args.sweep (rows_of c.args.order.now)) c.loop-unit.unit-index 0 h
    (visits_known (plain c.args.layered.now) (rows_of c.args.order.now) c.args.sweep c.requires.can.can.are_rows)) in
    visits_more (plain c.args.layered.now) (rows_of c.args.order.now) c.args.sweep c.requires.can.place c.requires.can.marked c.requires.can.spokes c.requires.can.can
    (visits c.args.sweep (rows_of c.args.order.now)) c.loop-unit.chosen.items c.visit.new.chosen.items c.loop-unit.last c.visit.new.last c.loop-unit.unit-index
    (get_or c.as_slice-unit-items.result.now c.loop-unit.unit-index 0) h (ap (λ xs. get_or xs c.loop-unit.unit-index 0) items) hu
    c.loop-unit.invariant.2 c.loop-unit.invariant.1 c.loop-unit.invariant.0
    (visit_is (plain c.args.layered.now) (rows_of c.args.order.now) c.args.sweep c.args.table.now c.requires.can
    (get_or c.as_slice-unit-items.result.now c.loop-unit.unit-index 0) c.loop-unit.chosen.items c.visit.new.chosen.items c.loop-unit.last c.visit.new.last hu c.in_ok-visit.ensures)

pub returns : goal.returns
returns c =
    let items = c.as_slice-unit-items.ensures.value ∙ c.in_ok-visited.ensures in
    c.loop-unit.invariant.0
    ∙ ap (chosen_after (plain c.args.layered.now) (rows_of c.args.order.now) c.args.sweep [])
    (take_all c.loop-unit.unit-index (visits c.args.sweep (rows_of c.args.order.now)) (let same = ap length items in let h = c.loop-unit-test.false in omega (arith, same, h)))
