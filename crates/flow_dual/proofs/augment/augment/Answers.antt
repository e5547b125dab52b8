use Rattle.std.proofs.Common.{◌<◌, pos, ◌+ℤ◌, ◌≤ℤ◌, FitsSigned, w64, length, drop, arith, rules, sym, subst, ◌∙◌}
use Rattle.std.proofs.lemmas.Int.{ints}
use Rattle.std.proofs.lemmas.List.{take_at}
use Rattle.network_laws.specs.Network.{EndsBelow}
use Rattle.network_laws.specs.Layering.{layer_of}
use Rattle.flow_dual.specs.Labels.{IsPushed}
use Rattle.flow_dual.proofs.Draining.{augmented, label_way, pushed, flow_fits, rise_fits, has_room}
use Rattle.flow_dual.proofs.augment.augment.Goals as goal

pub push-requires-clause-fits : goal.push-requires-clause-fits
push-requires-clause-fits c =
    let a = c.min.ensures in
    let b = c.min-amount.ensures in
    let m = c.requires.more in
    let le : pos c.min-amount.result ≤ℤ layer_of c.args.excess.now c.args.source = omega (arith, ints, a, b, m) in
    flow_fits (length c.args.layer.now) c.args.net.now.edges.now c.args.layer.now c.args.flow.now c.args.excess.now c.args.marks.now.reached.items c.args.marks.now.labels.items c.args.marks.now.dist.items c.search.new.marks.dist.items c.search.new.marks.order.items c.args.source c.in_ok-found.found.to c.in_ok-found.found.now c.search.new.marks.reached.items c.search.new.marks.labels.items c.requires.between c.in_ok-found.ensures c.requires.source c.requires.more c.min-amount.result le

pub push-requires-clause-labels : goal.push-requires-clause-labels
push-requires-clause-labels c =
    let a = c.min.ensures in
    let b = c.min-amount.ensures in
    rw c.deref.ensures.value (label_way (length c.args.layer.now) c.args.net.now.edges.now c.args.layer.now c.args.flow.now c.args.excess.now c.args.marks.now.reached.items c.args.marks.now.labels.items c.args.marks.now.dist.items c.search.new.marks.dist.items c.search.new.marks.order.items c.args.source c.in_ok-found.found.to c.in_ok-found.found.now c.search.new.marks.reached.items c.search.new.marks.labels.items c.requires.between c.in_ok-found.ensures c.requires.source c.requires.more c.min-amount.result (omega (arith, a, b)))

pub push-requires-clause-ends : goal.push-requires-clause-ends
push-requires-clause-ends c =
    let f = c.in_ok-found.ensures in
    let n = f.found.searched.label_for_each ∙ f.mark_for_each in
    rw c.deref.ensures.value (subst (λ n. EndsBelow n c.args.net.now.edges.now) (sym n) c.requires.ends)

pub move_excess-requires-clause-fits : goal.move_excess-requires-clause-fits
move_excess-requires-clause-fits c =
    let b = c.min-amount.ensures in
    let v = c.lack_of-lack.ensures.value in
    let f : FitsSigned w64 (layer_of c.args.excess.now c.in_ok-found.found.to) = search rules in
    omega (arith, ints, b, v)

pub settle-requires-clause-fits : goal.settle-requires-clause-fits
settle-requires-clause-fits c =
    rw (c.deref_mut.ensures.value, c.deref-3.ensures.value) (rise_fits (length c.args.layer.now) c.args.net.now.edges.now c.args.layer.now c.args.flow.now c.args.excess.now c.args.marks.now.reached.items c.args.marks.now.labels.items c.args.marks.now.dist.items c.search.new.marks.dist.items c.search.new.marks.order.items c.args.source c.in_ok-found.found.to c.in_ok-found.found.now c.search.new.marks.reached.items c.search.new.marks.labels.items c.requires.between c.in_ok-found.ensures c.requires.source c.requires.more c.requires.least)

pub settle-requires-clause-marks : goal.settle-requires-clause-marks
settle-requires-clause-marks c = rw c.deref_mut.ensures.value c.in_ok-found.ensures.mark_for_each

pub settle-requires-clause-labels : goal.settle-requires-clause-labels
settle-requires-clause-labels c =
    let f = c.in_ok-found.ensures in
    rw c.deref_mut-2.ensures.value (f.found.searched.label_for_each ∙ f.mark_for_each)

pub returns : goal.returns
returns c =
    let a = c.min.ensures in
    let b = c.min-amount.ensures in
    let m = c.requires.more in
    let v = c.lack_of-lack.ensures.value in
    let r = has_room (length c.args.layer.now) c.args.net.now.edges.now c.args.layer.now c.args.flow.now c.args.excess.now c.args.marks.now.reached.items c.args.marks.now.labels.items c.args.marks.now.dist.items c.search.new.marks.dist.items c.search.new.marks.order.items c.args.source c.in_ok-found.found.to c.in_ok-found.found.now c.search.new.marks.reached.items c.search.new.marks.labels.items c.requires.between c.in_ok-found.ensures c.requires.source c.requires.more in
    let l = c.lack_of-lack.ensures.some in
    let f : FitsSigned w64 (layer_of c.args.excess.now c.in_ok-found.found.to) = search rules in
    let le : pos c.min-amount.result ≤ℤ layer_of c.args.excess.now c.args.source = omega (arith, ints, a, b, m) in
    let some : 0 < c.min-amount.result = omega (arith, ints, a, b, m, r, l) in
    let fits : (layer_of c.args.excess.now c.in_ok-found.found.to +ℤ pos c.min-amount.result) ≤ℤ pos 0 = omega (arith, ints, b, v) in
    let p = pushed (length c.args.layer.now) c.args.net.now.edges.now c.args.layer.now c.args.flow.now c.args.excess.now c.args.marks.now.reached.items c.args.marks.now.labels.items c.args.marks.now.dist.items c.search.new.marks.dist.items c.search.new.marks.order.items c.args.source c.in_ok-found.found.to c.in_ok-found.found.now c.search.new.marks.reached.items c.search.new.marks.labels.items c.requires.between c.in_ok-found.ensures c.requires.source c.requires.more c.min-amount.result c.push.new.flow (omega (arith, a, b)) (subst (λ ls. IsPushed c.args.net.now.edges.now c.args.flow.now ls c.in_ok-found.found.to c.min-amount.result c.push.new.flow) c.deref.ensures.value c.push.ensures) in
    let s = rw (c.deref_mut.ensures.value, c.deref_mut-2.ensures.value, c.deref-3.ensures.value, c.deref-2.ensures.value) at c.settle.ensures in
    let w = c.in_ok-found.ensures in
    let marks = take_at c.settle.new.reached (drop (length c.settle.new.reached) c.search.new.marks.reached.items) c.search.new.marks.reached.len (omega arith) in
    let names = take_at c.settle.new.labels (drop (length c.settle.new.labels) c.search.new.marks.labels.items) c.search.new.marks.labels.len (omega arith) in
    rw (marks, names)
    (augmented (length c.args.layer.now) c.args.net.now.edges.now c.args.layer.now c.args.flow.now c.args.excess.now c.args.marks.now.reached.items c.args.marks.now.labels.items c.args.marks.now.dist.items c.search.new.marks.dist.items c.search.new.marks.order.items c.args.source c.in_ok-found.found.to c.in_ok-found.found.now c.search.new.marks.reached.items c.search.new.marks.labels.items c.requires.between c.in_ok-found.ensures c.requires.source c.requires.more c.min-amount.result c.push.new.flow c.move_excess.new.excess c.settle.new.layer c.settle.new.reached c.settle.new.labels le some fits c.requires.ends p c.move_excess.ensures s w.mark_for_each (w.found.searched.label_for_each ∙ w.mark_for_each))
