use Rattle.std.proofs.Common.{rules, ◌+◌, ◌+ℤ◌, set, get_or, FitsSigned, w64, to_z, of_z, arith, sym, subst, inr}
use Rattle.std.proofs.lemmas.Int.{to_z-of_z}
use Rattle.network_laws.specs.Layering.{layer_of}
use Rattle.net_simplex.specs.Grown.{IsSmall}
use Rattle.net_simplex.proofs.Walking.{is_between}
use Rattle.net_simplex.proofs.Stepping.{IsShifted, shift_start, shift_more, shift_end}
use Rattle.net_simplex.proofs.chain.shift.Goals as goal

pub loop-i-init : goal.loop-i-init
loop-i-init c = rw c.place_of-first.ensures (shift_start c.args.tree.now.order.items c.args.tree.now.place.items c.args.walk.now.size.items c.requires.walk.0 (to_z w64 (of_z w64 c.args.by)) c.args.layers.now c.requires.walk.1 (get_or c.args.tree.now.place.items c.args.child 0))

pub moved-requires : goal.moved-requires
moved-requires c =
    let w = c.requires.walk.1 in
    let by = c.args.by in
    let fb : FitsSigned w64 by = search rules in
    let i = c.loop-i.i in
    let t = c.loop-i-test.true in
    let from = c.loop-i.auto.i in
    let first = c.place_of-first.ensures in
    let wide = c.size_of.ensures in
    let f = w.fits c.args.child c.requires.child in
    let o = w.in_order i (omega (arith, t, f, first, wide)) in
    let v = get_or c.args.tree.now.order.items i 0 in
    let o1 = o.1 in
    let m = is_between (get_or c.args.tree.now.place.items c.args.child 0) (get_or c.args.walk.now.size.items c.args.child 0) (get_or c.args.tree.now.place.items v 0) (omega (arith, o1, from, first)) (omega (arith, o1, t, first, wide)) in
    let fl : FitsSigned w64 (layer_of c.loop-i.layers v) = search rules in
    let k = c.loop-i.invariant.kept v o.0 (inr (omega (arith, o1))) in
    rw (c.node_at-v.ensures, to_z-of_z w64 (layer_of c.loop-i.layers v) fl, to_z-of_z w64 by fb) (subst (λ z. IsSmall (z +ℤ by)) (sym k) (c.requires.small v o.0 m))

pub loop-i-preserved : goal.loop-i-preserved
loop-i-preserved c =
    let w = c.requires.walk.1 in
    let by = c.args.by in
    let fb : FitsSigned w64 by = search rules in
    let old = c.args.layers.now in
    let i = c.loop-i.i in
    let t = c.loop-i-test.true in
    let from = c.loop-i.auto.i in
    let first = c.place_of-first.ensures in
    let wide = c.size_of.ensures in
    let f = w.fits c.args.child c.requires.child in
    let v = get_or c.args.tree.now.order.items i 0 in
    let low = get_or c.args.tree.now.place.items c.args.child 0 in
    let s = subst (λ b. IsShifted c.args.tree.now.place.items low b old i c.loop-i.layers) (to_z-of_z w64 by fb) c.loop-i.invariant in
    let z = c.moved.result in
    let fz : FitsSigned w64 z = search rules in
    let fl : FitsSigned w64 (layer_of c.loop-i.layers v) = search rules in
    let is = rw (c.node_at-v.ensures, to_z-of_z w64 (layer_of c.loop-i.layers v) fl, to_z-of_z w64 by fb) at c.moved.ensures in
    let more = shift_more c.args.tree.now.order.items c.args.tree.now.place.items c.args.walk.now.size.items c.requires.walk.0 by old w low i c.loop-i.layers z (omega (arith, from, first)) (omega (arith, t, f, first, wide)) s is in
    rw c.node_at-v.ensures
    (subst (λ b. IsShifted c.args.tree.now.place.items low b old (i + 1) (set c.loop-i.layers v (to_z w64 (of_z w64 z)))) (sym (to_z-of_z w64 by fb))
    (subst (λ y. IsShifted c.args.tree.now.place.items low by old (i + 1) (set c.loop-i.layers v y)) (sym (to_z-of_z w64 z fz)) more))

pub returns : goal.returns
returns c =
    let w = c.requires.walk.1 in
    let by = c.args.by in
    let fb : FitsSigned w64 by = search rules in
    let old = c.args.layers.now in
    let t = c.loop-i-test.false in
    let b = c.loop-i.auto.i-end in
    let some = w.some c.args.child c.requires.child in
    let first = c.place_of-first.ensures in
    let wide = c.size_of.ensures in
    shift_end c.args.tree.now.order.items c.args.tree.now.place.items c.args.walk.now.size.items c.requires.walk.0 by old w c.args.child c.loop-i.i c.loop-i.layers (omega (arith, t, b, some, first, wide)) (subst (λ y. IsShifted c.args.tree.now.place.items (get_or c.args.tree.now.place.items c.args.child 0) y old c.loop-i.i c.loop-i.layers) (to_z-of_z w64 by fb) c.loop-i.invariant)
