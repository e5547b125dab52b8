use Rattle.std.specs.Prelude.{FitsSigned}
use Rattle.std.proofs.Common.{◌≡◌, ◌+◌, pos, ◌+ℤ◌, false, w64, get_or, set, arith, rules, refl, sym, subst}
use Rattle.std.proofs.lemmas.Int.{ints, to_z-of_z}
use Rattle.network_laws.specs.Layering.{layer_of}
use Rattle.flow_dual.specs.Searching.{IsSettled}
use Rattle.flow_dual.proofs.Settling.{fits_from, settle_start, settle_past, settle_node}
use Rattle.flow_dual.proofs.settle.settle.Goals as goal
use Rattle.flow_dual.proofs.settle.settle.Goals.{then-reached-v, else-reached-v}

pub loop-x-init : goal.loop-x-init
loop-x-init c = settle_start c.args.layer.now c.args.reached.now c.args.labels.now c.args.dist.now c.args.now c.args.order.now

pub loop-x-preserved : goal.loop-x-preserved
loop-x-preserved c =
    let first = c.args.layer.now in
    let marks = c.args.reached.now in
    let names = c.args.labels.now in
    let dist = c.args.dist.now in
    let now = c.args.now in
    let order = c.args.order.now in
    let i = c.loop-x.x-index in
    let v = get_or order i 0 in
    let there = c.requires.order i 0 c.loop-x-test.true in
    elim c.if-reached-v.branch [
      | then-reached-v w ↦
          let z = w.lifted.result in
          let n = c.loop-x.invariant.layer_each in
          let m = w.if-reached-v.true in
          let k = c.loop-x.invariant.kept v there m in
          let low = c.requires.from_zero v there in
          let high = c.loop-x.invariant.fits c.requires.fits v (omega (arith, n, there)) m in
          let early = c.loop-x.invariant.earlier c.requires.earlier v m in
          let f : FitsSigned w64 (layer_of c.loop-x.layer v) = fits_from (layer_of c.loop-x.layer v) (get_or dist v 0) now (omega (arith, ints, k, low)) high early in
          let g : FitsSigned w64 z = search rules in
          let is : z +ℤ pos (get_or dist v 0) ≡ layer_of c.loop-x.layer v +ℤ pos now = let t = w.lifted.ensures in omega (arith, ints, t) in
          let e = rw (to_z-of_z w64 z g) at w.layer-is in
          subst (λ xs. IsSettled first marks names dist now order (i + 1) xs c.if-reached-v.reached c.if-reached-v.labels) (sym e)
          (subst (λ xs. IsSettled first marks names dist now order (i + 1) (set c.loop-x.layer v z) xs c.if-reached-v.labels) (sym w.reached-is)
          (subst (λ xs. IsSettled first marks names dist now order (i + 1) (set c.loop-x.layer v z) (set c.loop-x.reached v false) xs) (sym w.labels-is)
          (settle_node first marks names dist now order i c.loop-x.layer c.loop-x.reached c.loop-x.labels c.loop-x.invariant v z refl (c.requires.order i 0 c.loop-x-test.true) c.requires.marks c.requires.labels w.if-reached-v.true is)))
      | else-reached-v w ↦
          subst (λ xs. IsSettled first marks names dist now order (i + 1) xs c.if-reached-v.reached c.if-reached-v.labels) (sym w.layer-is)
          (subst (λ xs. IsSettled first marks names dist now order (i + 1) c.loop-x.layer xs c.if-reached-v.labels) (sym w.reached-is)
          (subst (λ xs. IsSettled first marks names dist now order (i + 1) c.loop-x.layer c.loop-x.reached xs) (sym w.labels-is)
          (settle_past first marks names dist now order i c.loop-x.layer c.loop-x.reached c.loop-x.labels c.loop-x.invariant w.if-reached-v.false)))
    ]
