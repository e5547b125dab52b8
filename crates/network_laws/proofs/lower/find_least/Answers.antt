use Rattle.std.specs.Prelude.{FitsSigned}
use Rattle.std.proofs.Common.{w64, rules, ◌+◌, pos, ◌≤ℤ◌, ◌<ℤ◌, get_or, arith, sym, subst}
use Rattle.std.proofs.lemmas.Int.{ints, to_z-of_z}
use Rattle.network_laws.specs.Lowering.{AreLeast}
use Rattle.network_laws.proofs.Depths.{least_start, least_same, least_less}
use Rattle.network_laws.proofs.lower.find_least.Goals as goal
use Rattle.network_laws.proofs.lower.find_least.Goals.{then-layers-v, else-layers-v}

pub loop-v-init : goal.loop-v-init
loop-v-init c = least_start c.args.parts.now c.args.layers.now c.args.least.now c.requires.one_each c.requires.none

pub loop-v-preserved : goal.loop-v-preserved
loop-v-preserved c =
    let parts = c.args.parts.now in
    let layers = c.args.layers.now in
    let v = c.loop-v.v in
    let least = c.loop-v.least in
    let f : FitsSigned w64 (get_or layers v (pos 0)) = search rules in
    let g : FitsSigned w64 (get_or least (get_or parts v 0) (pos 0)) = search rules in
    elim c.if-layers-v.branch [
      | then-layers-v w ↦
          let less : get_or layers v (pos 0) <ℤ get_or least (get_or parts v 0) (pos 0) = let t = w.if-layers-v.true in omega (arith, ints, t) in
          let e = rw (to_z-of_z w64 (get_or layers v (pos 0)) f) at w.least-is in
          subst (λ xs. AreLeast parts layers (v + 1) xs) (sym e)
          (least_less parts layers least v c.loop-v-test.true c.loop-v.invariant (c.requires.in_range v c.loop-v-test.true) less)
      | else-layers-v w ↦
          let le : get_or least (get_or parts v 0) (pos 0) ≤ℤ get_or layers v (pos 0) = let t = w.if-layers-v.false in omega (arith, ints, t) in
          subst (λ xs. AreLeast parts layers (v + 1) xs) (sym w.least-is)
          (least_same parts layers least v c.loop-v-test.true c.loop-v.invariant le)
    ]
