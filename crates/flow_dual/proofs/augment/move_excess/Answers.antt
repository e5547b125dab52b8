use Rattle.std.specs.Prelude.{FitsSigned}
use Rattle.std.proofs.Common.{◌≡◌, pos, ◌+ℤ◌, w64, set, arith, rules, sym}
use Rattle.std.proofs.lemmas.Int.{ints, to_z-of_z}
use Rattle.std.proofs.lemmas.List.{get_or-set_other}
use Rattle.network_laws.specs.Layering.{layer_of}
use Rattle.flow_dual.proofs.Draining.{moves}
use Rattle.flow_dual.proofs.augment.move_excess.Goals as goal

pub returns : goal.returns
returns c =
    let old = c.args.excess.now in
    let s = c.args.source in
    let t = c.args.to in
    let a = c.lessened.result in
    let b = c.increased.result in
    let fa : FitsSigned w64 a = search rules in
    let fb : FitsSigned w64 b = search rules in
    let fs : FitsSigned w64 (layer_of old s) = search rules in
    let ft : FitsSigned w64 (layer_of old t) = search rules in
    let is_a : a +ℤ pos c.args.amount ≡ layer_of old s = let e = c.lessened.ensures in omega (arith, ints, e) in
    let same : layer_of (set old s a) t ≡ layer_of old t = get_or-set_other old s t a (pos 0) (λ e. c.requires.other (sym e)) in
    let e1 = rw (to_z-of_z w64 a fa) at c.increased.ensures in
    let e2 = rw same at e1 in
    let is_b : b ≡ layer_of old t +ℤ pos c.args.amount = omega (arith, ints, e2) in
    rw (to_z-of_z w64 a fa, to_z-of_z w64 b fb) (moves old s t c.args.amount a b c.requires.source c.requires.to c.requires.other is_a is_b)
