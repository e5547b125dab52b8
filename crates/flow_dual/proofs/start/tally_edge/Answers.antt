use Rattle.std.specs.Prelude.{FitsSigned}
use Rattle.std.proofs.Common.{◌≡◌, ◌<◌, ◌^◌, pos, ◌+ℤ◌, w64, set, arith, rules}
use Rattle.std.proofs.lemmas.Int.{ints, to_z-of_z}
use Rattle.network_laws.specs.Layering.{layer_of}
use Rattle.flow_dual.proofs.Starting.{tallies, head_low, fits_within}
use Rattle.flow_dual.proofs.start.tally_edge.Goals as goal

pub asked_more-requires : goal.asked_more-requires
asked_more-requires c =
    let old = c.args.excess.now in
    let e = c.args.e in
    let a = c.given_more.result in
    let fa : FitsSigned w64 a = search rules in
    let fs : FitsSigned w64 (layer_of old e.tail) = search rules in
    let fw : e.weight < 2 ^ 32 = search rules in
    let is_a : a ≡ layer_of old e.tail +ℤ pos e.weight = let x = c.given_more.ensures in omega (arith, ints, x) in
    let h = head_low old e.tail e.head e.weight a c.requires.tail c.requires.head c.requires.low c.requires.high fw is_a in
    let x = h.0 in
    let y = h.1 in
    let fh : FitsSigned w64 (layer_of (set old e.tail a) e.head) = fits_within (layer_of (set old e.tail a) e.head) (omega (arith, ints, x)) (omega (arith, ints, y)) in
    rw (to_z-of_z w64 a fa) (record { low = omega (arith, ints, x) })

pub returns-clause-tallies : goal.returns-clause-tallies
returns-clause-tallies c =
    let old = c.args.excess.now in
    let e = c.args.e in
    let a = c.given_more.result in
    let b = c.asked_more.result in
    let fa : FitsSigned w64 a = search rules in
    let fb : FitsSigned w64 b = search rules in
    let fs : FitsSigned w64 (layer_of old e.tail) = search rules in
    let fw : e.weight < 2 ^ 32 = search rules in
    let is_a : a ≡ layer_of old e.tail +ℤ pos e.weight = let x = c.given_more.ensures in omega (arith, ints, x) in
    let h = head_low old e.tail e.head e.weight a c.requires.tail c.requires.head c.requires.low c.requires.high fw is_a in
    let x = h.0 in
    let y = h.1 in
    let fh : FitsSigned w64 (layer_of (set old e.tail a) e.head) = fits_within (layer_of (set old e.tail a) e.head) (omega (arith, ints, x)) (omega (arith, ints, y)) in
    let e1 = rw (to_z-of_z w64 a fa) at c.asked_more.ensures in
    let is_b : b +ℤ pos e.weight ≡ layer_of (set old e.tail a) e.head = omega (arith, ints, e1) in
    rw (to_z-of_z w64 a fa, to_z-of_z w64 b fb) (tallies old e a b c.requires.tail c.requires.head is_a is_b)
