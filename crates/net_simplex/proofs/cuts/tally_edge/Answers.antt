use Rattle.std.proofs.Common.{rules, ◌≡◌, pos, ◌+ℤ◌, ◌-ℤ◌, length, set, FitsSigned, w64, arith, ap, ◌∙◌}
use Rattle.std.proofs.lemmas.Int.{ints, to_z-of_z}
use Rattle.std.proofs.lemmas.List.{length-set}
use Rattle.network_laws.specs.Layering.{layer_of}
use Rattle.net_simplex.specs.Cuts.{size_of, sizes}
use Rattle.net_simplex.proofs.Lifting.{size_plus, size_opposite, size_le_all, sizes_set}
use Rattle.net_simplex.proofs.cuts.tally_edge.Goals as goal

pub plus-requires : goal.plus-requires
plus-requires c =
    let a = c.number_at.result in
    let b = c.from-by.result in
    let fa : FitsSigned w64 a = search rules in
    let fb : FitsSigned w64 b = search rules in
    let s = size_le_all c.args.excess.now c.args.e.tail c.requires.tail in
    let f = c.requires.fits in
    rw (to_z-of_z w64 a fa, to_z-of_z w64 b fb) (let x = ap size_of c.number_at.ensures in let y = ap size_of c.from-by.ensures in omega (arith, s, f, x, y))

pub plus-requires-2 : goal.plus-requires-2
plus-requires-2 c =
    let old = c.args.excess.now in
    let e = c.args.e in
    let a = c.number_at.result in
    let b = c.from-by.result in
    let p = c.plus.result in
    let a2 = c.number_at-2.result in
    let o = c.opposite.result in
    let fa : FitsSigned w64 a = search rules in
    let fb : FitsSigned w64 b = search rules in
    let fp : FitsSigned w64 p = search rules in
    let f2 : FitsSigned w64 a2 = search rules in
    let fo : FitsSigned w64 o = search rules in
    let na = c.number_at.ensures in
    let nb = c.from-by.ensures in
    let x = layer_of old e.tail +ℤ pos e.weight in
    let is : p ≡ x = let q = rw (to_z-of_z w64 a fa, to_z-of_z w64 b fb) at c.plus.ensures in omega (arith, ints, q, na, nb) in
    let m : c.put.new.numbers ≡ set old e.tail x = (rw (to_z-of_z w64 p fp) at c.put.ensures) ∙ ap (set old e.tail) is in
    let len = ap length m ∙ length-set old e.tail x in
    let s = size_le_all c.put.new.numbers e.head (let l = c.requires.head in omega (arith, len, l)) in
    let t = sizes_set old e.tail x c.requires.tail in
    let u = size_plus (layer_of old e.tail) (pos e.weight) in
    let ms = ap sizes m in
    let f = c.requires.fits in
    let ho = ap size_of (rw (to_z-of_z w64 b fb) at c.opposite.ensures ∙ ap (λ z. pos 0 -ℤ z) nb) in
    let lo = size_opposite e.weight in
    rw (to_z-of_z w64 a2 f2, to_z-of_z w64 o fo) (let y = ap size_of c.number_at-2.ensures in omega (arith, s, t, u, ms, f, ho, lo, y))

pub returns : goal.returns
returns c =
    let old = c.args.excess.now in
    let e = c.args.e in
    let a = c.number_at.result in
    let b = c.from-by.result in
    let p = c.plus.result in
    let a2 = c.number_at-2.result in
    let o = c.opposite.result in
    let p2 = c.plus-2.result in
    let fa : FitsSigned w64 a = search rules in
    let fb : FitsSigned w64 b = search rules in
    let fp : FitsSigned w64 p = search rules in
    let f2 : FitsSigned w64 a2 = search rules in
    let fo : FitsSigned w64 o = search rules in
    let fp2 : FitsSigned w64 p2 = search rules in
    let na = c.number_at.ensures in
    let nb = c.from-by.ensures in
    let x = layer_of old e.tail +ℤ pos e.weight in
    let is : p ≡ x = let q = rw (to_z-of_z w64 a fa, to_z-of_z w64 b fb) at c.plus.ensures in omega (arith, ints, q, na, nb) in
    let m : c.put.new.numbers ≡ set old e.tail x = (rw (to_z-of_z w64 p fp) at c.put.ensures) ∙ ap (set old e.tail) is in
    let is2 : p2 ≡ layer_of c.put.new.numbers e.head +ℤ (pos 0 -ℤ pos e.weight) =
    let q = rw (to_z-of_z w64 a2 f2, to_z-of_z w64 o fo) at c.plus-2.ensures in
    let ho = rw (to_z-of_z w64 b fb) at c.opposite.ensures in
    let n2 = c.number_at-2.ensures in
    omega (arith, ints, q, ho, nb, n2)
    in
    (rw (to_z-of_z w64 p2 fp2) at c.put-2.ensures) ∙ (ap (set c.put.new.numbers e.head) is2 ∙ ap (λ xs. set xs e.head (layer_of xs e.head +ℤ (pos 0 -ℤ pos e.weight))) m)
