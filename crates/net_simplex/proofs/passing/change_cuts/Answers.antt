use Rattle.std.proofs.Common.{rules, ◌≡◌, ◌∙◌, pos, ◌-ℤ◌, false, true, FitsSigned, w64, length, set, arith, ap, sym, subst}
use Rattle.std.proofs.lemmas.Int.{to_z-of_z}
use Rattle.network_laws.specs.Layering.{layer_of}
use Rattle.net_simplex.specs.Cuts.{size_of, AreCutValues}
use Rattle.net_simplex.proofs.Exchanged.{value_small, values_after}
use Rattle.net_simplex.proofs.passing.change_cuts.Goals as goal

pub number_at-change-requires : goal.number_at-change-requires
number_at-change-requires c = let n = c.requires.values.0 in let l = c.requires.out in omega (arith, n, l)

pub pass_way-requires : goal.pass_way-requires
pass_way-requires c =
    let n = length c.args.tree.now.order.items in
    let edges = c.args.edges.now in
    let tree = c.args.tree.now.marks.items in
    let cut = c.args.cut.now in
    let m = c.number_at-change.result in
    let f : FitsSigned w64 m = search rules in
    let e = c.requires.ends c.args.by c.requires.by in
    let is = ap size_of c.number_at-change.ensures in
    let small = value_small n edges tree c.requires.ends c.requires.spanning cut c.requires.values c.requires.weights in
    let o = small c.args.out c.requires.out c.requires.marked in
    rw (to_z-of_z w64 m f)
    (record {
      begin = e.0;
      end = e.1;
      ends = c.requires.ends;
      cut = c.requires.values.0;
      spanning = c.requires.spanning;
      rooted = c.requires.rooted;
      small = omega (arith, is, o);
      fits = λ k l mk. let s = small k l mk in omega (arith, is, o, s);
    })

pub opposite-requires : goal.opposite-requires
opposite-requires c =
    let n = length c.args.tree.now.order.items in
    let m = c.number_at-change.result in
    let f : FitsSigned w64 m = search rules in
    let is = ap size_of c.number_at-change.ensures in
    let o = value_small n c.args.edges.now c.args.tree.now.marks.items c.requires.ends c.requires.spanning c.args.cut.now c.requires.values c.requires.weights c.args.out c.requires.out c.requires.marked in
    rw (to_z-of_z w64 m f) (omega (arith, is, o))

pub put-requires : goal.put-requires
put-requires c = let n = c.pass_way.ensures.same in let l = c.requires.by in omega (arith, n, l)

pub returns : goal.returns
returns c =
    let n = length c.args.tree.now.order.items in
    let edges = c.args.edges.now in
    let tree = c.args.tree.now.marks.items in
    let cut = c.args.cut.now in
    let out = c.args.out in
    let by = c.args.by in
    let m = c.number_at-change.result in
    let z = c.opposite.result in
    let f : FitsSigned w64 m = search rules in
    let g : FitsSigned w64 z = search rules in
    let is : m ≡ layer_of cut out = c.number_at-change.ensures in
    let flipped : z ≡ pos 0 -ℤ layer_of cut out = (rw (to_z-of_z w64 m f) at c.opposite.ensures) ∙ ap (λ x. pos 0 -ℤ x) is in
    let gains = rw (to_z-of_z w64 m f, is) at c.pass_way.ensures.gained in
    let after = values_after n edges tree c.requires.ends c.requires.spanning cut c.requires.values c.requires.weights out by c.requires.out c.requires.marked c.requires.by c.requires.from c.requires.to c.pass_way.new.cut c.pass_way.ensures.same gains z flipped in
    subst (λ xs. AreCutValues n edges (set (set tree out false) by true) xs) (sym (rw (to_z-of_z w64 z g) at c.put.ensures)) after
