use Rattle.std.proofs.Common.{rules, ◌≡◌, ◌<◌, pos, length, set, get_or, FitsSigned, w64, arith, ap, sym, subst, ◌∙◌, inl, inr}
use Rattle.std.proofs.lemmas.Int.{to_z-of_z}
use Rattle.std.proofs.lemmas.List.{get_or-set_other}
use Rattle.network_laws.specs.Network.{edge_at}
use Rattle.network_laws.specs.Layering.{layer_of}
use Rattle.net_simplex.specs.Rooted.{beyond}
use Rattle.net_simplex.specs.Cuts.{size_of}
use Rattle.net_simplex.proofs.Lifting.{size_le_all, two_sizes}
use Rattle.net_simplex.proofs.Hanging.{beyond_is_end}
use Rattle.net_simplex.proofs.cuts.lift.Goals as goal

pub plus-requires : goal.plus-requires
plus-requires c =
    let old = c.args.excess.now in
    let v = c.args.v in
    let k = get_or c.args.tree.now.parent.items v 0 in
    let e = edge_at c.args.edges.now k in
    let u = beyond e v in
    let a = c.number_at.result in
    let m = c.number_at-more.result in
    let fa : FitsSigned w64 a = search rules in
    let fm : FitsSigned w64 m = search rules in
    let ends = c.requires.ends k c.requires.there in
    let lu : u < length c.args.tree.now.parent.items = elim (beyond_is_end e v) [
      | inl x ↦ subst (λ y. y < length c.args.tree.now.parent.items) (sym x) ends.0
      | inr x ↦ subst (λ y. y < length c.args.tree.now.parent.items) (sym x) ends.1
    ] in
    let n = c.requires.excess in
    let two = two_sizes old u v (omega (arith, lu, n)) (let l = c.requires.node in omega (arith, l, n)) c.requires.other in
    let is : a ≡ layer_of old u = c.number_at.ensures ∙ (ap (λ xs. layer_of xs c.other_end-u.result) c.put.ensures ∙ (ap (layer_of (set old v (pos 0))) (rw c.parent_of-k.ensures at c.other_end-u.ensures) ∙ get_or-set_other old v u (pos 0) (pos 0) c.requires.other)) in
    let s = c.requires.small in
    rw (to_z-of_z w64 a fa, to_z-of_z w64 m fm) (let x = ap size_of is in let y = ap size_of c.number_at-more.ensures in omega (arith, two, s, x, y))

pub signed-requires : goal.signed-requires
signed-requires c =
    let m = c.number_at-more.result in
    let fm : FitsSigned w64 m = search rules in
    let n = c.requires.excess in
    let one = size_le_all c.args.excess.now c.args.v (let l = c.requires.node in omega (arith, l, n)) in
    let s = c.requires.small in
    rw (to_z-of_z w64 m fm) (let y = ap size_of c.number_at-more.ensures in omega (arith, one, s, y))
