use Rattle.std.proofs.Common.{◌≡◌, suc, ◌+◌, ◌-◌, ◌∙◌, length, get_or, set, arith, ap, sym, subst}
use Rattle.std.proofs.lemmas.List.{get_or-replicate, length-replicate}
use Rattle.net_simplex.specs.Rooted.{above}
use Rattle.net_simplex.specs.Walks.{AreSizesTo}
use Rattle.net_simplex.proofs.Sizing.{sizes_start, v_there, v_edge, u_there, sizes_fit, sizes_more, sizes_end}
use Rattle.net_simplex.proofs.first_walk.sum_sizes.Goals as goal

pub loop-left-init : goal.loop-left-init
loop-left-init c =
    let n = length c.args.tree.now.order.items in
    let ones = c.requires.ones in
    let all : c.len-left.result ≡ n = omega arith in
    rw all (
      c.requires.rooted.begun,
      omega arith,
      sizes_start n c.args.edges.now c.args.tree.now.marks.items c.args.tree.now.order.items c.args.tree.now.place.items c.args.tree.now.parent.items c.requires.rooted c.requires.ends c.args.size.now (ap length ones ∙ length-replicate n 1) (λ v l. ap (λ xs. get_or xs v 0) ones ∙ get_or-replicate n v 1 0 l),
    )

pub upper-requires : goal.upper-requires
upper-requires c =
    let n = length c.args.tree.now.order.items in
    let p = c.loop-left.left - 1 in
    let t = c.loop-left-test.true in
    let b = c.loop-left.invariant.1 in
    let s = c.loop-left.invariant.2 in
    let one : c.loop-left.left ≡ suc p = omega (arith, t) in
    let s1 = subst (λ i. AreSizesTo n c.args.tree.now.order.items (above c.args.edges.now c.args.tree.now.parent.items) i (n - c.loop-left.left) c.loop-left.size) one s in
    let l = v_there n c.args.edges.now c.args.tree.now.marks.items c.args.tree.now.order.items c.args.tree.now.place.items c.args.tree.now.parent.items c.requires.rooted c.requires.ends p (n - c.loop-left.left) (omega (arith, t)) (omega (arith, t, b)) c.loop-left.size s1 (omega (arith, t, b)) in
    let e = c.requires.rooted.parent_each in
    rw c.node_at-v.ensures
    (record {
      node = omega (arith, l, e);
      there = v_edge n c.args.edges.now c.args.tree.now.marks.items c.args.tree.now.order.items c.args.tree.now.place.items c.args.tree.now.parent.items c.requires.rooted c.requires.ends p (n - c.loop-left.left) (omega (arith, t)) (omega (arith, t, b)) c.loop-left.size s1 (omega (arith, t, b));
    })

pub add_size-requires : goal.add_size-requires
add_size-requires c =
    let n = length c.args.tree.now.order.items in
    let p = c.loop-left.left - 1 in
    let t = c.loop-left-test.true in
    let b = c.loop-left.invariant.1 in
    let s = c.loop-left.invariant.2 in
    let one : c.loop-left.left ≡ suc p = omega (arith, t) in
    let s1 = subst (λ i. AreSizesTo n c.args.tree.now.order.items (above c.args.edges.now c.args.tree.now.parent.items) i (n - c.loop-left.left) c.loop-left.size) one s in
    let l = v_there n c.args.edges.now c.args.tree.now.marks.items c.args.tree.now.order.items c.args.tree.now.place.items c.args.tree.now.parent.items c.requires.rooted c.requires.ends p (n - c.loop-left.left) (omega (arith, t)) (omega (arith, t, b)) c.loop-left.size s1 (omega (arith, t, b)) in
    let u = u_there n c.args.edges.now c.args.tree.now.marks.items c.args.tree.now.order.items c.args.tree.now.place.items c.args.tree.now.parent.items c.requires.rooted c.requires.ends p (n - c.loop-left.left) (omega (arith, t)) (omega (arith, t, b)) c.loop-left.size s1 (omega (arith, t, b)) in
    let f = sizes_fit n c.args.edges.now c.args.tree.now.marks.items c.args.tree.now.order.items c.args.tree.now.place.items c.args.tree.now.parent.items c.requires.rooted c.requires.ends p (n - c.loop-left.left) (omega (arith, t)) (omega (arith, t, b)) c.loop-left.size s1 (omega (arith, t, b)) in
    let e = s.size_each in
    let is = rw c.node_at-v.ensures at c.upper.ensures in
    let isw = ap (λ z. get_or c.loop-left.size z 0) is in
    let few = c.requires.few in
    rw c.node_at-v.ensures
    (record {
      node = omega (arith, l, e);
      upper = omega (arith, u, e, is);
      fits = omega (arith, f, isw, few);
    })

pub loop-left-preserved : goal.loop-left-preserved
loop-left-preserved c =
    let n = length c.args.tree.now.order.items in
    let p = c.loop-left.left - 1 in
    let t = c.loop-left-test.true in
    let b = c.loop-left.invariant.1 in
    let s = c.loop-left.invariant.2 in
    let up = above c.args.edges.now c.args.tree.now.parent.items in
    let one : c.loop-left.left ≡ suc p = omega (arith, t) in
    let s1 = subst (λ i. AreSizesTo n c.args.tree.now.order.items up i (n - c.loop-left.left) c.loop-left.size) one s in
    let v = get_or c.args.tree.now.order.items p 0 in
    let count : n - p ≡ suc (n - c.loop-left.left) = omega (arith, t, b) in
    let m = sizes_more n c.args.edges.now c.args.tree.now.marks.items c.args.tree.now.order.items c.args.tree.now.place.items c.args.tree.now.parent.items c.requires.rooted c.requires.ends p (n - c.loop-left.left) (omega (arith, t)) (omega (arith, t, b)) c.loop-left.size s1 (omega (arith, t, b)) in
    let is = rw c.node_at-v.ensures at c.upper.ensures in (
      omega (arith, t),
      omega (arith, b),
      subst (λ k. AreSizesTo n c.args.tree.now.order.items up p k c.add_size.new.size) (sym count)
          (subst (λ z. AreSizesTo n c.args.tree.now.order.items up p (suc (n - c.loop-left.left)) z) (sym ((rw c.node_at-v.ensures at c.add_size.ensures) ∙ ap (λ u. set c.loop-left.size u (get_or c.loop-left.size u 0 + get_or c.loop-left.size v 0)) is)) m),
    )

pub returns : goal.returns
returns c =
    let n = length c.args.tree.now.order.items in
    let t = c.loop-left-test.false in
    let a = c.loop-left.invariant.0 in
    let s = c.loop-left.invariant.2 in
    let up = above c.args.edges.now c.args.tree.now.parent.items in
    let one : c.loop-left.left ≡ 1 = omega (arith, t, a) in
    sizes_end n c.args.edges.now c.args.tree.now.marks.items c.args.tree.now.order.items c.args.tree.now.place.items c.args.tree.now.parent.items c.requires.rooted c.requires.ends c.loop-left.size (subst (λ i. AreSizesTo n c.args.tree.now.order.items up i (n - i) c.loop-left.size) one s)
