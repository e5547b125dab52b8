use Rattle.std.proofs.Common.{◌≡◌, ◌∙◌, not, pos, false, true, FitsSigned, w64, length, set, arith, rules, sym, subst, ap}
use Rattle.std.specs.Int.{w128}
use Rattle.std.proofs.lemmas.Int.{ints, to_z-of_z}
use Rattle.network_laws.specs.Network.{edge_at, EndsBelow}
use Rattle.network_laws.specs.Layering.{layer_of}
use Rattle.net_simplex.specs.Tree.{State, IsState, IsSpanningTree, tail_part}
use Rattle.net_simplex.specs.Pivots.{slack, shifted}
use Rattle.net_simplex.specs.Rooted.{above, IsRooted}
use Rattle.net_simplex.specs.Cuts.{AreCutValues}
use Rattle.net_simplex.specs.Kept.{kept_state, StandsFor}
use Rattle.net_simplex.proofs.FirstTree.{tells_some, tells_none, tells_slack}
use Rattle.net_simplex.proofs.Stepping.{out_there, out_marked, crosses_part, child_there, some_enters, by_there, pivot_is, gap_small, new_stands, new_state, new_root, new_small, exchanges}
use Rattle.net_simplex.proofs.chain.pivot.Goals as goal

pub bounds-edges-out : goal.bounds-edges-out
bounds-edges-out c = out_there _ _ c.requires.network _ _ _ _ _ c.requires.kept _ c.requires.leaves

pub child_of-child-requires : goal.child_of-child-requires
child_of-child-requires c =
    let l = (c.requires.network.ends c.args.out (out_there _ _ c.requires.network _ _ _ _ _ c.requires.kept _ c.requires.leaves)).0 in
    let p = c.requires.kept.rooted.parent_each in
    omega (arith, l, p)

pub entering-requires : goal.entering-requires
entering-requires c =
    let net = c.requires.network in
    let walk = c.requires.walk.0 in
    let h = c.child_of-child.ensures in
    let child = child_there _ _ net _ _ _ _ _ c.requires.kept _ c.requires.leaves _ h.hangs h.holds in
    record {
      few = net.few_edges;
      place = walk.place_each;
      size = walk.size_each;
      fits = let f = walk.fits c.child_of-child.result child in let few = net.few_nodes in omega (arith, f, few);
      child = child;
      ends = net.ends;
      layering = c.requires.kept.is.layering;
    }

pub bounds-edges-by : goal.bounds-edges-by
bounds-edges-by c =
    let h = c.child_of-child.ensures in
    by_there _ _ c.requires.network _ _ _ _ _ c.requires.kept _ c.requires.leaves _ h.hangs h.holds _ c.requires.walk.0 _ (tells_some _ _ _ c.in-Some.ensures)

pub change_cuts-requires : goal.change_cuts-requires
change_cuts-requires c =
    let n = length c.args.layers.now in
    let edges = c.args.edges.now in
    let tree = c.args.tree.now.marks.items in
    let net = c.requires.network in
    let kept = c.requires.kept in
    let out = c.args.out in
    let by = c.in-Some.choice.edge in
    let h = c.child_of-child.ensures in
    let is = tells_some _ _ _ c.in-Some.ensures in
    let o = sym kept.rooted.order_each in
    let x = crosses_part _ _ net _ _ _ _ _ kept _ c.requires.leaves _ h.hangs h.holds _ c.requires.walk.0 _ is in
    record {
      ends = subst (λ m. EndsBelow m edges) o net.ends;
      weights = net.weight_fits;
      spanning = subst (λ m. IsSpanningTree m edges tree) o kept.is.spanning;
      rooted = subst (λ m. IsRooted m edges tree c.args.tree.now.order.items c.args.tree.now.place.items c.args.tree.now.parent.items) o kept.rooted;
      values = subst (λ m. AreCutValues m edges tree c.args.cut.now) o c.requires.values;
      out = out_there _ _ net _ _ _ _ _ kept _ c.requires.leaves;
      marked = out_marked _ _ net _ _ _ _ _ kept _ c.requires.leaves;
      by = by_there _ _ net _ _ _ _ _ kept _ c.requires.leaves _ h.hangs h.holds _ c.requires.walk.0 _ is;
      from = subst (λ m. tail_part m edges tree out (edge_at edges by).tail ≡ false) o x.0;
      to = subst (λ m. tail_part m edges tree out (edge_at edges by).head ≡ true) o x.1;
    }

pub move_by-requires : goal.move_by-requires
move_by-requires c =
    let h = c.child_of-child.ensures in
    let z = c.in-Some.choice.slack in
    let fz : FitsSigned w128 z = search rules in
    let g = gap_small _ _ c.requires.network _ _ _ _ _ c.requires.kept _ c.requires.leaves _ h.hangs h.holds _ c.requires.walk.0 _ (tells_some _ _ _ c.in-Some.ensures) in
    rw (to_z-of_z w128 z fz, tells_slack _ _ _ c.in-Some.ensures) (record { from = omega (arith, ints); to = omega (arith, ints, g) })

pub shift-requires : goal.shift-requires
shift-requires c =
    let net = c.requires.network in
    let h = c.child_of-child.ensures in
    let z = c.in-Some.choice.slack in
    let fz : FitsSigned w128 z = search rules in
    let m = c.move_by.result in
    let fm : FitsSigned w64 m = search rules in
    let by = rw (to_z-of_z w128 z fz, tells_slack _ _ _ c.in-Some.ensures) at c.move_by.ensures in
    record {
      few = net.few_nodes;
      walk = (above c.args.edges.now c.args.tree.now.parent.items, c.requires.walk.0);
      child = child_there _ _ net _ _ _ _ _ c.requires.kept _ c.requires.leaves _ h.hangs h.holds;
      small = rw (to_z-of_z w64 m fm) (new_small _ _ net _ _ _ _ _ c.requires.kept _ c.requires.leaves _ h.hangs h.holds _ c.requires.walk.0 _ (tells_some _ _ _ c.in-Some.ensures) m by.up by.down);
    }

pub index_mut-requires : goal.index_mut-requires
index_mut-requires c =
    let kept = c.requires.kept in
    let q = kept.is.spanning.mark_for_each in
    let a = out_there _ _ c.requires.network _ _ _ _ _ kept _ c.requires.leaves in
    omega (arith, a, q)

pub index_mut-requires-in-Some : goal.index_mut-requires-in-Some
index_mut-requires-in-Some c =
    let kept = c.requires.kept in
    let h = c.child_of-child.ensures in
    let q = kept.is.spanning.mark_for_each in
    let b = by_there _ _ c.requires.network _ _ _ _ _ kept _ c.requires.leaves _ h.hangs h.holds _ c.requires.walk.0 _ (tells_some _ _ _ c.in-Some.ensures) in
    omega (arith, b, q)

pub reroot-requires : goal.reroot-requires
reroot-requires c =
    let net = c.requires.network in
    let h = c.child_of-child.ensures in
    let ends = c.lower_end-from.ensures in
    let o = c.requires.kept.rooted.order_each in
    let x = exchanges _ _ net _ _ _ _ _ c.requires.kept _ c.requires.leaves _ h.hangs h.holds _ c.requires.walk.0 _ (tells_some _ _ _ c.in-Some.ensures) c.lower_end-from.result ends.up ends.down in
    rw o (record { few = net.few_nodes; ends = net.ends; next = c.requires.walk.1; exchanges = (c.args.tree.now.marks.items, x) })

pub returns-in-Some : goal.returns-in-Some
returns-in-Some c =
    let n = length c.args.layers.now in
    let edges = c.args.edges.now in
    let tree = c.args.tree.now.marks.items in
    let layers = c.args.layers.now in
    let out = c.args.out in
    let by = c.in-Some.choice.edge in
    let net = c.requires.network in
    let kept = c.requires.kept in
    let o = kept.rooted.order_each in
    let h = c.child_of-child.ensures in
    let is = tells_some _ _ _ c.in-Some.ensures in
    let z = c.in-Some.choice.slack in
    let fz : FitsSigned w128 z = search rules in
    let m = c.move_by.result in
    let fm : FitsSigned w64 m = search rules in
    let moves = rw (to_z-of_z w128 z fz, tells_slack _ _ _ c.in-Some.ensures) at c.move_by.ensures in
    let e = rw (to_z-of_z w64 m fm) at c.shift.ensures in
    let s = new_state _ _ net _ _ _ _ _ kept _ c.requires.leaves _ h.hangs h.holds _ c.requires.walk.0 _ is m moves.up moves.down in
    let r = new_root _ _ net _ _ _ _ _ kept _ c.requires.leaves _ h.hangs h.holds _ c.requires.walk.0 _ is m moves.up moves.down in
    let stands = new_stands _ _ net _ _ _ _ _ kept _ c.requires.leaves _ h.hangs h.holds _ c.requires.walk.0 _ is m moves.up moves.down in
    let t : State = record { tree = set (set tree out false) by true; layers = shifted (λ v. not (tail_part n edges tree out v)) (pos (slack layers (edge_at edges by))) layers } in
    let marks = sym c.reroot.ensures.marks in
    record {
      kept = record {
        is = subst (λ ms. IsState n edges (kept_state ms c.shift.new.layers)) marks (subst (λ ls. IsState n edges (kept_state (set (set tree out false) by true) ls)) (sym e) s);
        root = ap (λ ls. layer_of ls 0) e ∙ r;
        rooted = rw o at c.reroot.ensures.rooted;
      };
      walk = rw o at c.reroot.ensures.walk;
      values = subst (λ ms. AreCutValues n edges ms c.change_cuts.new.cut) marks (subst (λ m. AreCutValues m edges (set (set tree out false) by true) c.change_cuts.new.cut) o c.change_cuts.ensures);
      pivots = (
        t,
        pivot_is _ _ net _ _ _ _ _ kept _ c.requires.leaves _ h.hangs h.holds _ c.requires.walk.0 _ is,
        subst (λ ms. StandsFor n t ms c.shift.new.layers) marks (subst (λ ls. StandsFor n t (set (set tree out false) by true) ls) (sym e) stands),
      );
    }

pub returns-in-None : goal.returns-in-None
returns-in-None c =
    let h = c.child_of-child.ensures in
    absurd (some_enters _ _ c.requires.network _ _ _ _ _ c.requires.kept _ c.requires.leaves _ h.hangs h.holds _ c.requires.walk.0 (tells_none _ _ c.in-None.ensures))
