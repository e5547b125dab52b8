use Rattle.std.proofs.Common.{◌∙◌, Some, None, refl, length, arith, sym, subst}
use Rattle.network_laws.specs.Network.{IsNetwork}
use Rattle.net_simplex.specs.Tree.{IsState}
use Rattle.net_simplex.specs.Pivots.{first_state, lowered}
use Rattle.net_simplex.specs.Rooted.{Hangs}
use Rattle.net_simplex.specs.Walks.{HasWalk}
use Rattle.net_simplex.specs.Cuts.{AreCutValues}
use Rattle.net_simplex.specs.Kept.{kept_state, Keeps}
use Rattle.net_simplex.specs.Outcome.{Leads, Outcome}
use Rattle.net_simplex.proofs.AtEnd.{last_small, from_zero, flow_is, ended, ran_out}
use Rattle.net_simplex.proofs.Writing.{written}
use Rattle.net_simplex.proofs.solving.run_on.Goals as goal

pub walk_tree-requires : goal.walk_tree-requires
walk_tree-requires c =
    let net = c.requires.network in
    let kept = c.in_ok-grow.ensures.kept in
    rw kept.rooted.order_each (record { few = net.few_nodes; ends = net.ends; rooted = kept.rooted })

pub sum_cuts-requires : goal.sum_cuts-requires
sum_cuts-requires c =
    let net = c.requires.network in
    let kept = c.in_ok-grow.ensures.kept in
    let o = kept.rooted.order_each in
    let marks = c.walk_tree.ensures.marks in
    let rooted = rw (o, marks) at c.in_ok-walk.ensures.rooted in
    rw (rooted.order_each, marks) (record { few = net.few_nodes; ends = net.ends; weights = net.weight_fits; spanning = kept.is.spanning; rooted = rooted })

pub run-ended-requires : goal.run-ended-requires
run-ended-requires c =
    let edges = c.args.edges.now in
    let tree = c.walk_tree.new.tree in
    let l = c.grow.auto.layers in
    let kept = c.in_ok-grow.ensures.kept in
    let o = kept.rooted.order_each in
    let p = c.in_ok-walk.ensures.rooted.order_each in
    let walked : Keeps (length c.args.layers.now) edges tree c.grow.new.layers = record {
      is = subst (λ ms. IsState (length c.args.layers.now) edges (kept_state ms c.grow.new.layers)) (sym c.walk_tree.ensures.marks) kept.is;
      root = kept.root;
      rooted = subst (λ m. Hangs m edges tree) o c.in_ok-walk.ensures.rooted;
    } in
    record {
      network = subst (λ m. IsNetwork m edges) (sym l) c.requires.network;
      kept = subst (λ m. Keeps m edges tree c.grow.new.layers) (sym l) walked;
      values = subst (λ m. AreCutValues m edges tree.marks.items c.deref_mut.result.now) (p ∙ (o ∙ sym l)) (subst (λ cut. AreCutValues (length tree.order.items) edges tree.marks.items cut) (sym c.deref_mut.ensures.value) c.in_ok-cut.ensures);
      walk = subst (λ m. HasWalk m edges tree c.in_ok-walk.walk) (o ∙ sym l) c.in_ok-walk.ensures.walk;
    }

pub write_flow-requires : goal.write_flow-requires
write_flow-requires c =
    let n = length c.args.layers.now in
    let l = c.grow.auto.layers in
    let kept = rw l at c.run-ended.ensures.kept in
    let x = subst (λ m. Leads m c.args.edges.now c.args.budget (Some c.in-Some.pivots) c.walk_tree.new.tree.marks.items c.grow.new.layers c.run-ended.new.tree.marks.items c.run-ended.new.layers c.run-ended.new.cut) l c.in-Some.ensures.leads in
    let q = kept.is.spanning.mark_for_each in
    let cut = written c.in_ok-cut.cut c.run-ended.new.cut (omega arith) in
    rw (c.deref.ensures.value, c.deref-in-Some.ensures.value, cut)
    (record {
      cut = x.2.0 ∙ sym q;
      flow = c.requires.flow ∙ sym q;
      from_zero = λ k b m. from_zero n c.args.edges.now c.requires.network c.run-ended.new.tree.marks.items c.run-ended.new.layers kept.is kept.root c.run-ended.new.cut x.2 x.3 k (omega (arith, b, q)) m;
    })

pub lower-requires : goal.lower-requires
lower-requires c =
    let kept = rw c.grow.auto.layers at c.run-ended.ensures.kept in
    let q = kept.is.layer_for_each in
    let s = c.requires.some in
    record {
      some = omega (arith, q, s);
      small = λ v b. last_small (length c.args.layers.now) c.args.edges.now c.requires.network c.run-ended.new.tree.marks.items c.run-ended.new.layers kept.is kept.root v (omega (arith, b, q));
    }

pub returns-in-Some : goal.returns-in-Some
returns-in-Some c =
    let n = length c.args.layers.now in
    let edges = c.args.edges.now in
    let start = c.args.layers.now in
    let marks = c.run-ended.new.tree.marks.items in
    let layers = c.run-ended.new.layers in
    let l = c.grow.auto.layers in
    let kept = rw l at c.run-ended.ensures.kept in
    let x = rw c.walk_tree.ensures.marks at (subst (λ m. Leads m edges c.args.budget (Some c.in-Some.pivots) c.walk_tree.new.tree.marks.items c.grow.new.layers marks layers c.run-ended.new.cut) l c.in-Some.ensures.leads) in
    let q = kept.is.spanning.mark_for_each in
    let r = x.1 (first_state n edges start) c.in_ok-grow.ensures.first in
    let a = ended n edges c.requires.network marks layers kept.is kept.root c.requires.some start c.requires.greatest c.args.budget c.in-Some.pivots (first_state n edges start) r.0 refl x.0 r.1 r.2 x.3 in
    let cut = written c.in_ok-cut.cut c.run-ended.new.cut (omega arith) in
    let wrote = rw (c.deref.ensures.value, c.deref-in-Some.ensures.value, cut) at c.write_flow.ensures in
    let f = flow_is n edges c.requires.network marks layers kept.is kept.root c.run-ended.new.cut x.2 x.3 c.write_flow.new.flow (wrote.same ∙ q) (λ k b. wrote.is k (omega (arith, b, q))) in
    subst (λ ls. Outcome n edges c.args.budget (Some c.in-Some.pivots) ls c.write_flow.new.flow) (sym c.lower.ensures)
    (subst (λ fs. Outcome n edges c.args.budget (Some c.in-Some.pivots) (lowered layers) fs) (sym f) a)

pub returns : goal.returns
returns c =
    let n = length c.args.layers.now in
    let edges = c.args.edges.now in
    let start = c.args.layers.now in
    let marks = c.run-ended.new.tree.marks.items in
    let layers = c.run-ended.new.layers in
    let l = c.grow.auto.layers in
    let kept = rw l at c.run-ended.ensures.kept in
    let x = rw c.walk_tree.ensures.marks at (subst (λ m. Leads m edges c.args.budget None c.walk_tree.new.tree.marks.items c.grow.new.layers marks layers c.run-ended.new.cut) l c.in-None.ensures.leads) in
    let r = x.0 (first_state n edges start) c.in_ok-grow.ensures.first in
    ran_out n edges c.requires.network marks layers kept.is kept.root start c.requires.greatest c.args.budget (first_state n edges start) r.0 refl r.1 r.2 x.1
