use Rattle.std.proofs.Common.{◌≡◌, ◌∙◌, Some, length, arith, sym, subst}
use Rattle.network_laws.specs.Network.{IsNetwork}
use Rattle.net_simplex.specs.Pivots.{leaving_edge}
use Rattle.net_simplex.specs.Cuts.{AreCutValues}
use Rattle.net_simplex.specs.Kept.{kept_state, PivotsTo, Keeps}
use Rattle.net_simplex.specs.Outcome.{Reaches}
use Rattle.net_simplex.specs.Walks.{HasWalk}
use Rattle.net_simplex.proofs.Stepping.{leaves_by}
use Rattle.net_simplex.proofs.AtEnd.{reach_none, reach_more, some_negative, none_negative}
use Rattle.net_simplex.proofs.solving.run.Goals as goal

pub pivots-init : goal.pivots-init
pivots-init c = (
  omega arith,
  c.requires.kept,
  reach_none (length c.args.layers.now) c.args.edges.now c.args.tree.now.marks.items c.args.layers.now,
  c.requires.values,
  c.requires.walk,
)

pub leaving-requires : goal.leaving-requires
leaving-requires c =
    let net = c.requires.network in
    let kept = c.pivots.invariant.1 in
    rw kept.rooted.parent_each
    (record {
      few = net.few_nodes;
      same = c.pivots.invariant.3.0 ∙ sym kept.is.spanning.mark_for_each;
      ends = net.ends;
      spanning = kept.is.spanning;
      rooted = kept.rooted;
    })

pub pivot-requires : goal.pivot-requires
pivot-requires c =
    let n = length c.args.layers.now in
    let edges = c.args.edges.now in
    let marks = c.pivots.tree.marks.items in
    let layers = c.pivots.layers in
    let kept = c.pivots.invariant.1 in
    let l = kept.is.layer_for_each in
    let values = c.pivots.invariant.3 in
    let leaves = sym (leaves_by n edges marks layers c.pivots.cut kept.is.spanning.mark_for_each values) ∙ (sym c.leaving.ensures ∙ c.in-Some.is) in
    record {
      network = subst (λ m. IsNetwork m edges) (sym l) c.requires.network;
      kept = subst (λ m. Keeps m edges c.pivots.tree layers) (sym l) kept;
      values = subst (λ m. AreCutValues m edges marks c.pivots.cut) (sym l) values;
      leaves = subst (λ m. leaving_edge m edges (kept_state marks layers) ≡ Some c.in-Some.out) (sym l) leaves;
      walk = subst (λ m. HasWalk m edges c.pivots.tree c.pivots.walk) (sym l) c.pivots.invariant.4;
    }

pub pivots-preserved : goal.pivots-preserved
pivots-preserved c =
    let n = length c.args.layers.now in
    let edges = c.args.edges.now in
    let tree = c.pivot.new.tree in
    let l = c.pivots.invariant.1.is.layer_for_each in
    let m = c.pivots.invariant.0 in
    let f = c.if-made-budget.false in (
      omega (arith, m, f),
      subst (λ q. Keeps q edges tree c.pivot.new.layers) l c.pivot.ensures.kept,
      reach_more n edges c.pivots.made c.args.tree.now.marks.items c.pivots.tree.marks.items tree.marks.items c.args.layers.now c.pivots.layers c.pivot.new.layers c.requires.network.ends l c.pivots.invariant.2
          (subst (λ q. PivotsTo q edges c.pivots.tree.marks.items c.pivots.layers tree.marks.items c.pivot.new.layers) l c.pivot.ensures.pivots),
      subst (λ q. AreCutValues q edges tree.marks.items c.pivot.new.cut) l c.pivot.ensures.values,
      subst (λ q. HasWalk q edges tree c.pivot.new.walk) l c.pivot.ensures.walk,
    )

pub returns-then-made-budget-clause-leads : goal.returns-then-made-budget-clause-leads
returns-then-made-budget-clause-leads c =
    let n = length c.args.layers.now in
    let edges = c.args.edges.now in
    let tree = c.pivots.tree.marks.items in
    let layers = c.pivots.layers in
    let kept = c.pivots.invariant.1 in
    let values = c.pivots.invariant.3 in
    let leaves = sym (leaves_by n edges tree layers c.pivots.cut kept.is.spanning.mark_for_each values) ∙ (sym c.leaving.ensures ∙ c.in-Some.is) in
    (subst (λ k. Reaches n edges k c.args.tree.now.marks.items c.args.layers.now tree layers) c.if-made-budget.true c.pivots.invariant.2, some_negative n edges tree layers c.in-Some.out leaves)

pub returns-in-None-clause-leads : goal.returns-in-None-clause-leads
returns-in-None-clause-leads c =
    let n = length c.args.layers.now in
    let edges = c.args.edges.now in
    let tree = c.pivots.tree.marks.items in
    let layers = c.pivots.layers in
    let kept = c.pivots.invariant.1 in
    let values = c.pivots.invariant.3 in
    let leaves = sym (leaves_by n edges tree layers c.pivots.cut kept.is.spanning.mark_for_each values) ∙ (sym c.leaving.ensures ∙ c.in-None.is) in
    (c.pivots.invariant.0, c.pivots.invariant.2, values, none_negative n edges tree layers leaves)
