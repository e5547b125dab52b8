use Rattle.std.proofs.Common.{◌≡◌, ℕ, true, false, Option, Some, None, IsSome, sym, ap, ◌∙◌, subst, refl, List}
use Rattle.std.specs.Option.{is_none}
use Rattle.cycle_break.specs.Ways.{node_keys}
use Rattle.cycle_break.specs.Search.{Sorted}
use Rattle.cycle_break.proofs.Keys.{key_some, key_none, node_push}
use Rattle.cycle_break.proofs.Sorting.{out_edge, out_keeps, out_pushes, has_in, sorted_done, first_live}
use Rattle.cycle_break.proofs.ordering.take_out.Goals as goal

none_of : (o : Option ℕ) → is_none o ≡ true → o ≡ None
none_of None h = refl
none_of (Some x) h = cc

some_if : (o : Option ℕ) → is_none o ≡ false → IsSome o
some_if None h = cc
some_if (Some x) h = refl

pub take_edge-head-requires : goal.take_edge-head-requires
take_edge-head-requires c = first_live c.edges.work c.args.node.at c.in-Some.edge.at c.incidence.ensures (key_some _ c.in-Some.edge c.in-Some.ensures)

pub is_source-requires : goal.is_source-requires
is_source-requires c =
    let o = out_edge c.edges.work c.take_edge-head.new.work c.args.node.at c.in-Some.edge.at c.take_edge-head.result.at c.incidence.ensures (key_some _ c.in-Some.edge c.in-Some.ensures) c.take_edge-head.ensures.removed c.take_edge-head.ensures.head in
    (o.2 c.take_edge-head.result.at).1 o.1

pub edges-smaller-in-Continue-1 : goal.edges-smaller-in-Continue-1
edges-smaller-in-Continue-1 c =
    (out_edge c.edges.work c.take_edge-head.new.work c.args.node.at c.in-Some.edge.at c.take_edge-head.result.at c.incidence.ensures (key_some _ c.in-Some.edge c.in-Some.ensures) c.take_edge-head.ensures.removed c.take_edge-head.ensures.head).3

pub edges-preserved-in-Continue-1 : goal.edges-preserved-in-Continue-1
edges-preserved-in-Continue-1 c =
    let o = out_edge c.edges.work c.take_edge-head.new.work c.args.node.at c.in-Some.edge.at c.take_edge-head.result.at c.incidence.ensures (key_some _ c.in-Some.edge c.in-Some.ensures) c.take_edge-head.ensures.removed c.take_edge-head.ensures.head in
    record {
      live = (o.2 c.args.node.at).1 c.edges.invariant.live;
      same = λ v. (λ h. (c.edges.invariant.same v).0 ((o.2 v).0 h), λ h. (o.2 v).1 ((c.edges.invariant.same v).1 h));
      sorted = λ g early late there start.
          subst (λ (l : List ℕ). Sorted g c.take_edge-head.new.work early late l) (sym (ap node_keys c.in_ok-push.ensures.items ∙ node_push c.edges.ready.items c.take_edge-head.result))
          (out_pushes g c.edges.work c.take_edge-head.new.work early late _ c.args.node.at c.in-Some.edge.at c.take_edge-head.result.at c.incidence.ensures (key_some _ c.in-Some.edge c.in-Some.ensures) c.take_edge-head.ensures.removed c.take_edge-head.ensures.head there (c.edges.invariant.sorted g early late there start) c.incidence-in-Some.ensures (none_of _ (sym c.is_source.ensures ∙ c.if-is_source.true)));
    }

pub edges-smaller : goal.edges-smaller
edges-smaller c =
    (out_edge c.edges.work c.take_edge-head.new.work c.args.node.at c.in-Some.edge.at c.take_edge-head.result.at c.incidence.ensures (key_some _ c.in-Some.edge c.in-Some.ensures) c.take_edge-head.ensures.removed c.take_edge-head.ensures.head).3

pub edges-preserved : goal.edges-preserved
edges-preserved c =
    let o = out_edge c.edges.work c.take_edge-head.new.work c.args.node.at c.in-Some.edge.at c.take_edge-head.result.at c.incidence.ensures (key_some _ c.in-Some.edge c.in-Some.ensures) c.take_edge-head.ensures.removed c.take_edge-head.ensures.head in
    record {
      live = (o.2 c.args.node.at).1 c.edges.invariant.live;
      same = λ v. (λ h. (c.edges.invariant.same v).0 ((o.2 v).0 h), λ h. (o.2 v).1 ((c.edges.invariant.same v).1 h));
      sorted = λ g early late there start.
          out_keeps g c.edges.work c.take_edge-head.new.work early late _ c.args.node.at c.in-Some.edge.at c.take_edge-head.result.at c.incidence.ensures (key_some _ c.in-Some.edge c.in-Some.ensures) c.take_edge-head.ensures.removed c.take_edge-head.ensures.head there (c.edges.invariant.sorted g early late there start) (has_in c.take_edge-head.new.work c.take_edge-head.result.at c.incidence-in-Some.ensures (some_if _ (sym c.is_source.ensures ∙ c.if-is_source.false)));
    }

pub returns-clause-sorted : goal.returns-clause-sorted
returns-clause-sorted c =
    λ g early late there others start.
    sorted_done g c.edges.work early late _ c.args.node.at (c.edges.invariant.sorted g early late there start) c.incidence-2.ensures (key_none _ c.in_default.ensures) others
