use Rattle.std.proofs.Common.{◌≡◌, ◌+◌, ℕ, true, false, arith, length, set, count_by, Some, None, Option, IsSome, refl, sym, ap, ◌∙◌, subst, List, [], ◌∷◌, ◌++◌}
use Rattle.std.specs.Option.{is_none}
use Rattle.graph_arena.specs.Graph.{front, in_list}
use Rattle.cycle_break.specs.declared.searching.Reached.{Reached}
use Rattle.cycle_break.specs.Search.{IsReady, Searched, reached_at}
use Rattle.cycle_break.proofs.Keys.{key_some, key_none}
use Rattle.cycle_break.proofs.Lists.{one_less}
use Rattle.cycle_break.proofs.Reaching.{in_edge, first_in_live, ready_still, ready_more, search_keeps, search_reaches, searched_next, old_entry, longer}
use Rattle.cycle_break.proofs.searching.gather.Goals as goal

none_of : (o : Option ℕ) → is_none o ≡ true → o ≡ None
none_of None h = refl
none_of (Some x) h = cc

some_if : (o : Option ℕ) → is_none o ≡ false → IsSome o
some_if None h = cc
some_if (Some x) h = refl

pub take_edge-tail-requires : goal.take_edge-tail-requires
take_edge-tail-requires c = first_in_live c.edges.work _ c.in-Some.edge.at c.incidence.ensures (key_some _ c.in-Some.edge c.in-Some.ensures)

pub is_free-requires : goal.is_free-requires
is_free-requires c =
    let o = in_edge c.edges.work c.take_edge-tail.new.work _ c.in-Some.edge.at c.take_edge-tail.result.at c.incidence.ensures (key_some _ c.in-Some.edge c.in-Some.ensures) c.take_edge-tail.ensures.removed c.take_edge-tail.ensures.tail in
    c.edges.invariant.ready.fits c.take_edge-tail.result.at o.0

pub reach-requires : goal.reach-requires
reach-requires c =
    let o = in_edge c.edges.work c.take_edge-tail.new.work _ c.in-Some.edge.at c.take_edge-tail.result.at c.incidence.ensures (key_some _ c.in-Some.edge c.in-Some.ensures) c.take_edge-tail.ensures.removed c.take_edge-tail.ensures.tail in
    c.edges.invariant.ready.fits c.take_edge-tail.result.at o.0

pub edges-smaller-in-Continue-1 : goal.edges-smaller-in-Continue-1
edges-smaller-in-Continue-1 c =
    (in_edge c.edges.work c.take_edge-tail.new.work _ c.in-Some.edge.at c.take_edge-tail.result.at c.incidence.ensures (key_some _ c.in-Some.edge c.in-Some.ensures) c.take_edge-tail.ensures.removed c.take_edge-tail.ensures.tail).2

pub edges-smaller : goal.edges-smaller
edges-smaller c =
    (in_edge c.edges.work c.take_edge-tail.new.work _ c.in-Some.edge.at c.take_edge-tail.result.at c.incidence.ensures (key_some _ c.in-Some.edge c.in-Some.ensures) c.take_edge-tail.ensures.removed c.take_edge-tail.ensures.tail).2

pub edges-preserved : goal.edges-preserved
edges-preserved c =
    let o = in_edge c.edges.work c.take_edge-tail.new.work _ c.in-Some.edge.at c.take_edge-tail.result.at c.incidence.ensures (key_some _ c.in-Some.edge c.in-Some.ensures) c.take_edge-tail.ensures.removed c.take_edge-tail.ensures.tail in
    record {
      ready = ready_still c.edges.work c.take_edge-tail.new.work c.edges.reached.items c.edges.index c.edges.invariant.ready o.1;
      next = c.edges.invariant.next;
      entry = c.edges.invariant.entry;
      same = λ v. (λ h. (c.edges.invariant.same v).0 ((o.1 v).0 h), λ h. (o.1 v).1 ((c.edges.invariant.same v).1 h));
      count = c.edges.invariant.count;
      searched = λ g to start.
          search_keeps g c.edges.work c.take_edge-tail.new.work to c.args.next _ c.in-Some.edge.at c.take_edge-tail.result.at c.edges.reached.items c.edges.index (c.edges.invariant.searched g to start) c.incidence.ensures (key_some _ c.in-Some.edge c.in-Some.ensures) c.take_edge-tail.ensures.removed c.take_edge-tail.ensures.tail (some_if _ (sym c.is_free.ensures ∙ c.if-is_free.false));
    }

pub edges-preserved-in-Continue-1 : goal.edges-preserved-in-Continue-1
edges-preserved-in-Continue-1 c =
    let o = in_edge c.edges.work c.take_edge-tail.new.work _ c.in-Some.edge.at c.take_edge-tail.result.at c.incidence.ensures (key_some _ c.in-Some.edge c.in-Some.ensures) c.take_edge-tail.ensures.removed c.take_edge-tail.ensures.tail in
    let fits = c.edges.invariant.ready.fits c.take_edge-tail.result.at o.0 in
    let r : Reached = record { node = c.take_edge-tail.result; via = Some (record { edge = c.in-Some.edge; next = c.args.next }) } in
    let ready : IsReady c.take_edge-tail.new.work (c.edges.reached.items ++ r ∷ []) (set c.edges.index r.node.at (Some (length c.edges.reached.items))) =
    ready_more c.take_edge-tail.new.work c.edges.reached.items c.edges.index r (length c.edges.reached.items) (ready_still c.edges.work c.take_edge-tail.new.work c.edges.reached.items c.edges.index c.edges.invariant.ready o.1) ((o.1 c.take_edge-tail.result.at).1 o.0) c.edges.invariant.next in
    let moved : IsReady c.take_edge-tail.new.work c.reach.new.reached.items c.reach.new.index =
    subst (λ (l : List Reached). IsReady c.take_edge-tail.new.work l c.reach.new.index) (sym c.in_ok-reach.ensures.reached)
    (subst (λ (i : List (Option ℕ)). IsReady c.take_edge-tail.new.work (c.edges.reached.items ++ r ∷ []) i) (sym c.in_ok-reach.ensures.index) ready) in
    let len : length c.reach.new.reached.items ≡ length c.edges.reached.items + 1 = ap length c.in_ok-reach.ensures.reached ∙ longer c.edges.reached.items r in
    let less = one_less c.edges.index c.take_edge-tail.result.at (length c.edges.reached.items) fits (none_of _ (sym c.is_free.ensures ∙ c.if-is_free.true)) in
    let free : count_by is_none c.reach.new.index + 1 ≡ count_by is_none c.edges.index = ap (λ (i : List (Option ℕ)). count_by is_none i + 1) c.in_ok-reach.ensures.index ∙ less in
    record {
      ready = moved;
      next = omega (arith, c.edges.invariant.next, len);
      entry = ap (λ (l : List Reached). (reached_at l c.args.next).node) c.in_ok-reach.ensures.reached ∙ (ap (λ (x : Reached). x.node) (old_entry c.edges.reached.items r c.args.next c.edges.invariant.next) ∙ c.edges.invariant.entry);
      same = λ v. (λ h. (c.edges.invariant.same v).0 ((o.1 v).0 h), λ h. (o.1 v).1 ((c.edges.invariant.same v).1 h));
      count = omega (arith, c.edges.invariant.count, len, free);
      searched = λ g to start.
          let s : Searched g c.take_edge-tail.new.work to c.args.next (c.edges.reached.items ++ r ∷ []) (set c.edges.index r.node.at (Some (length c.edges.reached.items))) =
          search_reaches g c.edges.work c.take_edge-tail.new.work to c.args.next _ c.in-Some.edge.at c.take_edge-tail.result.at c.edges.reached.items c.edges.index r (record { edge = c.in-Some.edge; next = c.args.next }) (c.edges.invariant.searched g to start) c.incidence.ensures (key_some _ c.in-Some.edge c.in-Some.ensures) c.take_edge-tail.ensures.removed c.take_edge-tail.ensures.tail c.edges.invariant.next (ap (λ k. k.at) c.edges.invariant.entry) fits (none_of _ (sym c.is_free.ensures ∙ c.if-is_free.true)) refl refl refl refl in
          subst (λ (l : List Reached). Searched g c.take_edge-tail.new.work to c.args.next l c.reach.new.index) (sym c.in_ok-reach.ensures.reached)
          (subst (λ (i : List (Option ℕ)). Searched g c.take_edge-tail.new.work to c.args.next (c.edges.reached.items ++ r ∷ []) i) (sym c.in_ok-reach.ensures.index) s);
    }

pub returns-clause-searched : goal.returns-clause-searched
returns-clause-searched c =
    λ g to start.
    searched_next g c.edges.work to c.args.next c.edges.reached.items c.edges.index (c.edges.invariant.searched g to start) c.incidence-2.ensures
    (ap (λ k. front (in_list c.edges.work k.at)) c.edges.invariant.entry ∙ key_none _ c.in_default.ensures)
