use Rattle.std.proofs.Common.{◌≡◌, ◌<◌, ℕ, List, length, Option, None, arith, rules, refl, sym, ap, ◌∙◌, subst}
use Rattle.graph_arena.specs.Graph.{occurs}
use Rattle.graph_arena.specs.declared.keys.EdgeKey.{EdgeKey}
use Rattle.cycle_break.specs.declared.searching.Via.{Via}
use Rattle.cycle_break.specs.Ways.{IsPath, edge_keys, nodes_on}
use Rattle.cycle_break.specs.Search.{WayOn, IsLinked, IsFrom, reached_at}
use Rattle.cycle_break.proofs.Keys.{edge_push}
use Rattle.cycle_break.proofs.Reaching.{from_more, not_from, path_at, path_more}
use Rattle.cycle_break.proofs.searching.edges_from.Goals as goal

pub ways-init : goal.ways-init
ways-init c =
    let rs = c.args.reached.now in
    let from : ℕ = c.args.from in
    let start : ℕ = (reached_at rs from).node.at in
    record {
      at = c.requires.from;
      path = λ g to index ways back.
          subst (λ (l : List EdgeKey). IsPath g start (edge_keys l) start × ((v : ℕ) → 0 < occurs v (nodes_on g start (edge_keys l)) → IsFrom rs from v)) (sym c.new-edges.ensures.items)
          (path_at g rs from c.requires.from);
    }

pub ways-preserved : goal.ways-preserved
ways-preserved c =
    let rs = c.args.reached.now in
    let start : ℕ = (reached_at rs c.args.from).node.at in
    let es : List ℕ = edge_keys c.ways.edges.items in
    let e : ℕ = c.in-Some.via.edge.at in
    let next : ℕ = c.in-Some.via.next in
    let link : next < c.ways.at = subst (λ (o : Option Via). IsLinked c.ways.at o) c.in-Some.is (c.requires.links c.ways.at c.ways.invariant.at) in
    let within : next < length rs = omega (arith, link, c.ways.invariant.at) in
    let pushed = sym (ap edge_keys c.in_ok-push.ensures.items ∙ edge_push c.ways.edges.items c.in-Some.via.edge) in
    record {
      at = within;
      path = λ g to index ways back.
          let w = subst (λ (o : Option Via). WayOn g to rs c.ways.at (reached_at rs c.ways.at).node.at o) c.in-Some.is (ways c.ways.at c.ways.invariant.at) in
          let before = c.ways.invariant.path g to index ways back in
          let new = not_from rs index c.ways.at next (nodes_on g start es) back link within before.1 in (
            subst (λ (l : List ℕ). IsPath g start l (reached_at rs next).node.at) pushed (path_more g start es (reached_at rs c.ways.at).node.at e (reached_at rs next).node.at before.0 w.1 new),
            subst (λ (l : List ℕ). (v : ℕ) → 0 < occurs v (nodes_on g start l) → IsFrom rs next v) pushed (from_more g start es e (reached_at rs next).node.at rs c.ways.at next w.1 link within refl before.1),
          );
    }

pub returns : goal.returns
returns c =
    let rs = c.args.reached.now in
    let end : (reached_at rs c.ways.at).via ≡ None = search rules in
    record {
      path = λ g to index ways back.
          let w = subst (λ (o : Option Via). WayOn g to rs c.ways.at (reached_at rs c.ways.at).node.at o) end (ways c.ways.at c.ways.invariant.at) in
          subst (λ (j : ℕ). IsPath g (reached_at rs c.args.from).node.at (edge_keys c.ways.edges.items) j) w (c.ways.invariant.path g to index ways back).0;
    }
