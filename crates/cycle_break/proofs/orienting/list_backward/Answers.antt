use Rattle.std.proofs.Common.{◌≡◌, ◌≢◌, ◌+◌, ℕ, List, true, false, arith, rules, is_some, sym, ap, ◌∙◌, subst}
use Rattle.graph_arena.specs.Graph.{Graph, IsEdge}
use Rattle.cycle_break.specs.Ways.{edge_keys}
use Rattle.cycle_break.specs.Reversed.{before}
use Rattle.cycle_break.proofs.Keys.{edge_push}
use Rattle.cycle_break.proofs.Listing.{ListedTo, step_forward, step_dropped, step_pushed, listed_skip, settled_start, tail_node, head_node}
use Rattle.cycle_break.proofs.orienting.list_backward.Goals as goal
use Rattle.cycle_break.proofs.orienting.list_backward.Goals.{then-is_live_edge+then-not-is_before+then-tail-head+in_ok-push, then-is_live_edge+then-not-is_before+else-tail-head, then-is_live_edge+else-not-is_before, else-is_live_edge}

pub is_before-requires-clause-tail : goal.is_before-requires-clause-tail
is_before-requires-clause-tail c = c.requires.fits c.tail-tail.result.at (tail_node c.args.arena.now c.keys.at c.tail-tail.result.at c.incidence.ensures c.tail-tail.ensures)

pub is_before-requires-clause-head : goal.is_before-requires-clause-head
is_before-requires-clause-head c = c.requires.fits c.head-head.result.at (head_node c.args.arena.now c.keys.at c.head-head.result.at c.incidence.ensures c.head-head.ensures)

pub keys-preserved : goal.keys-preserved
keys-preserved c =
    elim c.if-is_live_edge.branch [
      | then-is_live_edge+then-not-is_before+then-tail-head+in_ok-push w ↦
          let other : w.tail-tail.result.at ≢ w.head-head.result.at = search rules in
          let k : Graph = w.remove_edge.new.self in
          subst (λ (g : Graph). ListedTo c.args.arena.now g c.args.places.now (edge_keys c.if-is_live_edge.listed.items) (c.keys.at + 1)) (sym w.kept-is)
          (subst (λ (l : List ℕ). ListedTo c.args.arena.now k c.args.places.now l (c.keys.at + 1)) (sym (ap (λ z. edge_keys z.items) w.listed-is ∙ (ap edge_keys w.in_ok-push.ensures.items ∙ edge_push c.keys.listed.items _)))
          (step_pushed c.args.arena.now c.keys.kept k c.args.places.now (edge_keys c.keys.listed.items) c.keys.at w.tail-tail.result.at w.head-head.result.at c.keys.invariant w.tail-tail.ensures w.head-head.ensures w.remove_edge.ensures.removed other))
      | then-is_live_edge+then-not-is_before+else-tail-head w ↦
          let same : w.tail-tail.result.at ≡ w.head-head.result.at = search rules in
          let k : Graph = w.remove_edge.new.self in
          subst (λ (g : Graph). ListedTo c.args.arena.now g c.args.places.now (edge_keys c.if-is_live_edge.listed.items) (c.keys.at + 1)) (sym w.kept-is)
          (subst (λ (l : List ℕ). ListedTo c.args.arena.now k c.args.places.now l (c.keys.at + 1)) (sym (ap (λ z. edge_keys z.items) w.listed-is))
          (step_dropped c.args.arena.now c.keys.kept k c.args.places.now (edge_keys c.keys.listed.items) c.keys.at w.tail-tail.result.at w.head-head.result.at c.keys.invariant w.tail-tail.ensures w.head-head.ensures w.remove_edge.ensures.removed same))
      | then-is_live_edge+else-not-is_before w ↦
          let ahead : before c.args.places.now w.tail-tail.result.at w.head-head.result.at ≡ true = search rules in
          subst (λ (g : Graph). ListedTo c.args.arena.now g c.args.places.now (edge_keys c.if-is_live_edge.listed.items) (c.keys.at + 1)) (sym w.kept-is)
          (subst (λ (l : List ℕ). ListedTo c.args.arena.now c.keys.kept c.args.places.now l (c.keys.at + 1)) (sym (ap (λ z. edge_keys z.items) w.listed-is))
          (step_forward c.args.arena.now c.keys.kept c.args.places.now (edge_keys c.keys.listed.items) c.keys.at w.tail-tail.result.at w.head-head.result.at c.keys.invariant w.tail-tail.ensures w.head-head.ensures ahead))
      | else-is_live_edge w ↦
          let dead : IsEdge c.args.arena.now c.keys.at → true ≡ false = search rules in
          subst (λ (g : Graph). ListedTo c.args.arena.now g c.args.places.now (edge_keys c.if-is_live_edge.listed.items) (c.keys.at + 1)) (sym w.kept-is)
          (subst (λ (l : List ℕ). ListedTo c.args.arena.now c.keys.kept c.args.places.now l (c.keys.at + 1)) (sym (ap (λ z. edge_keys z.items) w.listed-is))
          (listed_skip c.args.arena.now c.keys.kept c.args.places.now (edge_keys c.keys.listed.items) c.keys.at c.keys.invariant (λ x is. let bad = dead (ap is_some is) in absurd cc)))
    ]

pub returns : goal.returns
returns c = settled_start c.args.arena.now c.keys.kept c.args.places.now (edge_keys c.keys.listed.items) c.keys.at c.keys.invariant (λ e h. let b = c.edge_bound-at-end.ensures e h in omega (arith, b, c.keys-test.false))
