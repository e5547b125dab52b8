use Rattle.std.proofs.Common.{◌<◌, ◌+◌, ℕ, List, length, drop, get_or, rules, sym, ap, ◌∙◌, subst}
use Rattle.cycle_break.specs.Ways.{edge_keys}
use Rattle.cycle_break.specs.Reversed.{Settled}
use Rattle.cycle_break.proofs.Keys.{keys_rest, edge_push}
use Rattle.cycle_break.proofs.Listing.{rest_edge}
use Rattle.cycle_break.proofs.orienting.settle.Goals as goal
use Rattle.cycle_break.proofs.orienting.settle.Goals.{then-branch+in_ok-push, else-branch}

pub stays_listed-requires-clause-edge : goal.stays_listed-requires-clause-edge
stays_listed-requires-clause-edge c =
    let b : c.listed.edge-index < length c.args.listed.now = search rules in
    let e = (get_or c.args.listed.now c.listed.edge-index (record { at = 0 })).at in
    rest_edge c.args.arena.now c.listed.kept (edge_keys c.listed.edges.items) (edge_keys (drop c.listed.edge-index c.args.listed.now)) (edge_keys (drop (c.listed.edge-index + 1) c.args.listed.now)) e c.listed.invariant (keys_rest c.args.listed.now c.listed.edge-index b)

pub listed-preserved : goal.listed-preserved
listed-preserved c =
    let b : c.listed.edge-index < length c.args.listed.now = search rules in
    let rest = edge_keys (drop (c.listed.edge-index + 1) c.args.listed.now) in
    let start = subst (λ (l : List ℕ). Settled c.args.arena.now c.listed.kept (edge_keys c.listed.edges.items) l) (keys_rest c.args.listed.now c.listed.edge-index b) c.listed.invariant in
    let m = c.in_ok-stays_listed.ensures.settled (edge_keys c.listed.edges.items) rest start in
    elim c.if-branch.branch [
      | then-branch+in_ok-push w ↦
          subst (λ (l : List ℕ). Settled c.args.arena.now c.stays_listed.new.kept l rest) (sym (ap (λ z. edge_keys z.items) w.edges-is ∙ (ap edge_keys w.in_ok-push.ensures.items ∙ edge_push c.listed.edges.items _)))
          (rw w.if-branch.true at m)
      | else-branch w ↦
          subst (λ (l : List ℕ). Settled c.args.arena.now c.stays_listed.new.kept l rest) (sym (ap (λ z. edge_keys z.items) w.edges-is))
          (rw w.if-branch.false at m)
    ]
