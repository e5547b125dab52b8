use Rattle.std.proofs.Common.{◌+◌, arith, ℕ, List, sym, ap, ◌∙◌, subst}
use Rattle.cycle_break.specs.Ways.{node_keys}
use Rattle.cycle_break.proofs.Keys.{node_push}
use Rattle.cycle_break.proofs.Sorting.{SourcesTo, sources_none, sources_more, sources_skip, sources_sorted}
use Rattle.cycle_break.proofs.ordering.sources.Goals as goal
use Rattle.cycle_break.proofs.ordering.sources.Goals.{then-is_live_source+in_ok-push, else-is_live_source}

pub loop-at-init : goal.loop-at-init
loop-at-init c = subst (λ (l : List ℕ). SourcesTo c.args.arena.now l 0) (sym (ap node_keys c.new-ready.ensures.items)) (sources_none c.args.arena.now)

pub loop-at-preserved : goal.loop-at-preserved
loop-at-preserved c =
    elim c.if-is_live_source.branch [
      | then-is_live_source+in_ok-push w ↦
          subst (λ (l : List ℕ). SourcesTo c.args.arena.now l (c.loop-at.at + 1)) (sym (ap (λ z. node_keys z.items) w.ready-is ∙ (ap node_keys w.in_ok-push.ensures.items ∙ node_push c.loop-at.ready.items _)))
          (sources_more c.args.arena.now (node_keys c.loop-at.ready.items) c.loop-at.at c.loop-at.invariant (c.is_live_source.ensures.yes w.if-is_live_source.true) (c.is_live_source.ensures.source w.if-is_live_source.true))
      | else-is_live_source w ↦
          subst (λ (l : List ℕ). SourcesTo c.args.arena.now l (c.loop-at.at + 1)) (sym (ap (λ z. node_keys z.items) w.ready-is))
          (sources_skip c.args.arena.now (node_keys c.loop-at.ready.items) c.loop-at.at c.loop-at.invariant (c.is_live_source.ensures.no w.if-is_live_source.false))
    ]

pub returns : goal.returns
returns c =
    λ work same.
    sources_sorted c.args.arena.now work (node_keys c.loop-at.ready.items) c.loop-at.at c.loop-at.invariant c.incidence.ensures (λ v h. let b = c.node_bound-at-end.ensures v h in omega (arith, b, c.loop-at-test.false)) same
