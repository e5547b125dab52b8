use Rattle.std.proofs.Common.{◌++◌, ◌∷◌, [], ◌∙◌, ap, sym}
use Rattle.layer_units.specs.Marks.{is_marked}
use Rattle.network_parts.proofs.RangeLemmas.{filter_no, filter_yes}
use Rattle.level_layout.proofs.networks.list_marked.Goals as goal
use Rattle.level_layout.proofs.networks.list_marked.Goals.{then-mark+in_ok-push, else-mark}

pub loop-e-preserved : goal.loop-e-preserved
loop-e-preserved c =
    elim c.if-mark.branch [
      | then-mark+in_ok-push w ↦
          ap (λ z. z.items) w.numbers-is ∙ w.in_ok-push.ensures.items ∙ ap (λ ns. ns ++ c.loop-e.e ∷ []) c.loop-e.invariant ∙ sym (filter_yes (is_marked c.args.marks.now) c.loop-e.e w.if-mark.true)
      | else-mark w ↦ ap (λ z. z.items) w.numbers-is ∙ c.loop-e.invariant ∙ sym (filter_no (is_marked c.args.marks.now) c.loop-e.e w.if-mark.false)
    ]
