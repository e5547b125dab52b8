use Rattle.std.proofs.Common.{◌∙◌, ℤ, Option, List, ap, length, map, subst}
use Rattle.std.proofs.lemmas.List.{length-map}
use Rattle.elk_layers.specs.Layered.{plain, rows_of}
use Rattle.level_model.specs.Conditions.{plain_level}
use Rattle.level_layout.specs.Chosen.{IsHeldOrder, unit_key}
use Rattle.level_layout.proofs.phases.held_order.Goals as goal

pub order_with-requires-clause-keys : goal.order_with-requires-clause-keys
order_with-requires-clause-keys c =
    ap length (c.as_slice-2.ensures.value ∙ c.in_ok-keys.ensures) ∙ length-map c.as_slice.result.now (unit_key (plain_level c.args.level.now))
    ∙ ap length c.as_slice.ensures.value

pub returns-clause-held : goal.returns-clause-held
returns-clause-held c =
    subst (λ (held : List (Option ℤ)). IsHeldOrder (plain c.args.layered.now) held (rows_of c.args.start.now) (rows_of c.in_ok-order.order))
    (c.as_slice-2.ensures.value ∙ c.in_ok-keys.ensures ∙ ap (map (unit_key (plain_level c.args.level.now))) c.as_slice.ensures.value)
    c.in_ok-order.ensures.held
