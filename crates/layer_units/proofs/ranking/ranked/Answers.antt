use Rattle.std.proofs.Common.{◌≡◌, ◌∙◌, List, ap, false, sym}
use Rattle.port_order.specs.declared.children.Child.{Child}
use Rattle.level_model.specs.Conditions.{plain_level}
use Rattle.layer_units.specs.Marks.{listed}
use Rattle.layer_units.specs.Ranked.{has_ranks}
use Rattle.elk_layers.specs.Layered.{rows_of}
use Rattle.layer_units.proofs.ranking.ranked.Goals as goal

pub returns-else-has_ranks-clause-ranks : goal.returns-else-has_ranks-clause-ranks
returns-else-has_ranks-clause-ranks c =
    let none : has_ranks c.args.level.now.children ≡ false = sym (ap (λ (cs : List Child). has_ranks cs) c.as_slice.ensures.value) ∙ sym c.has_ranks.ensures ∙ c.if-has_ranks.false in
    (c.unranked.ensures (plain_level c.args.level.now) (listed c.args.is_reversed.now) none).ranks

pub returns-else-has_ranks-clause-sound : goal.returns-else-has_ranks-clause-sound
returns-else-has_ranks-clause-sound c =
    let none : has_ranks c.args.level.now.children ≡ false = sym (ap (λ (cs : List Child). has_ranks cs) c.as_slice.ensures.value) ∙ sym c.has_ranks.ensures ∙ c.if-has_ranks.false in
    (c.unranked.ensures (plain_level c.args.level.now) (listed c.args.is_reversed.now) none).sound

pub returns-else-has_ranks-clause-rows : goal.returns-else-has_ranks-clause-rows
returns-else-has_ranks-clause-rows c =
    let none : has_ranks c.args.level.now.children ≡ false = sym (ap (λ (cs : List Child). has_ranks cs) c.as_slice.ensures.value) ∙ sym c.has_ranks.ensures ∙ c.if-has_ranks.false in
    (c.unranked.ensures (plain_level c.args.level.now) (listed c.args.is_reversed.now) none).rows

pub returns-else-has_ranks-clause-linked : goal.returns-else-has_ranks-clause-linked
returns-else-has_ranks-clause-linked c =
    let none : has_ranks c.args.level.now.children ≡ false = sym (ap (λ (cs : List Child). has_ranks cs) c.as_slice.ensures.value) ∙ sym c.has_ranks.ensures ∙ c.if-has_ranks.false in
    λ rows tops layers. (c.unranked.ensures (plain_level c.args.level.now) (listed c.args.is_reversed.now) none).linked (rows_of c.args.order.now) rows tops layers

pub returns-else-has_ranks-clause-kept : goal.returns-else-has_ranks-clause-kept
returns-else-has_ranks-clause-kept c =
    let none : has_ranks c.args.level.now.children ≡ false = sym (ap (λ (cs : List Child). has_ranks cs) c.as_slice.ensures.value) ∙ sym c.has_ranks.ensures ∙ c.if-has_ranks.false in
    (c.unranked.ensures (plain_level c.args.level.now) (listed c.args.is_reversed.now) none).kept
