use Rattle.std.proofs.Common.{◌∙◌}
use Rattle.std.proofs.lemmas.Result.{IfOk-weaker}
use Rattle.elk_layers.specs.Layered.{plain, rows_of}
use Rattle.bk_place.proofs.HeightLemmas.{least_from}
use Rattle.bk_place.proofs.placing.place_sweep.Goals as goal

pub place_links-requires-clause-straight : goal.place_links-requires-clause-straight
place_links-requires-clause-straight c = rw c.as_slice.ensures.value c.in_ok-chosen.ensures.straight

pub returns-clause-least : goal.returns-clause-least
returns-clause-least c =
    IfOk-weaker c.place_links.result _ _
    (λ lines least. least_from (plain c.args.layered.now) (rows_of c.args.order.now) c.args.sweep c.as_slice.result.now lines.top.items (c.as_slice.ensures.value ∙ c.in_ok-chosen.ensures.chosen) least)
    c.place_links.ensures.least
