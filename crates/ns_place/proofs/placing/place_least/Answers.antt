use Rattle.std.proofs.Common.{length, replicate}
use Rattle.std.proofs.lemmas.Result.{IfOk-weaker}
use Rattle.elk_layers.specs.Layered.{plain, rows_of}
use Rattle.ns_place.proofs.PlacingLemmas.{even_one, even_weigh, least_placing}
use Rattle.ns_place.proofs.placing.place_least.Goals as goal

pub returns : goal.returns
returns c =
    let l = plain c.args.layered.now in
    let rows = rows_of c.args.order.now in
    record {
      least = IfOk-weaker c.place_even.result _ _
          (λ p placed. least_placing l rows (replicate (length l.links) 1) p.lines.top.items p.height p.link_flow.items p.pairs.items (even_weigh l).one_each (even_one l.links) placed)
          c.place_even.ensures.least;
      within = c.place_even.ensures.within;
    }
