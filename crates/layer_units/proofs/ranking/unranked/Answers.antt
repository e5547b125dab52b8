use Rattle.std.proofs.Common.{◌≡◌, ◌∙◌, ap, length, sym}
use Rattle.std.specs.Vec.{with_items}
use Rattle.std.proofs.lemmas.List.{with_items_is}
use Rattle.elk_layers.specs.Layered.{plain}
use Rattle.layer_units.proofs.RankMadeLemmas.{bare_ranking}
use Rattle.layer_units.proofs.ranking.unranked.Goals as goal

pub returns : goal.returns
returns c =
    let items : (with_items c.args.layered.links c.clear_ranks.new.links).items ≡ c.clear_ranks.new.links =
    with_items_is c.args.layered.links c.clear_ranks.new.links (c.clear_ranks.ensures.as_many ∙ ap length c.as_mut_slice.ensures.value ∙ sym c.args.layered.links.ok.0)
    in
    λ l reversed none. bare_ranking l (plain c.args.layered) c.as_mut_slice.result.now c.clear_ranks.new.links (with_items c.args.layered.links c.clear_ranks.new.links).items reversed
    none c.requires c.as_mut_slice.ensures.value items c.clear_ranks.ensures
