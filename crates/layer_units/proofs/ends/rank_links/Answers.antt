use Rattle.std.proofs.Common.{◌≡◌, length, map, refl, subst, sym, arith}
use Rattle.elk_layers.specs.declared.units.Link.{Link}
use Rattle.level_model.specs.Conditions.{plain_level}
use Rattle.layer_units.specs.Ports.{plain_ranks}
use Rattle.layer_units.specs.Reading.{IsLinkIn}
use Rattle.layer_units.specs.RankReading.{AreRankedLinks}
use Rattle.layer_units.proofs.RankReadLemmas.{link_ranked}
use Rattle.layer_units.proofs.ends.rank_links.Goals as goal

pub loop-k-init : goal.loop-k-init
loop-k-init c = record { as_many = refl; each = λ k h. absurd (omega (arith, h)); few = λ k h. absurd (omega (arith, h)); rest = λ k h. refl }

pub ranked_link-requires-clause-link : goal.ranked_link-requires-clause-link
ranked_link-requires-clause-link c =
    let test = c.loop-k-test.true in
    let long = c.loop-k.auto.links in
    subst (λ (x : Link). IsLinkIn (plain_level c.args.ranking.now.level.now) c.args.units.now x) (sym (c.loop-k.invariant.rest c.loop-k.k (omega arith)))
    (c.requires.links c.loop-k.k (omega (arith, test, long)))

pub loop-k-preserved : goal.loop-k-preserved
loop-k-preserved c =
    let test = c.loop-k-test.true in
    let long = c.loop-k.auto.links in
    link_ranked (plain_level c.args.ranking.now.level.now) c.args.ranking.now.table.now (map plain_ranks c.args.ranking.now.ranks.now) c.args.units.now c.args.ranking.now.marks.now
    c.args.links.now c.loop-k.links c.loop-k.k c.ranked_link.result (omega (arith, test, long)) c.ranked_link.ensures.value c.ranked_link.ensures.tail c.ranked_link.ensures.head c.loop-k.invariant

pub returns : goal.returns
returns c =
    let test = c.loop-k-test.false in
    let end = c.loop-k.auto.k-end in
    let all : c.loop-k.k ≡ length c.args.links.now = omega (arith, test, end) in
    subst (λ n. AreRankedLinks (plain_level c.args.ranking.now.level.now) c.args.ranking.now.table.now (map plain_ranks c.args.ranking.now.ranks.now) c.args.units.now c.args.ranking.now.marks.now c.args.links.now n c.loop-k.links) all c.loop-k.invariant
