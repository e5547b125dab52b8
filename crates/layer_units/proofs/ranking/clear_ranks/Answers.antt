use Rattle.std.proofs.Common.{◌≡◌, length, refl, subst, arith}
use Rattle.layer_units.specs.Ranked.{AreBareLinks}
use Rattle.layer_units.proofs.RankReadLemmas.{link_bared}
use Rattle.layer_units.proofs.ranking.clear_ranks.Goals as goal

pub loop-k-init : goal.loop-k-init
loop-k-init c = record { as_many = refl; each = λ k h. absurd (omega (arith, h)); rest = λ k h. refl }

pub loop-k-preserved : goal.loop-k-preserved
loop-k-preserved c =
    let test = c.loop-k-test.true in
    let long = c.loop-k.auto.links in
    link_bared c.args.links.now c.loop-k.links c.loop-k.k c.bare_link.result (omega (arith, test, long)) c.bare_link.ensures c.loop-k.invariant

pub returns : goal.returns
returns c =
    let test = c.loop-k-test.false in
    let end = c.loop-k.auto.k-end in
    let all : c.loop-k.k ≡ length c.args.links.now = omega (arith, test, end) in
    subst (λ n. AreBareLinks c.args.links.now n c.loop-k.links) all c.loop-k.invariant
