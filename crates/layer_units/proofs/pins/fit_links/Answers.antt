use Rattle.std.proofs.Common.{◌≡◌, length, refl, subst, sym, arith}
use Rattle.elk_layers.specs.declared.units.Link.{Link}
use Rattle.level_model.specs.Conditions.{plain_level}
use Rattle.layer_units.specs.Reading.{AreFittedLinks, IsLinkIn}
use Rattle.layer_units.proofs.ReadLemmas.{link_fitted}
use Rattle.layer_units.proofs.pins.fit_links.Goals as goal

pub loop-k-init : goal.loop-k-init
loop-k-init c = record { as_many = refl; each = λ k h. absurd (omega (arith, h)); rest = λ k h. refl }

pub fitted_link-requires-clause-link : goal.fitted_link-requires-clause-link
fitted_link-requires-clause-link c =
    let test = c.loop-k-test.true in
    let long = c.loop-k.auto.links in
    subst (λ (x : Link). IsLinkIn (plain_level c.args.fitting.now.level.now) c.args.units.now x) (sym (c.loop-k.invariant.rest c.loop-k.k (omega arith)))
    (c.requires.links c.loop-k.k (omega (arith, test, long)))

pub loop-k-preserved : goal.loop-k-preserved
loop-k-preserved c =
    let test = c.loop-k-test.true in
    let long = c.loop-k.auto.links in
    link_fitted c.args.fitting.now.level.now.spacing c.args.fitting.now.table.now c.args.units.now c.args.fitting.now.marks.now
    c.args.links.now c.loop-k.links c.loop-k.k c.fitted_link.result (omega (arith, test, long)) c.fitted_link.ensures c.loop-k.invariant

pub returns : goal.returns
returns c =
    let test = c.loop-k-test.false in
    let end = c.loop-k.auto.k-end in
    let all : c.loop-k.k ≡ length c.args.links.now = omega (arith, test, end) in
    subst (λ n. AreFittedLinks c.args.fitting.now.level.now.spacing c.args.fitting.now.table.now c.args.units.now c.args.fitting.now.marks.now c.args.links.now n c.loop-k.links) all c.loop-k.invariant
