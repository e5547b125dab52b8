use Rattle.std.proofs.Common.{ℕ, pos, sym, ap, ◌∙◌, inr, arith, length}
use Rattle.std.proofs.lemmas.Int.{ints}
use Rattle.layout_check.specs.FirstLevels.{EdgeRises}
use Rattle.layout_check.proofs.SumLaws.{span_is}
use Rattle.layout_check.proofs.layering.layering_fault.Goals as goal

pub returns-then-span-certificate : goal.returns-then-span-certificate
returns-then-span-certificate c =
    let d = c.args.scene.now.doc.now in
    let r = c.requires in
    let up : (e : ℕ) → EdgeRises d c.args.scene.now.placed.now c.args.node c.args.certificate.now e = c.in_default.ensures in
    let total = span_is d c.args.scene.now.placed.now c.args.node c.args.certificate.now c.args.scene.now.heads.now c.args.scene.now.tails.now c.args.layers.now (length d.edges) (omega arith) c.span.ensures.sound r.scene.heads r.scene.tails r.layers up in
    record { layers = λ e h l. up e h l; span = total ∙ ap pos (sym c.span.ensures.value ∙ c.if-span-certificate.true) }

pub returns : goal.returns
returns c =
    let d = c.args.scene.now.doc.now in
    let r = c.requires in
    let up : (e : ℕ) → EdgeRises d c.args.scene.now.placed.now c.args.node c.args.certificate.now e = c.in_default.ensures in
    let total = span_is d c.args.scene.now.placed.now c.args.node c.args.certificate.now c.args.scene.now.heads.now c.args.scene.now.tails.now c.args.layers.now (length d.edges) (omega arith) c.span.ensures.sound r.scene.heads r.scene.tails r.layers up in
    let value = c.span.ensures.value in
    inr (up, c.lone-2.ensures, λ e. c.if-span-certificate.false (let same = sym total ∙ e in omega (arith, ints, same, value)))
