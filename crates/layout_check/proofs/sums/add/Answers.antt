use Rattle.std.proofs.Common.{◌≡◌, ◌∙◌, arith, false, inl, inr, length, ◌<◌, refl, slice_index, subst, sym}
use Rattle.std.proofs.lemmas.Bool.{cases_eq}
use Rattle.layout_check.specs.FirstLevels.{ends_at}
use Rattle.layout_check.proofs.NodeSums.{ends_elsewhere, sums_grow, sums_stay}
use Rattle.layout_check.proofs.sums.add.Goals as goal

pub returns-then-end-sums : goal.returns-then-end-sums
returns-then-end-sums c =
    let d = c.args.doc.now in
    let n = c.args.node in
    let ends = c.args.ends.now in
    let past = c.if-end-sums.true in
    let count = c.requires.sums.count in
    sums_stay d n ends c.args.values.now c.args.sums.now c.args.edge (λ a l. ends_elsewhere d n ends a c.args.edge (λ here. omega (arith, past, count, here, l))) c.requires.sums

pub returns-then-ends_at : goal.returns-then-ends_at
returns-then-ends_at c =
    let d = c.args.doc.now in
    let n = c.args.node in
    let ends = c.args.ends.now in
    let at = slice_index ends c.args.edge in
    let not_past = c.if-end-sums.false in
    let count = c.requires.sums.count in
    let inside : at < length d.nodes = omega (arith, not_past, count) in
    let counts = sym c.ends_at.ensures ∙ c.if-ends_at.true in
    sums_grow d n ends c.args.values.now c.args.sums.now c.args.edge at c.value_at.result _ inside refl counts c.value_at.ensures.value c.value_at.ensures.fits refl c.requires.sums

pub returns-else-ends_at : goal.returns-else-ends_at
returns-else-ends_at c =
    let d = c.args.doc.now in
    let n = c.args.node in
    let ends = c.args.ends.now in
    let at = slice_index ends c.args.edge in
    let none : ends_at d n ends at c.args.edge ≡ false = sym c.ends_at.ensures ∙ c.if-ends_at.false in
    sums_stay d n ends c.args.values.now c.args.sums.now c.args.edge
    (λ a l.
    elim (cases_eq at a) [
      | inl here ↦ subst (λ k. ends_at d n ends k c.args.edge ≡ false) here none
      | inr away ↦ ends_elsewhere d n ends a c.args.edge away
    ])
    c.requires.sums
