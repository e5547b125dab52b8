use Rattle.std.proofs.Common.{ℕ, ◌<◌, List, length, slice_index, sym, ap, ◌∙◌, subst₂, arith}
use Rattle.elk_doc.specs.declared.drawing.Certificate.{Certificate}
use Rattle.level_parts.specs.declared.levels.PartLevel.{PartLevel}
use Rattle.level_parts.specs.Split.{part_at}
use Rattle.level_split.proofs.StepLemmas.{certificate_read, part_read, rotated_more}
use Rattle.level_split.proofs.certificate.reversals_of.Goals as goal

pub listed_marks-requires : goal.listed_marks-requires
listed_marks-requires c =
    let i = c.loop-i.i in
    let test = c.loop-i-test.true in
    let many = c.requires.same in
    let inside : i < length c.args.outs.now = omega (arith, test, many) in
    let listed = c.as_slice-listed.ensures.value ∙ ap (λ (x : Certificate). x.reversed) (certificate_read c.args.outs.now i _ inside) in
    let count = c.len.ensures ∙ ap (λ (x : PartLevel). length x.edges) (part_read c.args.parts.now i _ test) in
    subst₂ (λ (xs : List ℕ) n. (j : ℕ) → j < length xs → slice_index xs j < n) (sym listed) (sym count) (λ j h. c.requires.listed i j inside h)

pub loop-i-preserved : goal.loop-i-preserved
loop-i-preserved c =
    let i = c.loop-i.i in
    let test = c.loop-i-test.true in
    let many = c.requires.same in
    let inside : i < length c.args.outs.now = omega (arith, test, many) in
    rotated_more c.args.outs.now (λ k. length (part_at c.args.parts.now k).edges) i c.loop-i.marks.items c.push.new.self.items c.in_ok-listed_marks.field-0 c.as_slice-listed.result.now c.len.result c.loop-i.invariant c.in_ok-push.ensures.items
    (c.as_slice-listed.ensures.value ∙ ap (λ (x : Certificate). x.reversed) (certificate_read c.args.outs.now i _ inside))
    (c.len.ensures ∙ ap (λ (x : PartLevel). length x.edges) (part_read c.args.parts.now i _ test)) c.in_ok-listed_marks.ensures
